use Rattle.std.proofs.Common.{◌<◌, ◌≤◌, length, refl, Option, subst, arith, IfSome}
use Rattle.logic.specs.declared.words.Span.{Span}
use Rattle.logic.specs.Literals.{LiteralAt}
use Rattle.bench.specs.declared.fault.RuleFault.TheVariants.{NoLiteral}
use Rattle.rules.proofs.Concluded.{some_found}
use Rattle.rules.proofs.Located.{around, parted_at}
use Rattle.rules.proofs.literal.numbered.Goals as goal

pub returns-clause-whole : goal.returns-clause-whole
returns-clause-whole c =
    let within = subst (λ (o : Option Span). IfSome o (λ s. (s.start < s.end) × (s.end ≤ length c.args.words.now)))
    (some_found NoLiteral c.literal_span-found.result c.in_ok-start.field-0 c.in_ok-start.ensures.value) c.literal_span-found.ensures.within in
    parted_at c.args.words.now c.in_ok-start.field-0.start c.in_ok-start.field-0.end (omega (arith, within.0))

pub returns-clause-literal : goal.returns-clause-literal
returns-clause-literal c d g e =
    around c.args.words.now d c.args.number c.in_ok-start.field-0 e
    (subst (λ (o : Option Span). LiteralAt d c.args.number o)
    (some_found NoLiteral c.literal_span-found.result c.in_ok-start.field-0 c.in_ok-start.ensures.value) (c.literal_span-found.ensures.literal d g e))
    _ refl refl refl
