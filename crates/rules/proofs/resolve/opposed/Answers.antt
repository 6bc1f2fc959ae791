use Rattle.std.proofs.Common.{sym, refl, ◌∙◌}
use Rattle.rules.proofs.Opposing.{opposed_by_tails}
use Rattle.rules.proofs.resolve.opposed.Goals as goal

pub returns-then-signs_differ : goal.returns-then-signs_differ
returns-then-signs_differ c rows l m g h e f =
    opposed_by_tails rows c.in-Some-Some.head.now c.in-Some-Some.other.now c.in-Some-Some.xs.now c.in-Some-Some.ys.now l m g h (sym c.in-Some-Some.ensures.cases.0 ∙ e) (sym c.in-Some-Some.ensures'.cases.0 ∙ f)
    c.same.result (c.if-signs_differ.ensures.0 refl) c.same.ensures.words
