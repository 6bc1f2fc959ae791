use Rattle.std.proofs.Common.{length, sym, refl, arith}
use Rattle.std.proofs.lemmas.Bool.{eqb-false}
use Rattle.logic.specs.Syntax.{[]ₜ, ◌∷ₜ◌}
use Rattle.rules.proofs.Parted.{behind_one}
use Rattle.rules.proofs.Led.{nowhere, somewhere, none_led}
use Rattle.rules.proofs.position.term_span.Goals as goal

pub returns-in_err-start-clause-leads : goal.returns-in_err-start-clause-leads
returns-in_err-start-clause-leads c l rest g e =
    none_led c.args.rows.now l c.args.position.now c.args.words.now c.args.from rest c.from_residual.result c.from_residual.ensures
    (nowhere c.args.rows.now c.args.words.now c.args.from l rest g e c.args.position.now c.in_err-start.ensures.leads)

pub returns-clause-leads : goal.returns-clause-leads
returns-clause-leads c l rest g e =
    somewhere c.args.rows.now c.args.words.now c.args.from l rest g e c.args.position.now c.in_ok-start.start c.terms_end-end.result
    (omega (arith, eqb-false (length c.args.position.now) 0 (sym c.if-is_empty.ensures))) c.in_ok-start.ensures.inside c.in_ok-start.ensures.leads
    (λ u more w f. behind_one c.args.words.now u more c.in_ok-start.start c.terms_end-end.result f (c.terms_end-end.ensures.terms (u ∷ₜ []ₜ) more (w, tt) refl))
