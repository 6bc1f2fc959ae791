use Rattle.std.proofs.Common.{refl}
use Rattle.logic.specs.Syntax.{[]ₜ, ◌∷ₜ◌}
use Rattle.logic.specs.Words.{term_words}
use Rattle.rules.proofs.Parted.{parted, behind_one}
use Rattle.rules.proofs.sides.right_side.Goals as goal

pub returns-clause-sides : goal.returns-clause-sides
returns-clause-sides c s rest g e =
    parted c.args.literal.now (term_words s) rest c.terms_end.result e
    (behind_one c.args.literal.now s rest 1 c.terms_end.result e (c.terms_end.ensures.terms (s ∷ₜ []ₜ) rest (g, tt) refl))
