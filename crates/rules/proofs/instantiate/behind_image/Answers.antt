use Rattle.std.proofs.Common.{ℕ, List, subst}
use Rattle.rules.specs.Pieces.{BeginsWith}
use Rattle.rules.proofs.Imaged.{other_stays}
use Rattle.rules.proofs.instantiate.behind_image.Goals as goal

pub returns-in-None : goal.returns-in-None
returns-in-None c σ s =
    subst (λ (xs : List ℕ). BeginsWith c.args.words.now xs c.behind_word.result)
    (other_stays c.args.bindings.now _ c.bound_variables.ensures.are c.bound_variables.ensures.room.variables σ s c.args.word c.in-None.ensures)
    c.behind_word.ensures
