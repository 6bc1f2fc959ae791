use Rattle.std.proofs.Common.{◌≡◌, ◌+◌, ◌<◌, drop}
use Rattle.logic.specs.Walks.{arities, passed}
use Rattle.logic.proofs.words.words_of.Given as goal

abbrev pub invariant-loop-place : goal.invariant-loop-place
invariant-loop-place l = (0 < l.due) × (l.place + passed (arities l.rows) l.due (drop l.place l.words) ≡ passed (arities l.rows) l.n l.words)
