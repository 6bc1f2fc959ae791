use Rattle.std.proofs.Common.{◌≡◌, ◌≤◌, length, drop}
use Rattle.logic.specs.Walks.{arities}
use Rattle.rules.specs.Places.{reached}
use Rattle.rules.proofs.position.term_place.Given as goal

abbrev pub invariant-loop-k : goal.invariant-loop-k
invariant-loop-k l =
    (l.place ≤ length l.words)
    × (reached (arities l.rows) (drop l.place l.words) (drop l.k-index l.position)
    ≡ reached (arities l.rows) (drop l.from l.words) l.position)
