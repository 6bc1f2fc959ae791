use Rattle.rules.proofs.Concluded.{Behind}
use Rattle.rules.proofs.pieces.conclude.Given as goal

abbrev pub invariant-loop-piece : goal.invariant-loop-piece
invariant-loop-piece l = Behind (λ piece. piece.now) l.pieces l.conclusion l.piece-index l.rest
