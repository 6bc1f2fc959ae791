use Rattle.std.proofs.Common.{arith}
use Rattle.rules.proofs.Concluded.{behind_more}
use Rattle.rules.proofs.pieces.conclude.Goals as goal

pub loop-piece-preserved : goal.loop-piece-preserved
loop-piece-preserved c =
    behind_more (λ piece. piece.now) c.args.pieces.now c.args.conclusion.now c.loop-piece.piece-index c.loop-piece.rest.now c.loop-piece.invariant _
    (omega arith) c.in_ok-rest.rest.now c.in_ok-rest.ensures
