use Rattle.std.proofs.Common.{refl}
use Rattle.rules.proofs.Reflected.{compared}
use Rattle.rules.proofs.reflexive.is_reflexive.Goals as goal

pub returns : goal.returns
returns c =
    compared c.args.rows.now c.args.words.now c.right_side-right.result c.same.result (c.if-not-is_equality.ensures.0 refl)
    c.right_side-right.ensures.sides c.same.ensures.words
