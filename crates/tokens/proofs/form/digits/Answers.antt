use Rattle.std.proofs.Common.{◌≡◌, true, get_or, arith}
use Rattle.logic.specs.Names.{digit}
use Rattle.tokens.proofs.Digits.{ten_small, is_digit}
use Rattle.tokens.proofs.form.digits.Goals as goal

pub overflow_mul-n : goal.overflow_mul-n
overflow_mul-n c = omega (arith, ten_small c.loop-byte.byte-index (omega arith))

pub overflow_add-n : goal.overflow_add-n
overflow_add-n c =
    let t : digit (get_or c.args.run.now c.loop-byte.byte-index 0) ≡ true = cc in
    let b = is_digit (get_or c.args.run.now c.loop-byte.byte-index 0) t in
    omega (arith, ten_small c.loop-byte.byte-index (omega arith))
