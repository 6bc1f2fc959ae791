use Rattle.std.proofs.Common.{◌≡◌, ◌+◌, ◌^◌, ◌<◌, take, drop}
use Rattle.std.specs.List.{prefix_len}
use Rattle.logic.specs.Names.{digit}
use Rattle.tokens.specs.Forms.{value}
use Rattle.tokens.proofs.form.digits.Given as goal

abbrev pub invariant-loop-byte : goal.invariant-loop-byte
invariant-loop-byte l =
    (l.n ≡ value (take l.byte-index l.run)) × (l.n < 10 ^ l.byte-index)
    × (l.byte-index + prefix_len digit (drop l.byte-index l.run) ≡ prefix_len digit l.run)
