-- The bytes of a line: spaces, digits and the bytes of runs.
use Rattle.std.specs.Prelude.{ℕ, ◌+◌, Bool, List, drop, ◌==◌}
use Rattle.std.specs.List.{prefix_len}
use Rattle.logic.specs.Names.{digit, name_byte}
use Rattle.tokens.specs.declared.byte.Class.{Class}
use Rattle.tokens.specs.declared.byte.Class.TheVariants.{Space, Digit, Run}

-- the byte is of the class
abbrev pub within : Class → ℕ → Bool
within Space b = b == 32
within Digit b = digit b
within Run b = name_byte b

-- the first place from p on whose byte is not of the class
abbrev pub past : Class → List ℕ → ℕ → ℕ
past c bs p = p + prefix_len (within c) (drop p bs)
