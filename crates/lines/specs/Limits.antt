-- The limits of justifications, each in one place.
use Rattle.std.specs.Prelude.{ℕ}

-- numbers of a position
abbrev pub position_numbers : ℕ
position_numbers = 32
