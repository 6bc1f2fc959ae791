-- What stands where one more number of a position or its closing bracket is due.
use Rattle.std.specs.Prelude.{ℕ}

-- each with the place behind it, a number before that
pub data Turn : Type 0 where
  Closed : ℕ → Turn
  Given : ℕ → ℕ → Turn
