-- What stands where an argument or the closing bracket is due.
use Rattle.std.specs.Prelude.{ℕ}

-- each with the place behind it, a variable with its number before that
pub data Slot : Type 0 where
  Closed Opened : ℕ → Slot
  Variable : ℕ → ℕ → Slot
