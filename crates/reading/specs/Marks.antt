-- What stands where one more of a list or its closing bracket is due.
use Rattle.std.specs.Prelude.{ℕ}

-- each with the place behind it
pub data Mark : Type 0 where
  Closed Opened : ℕ → Mark
