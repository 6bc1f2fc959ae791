-- What an inference rule answers: a list of demands, each with its fault, in the order in which they are looked at.
use Rattle.std.specs.Prelude.{ℕ, Bool, cond, List, [], ◌∷◌}

-- the conclusion is allowed, or there is a fault with its number
pub data Answer : Type 0 where
  allowed : Answer
  fault : ℕ → Answer

infix 5 ◌otherwise◌
-- a test, and the number of the fault where it fails
pub data Demand : Type 0 where
  ◌otherwise◌ : Bool → ℕ → Demand

-- the fault of the first demand that is not met, or allowed where all are met
abbrev pub answer : List Demand → Answer
answer [] = allowed
answer ((b otherwise f) ∷ ds) = cond b (answer ds) (fault f)
