-- (paramod i j a b P): one occurrence of the left side of an equality is replaced by its right side.
use Rattle.std.specs.Prelude.{ℕ, Bool, true, false, not, ◌&&◌, List, [], ◌∷◌, ◌++◌, Some, None, Option}
use Rattle.logic.specs.Syntax.{Term, Literal, Clause}
use Rattle.logic.specs.Literals.{literal}
use Rattle.inference.specs.Same.{same_term, same_clause}
use Rattle.inference.specs.Answers.{Answer, Demand, ◌otherwise◌, answer}
use Rattle.inference.specs.Literals.{has, without, with_literal}
use Rattle.inference.specs.Equations.{equality, left, right}
use Rattle.inference.specs.Positions.{at_position, put}

-- an equality that is not negated
abbrev pub positive_equality : Literal → Bool
positive_equality l = not l.negated && equality l

-- a position led to a term
abbrev pub is_found : Option Term → Bool
is_found None = false
is_found (Some t) = true

-- a position led to the term s
abbrev pub is_term : Option Term → Term → Bool
is_term None s = false
is_term (Some t) s = same_term t s

-- i without a, followed by j with the term at p in its literal b replaced by the right side of literal a
abbrev pub paramodulant : Clause → Clause → ℕ → ℕ → List ℕ → Clause
paramodulant i j a b p = without i a ++ with_literal j b (put (literal j b) p (right (literal i a)))

-- i has a literal a and j a literal b, else 21; literal a is an equality that is not negated, else 23; the position
-- leads to a term, else 24; this is the left side, else 25; the conclusion is the one described, else 27
abbrev pub paramod_demands : Clause → Clause → ℕ → ℕ → List ℕ → Clause → List Demand
paramod_demands i j a b p c =
    (has i a otherwise 21)
    ∷ (has j b otherwise 21)
    ∷ (positive_equality (literal i a) otherwise 23)
    ∷ (is_found (at_position (literal j b) p) otherwise 24)
    ∷ (is_term (at_position (literal j b) p) (left (literal i a)) otherwise 25)
    ∷ (same_clause (paramodulant i j a b p) c otherwise 27)
    ∷ []

-- what the rule answers for premises i and j, literal numbers a and b, the position p and the conclusion c
abbrev pub paramod : Clause → Clause → ℕ → ℕ → List ℕ → Clause → Answer
paramod i j a b p c = answer (paramod_demands i j a b p c)
