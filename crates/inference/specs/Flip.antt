-- (flip i a): the sides of an equality are exchanged.
use Rattle.std.specs.Prelude.{ℕ, List, [], ◌∷◌}
use Rattle.logic.specs.Syntax.{Literal, Clause, equal}
use Rattle.logic.specs.Literals.{literal}
use Rattle.inference.specs.Same.{same_clause}
use Rattle.inference.specs.Answers.{Answer, Demand, ◌otherwise◌, answer}
use Rattle.inference.specs.Literals.{has, with_literal}
use Rattle.inference.specs.Equations.{equality, left, right}

-- an equality with its sides exchanged; its sign stays
abbrev pub flipped : Literal → Literal
flipped l = record { negated = l.negated; atom = equal (right l) (left l) }

-- i has a literal a, else 21; this is an equality, else 23; the conclusion is i with its sides exchanged, else 27
abbrev pub flip_demands : Clause → ℕ → Clause → List Demand
flip_demands i a c =
    (has i a otherwise 21)
    ∷ (equality (literal i a) otherwise 23)
    ∷ (same_clause (with_literal i a (flipped (literal i a))) c otherwise 27)
    ∷ []

-- what the rule answers for premise i, literal number a and the conclusion c
abbrev pub flip : Clause → ℕ → Clause → Answer
flip i a c = answer (flip_demands i a c)
