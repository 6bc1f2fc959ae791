-- (resolve i j a b): two literals with the same atom and opposite signs are left out, and what is left is joined.
use Rattle.std.specs.Prelude.{ℕ, Bool, not, ◌&&◌, List, [], ◌∷◌, ◌++◌}
use Rattle.std.specs.Bool.{beq}
use Rattle.logic.specs.Syntax.{Literal, Clause}
use Rattle.logic.specs.Literals.{literal}
use Rattle.inference.specs.Same.{same_atom, same_clause}
use Rattle.inference.specs.Answers.{Answer, Demand, ◌otherwise◌, answer}
use Rattle.inference.specs.Literals.{has, without}

-- the same atom and opposite signs
abbrev pub opposed : Literal → Literal → Bool
opposed l m = same_atom l.atom m.atom && not (beq l.negated m.negated)

-- i has a literal a and j a literal b, else 21; these are opposed, else 22; the conclusion is i without a, followed by
-- j without b, else 27
abbrev pub resolve_demands : Clause → Clause → ℕ → ℕ → Clause → List Demand
resolve_demands i j a b c =
    (has i a otherwise 21)
    ∷ (has j b otherwise 21)
    ∷ (opposed (literal i a) (literal j b) otherwise 22)
    ∷ (same_clause (without i a ++ without j b) c otherwise 27)
    ∷ []

-- what the rule answers for premises i and j, literal numbers a and b and the conclusion c
abbrev pub resolve : Clause → Clause → ℕ → ℕ → Clause → Answer
resolve i j a b c = answer (resolve_demands i j a b c)
