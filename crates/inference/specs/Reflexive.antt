-- (reflexive): an equality with the same term on both sides.
use Rattle.std.specs.Prelude.{Bool, false, not, ◌&&◌, List, [], ◌∷◌}
use Rattle.logic.specs.Syntax.{Clause}
use Rattle.inference.specs.Same.{same_term}
use Rattle.inference.specs.Answers.{Answer, Demand, ◌otherwise◌, answer}
use Rattle.inference.specs.Equations.{equality, left, right}

-- the clause is exactly one literal (= t t), not negated
abbrev pub is_reflexive : Clause → Bool
is_reflexive [] = false
is_reflexive (l ∷ []) = not l.negated && (equality l && same_term (left l) (right l))
is_reflexive (l ∷ m ∷ c) = false

-- the conclusion is such a clause, else 27
abbrev pub reflexive_demands : Clause → List Demand
reflexive_demands c = (is_reflexive c otherwise 27) ∷ []

-- what the rule answers for the conclusion c
abbrev pub reflexive : Clause → Answer
reflexive c = answer (reflexive_demands c)
