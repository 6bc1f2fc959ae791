-- (propositional i): literals change their order, are repeated, or are merged where they are the same.
use Rattle.std.specs.Prelude.{◌&&◌, List, [], ◌∷◌}
use Rattle.logic.specs.Syntax.{Clause}
use Rattle.inference.specs.Same.{within}
use Rattle.inference.specs.Answers.{Answer, Demand, ◌otherwise◌, answer}

-- each literal of i occurs in the conclusion and each literal of the conclusion in i, else 27
abbrev pub propositional_demands : Clause → Clause → List Demand
propositional_demands i c = (within i c && within c i otherwise 27) ∷ []

-- what the rule answers for premise i and the conclusion c
abbrev pub propositional : Clause → Clause → Answer
propositional i c = answer (propositional_demands i c)
