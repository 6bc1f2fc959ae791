-- What is asked of an inference rule, what a rule means, and the law that it keeps.
use Rattle.std.specs.Prelude.{◌≡◌, ℕ, ◌≤◌, List, [], length, slice_index, slice_index_or}
use Rattle.logic.specs.Syntax.{Clause}
use Rattle.inference.specs.Instantiate.{Binding}
use Rattle.lines.specs.declared.shape.Shape.{Shape}
use Rattle.inference.specs.Answers.{Answer, allowed, fault}
use Rattle.bench.specs.Faults.{RuleNumber}
use Rattle.inference.specs.Law.{Follows}

-- what a step puts to an inference rule: premises, parameters and the written conclusion
pub record Asked : Type 0 where
  pub premises : List Clause
  pub literals : List ℕ
  pub position : List ℕ
  pub bindings : List Binding
  pub conclusion : Clause

-- premise k, counted from 0; without literals where there are fewer premises
abbrev pub premise : Asked → ℕ → Clause
premise s k = slice_index_or s.premises k []

-- literal number k, counted from 0; 0, which no literal has, where there are fewer
abbrev pub literal_number : Asked → ℕ → ℕ
literal_number s k = slice_index s.literals k

-- an inference rule: the bytes of its keyword, how its justification is read, and what it answers
pub record Meaning : Type 0 where
  pub keyword : List ℕ
  pub shape : Shape
  pub answers : Asked → Answer

-- an inference rule takes at most two premises and two literal numbers, its faults have numbers of inference rules, and
-- what it allows from as many premises as it takes follows from them
pub record Sound (m : Meaning) : Type 0 where
  pub premises : m.shape.premises ≤ 2
  pub literals : m.shape.literals ≤ 2
  pub numbered : (s : Asked) (f : ℕ) → m.answers s ≡ fault f → RuleNumber f
  pub law : (s : Asked) → length s.premises ≡ m.shape.premises → m.answers s ≡ allowed → Follows s.premises s.conclusion
