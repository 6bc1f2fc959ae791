-- A bench: a row of inference rules, of which the first with the keyword is used.
use Rattle.std.specs.Prelude.{◌≡◌, ℕ, cond, List, [], ◌∷◌, Some, None, Option}
use Rattle.std.specs.Option.{option_map}
use Rattle.std.specs.Str.{bytes_eq}
use Rattle.lines.specs.declared.shape.Shape.{Shape}
use Rattle.bench.specs.declared.fault.RuleFault.TheVariants.{NoRule}
use Rattle.inference.specs.Answers.{Answer, fault}
use Rattle.bench.specs.Faults.{rule_fault_number}
use Rattle.bench.specs.Meanings.{Asked, Meaning, Sound}

-- the first rule of a row that has the keyword
abbrev pub first_rule : List Meaning → List ℕ → Option Meaning
first_rule [] k = None
first_rule (m ∷ ms) k = cond (bytes_eq m.keyword k) (Some m) (first_rule ms k)

-- how the justification with the keyword is read
abbrev pub shapes : List Meaning → List ℕ → Option Shape
shapes ms k = option_map (λ m. m.shape) (first_rule ms k)

-- what a rule answers; 11 where there is none
abbrev pub answer_of : Option Meaning → Asked → Answer
answer_of None s = fault (rule_fault_number NoRule)
answer_of (Some m) s = m.answers s

-- what the row answers under the keyword
abbrev pub row_answer : List Meaning → List ℕ → Asked → Answer
row_answer ms k s = answer_of (first_rule ms k) s

-- the law of the bench: each rule that a keyword brings into use is sound
abbrev pub KeepsTheLaw : List Meaning → Type 0
KeepsTheLaw ms = (k : List ℕ) (m : Meaning) → first_rule ms k ≡ Some m → Sound m
