-- The faults of inference rules, by their numbers.
use Rattle.std.specs.Prelude.{ℕ, ◌≤◌, ◌⊎◌, Ok, Err, Result}
use Rattle.bench.specs.declared.fault.RuleFault.{RuleFault}
use Rattle.bench.specs.declared.fault.RuleFault.TheVariants.{NoRule, NoLiteral, NotOpposed, NoEquality, NoTerm, OtherTerm, BoundTwice, OtherConclusion}
use Rattle.inference.specs.Answers.{Answer, allowed, fault}

-- the number of each fault
abbrev pub rule_fault_number : RuleFault → ℕ
rule_fault_number NoRule = 11
rule_fault_number NoLiteral = 21
rule_fault_number NotOpposed = 22
rule_fault_number NoEquality = 23
rule_fault_number NoTerm = 24
rule_fault_number OtherTerm = 25
rule_fault_number BoundTwice = 26
rule_fault_number OtherConclusion = 27

-- a number that an inference rule may answer: 21 to 27 or 50 to 99
abbrev pub RuleNumber : ℕ → Type 0
RuleNumber n = ((21 ≤ n) × (n ≤ 27)) ⊎ ((50 ≤ n) × (n ≤ 99))

-- what the code answers, as an answer of the subject
abbrev pub answered : Result (Unit {0}) RuleFault → Answer
answered (Ok u) = allowed
answered (Err f) = fault (rule_fault_number f)
