use Rattle.rules.proofs.Seen.{Seen}
use Rattle.rules.proofs.bound.bound_twice.Given as goal

abbrev pub invariant-loop-variable : goal.invariant-loop-variable
invariant-loop-variable l = Seen l.variables l.seen l.variable-index
