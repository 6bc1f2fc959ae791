use Rattle.std.proofs.Common.{◌-◌}
use Rattle.logic.proofs.TermSteps.{Goes}
use Rattle.logic.proofs.lawful.+lawful_rest.Given as goal

abbrev pub decreases-lawful_rest : goal.decreases-lawful_rest
decreases-lawful_rest l = l.d

abbrev pub invariant-loop : goal.invariant-loop
invariant-loop l = Goes l.rows l.d l.n l.words (l.n - l.counter) l.rest
