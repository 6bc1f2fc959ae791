use Rattle.std.proofs.Common.{◌+◌, ap, arith}
use Rattle.logic.specs.Walks.{arities, passed}
use Rattle.logic.proofs.Passed.{passed_zero, walk_step, walk_done, walk_out}
use Rattle.logic.proofs.words.words_of.Goals as goal

pub returns-then-n-eq0-clause-is : goal.returns-then-n-eq0-clause-is
returns-then-n-eq0-clause-is c =
    omega (arith, ap (λ k. passed (arities c.args.rows.now) k c.args.words.now) c.if-n-eq0.true, passed_zero (arities c.args.rows.now) c.args.words.now)

pub returns-then-due-eq0-clause-is : goal.returns-then-due-eq0-clause-is
returns-then-due-eq0-clause-is c =
    walk_done (arities c.args.rows.now) c.args.words.now (c.loop-place.place + 1) c.saturating_add-due.result _ (omega arith)
    (walk_step (arities c.args.rows.now) c.args.words.now 18446744073709551615 c.loop-place.place c.loop-place.due c.saturating_add-due.result c.takes.result _
    (omega arith) (omega arith) (omega arith) c.takes.ensures c.saturating_add-due.ensures c.loop-place.invariant.1)

pub loop-place-preserved : goal.loop-place-preserved
loop-place-preserved c = (
  omega arith,
  walk_step (arities c.args.rows.now) c.args.words.now 18446744073709551615 c.loop-place.place c.loop-place.due c.saturating_add-due.result c.takes.result _
      (omega arith) (omega arith) (omega arith) c.takes.ensures c.saturating_add-due.ensures c.loop-place.invariant.1,
)

pub returns-clause-is : goal.returns-clause-is
returns-clause-is c =
    omega (arith, walk_out (arities c.args.rows.now) c.args.words.now c.loop-place.place c.loop-place.due _ (omega arith) c.loop-place.invariant.1)
