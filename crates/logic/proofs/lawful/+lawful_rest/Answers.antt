use Rattle.std.proofs.Common.{arith}
use Rattle.logic.proofs.TermSteps.{none, leaves_none, leaves_between, leaves_unknown, leaves_inner, goes_nowhere, goes_on, goes_var, goes_symbol, at_end, too_deep}
use Rattle.logic.proofs.lawful.+lawful_rest.Goals as goal
use Rattle.logic.proofs.lawful.+lawful_rest.Goals.{then-word-lt-VARIABLES, else-word-lt-VARIABLES+else-word-lt-SYMBOL_WORD+in_ok-arity+in_ok-rest}

pub loop-init : goal.loop-init
loop-init t c = goes_nowhere _ _ _ _ _ (omega arith)

pub returns-then-d-eq0 : goal.returns-then-d-eq0
returns-then-d-eq0 t c rest r = too_deep _ _ _ _ rest c.if-d-eq0.true (omega arith) (c.loop.invariant.from rest r)

pub returns-in_err-word : goal.returns-in_err-word
returns-in_err-word t c =
    leaves_none _ _ _ _ c.from_residual.result c.from_residual.ensures
    (λ rest r. at_end _ _ _ _ c.in_err-word.ensures.cases (omega arith) rest (c.loop.invariant.from rest r))

pub returns-then-word-lt-SYMBOL_WORD : goal.returns-then-word-lt-SYMBOL_WORD
returns-then-word-lt-SYMBOL_WORD t c rest r =
    leaves_between _ c.in_ok-word.ensures.cases.0 (omega arith) c.if-word-lt-VARIABLES.false c.if-word-lt-SYMBOL_WORD.true rest (c.loop.invariant.from rest r)

pub returns-in_err-arity : goal.returns-in_err-arity
returns-in_err-arity t c =
    leaves_none _ _ _ _ c.from_residual-in_err-arity.result c.from_residual-in_err-arity.ensures
    (λ rest r. leaves_unknown _ c.in_ok-word.ensures.cases.0 (omega arith) c.if-word-lt-SYMBOL_WORD.false c.in_err-arity.ensures rest (c.loop.invariant.from rest r))

pub returns-in_err-rest : goal.returns-in_err-rest
returns-in_err-rest t c =
    leaves_none _ _ _ _ c.from_residual-in_err-rest.result c.from_residual-in_err-rest.ensures
    (λ rest r. leaves_inner _ c.in_ok-word.ensures.cases.0 (omega arith) c.in_ok-arity.arity c.if-word-lt-SYMBOL_WORD.false c.in_ok-arity.ensures c.in_err-rest.ensures
    rest (c.loop.invariant.from rest r))

pub loop-preserved : goal.loop-preserved
loop-preserved t c = elim c.if-word-lt-VARIABLES.branch [
  | then-word-lt-VARIABLES w ↦
      rw w.rest-is (goes_on _ _ _ _ _ _ _ _ (omega arith) c.loop.invariant
      (goes_var _ c.in_ok-word.ensures.cases.0 (omega arith) (omega arith) (omega arith)))
  | else-word-lt-VARIABLES+else-word-lt-SYMBOL_WORD+in_ok-arity+in_ok-rest w ↦
      let h = w.in_ok-rest.ensures in
      rw w.rest-is (goes_on _ _ _ _ _ _ _ _ (omega arith) c.loop.invariant
      (goes_symbol _ c.in_ok-word.ensures.cases.0 (omega arith) w.in_ok-arity.arity _ (omega arith) w.if-word-lt-SYMBOL_WORD.false w.in_ok-arity.ensures h.0 h.1))
]

pub returns : goal.returns
returns t c =
    let g = c.loop.invariant in
    (g.shorter, g.onto _ (none _ _ _ _ (omega arith)))
