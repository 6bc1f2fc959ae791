use Rattle.std.proofs.Common.{arith}
use Rattle.logic.proofs.LiteralSteps.{spells_headless, spells_broken, spells_more, spells_none}
use Rattle.logic.proofs.lawful.+clause_in.Goals as goal

pub returns-in_err-n : goal.returns-in_err-n
returns-in_err-n t c =
    spells_none _ c.from_residual.result c.from_residual.ensures (spells_headless _ c.in-Some.ensures.cases.0 c.in_err-n.ensures)

pub returns-in_err-others : goal.returns-in_err-others
returns-in_err-others t c =
    spells_none _ c.from_residual-in_err-others.result c.from_residual-in_err-others.ensures
    (spells_broken _ c.in-Some.ensures.cases.0 c.in_ok-n.n c.in_ok-n.ensures c.in_err-others.ensures)

pub returns : goal.returns
returns t c =
    let h = c.in_ok-others.ensures in
    spells_more _ c.in-Some.ensures.cases.0 c.in_ok-n.n c.in_ok-others.others.now c.clause_in.result (omega arith) c.in_ok-n.ensures h.1 c.clause_in.ensures
