use Rattle.std.proofs.Common.{ap, ◌∙◌}
use Rattle.logic.specs.Walks.{arities, literals_from}
use Rattle.logic.proofs.Passed.{past_zero}
use Rattle.logic.proofs.LiteralLists.{literals_filled, literals_whole, literals_clause}
use Rattle.logic.proofs.literals.Literals.of.Goals as goal

pub returns-clause-filled : goal.returns-clause-filled
returns-clause-filled c = literals_filled (arities c.args.rows.now) 0 c.args.words.now

pub returns-clause-whole : goal.returns-clause-whole
returns-clause-whole c = literals_whole (arities c.args.rows.now) 0 c.args.words.now ∙ past_zero (arities c.args.rows.now) c.args.words.now

pub returns-clause-clause : goal.returns-clause-clause
returns-clause-clause c clause g e = ap (literals_from (arities c.args.rows.now) 0) e ∙ literals_clause c.args.rows.now clause g.0
