use Rattle.std.proofs.Common.{◌<◌, length, sym, ap, rules, arith}
use Rattle.logic.specs.Walks.{arities, literals_from}
use Rattle.logic.specs.Literals.{literals_left}
use Rattle.logic.proofs.LiteralLists.{literals_none, literals_cut}
use Rattle.logic.proofs.literals.LiteralsIterator.next.Goals as goal

pub returns-then-is_empty-clause-steps : goal.returns-then-is_empty-clause-steps
returns-then-is_empty-clause-steps c =
    let e = literals_none (arities c.args.self.now.rows.now) c.args.self.now.words.now (sym c.if-is_empty.ensures) in (e, e)

pub returns-clause-steps : goal.returns-clause-steps
returns-clause-steps c =
    literals_cut (arities c.args.self.now.rows.now) c.args.self.now.words.now _ _ _ (sym c.if-is_empty.ensures) c.words_of-end.ensures.is c.split_at.ensures.front c.split_at.ensures.back

pub returns-clause-goes : goal.returns-clause-goes
returns-clause-goes c =
    let e = literals_cut (arities c.args.self.now.rows.now) c.args.self.now.words.now _ _ _ (sym c.if-is_empty.ensures) c.words_of-end.ensures.is c.split_at.ensures.front c.split_at.ensures.back in
    let l : length (literals_from (arities c.args.self.now.rows.now) 0 c.split_at.result.1.now) < length (literals_left c.args.self.now) = omega (arith, ap length e) in
    search (rules, l)
