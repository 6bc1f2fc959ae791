use Rattle.std.proofs.Common.{◌∙◌, rules}
use Rattle.std.specs.Str.{bytes_eq}
use Rattle.std.proofs.lemmas.Iterator.Search.{any_from_yields_List}
use Rattle.std.proofs.lemmas.Iterator.Consumers.{YieldsList-from_first}
use Rattle.std.proofs.lemmas.Slice.Eq.{bytes_eq-Decides}
use Rattle.std.proofs.lemmas.Bool.Decides.{same_from_decides}
use Rattle.logic.specs.Literals.{literals_left}
use Rattle.rules.proofs.PropositionalWords.{among}
use Rattle.rules.proofs.propositional.stands_among.Goals as goal

pub returns-clause-is : goal.returns-clause-is
returns-clause-is c =
    any_from_yields_List (bytes_eq c.args.literal.now) c.any.new.self _ c.any.result c.any.ensures.ran
    (YieldsList-from_first (λ x. x.now) literals_left _ c.of.ensures.are)
    (λ x b q k. (search rules, same_from_decides b (bytes_eq c.args.literal.now x.now) (search rules) (bytes_eq-Decides c.args.literal.now x.now)))

pub returns-clause-literal : goal.returns-clause-literal
returns-clause-literal c l d g h e f = returns-clause-is c ∙ among c.args.rows.now c.args.literal.now c.args.clause.now l d g h e f
