use Rattle.std.proofs.Common.{◌∙◌, rules}
use Rattle.std.proofs.lemmas.Iterator.Search.{all_from_yields_List}
use Rattle.std.proofs.lemmas.Iterator.Consumers.{YieldsList-from_first}
use Rattle.logic.specs.Literals.{literals_left}
use Rattle.rules.specs.Among.{stands_among}
use Rattle.rules.proofs.PropositionalWords.{all_among}
use Rattle.rules.proofs.propositional.all_among.Goals as goal

pub returns : goal.returns
returns c e d g h f k =
    all_from_yields_List (λ xs. stands_among c.args.rows.now xs c.args.other.now) c.all.new.self _ c.all.result c.all.ensures.ran
    (YieldsList-from_first (λ x. x.now) literals_left _ (c.of.ensures.clause e g f))
    (λ x b q k. search rules)
    ∙ all_among c.args.rows.now c.args.other.now e d g.0 h k
