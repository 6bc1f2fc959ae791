use Rattle.std.proofs.Common.{◌∙◌, rules}
use Rattle.std.proofs.lemmas.Iterator.{YieldsList-from_slice}
use Rattle.std.proofs.lemmas.Iterator.Search.{position_from_yields_List}
use Rattle.logic.proofs.Firsts.{position_is}
use borrow.Author.Tests.{tests}
use Rattle.logic.proofs.directory.find.Goals as goal

pub returns : goal.returns
returns g c =
    position_from_yields_List (λ row. g.R.Keyed.has row c.args.key.now) c.position.new.self _ _ c.position.ensures.ran
    (YieldsList-from_slice c.args.rows.now c.iter.ensures.rest) (λ x b q k. search (rules, tests))
    ∙ position_is (λ row. g.R.Keyed.has row c.args.key.now) c.args.rows.now
