use Rattle.std.proofs.Common.{refl, inl, ap, ◌∙◌, length, arith}
use Rattle.std.proofs.lemmas.List.{length-map}
use Rattle.std.proofs.lemmas.Iterator.Consumers.{YieldsList-from_first, count_from_yields_List}
use Rattle.logic.specs.Words.{literal_words}
use Rattle.logic.specs.Walks.{arities}
use Rattle.logic.specs.Literals.{literals_left}
use Rattle.logic.proofs.LiteralLists.{literals_counted, heads_within}
use Rattle.logic.proofs.literals.literal_count.Goals as goal

pub count-requires-clause-fits : goal.count-requires-clause-fits
count-requires-clause-fits c =
    inl (omega (arith, ap length c.of.ensures.are, literals_counted (arities c.args.rows.now) 0 c.args.words.now, heads_within (arities c.args.rows.now) 0 c.args.words.now))

pub returns : goal.returns
returns c =
    let e = count_from_yields_List c.of.result c.count.result c.count.ensures.ran (YieldsList-from_first (λ x. x.now) literals_left _ refl) in
    record {
      count = e ∙ ap length c.of.ensures.are ∙ literals_counted (arities c.args.rows.now) 0 c.args.words.now;
      literals = λ d g f. e ∙ ap length (c.of.ensures.clause d g f) ∙ length-map d literal_words;
    }
