use Rattle.std.proofs.Common.{◌≡◌, drop, arith, rules, tests}
use Rattle.std.proofs.lemmas.Iterator.{YieldsList-from_slice}
use Rattle.std.proofs.lemmas.Iterator.Consumers.{YieldsList-at, count_from_yields_List}
use Rattle.std.proofs.lemmas.Iterator.Search.{YieldsList-from_take_while}
use Rattle.std.proofs.lemmas.List.Folds.{length-prefix_len}
use Rattle.std.proofs.lemmas.Slice.{between_to_end}
use Rattle.tokens.specs.Bytes.{within}
use Rattle.tokens.proofs.byte.past.Goals as goal

pub returns-in-Some : goal.returns-in-Some
returns-in-Some c =
    let rest : c.in-Some.rest.now ≡ drop c.args.from c.args.line.now = search (rules, between_to_end) in
    let counted =
    count_from_yields_List c.take_while.result c.count.result c.count.ensures.ran
    (YieldsList-from_take_while _ (within c.args.class) (YieldsList-at c.take_while.ensures.source (YieldsList-from_slice c.in-Some.rest.now cc)) c.take_while.ensures.closure c.take_while.ensures.done
    (λ x b q k. search (rules, tests))) in
    rw (← rest) (omega (arith, counted, length-prefix_len (within c.args.class) c.in-Some.rest.now))
