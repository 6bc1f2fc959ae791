use Rattle.logic.proofs.Spelt.{words_injective}
use Rattle.logic.proofs.injective.words_determine_the_clause.Goals as goal

pub returns : goal.returns
returns c rows i j g h e = words_injective rows i j g.0 h.0 e
