use Rattle.std.proofs.lemmas.Bool.Decides.{Decides-eqb}
use Rattle.std.proofs.lemmas.Slice.Eq.{slice_eq-Decides}
use Rattle.logic.proofs.Walked.{same_clauses}
use Rattle.logic.proofs.words.same.Goals as goal

pub returns-clause-clauses : goal.returns-clause-clauses
returns-clause-clauses c = same_clauses c.args.x.now c.args.y.now c.eq.result (slice_eq-Decides Decides-eqb _ _ _ c.eq.ensures)
