use Rattle.mirtsjol.proofs.Cutting.{come_one_by_one}
use Rattle.mirtsjol.proofs.lines_of.Lines.new.Goals as goal

pub returns-clause-cut : goal.returns-clause-cut
returns-clause-cut c = come_one_by_one c.args.input.now
