use Rattle.std.proofs.Common.{rules}
use Rattle.lines.proofs.Sealed.{step_counted, step_kept}
use Rattle.lines.proofs.step.read_step.Goals as goal

pub returns-clause-counted : goal.returns-clause-counted
returns-clause-counted g c = step_counted c.args.line.now (g.S.Shapes.shapes c.args.bench.now) c.args.out.now c.args.symbols.now c.args.rows.now c.read_text-read.result c.read_text-read.new.justification c.read_text-read.new.out c.read_text-read.new.reader.symbols c.read_text-read.new.reader.rows.now (search rules)

pub returns-clause-kept : goal.returns-clause-kept
returns-clause-kept g c = step_kept c.args.line.now (g.S.Shapes.shapes c.args.bench.now) c.args.out.now c.args.symbols.now c.args.rows.now c.read_text-read.result c.read_text-read.new.justification c.read_text-read.new.out c.read_text-read.new.reader.symbols _ (search rules)
