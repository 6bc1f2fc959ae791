use Rattle.std.proofs.Common.{rules}
use Rattle.lines.specs.Rules.{rule_line}
use Rattle.lines.proofs.Covered.{rule_kept}
use Rattle.lines.proofs.rule.read_rule.Goals as goal

pub returns-in_err-check_count-clause-is : goal.returns-in_err-check_count-clause-is
unfolding rule_line
returns-in_err-check_count-clause-is c = search rules

pub returns-clause-kept : goal.returns-clause-kept
returns-clause-kept c = rule_kept c.args.line.now c.args.out.now c.args.symbols.now c.args.rows.now c.read_text-read.result c.read_text-read.new.out c.read_text-read.new.reader.symbols _ (search rules)
