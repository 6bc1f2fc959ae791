use Rattle.std.proofs.Common.{refl, arith, rules}
use Rattle.logic.specs.Limits as language
use Rattle.reading.specs.States.{moved}
use Rattle.reading.specs.Readers.{seen}
use Rattle.reading.proofs.Kept.{term_kept}
use Rattle.reading.proofs.reader.Reader.binding.Goals as goal

pub returns-clause-on : goal.returns-clause-on
returns-clause-on c =
    let kept = term_kept c.args.self.now.count c.args.terms.now c.args.self.now.at.line.now language.depth (moved (seen c.args.self.now c.args.terms.now) c.variable.new.self.pos) (seen c.term.new.self c.term.new.out) (search rules, omega arith, omega arith, refl) (search rules) in
    (kept.1, kept.2, kept.3)
