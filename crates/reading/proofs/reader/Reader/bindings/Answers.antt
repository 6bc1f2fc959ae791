use Rattle.std.proofs.Common.{◌≡◌, ◌+◌, length, arith, rules}
use Rattle.reading.specs.Limits as limits
use Rattle.reading.proofs.Blind.{bindings_blind}
use Rattle.reading.proofs.reader.Reader.bindings.Goals as goal

pub returns-clause-is : goal.returns-clause-is
returns-clause-is c =
    let long : length c.args.bindings.now.terms ≡ limits.binding_words = omega arith in
    let blind = bindings_blind c.args.self.now.at.line.now (limits.bindings + 1) c.open.new.self.pos c.args.self.now.symbols c.args.self.now.rows.now c.args.bindings.now.terms long in
    search rules
