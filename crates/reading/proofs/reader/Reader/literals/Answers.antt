use Rattle.std.proofs.Common.{◌+◌, ◌≤◌, arith, rules}
use Rattle.reading.specs.Readers.{seen}
use Rattle.reading.proofs.Lists.{literals_turn}
use Rattle.reading.proofs.reader.Reader.literals.Goals as goal

pub loop-place-init : goal.loop-place-init
loop-place-init c = (search rules, search rules, literals_turn c.args.self.now.at.line.now 0 (seen c.args.self.now c.args.out.now) (omega arith))

pub loop-place-preserved : goal.loop-place-preserved
loop-place-preserved c =
    let few : c.loop-place.given + 1 ≤ 32 = search rules in
    let turn = literals_turn c.args.self.now.at.line.now (c.loop-place.given + 1) (seen c.literal.new.self c.literal.new.out) few in
    (few, search rules, rw (← turn) (search rules))
