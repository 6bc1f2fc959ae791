use Rattle.std.proofs.Common.{◌+◌, ◌≤◌, eqb, arith, rules}
use Rattle.reading.specs.Terms.{nest}
use Rattle.reading.specs.Readers.{seen}
use Rattle.reading.proofs.Turns.{args_turn, args_goes}
use Rattle.reading.proofs.reader.Reader.+application_arguments.Goals as goal

pub arguments-loop-argument-init : goal.arguments-loop-argument-init
arguments-loop-argument-init t c = (search rules, search rules, args_turn c.args.self.now.at.line.now (nest c.args.self.now.at.line.now c.args.room) (eqb c.args.room 0) 0 (seen c.args.self.now c.args.out.now) (omega arith))

pub arguments-returns-in_err-finish-clause-is : goal.arguments-returns-in_err-finish-clause-is
arguments-returns-in_err-finish-clause-is t c =
    let room = rw c.in-Some.is at c.in_ok-argument.ensures.on in
    let goes = args_goes c.args.self.now.at.line.now c.args.room c.loop-argument.given (seen c.loop-argument.self c.loop-argument.out) c.in-Some.argument c.argument.new.self.at.pos (search rules) (search rules) in
    rw (c.loop-argument.invariant.2, goes) (search rules)

pub arguments-loop-argument-preserved : goal.arguments-loop-argument-preserved
arguments-loop-argument-preserved t c =
    let room = rw c.in-Some.is at c.in_ok-argument.ensures.on in
    let few : c.loop-argument.given + 1 ≤ 4 = search rules in
    let goes = args_goes c.args.self.now.at.line.now c.args.room c.loop-argument.given (seen c.loop-argument.self c.loop-argument.out) c.in-Some.argument c.argument.new.self.at.pos (search rules) (search rules) in
    let turn = args_turn c.args.self.now.at.line.now (nest c.args.self.now.at.line.now c.args.room) (eqb c.args.room 0) (c.loop-argument.given + 1) (seen c.finish.new.self c.finish.new.out) few in
    (few, search rules, rw (← turn, c.loop-argument.invariant.2, goes) (search rules))
