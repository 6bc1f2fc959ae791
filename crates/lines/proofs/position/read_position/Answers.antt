use Rattle.std.proofs.Common.{◌+◌, ◌<◌, ◌≤◌, length, take, set, arith, rules}
use Rattle.std.proofs.lemmas.List.{take_more_set}
use Rattle.lines.specs.Limits as limits
use Rattle.lines.proofs.Positions.{position_turns}
use Rattle.lines.proofs.position.read_position.Goals as goal

pub loop-number-init : goal.loop-number-init
loop-number-init c =
    let turn = position_turns c.args.at.now.line.now 0 (take 0 c.args.position.now) c.open.new.self.pos (omega arith) in
    (search rules, search rules, rw (← turn) (search rules))

pub loop-number-preserved : goal.loop-number-preserved
loop-number-preserved c =
    let few : c.loop-number.given < length c.loop-number.position = search rules in
    let room : c.loop-number.given + 1 ≤ limits.position_numbers = search rules in
    let more = take_more_set c.loop-number.position c.loop-number.given c.in-Some.number few in
    let turn = position_turns c.args.at.now.line.now (c.loop-number.given + 1) (take (c.loop-number.given + 1) (set c.loop-number.position c.loop-number.given c.in-Some.number)) c.next_number.new.at.pos room in
    (room, search rules, rw (← turn, more) (search rules))
