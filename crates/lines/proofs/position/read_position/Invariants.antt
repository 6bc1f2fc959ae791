use Rattle.std.proofs.Common.{◌≡◌, ◌+◌, ◌-◌, ◌≤◌, take}
use Rattle.lines.specs.Limits as limits
use Rattle.lines.specs.Positions.{position_at, StaysInLine}
use Rattle.lines.proofs.Positions.{position_from}
use Rattle.lines.proofs.position.read_position.Given as goal

abbrev pub invariant-loop-number : goal.invariant-loop-number
invariant-loop-number l =
    (l.given ≤ limits.position_numbers) × StaysInLine l.fn.at l.at
    × (position_at l.fn.at.line.now l.fn.at.pos ≡ position_from l.fn.at.line.now l.given (take l.given l.position) l.at.pos)

abbrev pub decreases-loop-number : goal.decreases-loop-number
decreases-loop-number l = limits.position_numbers + 1 - l.given
