use Rattle.std.proofs.Common.{◌≡◌, ◌+◌, ◌-◌, ◌*◌, ◌≤◌, eqb}
use Rattle.reading.specs.Terms.{args, nest}
use Rattle.reading.proofs.Turns.{args_from}
use Rattle.reading.specs.Readers.{seen, Goes}
use Rattle.reading.proofs.reader.Reader.+application_arguments.Given as goal

abbrev pub decreases-application : goal.decreases-application
decreases-application l = 3 * l.role.room + 1

abbrev pub decreases-arguments : goal.decreases-arguments
decreases-arguments l = 3 * l.room + 0

abbrev pub decreases-finish : goal.decreases-finish
decreases-finish l = 3 * l.room - 1

abbrev pub invariant-arguments-loop-argument : goal.invariant-arguments-loop-argument
invariant-arguments-loop-argument l =
    (l.given ≤ 4) × Goes l.initial.self l.self
    × (args l.initial.self.at.line.now (nest l.initial.self.at.line.now l.room) (eqb l.room 0) 5 0 (seen l.initial.self l.initial.out)
    ≡ args_from l.initial.self.at.line.now (nest l.initial.self.at.line.now l.room) (eqb l.room 0) l.given (seen l.self l.out))

abbrev pub decreases-arguments-loop-argument : goal.decreases-arguments-loop-argument
decreases-arguments-loop-argument l = 5 - l.given
