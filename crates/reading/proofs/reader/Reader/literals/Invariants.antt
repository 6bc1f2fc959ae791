use Rattle.std.proofs.Common.{◌≡◌, ◌-◌, ◌≤◌}
use Rattle.reading.specs.Clauses.{literal_list}
use Rattle.reading.proofs.Lists.{literals_from}
use Rattle.reading.specs.Readers.{seen, Goes}
use Rattle.reading.proofs.reader.Reader.literals.Given as goal

abbrev pub invariant-loop-place : goal.invariant-loop-place
invariant-loop-place l =
    (l.given ≤ 32) × Goes l.initial.self l.self
    × (literal_list l.initial.self.at.line.now 33 (seen l.initial.self l.initial.out)
    ≡ literals_from l.initial.self.at.line.now l.given (seen l.self l.out))

abbrev pub decreases-loop-place : goal.decreases-loop-place
decreases-loop-place l = 33 - l.given
