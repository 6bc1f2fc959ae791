use Rattle.std.proofs.Common.{◌≡◌, ◌+◌, ◌-◌, length}
use Rattle.reading.specs.Limits as limits
use Rattle.reading.specs.Bindings.{Filled, held, binding_list}
use Rattle.reading.proofs.Pushed.{bindings_from}
use Rattle.reading.specs.Readers.{seen, Goes}
use Rattle.reading.proofs.reader.Reader.binding_list.Given as goal

abbrev pub invariant-loop-place : goal.invariant-loop-place
invariant-loop-place l =
    (length l.bindings.places ≡ limits.bindings + 1) × (length l.bindings.variables ≡ limits.bindings)
    × Filled l.bindings l.self.count × Goes l.initial.self l.self
    × (binding_list l.initial.self.at.line.now (limits.bindings + 1 - l.initial.bindings.count) (held l.initial.bindings) (seen l.initial.self l.initial.bindings.terms)
    ≡ bindings_from l.initial.self.at.line.now l.bindings.count (held l.bindings) (seen l.self l.bindings.terms))

abbrev pub decreases-loop-place : goal.decreases-loop-place
decreases-loop-place l = limits.bindings + 1 - l.bindings.count
