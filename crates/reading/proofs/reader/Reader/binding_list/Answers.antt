use Rattle.std.proofs.Common.{◌≡◌, ◌+◌, ◌<◌, ◌≤◌, ap, sym, subst, arith, rules}
use Rattle.reading.specs.Limits as limits
use Rattle.reading.specs.Bindings.{Filled, held}
use Rattle.reading.specs.Readers.{seen}
use Rattle.reading.proofs.Pushed.{bindings_turn, filled_push, held_push}
use Rattle.reading.proofs.reader.Reader.binding_list.Goals as goal

pub loop-place-init : goal.loop-place-init
loop-place-init c = (search rules, search rules, search rules, search rules, bindings_turn c.args.self.now.at.line.now c.args.bindings.now.count (held c.args.bindings.now) (seen c.args.self.now c.args.bindings.now.terms) c.requires.filled.0)

pub loop-place-preserved : goal.loop-place-preserved
loop-place-preserved c =
    let on = c.in_ok-variable.ensures.on in
    let few : c.loop-place.bindings.count < limits.bindings = search rules in
    let filled = filled_push c.loop-place.bindings c.binding.new.terms c.loop-place.self.count c.in_ok-variable.variable c.binding.new.self.count few c.loop-place.invariant.0 c.loop-place.invariant.2 on.0 on.1 in
    let all = held_push c.loop-place.bindings c.binding.new.terms c.loop-place.self.count c.in_ok-variable.variable c.binding.new.self.count few c.loop-place.invariant.0 c.loop-place.invariant.2 c.loop-place.invariant.1 on.2 in
    let one : c.push.new.self.count ≡ c.loop-place.bindings.count + 1 = ap (λ b. b.count) c.push.ensures in
    let room : c.push.new.self.count ≤ limits.bindings = omega (arith, one, few) in
    let turn = bindings_turn c.args.self.now.at.line.now c.push.new.self.count (held c.push.new.self) (seen c.binding.new.self c.push.new.self.terms) room in (
      search rules,
      search rules,
      subst (λ b. Filled b c.binding.new.self.count) (sym c.push.ensures) filled,
      search rules,
      rw (← turn) (search rules),
    )
