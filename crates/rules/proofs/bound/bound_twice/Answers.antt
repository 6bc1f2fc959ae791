use Rattle.rules.proofs.Seen.{seen_none}
use Rattle.rules.proofs.bound.bound_twice.Goals as goal

pub loop-variable-init : goal.loop-variable-init
loop-variable-init c = seen_none c.args.variables.now
