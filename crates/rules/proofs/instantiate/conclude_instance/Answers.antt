use Rattle.std.proofs.Common.{◌≡◌, Err, arith, rules}
use Rattle.rules.proofs.Concluded.{behind_more, behind_stops}
use Rattle.rules.proofs.instantiate.conclude_instance.Goals as goal

pub loop-word-preserved : goal.loop-word-preserved
loop-word-preserved c σ s =
    behind_more σ c.args.premise.now c.args.conclusion.now c.loop-word.word-index c.loop-word.rest.now (c.loop-word.invariant σ s) 0 (omega arith)
    c.in_ok-rest.rest.now (c.in_ok-rest.ensures σ s)

pub returns-in_err-rest : goal.returns-in_err-rest
returns-in_err-rest c σ s =
    let w = c.in_err-rest.ensures σ s in
    let n = behind_stops σ c.args.premise.now c.args.conclusion.now c.loop-word.word-index c.loop-word.rest.now (c.loop-word.invariant σ s) 0 (omega arith) w.1 in
    let e : c.from_residual.result ≡ Err c.in_err-rest.field-0.0 = search rules in
    rw e (w.0, n)
