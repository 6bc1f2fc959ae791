use Rattle.inference.proofs.Order.{reflexive_answers}
use Rattle.rules.proofs.Concluded.{allows_like, answered_last}
use Rattle.rules.proofs.reflexive.ReflexiveRule.ask.Goals as goal

pub returns : goal.returns
returns c =
    record {
      means = λ s h.
          let d = c.is_reflexive.ensures s.conclusion h.lawful h.conclusion in
          answered_last _ (reflexive_answers s.conclusion) c.allow_if.result (allows_like d.0 d.1 c.allow_if.result c.allow_if.ensures);
    }
