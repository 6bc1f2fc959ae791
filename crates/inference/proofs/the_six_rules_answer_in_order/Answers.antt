use Rattle.inference.proofs.Order.{instantiate_answers, resolve_answers, paramod_answers, flip_answers, propositional_answers, reflexive_answers}
use Rattle.inference.proofs.the_six_rules_answer_in_order.Goals as goal

pub returns : goal.returns
returns c =
    record {
      instantiate = instantiate_answers;
      resolve = resolve_answers;
      paramod = paramod_answers;
      flip = flip_answers;
      propositional = propositional_answers;
      reflexive = reflexive_answers;
    }
