use Rattle.inference.proofs.InstantiateExact.{instantiate_is_exact}
use Rattle.inference.proofs.ResolveExact.{resolve_is_exact}
use Rattle.inference.proofs.ParamodExact.{paramod_is_exact}
use Rattle.inference.proofs.FlipExact.{flip_is_exact}
use Rattle.inference.proofs.PropositionalExact.{propositional_is_exact}
use Rattle.inference.proofs.ReflexiveExact.{reflexive_is_exact}
use Rattle.inference.proofs.the_six_rules_are_exact.Goals as goal

pub returns : goal.returns
returns c =
    record {
      instantiate = instantiate_is_exact;
      resolve = resolve_is_exact;
      paramod = paramod_is_exact;
      flip = flip_is_exact;
      propositional = propositional_is_exact;
      reflexive = reflexive_is_exact;
    }
