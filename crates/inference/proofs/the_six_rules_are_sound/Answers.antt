use Rattle.inference.proofs.InstantiateSound.{instantiate_is_sound}
use Rattle.inference.proofs.ResolveSound.{resolve_is_sound}
use Rattle.inference.proofs.ParamodSound.{paramod_is_sound}
use Rattle.inference.proofs.FlipSound.{flip_is_sound}
use Rattle.inference.proofs.PropositionalSound.{propositional_is_sound}
use Rattle.inference.proofs.ReflexiveSound.{reflexive_is_sound}
use Rattle.inference.proofs.the_six_rules_are_sound.Goals as goal

pub returns : goal.returns
returns c =
    record {
      instantiate = instantiate_is_sound;
      resolve = resolve_is_sound;
      paramod = paramod_is_sound;
      flip = flip_is_sound;
      propositional = propositional_is_sound;
      reflexive = reflexive_is_sound;
    }
