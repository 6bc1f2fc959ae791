use Rattle.std.proofs.Common.{refl}
use Rattle.std.proofs.lemmas.Bool.Decides.{not_from_Decides}
use Rattle.rules.proofs.InstantiateWords.{exit_26, exit_compared}
use Rattle.rules.proofs.instantiate.InstantiateRule.ask.Goals as goal

pub returns-then-bound_twice : goal.returns-then-bound_twice
returns-then-bound_twice c =
    record {
      means = λ s h.
          exit_26 s c.args.question.now h c.bound_variables.ensures.room _ c.bound_variables.ensures.are (c.if-bound_twice.ensures.0 refl);
    }

pub returns : goal.returns
returns c =
    record {
      means = λ s h.
          exit_compared s c.args.question.now h c.bound_variables.ensures.room _ c.bound_variables.ensures.are
          (not_from_Decides _ c.if-bound_twice.ensures refl) c.conclude_instance.result c.conclude_instance.ensures;
    }
