-- The six inference rules as a bench has them: keyword, shape and answers.
use Rattle.std.specs.Prelude.{true, false, List, [], ◌∷◌, codes}
use Rattle.bench.specs.Meanings.{Meaning, premise, literal_number}
use Rattle.inference.specs.Instantiate.{instantiate}
use Rattle.inference.specs.Resolve.{resolve}
use Rattle.inference.specs.Paramod.{paramod}
use Rattle.inference.specs.Flip.{flip}
use Rattle.inference.specs.Propositional.{propositional}
use Rattle.inference.specs.Reflexive.{reflexive}

-- one premise and bindings
abbrev pub instantiate_rule : Meaning
instantiate_rule =
    record {
      keyword = codes "instantiate";
      shape = record { premises = 1; literals = 0; position = false; bindings = true };
      answers = λ s. instantiate (premise s 0) s.bindings s.conclusion;
    }

-- two premises and a literal number for each
abbrev pub resolve_rule : Meaning
resolve_rule =
    record {
      keyword = codes "resolve";
      shape = record { premises = 2; literals = 2; position = false; bindings = false };
      answers = λ s. resolve (premise s 0) (premise s 1) (literal_number s 0) (literal_number s 1) s.conclusion;
    }

-- two premises, a literal number for each, and a position
abbrev pub paramod_rule : Meaning
paramod_rule =
    record {
      keyword = codes "paramod";
      shape = record { premises = 2; literals = 2; position = true; bindings = false };
      answers = λ s. paramod (premise s 0) (premise s 1) (literal_number s 0) (literal_number s 1) s.position s.conclusion;
    }

-- one premise and a literal number
abbrev pub flip_rule : Meaning
flip_rule =
    record {
      keyword = codes "flip";
      shape = record { premises = 1; literals = 1; position = false; bindings = false };
      answers = λ s. flip (premise s 0) (literal_number s 0) s.conclusion;
    }

-- one premise
abbrev pub propositional_rule : Meaning
propositional_rule =
    record {
      keyword = codes "propositional";
      shape = record { premises = 1; literals = 0; position = false; bindings = false };
      answers = λ s. propositional (premise s 0) s.conclusion;
    }

-- no premise
abbrev pub reflexive_rule : Meaning
reflexive_rule =
    record {
      keyword = codes "reflexive";
      shape = record { premises = 0; literals = 0; position = false; bindings = false };
      answers = λ s. reflexive s.conclusion;
    }

-- the bench of the six
abbrev pub six_rules : List Meaning
six_rules = instantiate_rule ∷ resolve_rule ∷ paramod_rule ∷ flip_rule ∷ propositional_rule ∷ reflexive_rule ∷ []
