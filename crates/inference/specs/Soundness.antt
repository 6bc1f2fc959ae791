-- The law of the bench for each of the six inference rules: what it allows follows from its premises.
use Rattle.std.specs.Prelude.{◌≡◌, ℕ, List, [], ◌∷◌}
use Rattle.logic.specs.Syntax.{Clause}
use Rattle.inference.specs.Law.{Follows}
use Rattle.inference.specs.Answers.{allowed}
use Rattle.inference.specs.Instantiate.{Binding, instantiate}
use Rattle.inference.specs.Resolve.{resolve}
use Rattle.inference.specs.Paramod.{paramod}
use Rattle.inference.specs.Flip.{flip}
use Rattle.inference.specs.Propositional.{propositional}
use Rattle.inference.specs.Reflexive.{reflexive}

-- what instantiate allows follows from its premise
abbrev pub InstantiateIsSound : Type 0
InstantiateIsSound = (i : Clause) (bs : List Binding) (c : Clause) → instantiate i bs c ≡ allowed → Follows (i ∷ []) c

-- what resolve allows follows from its two premises
abbrev pub ResolveIsSound : Type 0
ResolveIsSound = (i j : Clause) (a b : ℕ) (c : Clause) → resolve i j a b c ≡ allowed → Follows (i ∷ j ∷ []) c

-- what paramod allows follows from its two premises
abbrev pub ParamodIsSound : Type 0
ParamodIsSound =
    (i j : Clause) (a b : ℕ) (p : List ℕ) (c : Clause) → paramod i j a b p c ≡ allowed → Follows (i ∷ j ∷ []) c

-- what flip allows follows from its premise
abbrev pub FlipIsSound : Type 0
FlipIsSound = (i : Clause) (a : ℕ) (c : Clause) → flip i a c ≡ allowed → Follows (i ∷ []) c

-- what propositional allows follows from its premise
abbrev pub PropositionalIsSound : Type 0
PropositionalIsSound = (i c : Clause) → propositional i c ≡ allowed → Follows (i ∷ []) c

-- what reflexive allows is true in every structure
abbrev pub ReflexiveIsSound : Type 0
ReflexiveIsSound = (c : Clause) → reflexive c ≡ allowed → Follows [] c
