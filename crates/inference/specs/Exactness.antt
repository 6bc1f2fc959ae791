-- Each inference rule allows exactly the conclusions that it gives.
use Rattle.std.specs.Prelude.{◌≡◌, ℕ, List}
use Rattle.logic.specs.Syntax.{Clause}
use Rattle.inference.specs.Answers.{Answer, allowed}
use Rattle.inference.specs.Instantiate.{Binding, instantiate}
use Rattle.inference.specs.Resolve.{resolve}
use Rattle.inference.specs.Paramod.{paramod}
use Rattle.inference.specs.Flip.{flip}
use Rattle.inference.specs.Propositional.{propositional}
use Rattle.inference.specs.Reflexive.{reflexive}
use Rattle.inference.specs.Conclusions.{Instantiates, Resolves, Paramodulates, Flips, SameLiterals, Reflects}

-- the answer is allowed where P holds, and only there
abbrev pub AllowedExactlyWhen : Answer → Type 0 → Type 0
AllowedExactlyWhen r P = (r ≡ allowed → P) × (P → r ≡ allowed)

-- instantiate allows exactly the premise with each bound variable replaced, no variable bound twice
abbrev pub InstantiateIsExact : Type 0
InstantiateIsExact = (i : Clause) (bs : List Binding) (c : Clause) → AllowedExactlyWhen (instantiate i bs c) (Instantiates i bs c)

-- resolve allows exactly i without a, followed by j without b, where these literals are opposed
abbrev pub ResolveIsExact : Type 0
ResolveIsExact = (i j : Clause) (a b : ℕ) (c : Clause) → AllowedExactlyWhen (resolve i j a b c) (Resolves i j a b c)

-- paramod allows exactly i without its equality, followed by j with one left side replaced by the right side
abbrev pub ParamodIsExact : Type 0
ParamodIsExact =
    (i j : Clause) (a b : ℕ) (p : List ℕ) (c : Clause) → AllowedExactlyWhen (paramod i j a b p c) (Paramodulates i j a b p c)

-- flip allows exactly i with the sides of its literal a, an equality, exchanged
abbrev pub FlipIsExact : Type 0
FlipIsExact = (i : Clause) (a : ℕ) (c : Clause) → AllowedExactlyWhen (flip i a c) (Flips i a c)

-- propositional allows exactly the clauses with the same literals as i
abbrev pub PropositionalIsExact : Type 0
PropositionalIsExact = (i c : Clause) → AllowedExactlyWhen (propositional i c) (SameLiterals i c)

-- reflexive allows exactly the clauses of one equality of a term with itself
abbrev pub ReflexiveIsExact : Type 0
ReflexiveIsExact = (c : Clause) → AllowedExactlyWhen (reflexive c) (Reflects c)
