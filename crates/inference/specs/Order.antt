-- The whole answer of each inference rule: its faults in their order, and allowed where none applies.
use Rattle.std.specs.Prelude.{◌≡◌, ℕ, List, Some}
use Rattle.logic.specs.Syntax.{Clause}
use Rattle.logic.specs.Literals.{literal}
use Rattle.inference.specs.Answers.{Answer, allowed, fault}
use Rattle.inference.specs.Instantiate.{Binding, instantiate}
use Rattle.inference.specs.Resolve.{resolve}
use Rattle.inference.specs.Positions.{at_position}
use Rattle.inference.specs.Paramod.{paramod}
use Rattle.inference.specs.Flip.{flip}
use Rattle.inference.specs.Propositional.{propositional}
use Rattle.inference.specs.Reflexive.{reflexive}
use Rattle.inference.specs.Conclusions.{HasLiteral, BoundOnce, Instance, Opposed, IsEquality, IsEquation, Leads, resolvent, replacement, exchange, SameLiterals, Reflects}

-- the answer is the fault f where P does not hold; where P holds, it is as `next` says
pub record Demanded (P : Type 0) (f : ℕ) (next : P → Answer → Type 0) (r : Answer) : Type 0 where
  pub otherwise : (P → ⊥) → r ≡ fault f
  pub then : (x : P) → next x r

-- P is the last demand: where it holds, the answer is allowed
abbrev pub DemandedLast : Type 0 → ℕ → Answer → Type 0
DemandedLast P f r = Demanded P f (λ x s. s ≡ allowed) r

-- 26 where a variable is bound twice; 27 where the conclusion is another
abbrev pub InstantiateAnswers : Type 0
InstantiateAnswers =
    (i : Clause) (bs : List Binding) (c : Clause)
    → Demanded (BoundOnce bs) 26 (λ _. DemandedLast (Instance i bs c) 27) (instantiate i bs c)

-- 21 where i has no literal a; 21 where j has no literal b; 22 where these are not opposed; 27 where the conclusion is
-- another
abbrev pub ResolveAnswers : Type 0
ResolveAnswers =
    (i j : Clause) (a b : ℕ) (c : Clause)
    → Demanded (HasLiteral i a) 21
    (λ _. Demanded (HasLiteral j b) 21
    (λ _. Demanded (Opposed (literal i a) (literal j b)) 22
    (λ _. DemandedLast (c ≡ resolvent i j a b) 27)))
    (resolve i j a b c)

-- 21 where i has no literal a; 21 where j has no literal b; 23 where literal a is not an equality (= s t); 24 where the
-- position leads to no term; 25 where it does not lead to s; 27 where the conclusion is another
abbrev pub ParamodAnswers : Type 0
ParamodAnswers =
    (i j : Clause) (a b : ℕ) (p : List ℕ) (c : Clause)
    → Demanded (HasLiteral i a) 21
    (λ _. Demanded (HasLiteral j b) 21
    (λ _. Demanded (IsEquality (literal i a)) 23
    (λ e. Demanded (Leads (literal j b) p) 24
    (λ _. Demanded (at_position (literal j b) p ≡ Some e.s) 25
    (λ _. DemandedLast (c ≡ replacement i j a b p e.t) 27)))))
    (paramod i j a b p c)

-- 21 where i has no literal a; 23 where it is not an equality; 27 where the conclusion is another
abbrev pub FlipAnswers : Type 0
FlipAnswers =
    (i : Clause) (a : ℕ) (c : Clause)
    → Demanded (HasLiteral i a) 21
    (λ _. Demanded (IsEquation (literal i a)) 23
    (λ e. DemandedLast (c ≡ exchange i a e.s e.t) 27))
    (flip i a c)

-- 27 where the literals are not the same
abbrev pub PropositionalAnswers : Type 0
PropositionalAnswers = (i c : Clause) → DemandedLast (SameLiterals i c) 27 (propositional i c)

-- 27 where the conclusion is not one equality of a term with itself
abbrev pub ReflexiveAnswers : Type 0
ReflexiveAnswers = (c : Clause) → DemandedLast (Reflects c) 27 (reflexive c)
