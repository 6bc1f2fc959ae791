-- The conclusions that each inference rule gives, in terms of the trees alone.
use Rattle.std.specs.Prelude.{◌≡◌, ℕ, ◌<◌, ◌≤◌, false, not, ◌⊎◌, List, [], ◌∷◌, ◌++◌, length, Some, ◌≢◌}
use Rattle.std.specs.List.{AllByRecursion}
use Rattle.logic.specs.Syntax.{Term, Literal, Clause, var, equal}
use Rattle.logic.specs.Literals.{literal}
use Rattle.inference.specs.Literals.{without, with_literal}
use Rattle.inference.specs.Instantiate.{Substitution, Binding, instance_of}
use Rattle.inference.specs.Positions.{at_position, put}

-- the clause has a literal a
abbrev pub HasLiteral : Clause → ℕ → Type 0
HasLiteral c a = (0 < a) × (a ≤ length c)

-- the literal is a literal of the clause
abbrev pub Occurs : Literal → Clause → Type 0
Occurs l [] = ⊥
Occurs l (m ∷ c) = (l ≡ m) ⊎ Occurs l c

-- the equality (= s t)
abbrev pub equality_of : Term → Term → Literal
equality_of s t = record { negated = false; atom = equal s t }

-- none of the bindings binds variable i
abbrev pub Unbound : List Binding → ℕ → Type 0
Unbound bs i = AllByRecursion (λ b. b.variable ≢ i) bs

-- no variable is bound twice
abbrev pub BoundOnce : List Binding → Type 0
BoundOnce [] = Unit {0}
BoundOnce (b ∷ bs) = Unbound bs b.variable × BoundOnce bs

-- the substitution gives each bound variable its term, and each other variable itself
pub record Replaces (bs : List Binding) (σ : Substitution) : Type 0 where
  pub bound : AllByRecursion (λ b. σ b.variable ≡ b.term) bs
  pub others : (i : ℕ) → Unbound bs i → σ i ≡ var i

-- the conclusion is the premise with each bound variable replaced by its term, all at once
pub record Instance (i : Clause) (bs : List Binding) (c : Clause) : Type 0 where
  pub σ : Substitution
  pub replaces : Replaces bs σ
  pub conclusion : c ≡ instance_of σ i

-- the same atom and opposite signs
pub record Opposed (l m : Literal) : Type 0 where
  pub atom : l.atom ≡ m.atom
  pub signs : l.negated ≡ not m.negated

-- the literal is an equality that is not negated, with the sides s and t
pub record IsEquality (l : Literal) : Type 0 where
  pub s : Term
  pub t : Term
  pub is : l ≡ equality_of s t

-- the literal is an equality, negated or not, with the sides s and t
pub record IsEquation (l : Literal) : Type 0 where
  pub s : Term
  pub t : Term
  pub is : l.atom ≡ equal s t

-- the position leads to a term of the literal
abbrev pub Leads : Literal → List ℕ → Type 0
Leads l p = (u : Term) × (at_position l p ≡ Some u)

-- i without a, followed by j without b
abbrev pub resolvent : Clause → Clause → ℕ → ℕ → Clause
resolvent i j a b = without i a ++ without j b

-- i without a, followed by j with the one term at the position in its literal b replaced by t
abbrev pub replacement : Clause → Clause → ℕ → ℕ → List ℕ → Term → Clause
replacement i j a b p t = without i a ++ with_literal j b (put (literal j b) p t)

-- i with the equation of t and s, in this order, in its literal a, whose sign stays
abbrev pub exchange : Clause → ℕ → Term → Term → Clause
exchange i a s t = with_literal i a (record { negated = (literal i a).negated; atom = equal t s })

-- no variable is bound twice, and the conclusion is the instance
pub record Instantiates (i : Clause) (bs : List Binding) (c : Clause) : Type 0 where
  pub once : BoundOnce bs
  pub instance : Instance i bs c

-- literal a of i and literal b of j have the same atom and opposite signs, and the conclusion is i without a, followed
-- by j without b
pub record Resolves (i j : Clause) (a b : ℕ) (c : Clause) : Type 0 where
  pub first : HasLiteral i a
  pub second : HasLiteral j b
  pub opposite : Opposed (literal i a) (literal j b)
  pub conclusion : c ≡ resolvent i j a b

-- literal a of i is an equality (= s t), the position leads to s in literal b of j, and the conclusion is i without a,
-- followed by j with this one term replaced by t
pub record Paramodulates (i j : Clause) (a b : ℕ) (p : List ℕ) (c : Clause) : Type 0 where
  pub first : HasLiteral i a
  pub second : HasLiteral j b
  pub sides : IsEquality (literal i a)
  pub place : at_position (literal j b) p ≡ Some sides.s
  pub conclusion : c ≡ replacement i j a b p sides.t

-- literal a of i is an equality with the sides s and t, negated or not, and the conclusion is i with these exchanged
pub record Flips (i : Clause) (a : ℕ) (c : Clause) : Type 0 where
  pub there : HasLiteral i a
  pub sides : IsEquation (literal i a)
  pub conclusion : c ≡ exchange i a sides.s sides.t

-- the premise and the conclusion have the same literals
pub record SameLiterals (i c : Clause) : Type 0 where
  pub kept : (l : Literal) → Occurs l i → Occurs l c
  pub none_added : (l : Literal) → Occurs l c → Occurs l i

-- the conclusion is exactly one equality with the same term on both sides
pub record Reflects (c : Clause) : Type 0 where
  pub t : Term
  pub conclusion : c ≡ equality_of t t ∷ []
