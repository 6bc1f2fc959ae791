-- (instantiate i bindings): each bound variable is replaced by its term, all at once.
use Rattle.std.specs.Prelude.{ℕ, Bool, false, cond, not, ◌||◌, List, [], ◌∷◌, map, ◌==◌}
use Rattle.logic.specs.Syntax.{Term, Terms, Atom, Literal, Clause, var, app, []ₜ, ◌∷ₜ◌, predicate, equal}
use Rattle.inference.specs.Same.{same_clause}
use Rattle.inference.specs.Answers.{Answer, Demand, ◌otherwise◌, answer}

-- a term for each variable
abbrev pub Substitution : Type 0
Substitution = ℕ → Term

abbrev mutual
  -- each variable replaced by its term; a term that was put in is not replaced again
  pub instance_term : Substitution → Term → Term
  instance_term σ (var i) = σ i
  instance_term σ (app s ts) = app s (instance_terms σ ts)

  -- the same in each of some terms
  pub instance_terms : Substitution → Terms → Terms
  instance_terms σ []ₜ = []ₜ
  instance_terms σ (t ∷ₜ ts) = instance_term σ t ∷ₜ instance_terms σ ts

-- the same in all arguments, or in both sides of an equation
abbrev pub instance_atom : Substitution → Atom → Atom
instance_atom σ (predicate p ts) = predicate p (instance_terms σ ts)
instance_atom σ (equal s t) = equal (instance_term σ s) (instance_term σ t)

-- the sign stays
abbrev pub instance_literal : Substitution → Literal → Literal
instance_literal σ l = record { negated = l.negated; atom = instance_atom σ l.atom }

-- the same in each literal
abbrev pub instance_of : Substitution → Clause → Clause
instance_of σ c = map (instance_literal σ) c

-- a variable and the term that it is bound to
pub record Binding : Type 0 where
  pub variable : ℕ
  pub term : Term

-- variable i is bound
abbrev pub binds : List Binding → ℕ → Bool
binds [] i = false
binds (b ∷ bs) i = b.variable == i || binds bs i

-- some variable is bound twice
abbrev pub twice : List Binding → Bool
twice [] = false
twice (b ∷ bs) = binds bs b.variable || twice bs

-- a bound variable goes to its term, any other to itself
abbrev pub substitution : List Binding → Substitution
substitution [] i = var i
substitution (b ∷ bs) i = cond (b.variable == i) b.term (substitution bs i)

-- no variable bound twice, else 26; the conclusion is the instance, else 27
abbrev pub instantiate_demands : Clause → List Binding → Clause → List Demand
instantiate_demands i bs c =
    (not (twice bs) otherwise 26)
    ∷ (same_clause (instance_of (substitution bs) i) c otherwise 27)
    ∷ []

-- what the rule answers for premise i, the bindings and the conclusion c
abbrev pub instantiate : Clause → List Binding → Clause → Answer
instantiate i bs c = answer (instantiate_demands i bs c)
