-- What instantiate allows follows: a valuation of the instance, with the values of the terms for the variables, is a
-- valuation of the premise.
use Rattle.std.proofs.Common.{◌≡◌, cond, not, ◌||◌, T, eqb, [], ◌∷◌, sym, refl, ap, subst, ap₂}
use Rattle.std.specs.List.{AllByRecursion}
use Rattle.logic.specs.Syntax.{Term, Terms, Atom, Literal, Clause, var, app, []ₜ, ◌∷ₜ◌, predicate, equal}
use Rattle.logic.specs.Structures.{Structure, Valuation, Element, OfElements, value, values, atom_truth, literal_truth, clause_truth}
use Rattle.inference.specs.Law.{Follows}
use Rattle.inference.specs.Instantiate.{Substitution, instance_term, instance_terms, instance_atom, instance_literal, instance_of, substitution, instantiate_demands}
use Rattle.inference.specs.Soundness.{InstantiateIsSound}
use Rattle.inference.proofs.Same.{clause_is}
use Rattle.inference.proofs.Demands.{met}

-- a valuation by elements gives every term an element
module _ (S : Structure) (v : Valuation) (elements : OfElements S v) where
  mutual
    value_in : (t : Term) → Element S.size (value S v t)
    value_in (var i) = elements i
    value_in (app s ts) = S.closed s (values S v ts) (values_in ts)

    values_in : (ts : Terms) → AllByRecursion (Element S.size) (values S v ts)
    values_in []ₜ = tt
    values_in (t ∷ₜ ts) = (value_in t, values_in ts)

-- the valuation that gives each variable the value of its term
abbrev through : Structure → Valuation → Substitution → Valuation
through S v σ i = value S v (σ i)

module _ (S : Structure) (v : Valuation) (σ : Substitution) where
  mutual
    value_instance : (t : Term) → value S v (instance_term σ t) ≡ value S (through S v σ) t
    value_instance (var i) = refl
    value_instance (app s ts) = ap (S.function s) (values_instance ts)

    values_instance : (ts : Terms) → values S v (instance_terms σ ts) ≡ values S (through S v σ) ts
    values_instance []ₜ = refl
    values_instance (t ∷ₜ ts) = ap₂ ◌∷◌ (value_instance t) (values_instance ts)

  atom_instance : (a : Atom) → atom_truth S v (instance_atom σ a) ≡ atom_truth S (through S v σ) a
  atom_instance (predicate p ts) = ap (S.relation p) (values_instance ts)
  atom_instance (equal s t) = ap₂ eqb (value_instance s) (value_instance t)

  literal_instance : (l : Literal) → literal_truth S v (instance_literal σ l) ≡ literal_truth S (through S v σ) l
  literal_instance l = ap (λ b. cond l.negated (not b) b) (atom_instance l.atom)

  clause_instance : (c : Clause) → clause_truth S v (instance_of σ c) ≡ clause_truth S (through S v σ) c
  clause_instance [] = refl
  clause_instance (l ∷ c) = ap₂ ◌||◌ (literal_instance l) (clause_instance c)

pub instance_follows : (i : Clause) (σ : Substitution) → Follows (i ∷ []) (instance_of σ i)
instance_follows i σ S h v e =
    subst T (sym (clause_instance S v σ i)) (h.0 (through S v σ) (λ k. value_in S v e (σ k)))

pub instantiate_is_sound : InstantiateIsSound
instantiate_is_sound i bs c ok =
    subst (Follows (i ∷ [])) (clause_is (instance_of (substitution bs) i) c (met (instantiate_demands i bs c) ok).1.0)
    (instance_follows i (substitution bs))
