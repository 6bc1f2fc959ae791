-- What reflexive allows is true in every structure: a term has one value under a valuation.
use Rattle.std.proofs.Common.{Bool, true, false, T, eqb, [], ◌∷◌, subst}
use lib.Dec.{eqb_refl}
use Rattle.logic.specs.Syntax.{Term, Atom, Literal, Clause, predicate, equal}
use Rattle.logic.specs.Structures.{Structure, Valuation, value, literal_truth, clause_truth}
use Rattle.inference.specs.Reflexive.{is_reflexive, reflexive_demands}
use Rattle.inference.specs.Soundness.{ReflexiveIsSound}
use Rattle.inference.proofs.Bools.{or_left}
use Rattle.inference.proofs.Same.{term_is}
use Rattle.inference.proofs.Demands.{met}

module _ (S : Structure) (v : Valuation) where
  equal_to_itself : (n : Bool) (a : Atom) → let l : Literal = record { negated = n; atom = a } in
      T (is_reflexive (l ∷ [])) → T (literal_truth S v l)
  equal_to_itself true a h = absurd h
  equal_to_itself false (predicate f ts) h = absurd h
  equal_to_itself false (equal s t) h =
      subst (λ (u : Term). T (eqb (value S v s) (value S v u))) (term_is s t h) (eqb_refl (value S v s))

  reflexive_truth : (c : Clause) → T (is_reflexive c) → T (clause_truth S v c)
  reflexive_truth [] h = h
  reflexive_truth (l ∷ []) h = or_left (literal_truth S v l) false (equal_to_itself l.negated l.atom h)
  reflexive_truth (l ∷ m ∷ c) h = absurd h

pub reflexive_is_sound : ReflexiveIsSound
reflexive_is_sound c ok S h v e = reflexive_truth S v c (met (reflexive_demands c) ok).0
