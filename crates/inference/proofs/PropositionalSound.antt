-- What propositional allows follows: a true literal of the premise is a literal of the conclusion.
use Rattle.std.proofs.Common.{T, [], ◌∷◌, subst, ⊎_elim}
use Rattle.std.proofs.Math.Facts.{and_yes, or_yes}
use Rattle.logic.specs.Syntax.{Literal, Clause}
use Rattle.logic.specs.Structures.{Structure, Valuation, literal_truth, clause_truth}
use Rattle.inference.specs.Same.{same_literal, stands_in, within}
use Rattle.inference.specs.Propositional.{propositional_demands}
use Rattle.inference.specs.Soundness.{PropositionalIsSound}
use Rattle.inference.proofs.Bools.{or_left, or_right}
use Rattle.inference.proofs.Same.{literal_is}
use Rattle.inference.proofs.Demands.{met}

module _ (S : Structure) (v : Valuation) where
  -- a true literal makes each clause true in which it occurs
  stands_truth : (l : Literal) (c : Clause) → T (stands_in l c) → T (literal_truth S v l) → T (clause_truth S v c)
  stands_truth l [] h t = h
  stands_truth l (m ∷ c) h t =
      ⊎_elim
      (λ (q : T (same_literal l m)). or_left (literal_truth S v m) (clause_truth S v c) (subst (λ (x : Literal). T (literal_truth S v x)) (literal_is l m q) t))
      (λ (q : T (stands_in l c)). or_right (literal_truth S v m) (clause_truth S v c) (stands_truth l c q t))
      (or_yes (same_literal l m) (stands_in l c) h)

  within_truth : (c d : Clause) → T (within c d) → T (clause_truth S v c) → T (clause_truth S v d)
  within_truth [] d h t = absurd t
  within_truth (l ∷ c) d h t =
      ⊎_elim
      (λ (q : T (literal_truth S v l)). stands_truth l d (and_yes (stands_in l d) (within c d) h).0 q)
      (λ (q : T (clause_truth S v c)). within_truth c d (and_yes (stands_in l d) (within c d) h).1 q)
      (or_yes (literal_truth S v l) (clause_truth S v c) t)

pub propositional_is_sound : PropositionalIsSound
propositional_is_sound i c ok S h v e =
    within_truth S v i c (and_yes (within i c) (within c i) (met (propositional_demands i c) ok).0).0 (h.0 v e)
