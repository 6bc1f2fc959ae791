-- The truth of joined clauses, and of a clause by one of its literals and the others.
use Rattle.std.proofs.Common.{◌≡◌, ℕ, zero, suc, ◌<◌, ◌||◌, [], ◌∷◌, ◌++◌, length, get_or, take, drop, set, sym, refl, ap, ◌∙◌, le_of_suc-le-suc, not-suc-le-zero}
use Rattle.std.proofs.Math.Bool.{or_assoc}
use Rattle.logic.specs.Syntax.{Literal, Clause}
use Rattle.logic.specs.Structures.{Structure, Valuation, literal_truth, clause_truth}
use Rattle.inference.proofs.Bools.{or_front}

module _ (S : Structure) (v : Valuation) where
  pub truth_append : (c d : Clause) → clause_truth S v (c ++ d) ≡ (clause_truth S v c || clause_truth S v d)
  truth_append [] d = refl
  truth_append (l ∷ c) d =
      ap (λ b. literal_truth S v l || b) (truth_append c d)
      ∙ sym (or_assoc (literal_truth S v l) (clause_truth S v c) (clause_truth S v d))

  -- a literal of a clause, and the others
  pub truth_apart : (c : Clause) (k : ℕ) (d : Literal) → k < length c
      → clause_truth S v c ≡ (literal_truth S v (get_or c k d) || clause_truth S v (take k c ++ drop (suc k) c))
  truth_apart [] k d h = absurd (not-suc-le-zero h)
  truth_apart (l ∷ c) zero d h = refl
  truth_apart (l ∷ c) (suc k) d h =
      ap (λ b. literal_truth S v l || b) (truth_apart c k d (le_of_suc-le-suc h))
      ∙ or_front (literal_truth S v l) (literal_truth S v (get_or c k d)) (clause_truth S v (take k c ++ drop (suc k) c))

  -- a literal put in the place of another
  pub truth_set : (c : Clause) (k : ℕ) (m : Literal) → k < length c
      → clause_truth S v (set c k m) ≡ (literal_truth S v m || clause_truth S v (take k c ++ drop (suc k) c))
  truth_set [] k m h = absurd (not-suc-le-zero h)
  truth_set (l ∷ c) zero m h = refl
  truth_set (l ∷ c) (suc k) m h =
      ap (λ b. literal_truth S v l || b) (truth_set c k m (le_of_suc-le-suc h))
      ∙ or_front (literal_truth S v l) (literal_truth S v m) (clause_truth S v (take k c ++ drop (suc k) c))
