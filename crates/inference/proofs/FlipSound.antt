-- What flip allows follows: an equality and the one with its sides exchanged are true under the same valuations.
use Rattle.std.proofs.Common.{◌≡◌, ℕ, zero, suc, Bool, cond, not, ◌||◌, T, eqb, [], ◌∷◌, sym, refl, ap, ◌∙◌, subst}
use lib.Dec.{eqb-zero-suc, eqb-suc-zero, eqb-suc-suc}
use Rattle.logic.specs.Syntax.{Atom, Literal, predicate, equal}
use Rattle.logic.specs.Literals.{literal}
use Rattle.logic.specs.Structures.{Structure, Valuation, value, literal_truth, clause_truth}
use Rattle.inference.specs.Law.{Follows}
use Rattle.inference.specs.Literals.{without, with_literal}
use Rattle.inference.specs.Equations.{equality}
use Rattle.inference.specs.Flip.{flipped, flip_demands}
use Rattle.inference.specs.Soundness.{FlipIsSound}
use Rattle.inference.proofs.Same.{clause_is}
use Rattle.inference.proofs.Demands.{met, literal_apart, literal_put}

eqb_turned : (m n : ℕ) → eqb m n ≡ eqb n m
eqb_turned zero zero = refl
eqb_turned zero (suc n) = eqb-zero-suc n ∙ sym (eqb-suc-zero n)
eqb_turned (suc m) zero = eqb-suc-zero m ∙ sym (eqb-zero-suc m)
eqb_turned (suc m) (suc n) = eqb-suc-suc m n ∙ eqb_turned m n ∙ sym (eqb-suc-suc n m)

module _ (S : Structure) (v : Valuation) where
  turned : (n : Bool) (a : Atom) → let l : Literal = record { negated = n; atom = a } in
      T (equality l) → literal_truth S v (flipped l) ≡ literal_truth S v l
  turned n (predicate q ts) h = absurd h
  turned n (equal s t) h = ap (λ b. cond n (not b) b) (eqb_turned (value S v t) (value S v s))

  flipped_truth : (l : Literal) → T (equality l) → literal_truth S v (flipped l) ≡ literal_truth S v l
  flipped_truth l h = turned l.negated l.atom h

pub flip_is_sound : FlipIsSound
flip_is_sound i a c ok =
    let d = met (flip_demands i a c) ok in
    subst (Follows (i ∷ [])) (clause_is (with_literal i a (flipped (literal i a))) c d.1.1.0)
    (λ S h v e.
    subst T
    (literal_apart S v i a d.0
    ∙ ap (λ x. x || clause_truth S v (without i a)) (sym (flipped_truth S v (literal i a) d.1.0))
    ∙ sym (literal_put S v i a (flipped (literal i a)) d.0))
    (h.0 v e))
