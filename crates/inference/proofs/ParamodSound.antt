-- What paramod allows follows: where the equality is true the replacement changes no value, and where it is not,
-- another literal of its clause is true.
use Rattle.std.proofs.Common.{◌≡◌, ℕ, zero, suc, Bool, true, false, cond, not, ◌||◌, T, eqb, List, [], ◌∷◌, get_or, sym, refl, ap, ◌∙◌, subst, ap₂, eqb→eq}
use Rattle.logic.specs.Syntax.{Term, Terms, Atom, Literal, Clause, var, app, []ₜ, ◌∷ₜ◌, predicate, equal}
use Rattle.logic.specs.Literals.{literal}
use Rattle.logic.specs.Structures.{Structure, Valuation, value, values, atom_truth, literal_truth, clause_truth}
use Rattle.inference.specs.Law.{Follows}
use Rattle.inference.specs.Literals.{has, without, with_literal}
use Rattle.inference.specs.Equations.{left, right}
use Rattle.inference.specs.Positions.{term_at, argument_at, put_term, put_argument, arguments, with_arguments, at_position, put}
use Rattle.inference.specs.Paramod.{positive_equality, is_term, paramodulant, paramod_demands}
use Rattle.inference.specs.Soundness.{ParamodIsSound}
use Rattle.inference.proofs.Bools.{paramodulated}
use Rattle.inference.proofs.Same.{term_is, clause_is}
use Rattle.inference.proofs.Truth.{truth_append}
use Rattle.inference.proofs.Demands.{met, literal_apart, literal_put}

-- a term replaced by one of the same value keeps the values around it
module _ (S : Structure) (v : Valuation) (s new : Term) (e : value S v s ≡ value S v new) where
  mutual
    put_value : (t : Term) (p : List ℕ) → T (is_term (term_at t p) s) → value S v (put_term t p new) ≡ value S v t
    put_value (var i) [] h = sym e ∙ sym (ap (value S v) (term_is (var i) s h))
    put_value (var i) (k ∷ p) h = absurd h
    put_value (app f ts) [] h = sym e ∙ sym (ap (value S v) (term_is (app f ts) s h))
    put_value (app f ts) (k ∷ p) h = ap (S.function f) (put_values ts k p h)

    put_values : (ts : Terms) (k : ℕ) (p : List ℕ) → T (is_term (argument_at ts k p) s)
        → values S v (put_argument ts k p new) ≡ values S v ts
    put_values []ₜ k p h = absurd h
    put_values (t ∷ₜ ts) zero p h = absurd h
    put_values (t ∷ₜ ts) (suc zero) p h = ap (λ x. x ∷ values S v ts) (put_value t p h)
    put_values (t ∷ₜ ts) (suc (suc k)) p h = ap (λ xs. value S v t ∷ xs) (put_values ts (suc k) p h)

module _ (S : Structure) (v : Valuation) where
  -- the truth of an atom depends on the values of its arguments alone
  arguments_truth : (a : Atom) (us : Terms) → values S v us ≡ values S v (arguments a)
      → atom_truth S v (with_arguments a us) ≡ atom_truth S v a
  arguments_truth (predicate q ts) us h = ap (S.relation q) h
  arguments_truth (equal s t) []ₜ h = refl
  arguments_truth (equal s t) (u ∷ₜ []ₜ) h = refl
  arguments_truth (equal s t) (u ∷ₜ (w ∷ₜ us)) h = ap₂ eqb (ap (λ xs. get_or xs 0 0) h) (ap (λ xs. get_or xs 1 0) h)

  put_truth : (l : Literal) (p : List ℕ) (s new : Term) → T (is_term (at_position l p) s) → value S v s ≡ value S v new
      → literal_truth S v (put l p new) ≡ literal_truth S v l
  put_truth l [] s new h e = absurd h
  put_truth l (k ∷ p) s new h e =
      ap (λ b. cond l.negated (not b) b)
      (arguments_truth l.atom (put_argument (arguments l.atom) k p new) (put_values S v s new e (arguments l.atom) k p h))

  sides : (n : Bool) (a : Atom) → let l : Literal = record { negated = n; atom = a } in
      T (positive_equality l) → T (literal_truth S v l) → value S v (left l) ≡ value S v (right l)
  sides true a h t = absurd h
  sides false (predicate q ts) h t = absurd h
  sides false (equal s u) h t = eqb→eq (value S v s) (value S v u) t

  -- an equality that is not negated and true has sides of one value
  equality_sides : (l : Literal) → T (positive_equality l) → T (literal_truth S v l) → value S v (left l) ≡ value S v (right l)
  equality_sides l h t = sides l.negated l.atom h t

pub paramodulant_follows : (i j : Clause) (a b : ℕ) (p : List ℕ) → T (has i a) → T (has j b)
    → T (positive_equality (literal i a)) → T (is_term (at_position (literal j b) p) (left (literal i a)))
    → Follows (i ∷ j ∷ []) (paramodulant i j a b p)
paramodulant_follows i j a b p ha hb eq at S h v e =
    let l = literal i a in
    let m = literal j b in
    let n = put m p (right l) in
    subst T
    (sym (truth_append S v (without i a) (with_literal j b n) ∙ ap (λ x. clause_truth S v (without i a) || x) (literal_put S v j b n hb)))
    (paramodulated (literal_truth S v l) (literal_truth S v m) (literal_truth S v n) (clause_truth S v (without i a)) (clause_truth S v (without j b))
    (λ t. put_truth S v m p (left l) (right l) at (equality_sides S v l eq t))
    (subst T (literal_apart S v i a ha) (h.0 v e))
    (subst T (literal_apart S v j b hb) (h.1.0 v e)))

pub paramod_is_sound : ParamodIsSound
paramod_is_sound i j a b p c ok =
    let d = met (paramod_demands i j a b p c) ok in
    subst (Follows (i ∷ j ∷ [])) (clause_is (paramodulant i j a b p) c d.1.1.1.1.1.0)
    (paramodulant_follows i j a b p d.0 d.1.0 d.1.1.0 d.1.1.1.1.0)
