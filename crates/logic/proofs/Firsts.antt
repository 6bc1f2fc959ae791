-- What the first place is, by places.
use Rattle.std.proofs.Common.{◌≡◌, ℕ, zero, suc, ◌+◌, ◌<◌, Bool, true, false, cond, List, [], ◌∷◌, length, get_or, Some, None, Decides, Option, sym, refl, ap, ◌∙◌, subst, inl, inr, le_of_suc-le-suc, not-suc-le-zero, zero-add, arith}
use Rattle.std.specs.List.{position, position_from}
use Rattle.std.proofs.lemmas.Iterator.Adapters.{position_from-zero}
use Rattle.std.specs.Option.{option_map}
use Rattle.std.proofs.lemmas.Bool.{cond-true, cond-false, cases_Bool, both_ways}
use Rattle.logic.specs.Directory.{first_that, FirstPlace}

module _ {A : Type 0} (p : A → Bool) where
  -- the test fails at each place below i
  abbrev pub NoneBelow : List A → ℕ → Type 0
  NoneBelow xs i = (k : ℕ) (d : A) → k < i → p (get_or xs k d) ≡ false

  later : (x : A) (xs : List A) (i : ℕ) → NoneBelow (x ∷ xs) (suc i) → NoneBelow xs i
  later x xs i h = λ k d l. h (suc k) d (omega arith)

  pub first_none : (xs : List A) → NoneBelow xs (length xs) → first_that p xs ≡ None
  unfolding first_that
  first_none [] h = refl
  first_none (x ∷ xs) h =
      cond-false (p x) (Some 0) (option_map suc (first_that p xs)) (h 0 x (omega arith))
      ∙ ap (option_map suc) (first_none xs (later x xs (length xs) h))

  pub first_some : (xs : List A) (i : ℕ) (d : A) → i < length xs → p (get_or xs i d) ≡ true → NoneBelow xs i → first_that p xs ≡ Some i
  unfolding first_that
  first_some [] i d l e h = absurd (not-suc-le-zero l)
  first_some (x ∷ xs) zero d l e h = cond-true (p x) (Some 0) (option_map suc (first_that p xs)) e
  first_some (x ∷ xs) (suc i) d l e h =
      cond-false (p x) (Some 0) (option_map suc (first_that p xs)) (h 0 x (omega arith))
      ∙ ap (option_map suc) (first_some xs i d (le_of_suc-le-suc l) e (later x xs i h))

  -- the first place, as the library counts it from a place i
  one_further : (i : ℕ) (b : Bool) (r : Option ℕ)
      → cond b (Some i) (option_map (λ k. i + 1 + k) r) ≡ option_map (λ k. i + k) (cond b (Some 0) (option_map suc r))
  one_further i true r = ap Some (omega arith)
  one_further i false None = refl
  one_further i false (Some k) = ap Some (omega arith)

  from_place : (xs : List A) (i : ℕ) → position_from p i xs ≡ option_map (λ k. i + k) (first_that p xs)
  unfolding first_that
  from_place [] i = refl
  from_place (x ∷ xs) i = ap (cond (p x) (Some i)) (from_place xs (i + 1)) ∙ one_further i (p x) (first_that p xs)

  from_zero : (r : Option ℕ) → option_map (λ k. 0 + k) r ≡ r
  from_zero None = refl
  from_zero (Some k) = ap Some (zero-add k)

  pub position_is : (xs : List A) → position p xs ≡ first_that p xs
  position_is xs = position_from-zero p xs ∙ from_place xs 0 ∙ from_zero (first_that p xs)

  module _ (Sought : A → Type 0) (decides : (x : A) → Decides (p x) (Sought x)) where
    not_here : (x : A) → p x ≡ false → Sought x → ⊥
    not_here x e s = both_ways (p x) e ((decides x).1 s)

    after : (x : A) (xs : List A) (r : Option ℕ) → p x ≡ false → FirstPlace Sought xs r → FirstPlace Sought (x ∷ xs) (option_map suc r)
    after x xs None e h = go
      where
        go : (k : ℕ) (d : A) → k < suc (length xs) → Sought (get_or (x ∷ xs) k d) → ⊥
        go zero d l s = not_here x e s
        go (suc k) d l s = h k d (le_of_suc-le-suc l) s
    after x xs (Some i) e h = (omega (arith, h.0), h.1, go)
      where
        go : (k : ℕ) (d : A) → k < suc i → Sought (get_or (x ∷ xs) k d) → ⊥
        go zero d l s = not_here x e s
        go (suc k) d l s = h.2 k d (le_of_suc-le-suc l) s

    -- the first place at which a deciding test holds is the first row sought
    pub first_place : (xs : List A) → FirstPlace Sought xs (first_that p xs)
    unfolding first_that
    first_place [] = λ k d l s. not-suc-le-zero l
    first_place (x ∷ xs) = elim (cases_Bool (p x)) [
      | inl e ↦ subst (FirstPlace Sought (x ∷ xs)) (sym (cond-true (p x) (Some 0) (option_map suc (first_that p xs)) e))
          (omega arith, λ d. (decides x).0 e, λ k d l s. not-suc-le-zero l)
      | inr e ↦ subst (FirstPlace Sought (x ∷ xs)) (sym (cond-false (p x) (Some 0) (option_map suc (first_that p xs)) e))
          (after x xs (first_that p xs) e (first_place xs))
    ]

    pub at_first : (xs : List A) (r : Option ℕ) → r ≡ first_that p xs → FirstPlace Sought xs r
    at_first xs r e = subst (FirstPlace Sought xs) (sym e) (first_place xs)
