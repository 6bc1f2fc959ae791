-- Passing over words by counting: steps and sums.
use Rattle.std.proofs.Common.{◌≡◌, ℕ, zero, suc, ◌+◌, ◌-◌, ◌<◌, ◌≤◌, min, List, [], ◌∷◌, length, get_or, drop, sym, refl, ap, ◌∙◌, inl, inr, not-suc-le-zero, add_assoc, suc-add, zero-add, arith, length-drop}
use Rattle.std.specs.List.{between}
use Rattle.std.proofs.lemmas.List.{drop_all, take_all, at_drop_more}
use Rattle.std.proofs.lemmas.Bool.{cases_lt}
use Rattle.logic.specs.Walks.{word_arity, passed, past}

module _ (arity : ℕ → ℕ) where
  pub passed_nil : (n : ℕ) → passed arity n [] ≡ 0
  unfolding passed
  passed_nil n = refl

  pub passed_zero : (ws : List ℕ) → passed arity 0 ws ≡ 0
  unfolding passed
  passed_zero [] = refl
  passed_zero (w ∷ ws) = refl

  pub passed_suc : (n w : ℕ) (ws : List ℕ) → passed arity (suc n) (w ∷ ws) ≡ suc (passed arity (word_arity arity w + n) ws)
  unfolding passed
  passed_suc n w ws = refl

  -- as many terms as there are words, or more, take all of them
  pub passed_all : (n : ℕ) (ws : List ℕ) → length ws ≤ n → passed arity n ws ≡ length ws
  unfolding passed
  passed_all n [] h = refl
  passed_all zero (w ∷ ws) h = absurd (not-suc-le-zero h)
  passed_all (suc n) (w ∷ ws) h = ap suc (passed_all (word_arity arity w + n) ws (omega arith))

  pub passed_min : (n m : ℕ) (ws : List ℕ) → length ws ≤ m → passed arity (min n m) ws ≡ passed arity n ws
  passed_min n m ws h = elim (cases_lt n m) [
    | inl l ↦ let e : min n m ≡ n = omega arith in ap (λ k. passed arity k ws) e
    | inr l ↦ passed_all (min n m) ws (omega arith) ∙ sym (passed_all n ws (omega arith))
  ]

  pub past_zero : (ws : List ℕ) → past arity 0 ws ≡ ws
  past_zero ws = ap (λ k. drop k ws) (passed_zero ws)

  -- first n, then m more
  pub passed_plus : (n m : ℕ) (ws : List ℕ) → passed arity (n + m) ws ≡ passed arity n ws + passed arity m (past arity n ws)
  unfolding passed
  passed_plus n m [] = refl
  passed_plus zero m (w ∷ ws) = ap (λ k. passed arity k (w ∷ ws)) (zero-add m) ∙ sym (zero-add (passed arity m (w ∷ ws)))
  passed_plus (suc n) m (w ∷ ws) =
      ap (λ k. passed arity k (w ∷ ws)) (suc-add n m)
      ∙ ap (λ k. suc (passed arity k ws)) (sym (add_assoc (word_arity arity w) n m))
      ∙ ap suc (passed_plus (word_arity arity w + n) m ws)
      ∙ sym (suc-add (passed arity (word_arity arity w + n) ws) (passed arity m (past arity (word_arity arity w + n) ws)))

  -- ── One step of a walk ──

  pub passed_more : (ws : List ℕ) (k n : ℕ) → k < length ws → 0 < n
      → passed arity n (drop k ws) ≡ suc (passed arity (n - 1 + word_arity arity (get_or ws k 0)) (drop (k + 1) ws))
  passed_more ws k zero h p = absurd (not-suc-le-zero p)
  passed_more ws k (suc m) h p =
      let q : word_arity arity (get_or ws k 0) + m ≡ suc m - 1 + word_arity arity (get_or ws k 0) = omega arith in
      at_drop_more (passed arity (suc m)) ws k 0 h
      ∙ passed_suc m (get_or ws k 0) (drop (k + 1) ws)
      ∙ ap (λ x. suc (passed arity x (drop (k + 1) ws))) q

  -- a word passed, with a count that stops at a limit no less than the number of words
  pub walk_step : (ws : List ℕ) (most place due due' a total : ℕ) → place < length ws → 0 < due → length ws ≤ most
      → a ≡ word_arity arity (get_or ws place 0) → due' ≡ min (due - 1 + a) most
      → place + passed arity due (drop place ws) ≡ total
      → place + 1 + passed arity due' (drop (place + 1) ws) ≡ total
  walk_step ws most place due due' a total h p l e f g =
      let x : passed arity due' (drop (place + 1) ws) ≡ passed arity (due - 1 + word_arity arity (get_or ws place 0)) (drop (place + 1) ws) =
      ap (λ k. passed arity k (drop (place + 1) ws)) (f ∙ ap (λ k. min (due - 1 + k) most) e)
      ∙ passed_min (due - 1 + word_arity arity (get_or ws place 0)) most (drop (place + 1) ws) (omega (arith, length-drop (place + 1) ws)) in
      omega (arith, passed_more ws place due h p)

  -- a walk ends where nothing is due or no word is left
  pub walk_done : (ws : List ℕ) (place due total : ℕ) → due ≤ 0 → place + passed arity due (drop place ws) ≡ total → place ≡ total
  walk_done ws place due total h g =
      let e : due ≡ 0 = omega arith in
      omega (arith, ap (λ k. passed arity k (drop place ws)) e, passed_zero (drop place ws))

  -- nothing is passed from a place behind the words on
  pub passed_behind : (ws : List ℕ) (place n : ℕ) → length ws ≤ place → passed arity n (drop place ws) ≡ 0
  passed_behind ws place n h = ap (passed arity n) (drop_all place ws h) ∙ passed_nil n

  pub walk_out : (ws : List ℕ) (place due total : ℕ) → length ws ≤ place → place + passed arity due (drop place ws) ≡ total → place ≡ total
  walk_out ws place due total h g = omega (arith, passed_behind ws place due h)

  -- the words from a place on, lent as the range up to their end
  pub passed_rest : (ws rest : List ℕ) (place n r : ℕ) → rest ≡ between place (length ws) ws → r ≡ passed arity n rest
      → place + r ≡ place + passed arity n (drop place ws)
  passed_rest ws rest place n r e f =
      ap (λ k. place + k) (f ∙ ap (passed arity n) (e ∙ take_all (length ws - place) (drop place ws) (omega (arith, length-drop place ws))))
