-- One binding more.
use Rattle.std.proofs.Common.{◌≡◌, ℕ, zero, suc, ◌+◌, ◌-◌, ◌<◌, ◌≤◌, eqb, ◌≢◌, List, Result, [], ◌∷◌, ◌++◌, map, length, get_or, take, drop, sym, refl, ap, ◌∙◌, subst, ap₂, ⊎_elim, arith}
use Rattle.std.specs.List.{between, range_with_len}
use Rattle.std.proofs.lemmas.List.FromFn.{map-range_with_len_more}
use Rattle.std.proofs.lemmas.List.{get_or-set_same, get_or-set_other, take-take}
use Rattle.std.proofs.lemmas.Slice.{between_is}
use Rattle.std.proofs.lemmas.Bool.{cases_eq}
use Rattle.std.proofs.lemmas.Bool.Decides.{nat_tests}
use Rattle.reading.specs.declared.bindings.Bindings.{Bindings}
use Rattle.reading.specs.Limits as limits
use Rattle.tokens.specs.declared.fault.Fault.TheVariants.{ManyBindings}
use Rattle.reading.specs.Cursors.{bracket_at}
use Rattle.reading.specs.States.{State, Halt, ◌>>=◌, ◌then◌, from}
use Rattle.reading.proofs.Lists.{listed, marks_are_brackets}
use Rattle.reading.specs.Bindings.{Bound, Bounds, held_at, held, Filled, pushed, binding_mark, binding_turn, binding, binding_list}

-- other words behind those of the bindings
abbrev pub with_terms : Bindings → List ℕ → Bindings
with_terms b terms = record { variables = b.variables; places = b.places; terms = terms; count = b.count }

abbrev pub bound : ℕ → List ℕ → Bound
bound i ws = record { variable = i; words = ws }

counted_same : {X : Type 0} (f g : ℕ → X) (a n : ℕ) → ((k : ℕ) → a ≤ k → k < a + n → f k ≡ g k) → map f (range_with_len a n) ≡ map g (range_with_len a n)
counted_same f g a zero h = refl
counted_same f g a (suc n) h = ap₂ (λ x xs. x ∷ xs) (h a (omega arith) (omega arith)) (counted_same f g (a + 1) n (λ k l m. h k (omega arith) (omega arith)))

pub between_same : (xs ys : List ℕ) (i j c : ℕ) → take c xs ≡ take c ys → j ≤ c → between i j xs ≡ between i j ys
between_same xs ys i j c e h =
    between_is xs i j ∙ ap (drop i) (sym (take-take j c xs h) ∙ ap (take j) e ∙ take-take j c ys h) ∙ sym (between_is ys i j)

module _ (b : Bindings) (terms : List ℕ) (c v e : ℕ) (few : b.count < limits.bindings) (places : length b.places ≡ limits.bindings + 1) (full : Filled b c) where
  abbrev more : Bindings
  more = pushed (with_terms b terms) v e

  place_last : get_or more.places (b.count + 1) 0 ≡ e
  place_last = get_or-set_same b.places (b.count + 1) e 0 (omega arith)

  place_old : (k : ℕ) → k ≤ b.count → get_or more.places k 0 ≡ get_or b.places k 0
  place_old k h = let ne : k ≢ b.count + 1 = omega arith in get_or-set_other b.places (b.count + 1) k e 0 ne

  pub filled_push : c ≤ e → e ≤ limits.binding_words → Filled more e
  filled_push up within = (omega arith, within, place_last, below, rising)
    where
      rising : (k : ℕ) → k < b.count + 1 → get_or more.places k 0 ≤ get_or more.places (k + 1) 0
      rising k h =
          ⊎_elim
          (λ (q : k ≡ b.count). subst (λ i. get_or more.places i 0 ≤ get_or more.places (i + 1) 0) (sym q) (omega (arith, place_old b.count (omega arith), full.2, place_last)))
          (λ (q : k ≢ b.count). omega (arith, place_old k (omega arith), place_old (k + 1) (omega arith), full.4 k (omega arith)))
          (cases_eq k b.count)

      below : (k : ℕ) → k ≤ b.count + 1 → get_or more.places k 0 ≤ e
      below k h = ⊎_elim (λ (q : k ≡ b.count + 1). subst (λ i. get_or more.places i 0 ≤ e) (sym q) (omega (arith, place_last))) (λ (q : k ≢ b.count + 1). omega (arith, place_old k (omega arith), full.3 k (omega arith))) (cases_eq k (b.count + 1))

  pub held_push : length b.variables ≡ limits.bindings → take c terms ≡ take c b.terms → held more ≡ held b ++ record { variable = v; words = between c e terms } ∷ []
  held_push vars same =
      map-range_with_len_more (held_at more) 0 b.count b.count (omega arith)
      ∙ ap₂ (λ xs x. xs ++ x ∷ []) (counted_same (held_at more) (held_at b) 0 b.count (λ k l m. old k (omega arith))) last
    where
      old : (k : ℕ) → k < b.count → held_at more k ≡ held_at b k
      old k h =
          let ne : k ≢ b.count = omega arith in
          let from-same = place_old k (omega arith) in
          let to_same = place_old (k + 1) (omega arith) in
          ap₂ bound (get_or-set_other b.variables b.count k v 0 ne)
          (ap₂ (λ i j. between i j terms) from-same to_same ∙ between_same terms b.terms (get_or b.places k 0) (get_or b.places (k + 1) 0) c same (full.3 (k + 1) (omega arith)))

      last : held_at more b.count ≡ record { variable = v; words = between c e terms }
      last =
          ap₂ bound (get_or-set_same b.variables b.count v 0 (omega arith))
          (ap₂ (λ i j. between i j terms) (place_old b.count (omega arith) ∙ full.2) place_last)

module _ (bs : List ℕ) where
  bindings_suc : (n : ℕ) (done : List Bound) (st : State) → binding_list bs (suc n) done st ≡ (from st (binding_mark bs (eqb n 0) st.pos) >>= binding_turn (binding bs) (binding_list bs n) done st)
  unfolding binding_list
  bindings_suc n done st = refl

  -- what the next bracket leads to, where these bindings are read
  abbrev pub bindings_from : ℕ → List Bound → State → Result Bounds Halt
  bindings_from given done st = from st (bracket_at bs st.pos then listed ManyBindings (eqb given limits.bindings)) >>= binding_turn (binding bs) (binding_list bs (limits.bindings + 1 - (given + 1))) done st

  pub bindings_turn : (given : ℕ) (done : List Bound) (st : State) → given ≤ limits.bindings → binding_list bs (limits.bindings + 1 - given) done st ≡ bindings_from given done st
  bindings_turn given done st few =
      let e : limits.bindings + 1 - given ≡ suc (limits.bindings - given) = omega arith in
      let f : eqb (limits.bindings - given) 0 ≡ eqb given limits.bindings = grind (arith, nat_tests) in
      let g : limits.bindings - given ≡ limits.bindings + 1 - (given + 1) = omega arith in
      ap (λ n. binding_list bs n done st) e ∙ bindings_suc (limits.bindings - given) done st
      ∙ ap (λ r. from st r >>= binding_turn (binding bs) (binding_list bs (limits.bindings - given)) done st) (marks_are_brackets ManyBindings (eqb (limits.bindings - given) 0) bs st.pos)
      ∙ ap (λ b. from st (bracket_at bs st.pos then listed ManyBindings b) >>= binding_turn (binding bs) (binding_list bs (limits.bindings - given)) done st) f
      ∙ ap (λ n. from st (bracket_at bs st.pos then listed ManyBindings (eqb given limits.bindings)) >>= binding_turn (binding bs) (binding_list bs n) done st) g
