-- Bindings as they are kept, beside the bindings on trees that they are.
use Rattle.std.proofs.Common.{◌≡◌, ℕ, zero, suc, ◌+◌, ◌-◌, ◌<◌, ◌≤◌, List, [], ◌∷◌, map, length, get_or, take, drop, sym, ap, ◌∙◌, inl, inr, zero-add, arith}
use Rattle.std.specs.List.{AllByRecursion, between}
use Rattle.std.proofs.lemmas.List.{length-map, get_or-map, length-take-le, get_or-take, get_or_past}
use Rattle.std.proofs.ByRecursion.{All-get_or, All-from_get_or}
use Rattle.std.proofs.lemmas.List.FromFn.{length-map-range_with_len, get_or-map-range_with_len}
use Rattle.std.proofs.lemmas.Bool.{cases_lt}
use Rattle.logic.specs.Limits as language
use Rattle.logic.specs.declared.row.SymbolRow.{SymbolRow}
use Rattle.logic.specs.Syntax.{Term, var, app}
use Rattle.inference.specs.Instantiate.{Binding}
use Rattle.logic.specs.Words.{term_words}
use Rattle.bench.specs.Bindings.{LawfulBinding}
use Rattle.reading.specs.declared.bindings.Bindings.{Bindings}
use Rattle.reading.specs.Limits as limits
use Rattle.reading.specs.Bindings.{Bound, held_at, held}
use Rattle.bench.specs.Bindings.{kept_binding}
use Rattle.inference.specs.Conclusions.{BoundOnce}
use Rattle.rules.specs.Images.{Room, Repeats}

-- what stands for a binding past the end
abbrev pub no_binding : Binding
no_binding = record { variable = 0; term = var 0 }

-- binding k, counted from 0
abbrev pub nth_binding : List Binding → ℕ → Binding
nth_binding bs k = get_or bs k no_binding

-- ── Variables bound once, by their places ──

-- places of variables that are bound once have different variables
pub bound_apart : (bs : List Binding) → BoundOnce bs → (j k : ℕ) → j < k → k < length bs → (nth_binding bs j).variable ≡ (nth_binding bs k).variable → ⊥
bound_apart [] once j k h l e = omega arith
bound_apart (b ∷ bs) once j zero h l e = omega arith
bound_apart (b ∷ bs) once zero (suc k) h l e =
    All-get_or (λ (c : Binding). c.variable ≡ b.variable → ⊥) bs k no_binding (omega arith) once.0 (sym e)
bound_apart (b ∷ bs) once (suc j) (suc k) h l e = bound_apart bs once.1 j k (omega arith) (omega arith) e

-- and variables that differ at different places are bound once
pub apart_bound : (bs : List Binding) → ((j k : ℕ) → j < k → k < length bs → (nth_binding bs j).variable ≡ (nth_binding bs k).variable → ⊥) → BoundOnce bs
apart_bound [] h = tt
apart_bound (b ∷ bs) h = (
  All-from_get_or (λ (c : Binding). c.variable ≡ b.variable → ⊥) bs no_binding (λ k l e. h 0 (suc k) (omega arith) (omega arith) (sym e)),
  apart_bound bs (λ j k l m e. h (suc j) (suc k) (omega arith) (omega arith) e),
)

-- a place past the end of the places is 0, and nothing lies up to there
between_past : (i j : ℕ) (places xs : List ℕ) → length places ≤ j → between i (get_or places j 0) xs ≡ []
between_past i j places xs h =
    let q : get_or places j 0 - i ≡ 0 = omega (arith, get_or_past places j 0 h) in ap (λ n. take n (drop i xs)) q

-- a term has words
some_term_word : (t : Term) → 0 < length (term_words t)
some_term_word (var i) = omega arith
some_term_word (app s ts) = omega arith

-- ── Kept bindings ──

module _ (b : Bindings) (bs : List Binding) (room : Room b) (e : held b ≡ map kept_binding bs) where
  -- as many as there are on trees, each with its variable and the words of its term
  pub counted : b.count ≡ length bs
  counted = sym (length-map-range_with_len (held_at b) 0 b.count) ∙ ap length e ∙ length-map bs kept_binding

  pub held_nth : (k : ℕ) → k < length bs → held_at b k ≡ kept_binding (nth_binding bs k)
  held_nth k h =
      sym (get_or-map-range_with_len (held_at b) 0 b.count k k (kept_binding no_binding) (omega (arith, counted)) (zero-add k))
      ∙ ap (λ (xs : List Bound). get_or xs k (kept_binding no_binding)) e
      ∙ get_or-map kept_binding bs k no_binding (kept_binding no_binding) h

  pub variable_nth : (k : ℕ) → k < length bs → get_or b.variables k 0 ≡ (nth_binding bs k).variable
  variable_nth k h = ap (λ (x : Bound). x.variable) (held_nth k h)

  pub words_nth : (k : ℕ) → k < length bs → (held_at b k).words ≡ term_words (nth_binding bs k).term
  words_nth k h = ap (λ (x : Bound). x.words) (held_nth k h)

  -- past the room there are no words, and a term has words
  pub few : b.count ≤ limits.bindings
  few = elim (cases_lt limits.bindings b.count) [
    | inl h ↦
        let none : (held_at b limits.bindings).words ≡ [] =
        between_past (get_or b.places limits.bindings 0) (limits.bindings + 1) b.places b.terms (omega (arith, room.places)) in
        let z : 0 ≡ length (term_words (nth_binding bs limits.bindings).term) =
        ap length (sym none ∙ words_nth limits.bindings (omega (arith, counted))) in
        absurd (omega (arith, some_term_word (nth_binding bs limits.bindings).term))
    | inr h ↦ h
  ]

  module _ (vs : List ℕ) (f : vs ≡ take b.count b.variables) where
    -- the variables that are bound, beside the bindings
    as_many : length vs ≡ length bs
    as_many = ap length f ∙ length-take-le b.count b.variables (omega (arith, few, room.variables)) ∙ counted

    variable_at : (k : ℕ) → k < length bs → get_or vs k 0 ≡ (nth_binding bs k).variable
    variable_at k h =
        ap (λ (xs : List ℕ). get_or xs k 0) f ∙ get_or-take b.count b.variables k 0 (omega (arith, counted)) ∙ variable_nth k h

    -- a variable that stands twice is bound twice
    pub repeats_not_once : Repeats vs → BoundOnce bs → ⊥
    repeats_not_once r once =
        let l : r.second < length bs = omega (arith, r.there, as_many) in
        let k : r.first < length bs = omega (arith, r.order) in
        bound_apart bs once r.first r.second r.order l (sym (variable_at r.first k) ∙ r.same ∙ variable_at r.second l)

    -- where none stands twice, none is bound twice
    pub once_unless_repeats : (rows : List SymbolRow) → AllByRecursion (LawfulBinding rows) bs → (Repeats vs → ⊥) → BoundOnce bs
    once_unless_repeats rows g n =
        apart_bound bs (λ j k h l q.
        let i : j < length bs = omega arith in
        let x : (nth_binding bs k).variable < language.variables = (All-get_or (LawfulBinding rows) bs k no_binding l g).0 in
        n (record {
          first = j;
          second = k;
          order = h;
          there = omega (arith, as_many);
          same = variable_at j i ∙ q ∙ sym (variable_at k l);
          variable = omega (arith, variable_at k l);
        }))
