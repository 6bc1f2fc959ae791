-- What words become where bound variables are replaced by the words of their terms.
use Rattle.std.specs.Prelude.{◌≡◌, ℕ, ◌+◌, ◌<◌, ◌≤◌, List, [], ◌∷◌, length, Option, MatchOption, slice_index, slice_index_or}
use Rattle.logic.specs.Limits as language
use Rattle.reading.specs.declared.bindings.Bindings.{Bindings}
use Rattle.reading.specs.Limits as limits
use Rattle.reading.specs.Bindings.{held_at}

-- bindings have room for so many variables, and for one place more
pub record Room (b : Bindings) : Type 0 where
  pub variables : length b.variables ≡ limits.bindings
  pub places : length b.places ≡ limits.bindings + 1

-- some variable stands at two places
pub record Repeats (vs : List ℕ) : Type 0 where
  pub first : ℕ
  pub second : ℕ
  pub order : first < second
  pub there : second < length vs
  pub same : slice_index_or vs first 0 ≡ slice_index vs second
  pub variable : slice_index_or vs second 0 < language.variables

-- the word is a variable that stands at place k
abbrev pub StandsAt : List ℕ → ℕ → ℕ → Type 0
StandsAt vs w k = (k < length vs) × (slice_index vs k ≡ w) × (w < language.variables)

-- a place at which the word stands as a variable, or none where there is no such place
abbrev pub PlaceOf : List ℕ → ℕ → Option ℕ → Type 0
PlaceOf vs w r = MatchOption r ((k : ℕ) → StandsAt vs w k → ⊥) (λ k. StandsAt vs w k)

-- each bound variable becomes the words of its term, and every other word stays
pub record ReplacesWords (b : Bindings) (σ : ℕ → List ℕ) : Type 0 where
  pub few : b.count ≤ limits.bindings
  pub bound : (k : ℕ) → k < b.count → slice_index b.variables k < language.variables → σ (slice_index b.variables k) ≡ (held_at b k).words
  pub others : (w : ℕ) → ((k : ℕ) → k < b.count → slice_index b.variables k ≡ w → w < language.variables → ⊥) → σ w ≡ w ∷ []
