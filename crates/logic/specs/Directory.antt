-- The first row that has a key.
use Rattle.std.specs.Prelude.{ℕ, suc, ◌<◌, Bool, cond, List, [], ◌∷◌, length, Some, None, Option, MatchOption, ◌==◌, slice_index_or}
use Rattle.std.specs.Option.{option_map}
use Rattle.std.specs.Str.{bytes_eq}
use Rattle.logic.specs.declared.entry.Entry.{Entry}
use Rattle.logic.specs.declared.row.SymbolRow.{SymbolRow}
use Rattle.logic.specs.Symbols.{name_of}

-- the first place, from 0, at which the test holds
unfoldable pub first_that : {A : Type 0} → (A → Bool) → List A → Option ℕ
first_that p [] = None
first_that p (x ∷ xs) = cond (p x) (Some 0) (option_map suc (first_that p xs))

-- r is the first place of a row that is sought, or none where no row is
abbrev pub FirstPlace : {A : Type 0} → (A → Type 0) → List A → Option ℕ → Type 0
FirstPlace {A} Sought rows r =
    MatchOption r ((k : ℕ) (d : A) → k < length rows → Sought (slice_index_or rows k d) → ⊥)
    (λ i. (i < length rows) × ((d : A) → Sought (slice_index_or rows i d)) × ((k : ℕ) (d : A) → k < i → Sought (slice_index_or rows k d) → ⊥))

-- the entry has this step number
abbrev pub has_number : Entry → ℕ → Bool
has_number e n = e.number == n

-- the row has this name
abbrev pub has_name : SymbolRow → List ℕ → Bool
has_name row name = bytes_eq (name_of row) name

-- the place of the first entry with this step number
abbrev pub place_of_number : List Entry → ℕ → Option ℕ
place_of_number entries n = first_that (λ e. has_number e n) entries

-- the place of the first row with this name
abbrev pub place_of_name : List SymbolRow → List ℕ → Option ℕ
place_of_name rows name = first_that (λ row. has_name row name) rows
