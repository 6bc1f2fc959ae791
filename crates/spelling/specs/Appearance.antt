-- Symbols in the order in which their names appear.
use Rattle.std.specs.Prelude.{◌≡◌, ℕ, ◌+◌, ◌<◌, Bool, true, List, [], ◌∷◌, ◌++◌}
use Rattle.logic.specs.declared.row.SymbolRow.{SymbolRow}
use Rattle.logic.specs.Symbols.{name_of}
use Rattle.reading.specs.Entering.{new_row, with_arity}
use Rattle.logic.specs.Syntax.{Term, Terms, Atom, Clause, var, app, []ₜ, ◌∷ₜ◌, predicate, equal}

-- the symbols of a term, each as often as it occurs, from left to right
abbrev mutual
  pub term_symbols : Term → List ℕ
  term_symbols (var i) = []
  term_symbols (app s ts) = s ∷ terms_symbols ts

  pub terms_symbols : Terms → List ℕ
  terms_symbols []ₜ = []
  terms_symbols (t ∷ₜ ts) = term_symbols t ++ terms_symbols ts

abbrev pub atom_symbols : Atom → List ℕ
atom_symbols (predicate p ts) = p ∷ terms_symbols ts
atom_symbols (equal s t) = term_symbols s ++ term_symbols t

abbrev pub clause_symbols : Clause → List ℕ
clause_symbols [] = []
clause_symbols (l ∷ c) = atom_symbols l.atom ++ clause_symbols c

-- with n symbols known before, each of these is known or, where new ones may come, the next; after them m are known
pub data Appear (may : Bool) : ℕ → List ℕ → ℕ → Type 0 where
  none_more : {n : ℕ} → Appear may n [] n
  known : {n m s : ℕ} {ss : List ℕ} → s < n → Appear may n ss m → Appear may n (s ∷ ss) m
  next : {n m : ℕ} {ss : List ℕ} → may ≡ true → Appear may (n + 1) ss m → Appear may n (n ∷ ss) m

-- a row as a line enters it: the name and zeros behind it, its length, the kind and the arity
abbrev pub PlainRow : SymbolRow → Type 0
PlainRow row = row ≡ with_arity (new_row (name_of row) row.kind) row.arity
