-- Passing over terms and literals of words by counting, for any words and rows.
use Rattle.std.specs.Prelude.{ℕ, zero, suc, ◌+◌, ◌-◌, cond, List, [], ◌∷◌, length, take, drop, ◌==◌, nat_lt}
use Rattle.logic.specs.declared.row.SymbolRow.{SymbolRow}
use Rattle.logic.specs.Symbols.{row_at}
use Rattle.logic.specs.Syntax.{Clause}
use Rattle.logic.specs.Words.{symbol_word, equality_word, negation, clause_words}

-- the arity that the rows give to each symbol, 0 where there is no row
abbrev pub arities : List SymbolRow → ℕ → ℕ
arities rows s = (row_at rows s).arity

-- a word without the mark of negation
abbrev pub bare : ℕ → ℕ
bare w = cond (nat_lt w negation) w (w - negation)

-- how many arguments a word without that mark takes: none for a variable, two for equality
abbrev pub head_arity : (ℕ → ℕ) → ℕ → ℕ
head_arity arity h = cond (nat_lt h (symbol_word 0)) 0 (cond (h == equality_word) 2 (arity (h - symbol_word 0)))

-- how many arguments a word takes
abbrev pub word_arity : (ℕ → ℕ) → ℕ → ℕ
word_arity arity w = head_arity arity (bare w)

-- how many words n terms or literals take from the front on, or all words where they end before
unfoldable pub passed : (ℕ → ℕ) → ℕ → List ℕ → ℕ
passed arity n [] = 0
passed arity zero (w ∷ ws) = 0
passed arity (suc n) (w ∷ ws) = suc (passed arity (word_arity arity w + n) ws)

-- what is left behind n terms or literals
abbrev pub past : (ℕ → ℕ) → ℕ → List ℕ → List ℕ
past arity n ws = drop (passed arity n ws) ws

-- how many literals begin in the words behind n terms
unfoldable pub heads : (ℕ → ℕ) → ℕ → List ℕ → ℕ
heads arity n [] = 0
heads arity zero (w ∷ ws) = suc (heads arity (word_arity arity w) ws)
heads arity (suc n) (w ∷ ws) = heads arity (word_arity arity w + n) ws

-- the words of each literal that begins in the words behind n terms; the words of the last end where the words end, if not before
unfoldable pub literals_from : (ℕ → ℕ) → ℕ → List ℕ → List (List ℕ)
literals_from arity n [] = []
literals_from arity zero (w ∷ ws) = (w ∷ take (passed arity (word_arity arity w) ws) ws) ∷ literals_from arity (word_arity arity w) ws
literals_from arity (suc n) (w ∷ ws) = literals_from arity (word_arity arity w + n) ws

-- where literal k of a clause, counted from 0, begins in its words
abbrev pub begins : Clause → ℕ → ℕ
begins c k = length (clause_words (take k c))
