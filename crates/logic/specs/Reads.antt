-- Words that begin with some lawful terms, and what a head of a literal takes.
use Rattle.std.specs.Prelude.{◌≡◌, ℕ, ◌-◌, ◌≤◌, ◌⊎◌, List, ◌++◌, length, Option, MatchOption}
use Rattle.std.specs.Borrow.{Bor}
use Rattle.logic.specs.declared.row.SymbolRow.{SymbolRow}
use Rattle.logic.specs.declared.row.Kind.{Kind}
use Rattle.logic.specs.declared.row.Kind.TheVariants.{Predicate}
use Rattle.logic.specs.Symbols.{Symbol}
use Rattle.logic.specs.Syntax.{Terms, Clause}
use Rattle.logic.specs.Words.{symbol_word, equality_word, terms_words, clause_words}
use Rattle.logic.specs.Lawful.{count, deeps, LawfulTerms, LawfulUpTo}
use Rattle.logic.specs.Walks.{bare}

-- the arity of symbol s, if it is of the kind k and lawful
abbrev pub Arity : List SymbolRow → ℕ → Kind → Option ℕ → Type 0
Arity rows s k r = MatchOption r ((a : ℕ) → Symbol rows s k a → ⊥) (λ a. Symbol rows s k a)

-- the words begin with n lawful terms of depth at most d, and `rest` is left
pub record Reads (rows : List SymbolRow) (d n : ℕ) (ws rest : List ℕ) : Type 0 where
  pub terms : Terms
  pub counted : count terms ≡ n
  pub lawful : LawfulTerms rows terms
  pub shallow : deeps terms ≤ d
  pub spelt : ws ≡ terms_words terms ++ rest

-- what is left behind n terms that the words begin with, if they do
abbrev pub Leaves : List SymbolRow → ℕ → ℕ → List ℕ → Option (Bor (List ℕ)) → Type 0
Leaves rows d n ws r =
    MatchOption r ((rest : List ℕ) → Reads rows d n ws rest → ⊥)
    (λ rest. (length rest.now ≤ length ws) × Reads rows d n ws rest.now)

-- the word w heads a literal with a arguments
abbrev pub Takes : List SymbolRow → ℕ → ℕ → Type 0
Takes rows w a =
    ((bare w ≡ equality_word) × (a ≡ 2)) ⊎ ((symbol_word 0 ≤ bare w) × Symbol rows (bare w - symbol_word 0) Predicate a)

-- how many arguments the word takes as the head of a literal, if it is one
abbrev pub Taken : List SymbolRow → ℕ → Option ℕ → Type 0
Taken rows w r = MatchOption r ((a : ℕ) → Takes rows w a → ⊥) (λ a. Takes rows w a)

-- the words are those of a lawful clause of at most so many literals
abbrev pub Spells : List SymbolRow → ℕ → List ℕ → Type 0
Spells rows most ws = (c : Clause) × (ws ≡ clause_words c) × LawfulUpTo rows most c
