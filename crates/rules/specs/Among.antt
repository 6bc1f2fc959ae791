-- Literals that stand among those of a clause, by the words of both.
use Rattle.std.specs.Prelude.{◌≡◌, ℕ, Bool, ◌&&◌, List}
use Rattle.std.specs.List.{list_any}
use Rattle.std.specs.Str.{bytes_eq}
use Rattle.logic.specs.declared.row.SymbolRow.{SymbolRow}
use Rattle.logic.specs.Syntax.{Literal, Clause}
use Rattle.logic.specs.Words.{literal_words, clause_words}
use Rattle.logic.specs.Walks.{arities, literals_from}
use Rattle.logic.specs.Lawful.{LawfulAtom, Lawful}
use Rattle.inference.specs.Same.{stands_in, within}

-- whether the words xs are those of one of the literals of the words ws
abbrev pub stands_among : List SymbolRow → List ℕ → List ℕ → Bool
stands_among rows xs ws = list_any (bytes_eq xs) (literals_from (arities rows) 0 ws)

-- r says whether the literal with the words xs occurs in the clause with the words ws
abbrev pub StandsAmong : List SymbolRow → List ℕ → List ℕ → Bool → Type 0
StandsAmong rows xs ws r =
    (l : Literal) (d : Clause) → LawfulAtom rows l.atom → Lawful rows d → xs ≡ literal_words l → ws ≡ clause_words d → r ≡ stands_in l d

-- r says whether every literal of the clause with the words vs occurs in the clause with the words ws
abbrev pub AllAmong : List SymbolRow → List ℕ → List ℕ → Bool → Type 0
AllAmong rows vs ws r =
    (c d : Clause) → Lawful rows c → Lawful rows d → vs ≡ clause_words c → ws ≡ clause_words d → r ≡ within c d

-- r says whether the clauses with the words vs and ws have the same literals
abbrev pub SameAmong : List SymbolRow → List ℕ → List ℕ → Bool → Type 0
SameAmong rows vs ws r =
    (c d : Clause) → Lawful rows c → Lawful rows d → vs ≡ clause_words c → ws ≡ clause_words d → r ≡ (within c d && within d c)
