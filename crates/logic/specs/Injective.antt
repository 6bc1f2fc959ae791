-- The words of a lawful clause determine it.
use Rattle.std.specs.Prelude.{◌≡◌, List}
use Rattle.logic.specs.declared.row.SymbolRow.{SymbolRow}
use Rattle.logic.specs.Syntax.{Clause}
use Rattle.logic.specs.Words.{clause_words}
use Rattle.logic.specs.Lawful.{Lawful}

-- two lawful clauses with the same words are the same clause
abbrev pub WordsDetermineTheClause : Type 0
WordsDetermineTheClause =
    (rows : List SymbolRow) (c d : Clause) → Lawful rows c → Lawful rows d → clause_words c ≡ clause_words d → c ≡ d
