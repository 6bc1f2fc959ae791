-- Symbols whose arities are fixed.
use Rattle.std.specs.Prelude.{ℕ, ◌<◌, ◌≤◌, List}
use Rattle.logic.specs.Limits as limits
use Rattle.logic.specs.Symbols.{row_at}
use Rattle.logic.specs.declared.row.SymbolRow.{SymbolRow}

-- each of the n counted rows has an arity that a symbol may have
abbrev pub Fixed : ℕ → List SymbolRow → Type 0
Fixed n rows = (s : ℕ) → s < n → (row_at rows s).arity ≤ limits.arguments
