-- What a line leaves of the symbols that were counted before it.
use Rattle.std.specs.Prelude.{◌≡◌, ℕ, ◌≤◌, List, length, take}
use Rattle.logic.specs.Limits.{symbols}
use Rattle.logic.specs.declared.row.SymbolRow.{SymbolRow}
use Rattle.reading.specs.Fixed.{Fixed}

-- n counted symbols with these rows have become m with those: where they had fixed arities, their rows are as they were, and all m have
-- fixed arities; and the count stays within its bounds
pub record KeepsSymbols (n : ℕ) (rows : List SymbolRow) (m : ℕ) (left : List SymbolRow) : Type 0 where
  pub kept : Fixed n rows → take n left ≡ take n rows
  pub fixed : Fixed n rows → Fixed m left
  pub within : n ≤ length rows → n ≤ symbols → m ≤ length left
  pub few : n ≤ length rows → n ≤ symbols → m ≤ symbols
