-- What the rows of the symbol store say.
use Rattle.std.specs.Prelude.{◌≡◌, ℕ, ◌<◌, ◌≤◌, Bool, true, false, List, [], length, take, slice_index_or}
use Rattle.logic.specs.declared.row.SymbolRow.{SymbolRow}
use Rattle.logic.specs.declared.row.Kind.{Kind}
use Rattle.logic.specs.declared.row.Kind.TheVariants.{Function, Predicate}
use Rattle.logic.specs.Limits as limits

-- no row at all: what stands for a symbol past the end
abbrev pub no_row : SymbolRow
no_row = record { name = []; length = 0; kind = Function; arity = 0 }

abbrev pub row_at : List SymbolRow → ℕ → SymbolRow
row_at rows s = slice_index_or rows s no_row

-- the bytes of a row's name
abbrev pub name_of : SymbolRow → List ℕ
name_of row = take row.length row.name

abbrev pub same_kind : Kind → Kind → Bool
same_kind Function Function = true
same_kind Function Predicate = false
same_kind Predicate Function = false
same_kind Predicate Predicate = true

-- symbol s is of kind k and takes a arguments
abbrev pub Symbol : List SymbolRow → ℕ → Kind → ℕ → Type 0
Symbol rows s k a =
    (s < limits.symbols) × (s < length rows) × ((row_at rows s).kind ≡ k) × ((row_at rows s).arity ≡ a) × (a ≤ limits.arguments)
