-- Symbols as their names are met: a name's first appearance fixes the kind, the first closing bracket the arity.
use Rattle.std.specs.Prelude.{ℕ, ◌+◌, ◌-◌, cond, ◌&&◌, List, ◌++◌, length, take, replicate, Some, None, Ok, Err, Option, Result, ◌==◌, nat_lt, slice_set}
use Rattle.logic.specs.Limits as limits
use Rattle.logic.specs.declared.row.SymbolRow.{SymbolRow}
use Rattle.logic.specs.declared.row.Kind.{Kind}
use Rattle.logic.specs.Symbols.{row_at, same_kind}
use Rattle.logic.specs.Directory.{place_of_name}
use Rattle.tokens.specs.declared.fault.Fault.{Fault}
use Rattle.tokens.specs.declared.fault.Fault.TheVariants.{ManyWords, OtherKind, OtherArity, Unknown, ManySymbols}
use Rattle.tokens.specs.Tokens.{lex}
use Rattle.tokens.specs.Forms.{symbol_form}
use Rattle.reading.specs.declared.purpose.Purpose.{Purpose}
use Rattle.reading.specs.declared.reader.Head.{Head}
use Rattle.reading.specs.States.{Halt, halt, ◌>>=◌, lift, enters, full}

-- the arity of a symbol whose first closing bracket is still to come
abbrev pub open_arity : ℕ
open_arity = 255

-- the row of a name that is met for the first time; the bytes behind the name are 0
abbrev pub new_row : List ℕ → Kind → SymbolRow
new_row name k = record { name = name ++ replicate (limits.name_bytes - length name) 0; length = length name; kind = k; arity = open_arity }

-- a symbol, with the symbols after it was met
pub record Met : Type 0 where
  pub symbol : ℕ
  pub symbols : ℕ
  pub rows : List SymbolRow

abbrev pub met : Result ℕ Fault → ℕ → List SymbolRow → Result Met Halt
met (Ok s) n rows = Ok (record { symbol = s; symbols = n; rows = rows })
met (Err f) n rows = Err (halt f n rows)

-- one symbol more with this row, where names are entered and there is room
abbrev pub entered : Purpose → SymbolRow → ℕ → ℕ → List SymbolRow → Result Met Halt
entered p row at n rows =
    cond (enters p)
    (cond (nat_lt n limits.symbols && nat_lt n (length rows))
    (Ok (record { symbol = n; symbols = n + 1; rows = slice_set rows n row }))
    (Err (halt (ManySymbols at) n rows)))
    (Err (halt (Unknown at) n rows))

-- one symbol more with this name
abbrev pub enter : Purpose → Kind → List ℕ → ℕ → ℕ → List SymbolRow → Result Met Halt
enter p k name at n rows = entered p (new_row name k) at n rows

abbrev pub known : Purpose → Kind → List ℕ → ℕ → ℕ → List SymbolRow → Option ℕ → Result Met Halt
known p k name at n rows None = enter p k name at n rows
known p k name at n rows (Some s) =
    cond (same_kind (row_at rows s).kind k) (Ok (record { symbol = s; symbols = n; rows = rows })) (Err (halt (OtherKind at) n rows))

-- the symbol of a name: one of the n counted, or a new one
abbrev pub meet : Purpose → Kind → List ℕ → ℕ → ℕ → List SymbolRow → Result Met Halt
meet p k name at n rows = known p k name at n rows (place_of_name (take n rows) name)

abbrev pub room_for_word : {A : Type 0} → Purpose → ℕ → ℕ → Result A Fault → Result A Fault
room_for_word p n at k = cond (full p n) (Err (ManyWords at)) k

-- a symbol with the place of its name and the place behind it, and the symbols after it was met
pub record Headed : Type 0 where
  pub symbol : ℕ
  pub place : ℕ
  pub end : ℕ
  pub symbols : ℕ
  pub rows : List SymbolRow

abbrev pub headed : Result Head Fault → ℕ → ℕ → List SymbolRow → Result Headed Halt
headed (Ok h) end n rows = Ok (record { symbol = h.symbol; place = h.place; end = end; symbols = n; rows = rows })
headed (Err f) end n rows = Err (halt f n rows)

-- the symbol that is due
abbrev pub head : List ℕ → Kind → Purpose → ℕ → ℕ → ℕ → List SymbolRow → Result Headed Halt
head bs k p pos count n rows =
    lift n rows (lex bs pos) >>= λ l.
    lift n rows (symbol_form l.tok l.place) >>= λ name.
    lift n rows (room_for_word {A = Unit {0}} p count l.place (Ok tt)) >>= λ u.
    meet p k name l.place n rows >>= λ m.
    Ok (record { symbol = m.symbol; place = l.place; end = l.end; symbols = m.symbols; rows = m.rows })

-- a row whose arity is fixed
abbrev pub with_arity : SymbolRow → ℕ → SymbolRow
with_arity row a = record { name = row.name; length = row.length; kind = row.kind; arity = a }

abbrev pub settled : Result Unit Fault → List SymbolRow → Result (List SymbolRow) Fault
settled (Ok u) rows = Ok rows
settled (Err f) rows = Err f

-- the closing bracket: the arity is fixed, or has to be as it was
abbrev pub settle : List SymbolRow → ℕ → ℕ → ℕ → Result (List SymbolRow) Fault
settle rows s given at =
    cond (nat_lt limits.arguments (row_at rows s).arity) (Ok (slice_set rows s (with_arity (row_at rows s) given)))
    (cond ((row_at rows s).arity == given) (Ok rows) (Err (OtherArity at)))
