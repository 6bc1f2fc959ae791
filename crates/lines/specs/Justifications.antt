-- Justifications: only those parts that the shape of the inference rule says.
use Rattle.std.specs.Prelude.{ℕ, ◌≤◌, Bool, cond, List, [], ◌∷◌, take, Some, None, Ok, Err, Option, Result, ◌==◌, slice_index}
use Rattle.logic.specs.declared.row.SymbolRow.{SymbolRow}
use Rattle.tokens.specs.declared.fault.Fault.{Fault}
use Rattle.tokens.specs.declared.fault.Fault.TheVariants.{NoRule}
use Rattle.tokens.specs.Tokens.{lex}
use Rattle.tokens.specs.Forms.{keyword_form}
use Rattle.reading.specs.States.{Halt, halt, ◌>>=◌, ◌then◌, lift}
use Rattle.reading.specs.Clauses.{opening, closing}
use Rattle.reading.specs.Bindings.{Bound, Bounds, InOrder, held, bindings_at}
use Rattle.lines.specs.declared.shape.Shape.{Shape}
use Rattle.reading.specs.declared.cursor.Cursor.{Cursor}
use Rattle.reading.specs.declared.reader.Reader.{Reader}
use Rattle.lines.specs.declared.justification.Keyword.{Keyword}
use Rattle.lines.specs.declared.justification.Cited.{Cited}
use Rattle.lines.specs.declared.justification.Justification.{Justification}
use Rattle.lines.specs.Limits as limits
use Rattle.lines.specs.Numbers.{number_at}
use Rattle.lines.specs.Positions.{position_part}

-- the shapes that keywords stand for
abbrev pub Table : Type 0
Table = List ℕ → Option Shape

-- at most two numbers, and the place behind them
pub record Few : Type 0 where
  pub numbers : List ℕ
  pub end : ℕ

-- what was read of them
abbrev pub few_read : Result (List ℕ) Fault → Cursor → Result Few Fault
few_read (Ok ns) c = Ok (record { numbers = ns; end = c.pos })
few_read (Err f) c = Err f

-- none, one or two numbers in a row; 0 stands for a number that is not asked for
abbrev pub few_at : List ℕ → ℕ → ℕ → Result Few Fault
few_at bs wanted p =
    cond (wanted == 0) (Ok (record { numbers = 0 ∷ 0 ∷ []; end = p }))
    (number_at bs p then λ a.
    cond (wanted == 1) (Ok (record { numbers = a.number ∷ 0 ∷ []; end = a.end }))
    (number_at bs a.end then λ b. Ok (record { numbers = a.number ∷ b.number ∷ []; end = b.end })))

-- a keyword's bytes, the shape that it stands for, and the place behind it
pub record Named : Type 0 where
  pub run : List ℕ
  pub shape : Shape
  pub end : ℕ

abbrev pub named : Keyword → ℕ → Named
named k end = record { run = k.run.now; shape = k.shape; end = end }

abbrev pub after_keyword : Result Keyword Fault → Cursor → Result Named Fault
after_keyword (Ok k) c = Ok (named k c.pos)
after_keyword (Err f) c = Err f

abbrev pub shaped : List ℕ → ℕ → ℕ → Option Shape → Result Named Fault
shaped run at end None = Err (NoRule at)
shaped run at end (Some s) = Ok (record { run = run; shape = s; end = end })

-- the keyword that is due
abbrev pub keyword_at : List ℕ → Table → ℕ → Result Named Fault
keyword_at bs table p =
    lex bs p then λ l.
    keyword_form l.tok l.place then λ run.
    shaped run l.place l.end (table run)

-- a keyword with its premises and literal numbers
pub record Citation : Type 0 where
  pub keyword : Named
  pub premises : Few
  pub literals : Few

unfoldable pub cited_at : List ℕ → Table → ℕ → Result Citation Fault
cited_at bs table p =
    keyword_at bs table p then λ k.
    few_at bs k.shape.premises k.end then λ i.
    few_at bs k.shape.literals i.end then λ a.
    Ok (record { keyword = k; premises = i; literals = a })

-- what stands in a citation, and the place behind it
pub record Cites : Type 0 where
  pub run : List ℕ
  pub shape : Shape
  pub premises : List ℕ
  pub literals : List ℕ
  pub end : ℕ

abbrev pub numbers_and_end : Citation → Result Cites Fault
numbers_and_end c = Ok (record { run = c.keyword.run; shape = c.keyword.shape; premises = c.premises.numbers; literals = c.literals.numbers; end = c.literals.end })

-- what was read of it
abbrev pub after_cited : Result Cited Fault → Cursor → Result Cites Fault
after_cited (Ok c) d = Ok (record { run = c.keyword.run.now; shape = c.keyword.shape; premises = c.premises; literals = c.literals; end = d.pos })
after_cited (Err f) d = Err f

-- bindings, where they are due at all
abbrev pub bindings_part : List ℕ → Bool → ℕ → ℕ → List SymbolRow → Result Bounds Halt
bindings_part bs due p n rows = cond due (bindings_at bs p n rows) (Ok (record { bound = []; end = p; symbols = n; rows = rows }))

-- the first of two numbers, as many as are asked for
abbrev pub asked : ℕ → List ℕ → List ℕ
asked wanted ns = cond (wanted == 0) [] (cond (wanted == 1) (slice_index ns 0 ∷ []) (slice_index ns 0 ∷ slice_index ns 1 ∷ []))

-- a justification that is read, the place behind it, and the symbols after it
pub record Justified : Type 0 where
  pub keyword : Named
  pub premises : List ℕ
  pub literals : List ℕ
  pub position : List ℕ
  pub bound : List Bound
  pub symbols : ℕ
  pub rows : List SymbolRow

-- its position and its bindings lie within their stores
abbrev pub Usable : Justification → Type 0
Usable j = (j.steps ≤ limits.position_numbers) × (InOrder j.bindings)

abbrev pub after_justification : Result Keyword Fault → Justification → Reader → Result Justified Halt
after_justification (Ok k) j r =
    Ok (record {
      keyword = named k r.at.pos;
      premises = asked k.shape.premises j.premises;
      literals = asked k.shape.literals j.literals;
      position = take j.steps j.position;
      bound = held j.bindings;
      symbols = r.symbols;
      rows = r.rows.now;
    })
after_justification (Err f) j r = Err (halt f r.symbols r.rows.now)

-- the justification that is due
unfoldable pub justification_at : List ℕ → Table → ℕ → ℕ → List SymbolRow → Result Justified Halt
justification_at bs table p n rows =
    lift n rows (opening bs p) >>= λ o.
    lift n rows (cited_at bs table o) >>= λ c.
    lift n rows (position_part bs c.keyword.shape.position c.literals.end) >>= λ q.
    bindings_part bs c.keyword.shape.bindings q.1 n rows >>= λ b.
    lift b.symbols b.rows (closing bs b.end) >>= λ e.
    Ok (record {
      keyword = record { run = c.keyword.run; shape = c.keyword.shape; end = e };
      premises = asked c.keyword.shape.premises c.premises.numbers;
      literals = asked c.keyword.shape.literals c.literals.numbers;
      position = q.0;
      bound = b.bound;
      symbols = b.symbols;
      rows = b.rows;
    })
