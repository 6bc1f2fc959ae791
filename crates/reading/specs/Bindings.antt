-- Bindings: variables and the words of their terms.
use Rattle.std.specs.Prelude.{◌≡◌, ℕ, zero, suc, ◌+◌, ◌<◌, ◌≤◌, Bool, cond, List, [], ◌∷◌, ◌++◌, map, replicate, Ok, Err, Result, ◌==◌, slice_index, slice_set}
use Rattle.std.specs.List.{between, range_with_len}
use Rattle.logic.specs.Limits as language
use Rattle.logic.specs.declared.row.SymbolRow.{SymbolRow}
use Rattle.tokens.specs.declared.fault.Fault.{Fault}
use Rattle.tokens.specs.declared.fault.Fault.TheVariants.{Due, ManyBindings, Count}
use Rattle.tokens.specs.Tokens.{Tok, opens, closes, equals, number, variable, word, lex}
use Rattle.tokens.specs.Forms.{variable_form}
use Rattle.reading.specs.Marks.{Mark, Closed, Opened}
use Rattle.reading.specs.declared.purpose.Purpose.TheVariants.{Binding}
use Rattle.reading.specs.declared.bindings.Bindings.{Bindings}
use Rattle.reading.specs.Limits as limits
use Rattle.reading.specs.States.{State, Halt, halt, ◌>>=◌, ◌then◌, lift, from, moved, exceeds}
use Rattle.reading.specs.Terms.{term}
use Rattle.reading.specs.Clauses.{opening, closing, marked}

-- a variable and the words of the term that it is bound to
pub record Bound : Type 0 where
  pub variable : ℕ
  pub words : List ℕ

-- bindings that are read, the place behind them, and the symbols after them
pub record Bounds : Type 0 where
  pub bound : List Bound
  pub end : ℕ
  pub symbols : ℕ
  pub rows : List SymbolRow

-- a variable, and the place behind it
pub record Found : Type 0 where
  pub variable : ℕ
  pub end : ℕ

-- the variable that a token is, where the variable of a binding is due
abbrev pub variable_due : ℕ → Tok → Result ℕ Fault
variable_due at opens = Err (Due at)
variable_due at closes = Err (Due at)
variable_due at equals = Err (Due at)
variable_due at (number r) = Err (Due at)
variable_due at (variable r) = variable_form r at
variable_due at (word r) = Err (Due at)

abbrev pub variable_at : List ℕ → ℕ → Result Found Fault
variable_at bs p = lex bs p then λ l. variable_due l.place l.tok then λ i. Ok (record { variable = i; end = l.end })

-- where one more binding or the closing bracket is due
abbrev pub binding_mark : List ℕ → Bool → ℕ → Result Mark Fault
binding_mark bs none p = lex bs p then λ l. marked (ManyBindings l.place) none l.place l.end l.tok

-- binding number k
abbrev pub held_at : Bindings → ℕ → Bound
held_at b k = record { variable = slice_index b.variables k; words = between (slice_index b.places k) (slice_index b.places (k + 1)) b.terms }

-- all bindings
abbrev pub held : Bindings → List Bound
held b = map (held_at b) (range_with_len 0 b.count)

-- places in order and within the store, so that the words of each binding can be taken
abbrev pub InOrder : Bindings → Type 0
InOrder b =
    (b.count ≤ limits.bindings)
    × ((k : ℕ) → k < b.count → (slice_index b.places k ≤ slice_index b.places (k + 1)) × (slice_index b.places (k + 1) ≤ limits.binding_words))

-- the terms have c words together
abbrev pub Filled : Bindings → ℕ → Type 0
Filled b c =
    (b.count ≤ limits.bindings) × (c ≤ limits.binding_words) × (slice_index b.places b.count ≡ c)
    × ((k : ℕ) → k ≤ b.count → slice_index b.places k ≤ c)
    × ((k : ℕ) → k < b.count → slice_index b.places k ≤ slice_index b.places (k + 1))

-- one binding more, whose term ends at `end`
abbrev pub pushed : Bindings → ℕ → ℕ → Bindings
pushed b v end =
    record { variables = slice_set b.variables b.count v; places = slice_set b.places (b.count + 1) end; terms = b.terms; count = b.count + 1 }

-- what a mark leads to: `one` reads a binding behind its bracket, `rest` those after it; `done` are read already
abbrev pub binding_turn : (State → Result (Bound × State) Halt) → (List Bound → State → Result Bounds Halt) → List Bound → State → Mark → Result Bounds Halt
binding_turn one rest done st (Closed e) = Ok (record { bound = done; end = e; symbols = st.symbols; rows = st.rows })
binding_turn one rest done st (Opened e) = one (moved st e) >>= λ p. rest (done ++ p.0 ∷ []) p.1

-- a store for the words of terms
unfoldable pub blank : List ℕ
blank = replicate limits.binding_words 0

module _ (bs : List ℕ) where
  -- a binding behind its opening bracket
  unfoldable pub binding : State → Result (Bound × State) Halt
  binding st =
      from st (variable_at bs st.pos) >>= λ v.
      term bs language.depth (moved st v.end) >>= λ t.
      from t (closing bs t.pos) >>= λ e.
      Ok (record { variable = v.variable; words = between st.count t.count t.out }, moved t e)

  -- the bindings up to the closing bracket; the last mark takes none
  unfoldable pub binding_list : ℕ → List Bound → State → Result Bounds Halt
  binding_list zero done st = Ok (record { bound = done; end = st.pos; symbols = st.symbols; rows = st.rows })
  binding_list (suc left) done st = from st (binding_mark bs (left == 0) st.pos) >>= binding_turn binding (binding_list left) done st

  -- the bracketed list of bindings from a place on; the count of symbols must not exceed their store
  abbrev pub bindings_at : ℕ → ℕ → List SymbolRow → Result Bounds Halt
  bindings_at pos n rows =
      cond (exceeds n rows) (Err (halt Count n rows))
      (lift n rows (opening bs pos) >>= λ i.
      binding_list (limits.bindings + 1) [] (record { purpose = Binding; pos = i; count = 0; out = blank; symbols = n; rows = rows }))
