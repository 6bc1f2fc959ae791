-- The words of a term.
use Rattle.std.specs.Prelude.{ℕ, zero, suc, ◌+◌, ◌-◌, Bool, false, cond, List, Ok, Err, Result, ◌==◌, slice_set}
use Rattle.logic.specs.Limits as limits
use Rattle.logic.specs.Words.{symbol_word}
use Rattle.logic.specs.declared.row.SymbolRow.{SymbolRow}
use Rattle.logic.specs.declared.row.Kind.{Kind}
use Rattle.logic.specs.declared.row.Kind.TheVariants.{Function}
use Rattle.tokens.specs.declared.fault.Fault.{Fault}
use Rattle.tokens.specs.declared.fault.Fault.TheVariants.{Due, Deep, ManyWords, ManyArguments}
use Rattle.tokens.specs.Tokens.{Tok, opens, closes, equals, number, variable, word, lex}
use Rattle.tokens.specs.Forms.{variable_form}
use Rattle.reading.specs.Slots.{Slot, Closed, Variable, Opened}
use Rattle.reading.specs.States.{State, Halt, halt, ◌>>=◌, ◌then◌, from, moved, written, full}
use Rattle.reading.specs.Entering.{Headed, head, settle}

-- depth, words and number of an argument, in this order
abbrev pub fitting : {A : Type 0} → Bool → Bool → Bool → ℕ → Result A Fault → Result A Fault
fitting deep words more at k = cond deep (Err (Deep at)) (cond words (Err (ManyWords at)) (cond more (Err (ManyArguments at)) k))

-- what the token is, where an argument or the closing bracket is due
abbrev pub slot_at : Bool → Bool → Bool → ℕ → ℕ → Tok → Result Slot Fault
slot_at deep words more at end opens = fitting deep false more at (Ok (Opened end))
slot_at deep words more at end closes = Ok (Closed end)
slot_at deep words more at end equals = Err (Due at)
slot_at deep words more at end (number r) = Err (Due at)
slot_at deep words more at end (variable r) = variable_form r at then λ i. fitting deep words more at (Ok (Variable i end))
slot_at deep words more at end (word r) = Err (Due at)

abbrev pub slot : List ℕ → Bool → Bool → Bool → ℕ → Result Slot Fault
slot bs deep words more p = lex bs p then λ l. slot_at deep words more l.place l.end l.tok

-- what a slot leads to: `nested` reads a term behind its bracket, `rest` the arguments after this one
abbrev pub turn : (State → Result State Halt) → (State → Result (ℕ × State) Halt) → ℕ → State → Slot → Result (ℕ × State) Halt
turn nested rest given st (Closed e) = Ok (given, moved st e)
turn nested rest given st (Variable i e) = rest (written st e i)
turn nested rest given st (Opened e) = nested (moved st e) >>= rest

-- the state behind a head whose word is written
abbrev pub headed_state : State → Headed → ℕ → State
headed_state st h w =
    record { purpose = st.purpose; pos = h.end; count = st.count + 1; out = slice_set st.out st.count w; symbols = h.symbols; rows = h.rows }

abbrev pub with_rows : State → List SymbolRow → State
with_rows st rows = record { purpose = st.purpose; pos = st.pos; count = st.count; out = st.out; symbols = st.symbols; rows = rows }

module _ (bs : List ℕ) where
  -- the arguments up to the closing bracket, and how many; the last slot takes none
  unfoldable pub args : (State → Result State Halt) → Bool → ℕ → ℕ → State → Result (ℕ × State) Halt
  args nested deep zero given st = Ok (given, st)
  args nested deep (suc left) given st =
      from st (slot bs deep (full st.purpose st.count) (left == 0) st.pos) >>= turn nested (args nested deep left (given + 1)) given st

  -- from the symbol on to the closing bracket
  abbrev pub body : (State → Result State Halt) → Bool → ℕ → Kind → State → Result State Halt
  body nested deep base k st =
      head bs k st.purpose st.pos st.count st.symbols st.rows >>= λ h.
      args nested deep (limits.arguments + 1) 0 (headed_state st h (base + h.symbol)) >>= λ g.
      from g.1 (settle g.1.rows h.symbol g.0 h.place) >>= λ rows.
      Ok (with_rows g.1 rows)

  -- a term behind its opening bracket; it and its arguments may go `room` deep together
  unfoldable pub nest : ℕ → State → Result State Halt
  nest zero st = Ok st
  nest (suc room) st = body (nest room) (room == 0) (symbol_word 0) Function st

  -- a term or an atom behind its opening bracket; its arguments may go `room` deep
  unfoldable pub application : ℕ → ℕ → Kind → State → Result State Halt
  application room base k st = body (nest room) (room == 0) base k st

  abbrev pub term_turn : ℕ → State → Slot → Result State Halt
  term_turn room st (Closed e) = Err (halt (Due (e - 1)) st.symbols st.rows)
  term_turn room st (Variable i e) = Ok (written st e i)
  term_turn room st (Opened e) = application (room - 1) (symbol_word 0) Function (moved st e)

  -- a term that may go `room` deep
  abbrev pub term : ℕ → State → Result State Halt
  term room st = from st (slot bs (room == 0) (full st.purpose st.count) false st.pos) >>= term_turn room st
