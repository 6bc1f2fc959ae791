-- What the reading of words has done.
use Rattle.std.specs.Prelude.{◌≡◌, ◌≢◌, ℕ, ◌-◌, ◌<◌, ◌≤◌, List, Some, None, Ok, Err, Option, Result}
use Rattle.logic.specs.Limits as limits
use Rattle.logic.specs.Words.{symbol_word}
use Rattle.logic.specs.declared.row.Kind.TheVariants.{Function}
use Rattle.tokens.specs.declared.fault.Fault.{Fault}
use Rattle.reading.specs.declared.reader.Reader.{Reader}
use Rattle.reading.specs.declared.term.Argument.{Argument}
use Rattle.reading.specs.declared.term.Argument.TheVariants.{Variable, Term}
use Rattle.reading.specs.Slots.{Slot, Closed, Opened, Variable as VariableSlot}
use Rattle.reading.specs.States.{State, Halt, halt, written}
use Rattle.reading.specs.Terms.{application}
use Rattle.std.specs.List.{between}
use Rattle.reading.specs.declared.bindings.Bindings.{Bindings}
use Rattle.reading.specs.Bindings.{Bound, Bounds, held}

-- the state of a reader whose words go to the store
abbrev pub seen : Reader → List ℕ → State
seen r out = record { purpose = r.purpose; pos = r.at.pos; count = r.count; out = out; symbols = r.symbols; rows = r.rows.now }

-- what a method without an answer has done
abbrev pub done : Result Unit Fault → Reader → List ℕ → Result State Halt
done (Ok u) r out = Ok (seen r out)
done (Err f) r out = Err (halt f r.symbols r.rows.now)

-- what a method that answers a number has done
abbrev pub counted : Result ℕ Fault → Reader → List ℕ → Result (ℕ × State) Halt
counted (Ok n) r out = Ok (n, seen r out)
counted (Err f) r out = Err (halt f r.symbols r.rows.now)

-- Keeps, Enters and Goes relate a reader before a call and after it, which no invariant of the type can do; so they stand in each
-- contract, by their names.

-- the line is the same and the store of symbols the same one, and no symbol is lost
abbrev pub Keeps : Reader → Reader → Type 0
Keeps r s = (s.at.line ≡ r.at.line) × (s.rows.ghost_name ≡ r.rows.ghost_name) × (r.symbols ≤ s.symbols)

-- nothing is altered but the symbols and their store
abbrev pub Enters : Reader → Reader → Type 0
Enters r s = (s.at ≡ r.at) × (s.purpose ≡ r.purpose) × (s.count ≡ r.count) × Keeps r s

-- reading has not gone back, and goes on for the same purpose; the rest is kept
abbrev pub Goes : Reader → Reader → Type 0
Goes r s = (r.at.pos ≤ s.at.pos) × (s.purpose ≡ r.purpose) × Keeps r s

-- an argument or the closing bracket, with the place behind it
abbrev pub slotted : Result (Option Argument) Fault → ℕ → Result Slot Fault
slotted (Ok None) e = Ok (Closed e)
slotted (Ok (Some (Variable i))) e = Ok (VariableSlot i e)
slotted (Ok (Some Term)) e = Ok (Opened e)
slotted (Err f) e = Err f

-- an argument is not too deep, and one of four
abbrev pub HasRoom : ℕ → ℕ → Option Argument → Type 0
HasRoom room given None = Unit {0}
HasRoom room given (Some a) = (0 < room) × (given ≢ limits.arguments)

-- a clause that was read: its count of words is the reader's
abbrev pub clause_read : Result ℕ Fault → Reader → List ℕ → Result State Halt
clause_read (Ok n) r out = Ok (record { purpose = r.purpose; pos = r.at.pos; count = n; out = out; symbols = r.symbols; rows = r.rows.now })
clause_read (Err f) r out = Err (halt f r.symbols r.rows.now)

-- a binding that was read, whose words begin at `start`
abbrev pub after_binding : Result ℕ Fault → ℕ → Reader → List ℕ → Result (Bound × State) Halt
after_binding (Ok v) start r out = Ok (record { variable = v; words = between start r.count out }, seen r out)
after_binding (Err f) start r out = Err (halt f r.symbols r.rows.now)

-- bindings that were read
abbrev pub after_bindings : Result Unit Fault → Bindings → Reader → Result Bounds Halt
after_bindings (Ok u) b r = Ok (record { bound = held b; end = r.at.pos; symbols = r.symbols; rows = r.rows.now })
after_bindings (Err f) b r = Err (halt f r.symbols r.rows.now)

-- the rest of an argument behind its first token: a variable is written, a term is read
abbrev pub finished : List ℕ → ℕ → Argument → State → Result State Halt
finished bs room (Variable i) st = Ok (written st st.pos i)
finished bs room Term st = application bs (room - 1) (symbol_word 0) Function st
