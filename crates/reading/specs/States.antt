-- How far reading has come, and how it goes on.
use Rattle.std.specs.Prelude.{ℕ, ◌+◌, Bool, true, false, cond, ◌||◌, List, length, Ok, Err, Result, nat_le, nat_lt, slice_set}
use Rattle.logic.specs.declared.row.SymbolRow.{SymbolRow}
use Rattle.tokens.specs.declared.fault.Fault.{Fault}
use Rattle.tokens.specs.declared.fault.Fault.TheVariants.{Count}
use Rattle.reading.specs.declared.purpose.Purpose.{Purpose}
use Rattle.reading.specs.declared.purpose.Purpose.TheVariants.{Rule, Step, Binding}
use Rattle.logic.specs.Limits as language
use Rattle.reading.specs.Limits as limits

-- what is read, the place in the line, the words so far and their store, the symbols so far and their store
pub record State : Type 0 where
  pub purpose : Purpose
  pub pos : ℕ
  pub count : ℕ
  pub out : List ℕ
  pub symbols : ℕ
  pub rows : List SymbolRow

-- a refusal, with the symbols that were counted by then and their store
pub record Halt : Type 0 where
  pub fault : Fault
  pub symbols : ℕ
  pub rows : List SymbolRow

abbrev pub halt : Fault → ℕ → List SymbolRow → Halt
halt f n rows = record { fault = f; symbols = n; rows = rows }

-- one reading after another: the first refusal stands
infixl 20 ◌>>=◌
abbrev pub ◌>>=◌ : {A B : Type 0} → Result A Halt → (A → Result B Halt) → Result B Halt
◌>>=◌ (Ok a) k = k a
◌>>=◌ (Err h) k = Err h

-- the same of readings that write nothing
infixl 20 ◌then◌
abbrev pub ◌then◌ : {A B : Type 0} → Result A Fault → (A → Result B Fault) → Result B Fault
◌then◌ (Ok a) k = k a
◌then◌ (Err f) k = Err f

-- a reading that meets no symbol
abbrev pub lift : {A : Type 0} → ℕ → List SymbolRow → Result A Fault → Result A Halt
lift n rows (Ok a) = Ok a
lift n rows (Err f) = Err (halt f n rows)

-- the same from a state
abbrev pub from : {A : Type 0} → State → Result A Fault → Result A Halt
from st r = lift st.symbols st.rows r

abbrev pub moved : State → ℕ → State
moved st end = record { purpose = st.purpose; pos = end; count = st.count; out = st.out; symbols = st.symbols; rows = st.rows }

-- one word more; past the store's end it is only counted
abbrev pub written : State → ℕ → ℕ → State
written st end w =
    record { purpose = st.purpose; pos = end; count = st.count + 1; out = slice_set st.out st.count w; symbols = st.symbols; rows = st.rows }

-- other symbols
abbrev pub with_symbols : State → ℕ → List SymbolRow → State
with_symbols st n rows = record { purpose = st.purpose; pos = st.pos; count = st.count; out = st.out; symbols = n; rows = rows }

-- new names are entered only while the book is open
abbrev pub enters : Purpose → Bool
enters Rule = true
enters Step = false
enters Binding = false

-- no word more may come
abbrev pub full : Purpose → ℕ → Bool
full Rule n = false
full Step n = false
full Binding n = nat_le limits.binding_words n

-- the count of symbols exceeds their store, of which at most the limit is used
abbrev pub exceeds : ℕ → List SymbolRow → Bool
exceeds n rows = nat_lt (length rows) n || nat_lt language.symbols n

abbrev pub count_checked : ℕ → List SymbolRow → Result Unit Fault
count_checked n rows = cond (exceeds n rows) (Err Count) (Ok tt)
