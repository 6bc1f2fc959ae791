-- The words of a clause.
use Rattle.std.specs.Prelude.{ℕ, zero, suc, ◌+◌, Bool, true, false, cond, List, Ok, Err, codes, Result, ◌==◌}
use Rattle.std.specs.Str.{bytes_eq}
use Rattle.logic.specs.Limits as limits
use Rattle.logic.specs.Words.{symbol_word, equality_word, negation}
use Rattle.logic.specs.declared.row.SymbolRow.{SymbolRow}
use Rattle.logic.specs.declared.row.Kind.TheVariants.{Predicate}
use Rattle.tokens.specs.declared.fault.Fault.{Fault}
use Rattle.tokens.specs.declared.fault.Fault.TheVariants.{Due, ManyLiterals, Count}
use Rattle.tokens.specs.Tokens.{Tok, opens, closes, equals, number, variable, word, lex}
use Rattle.reading.specs.Marks.{Mark, Closed, Opened}
use Rattle.reading.specs.declared.purpose.Purpose.{Purpose}
use Rattle.reading.specs.States.{State, Halt, halt, ◌>>=◌, ◌then◌, from, moved, written, exceeds}
use Rattle.reading.specs.Terms.{application, term}

-- where an opening bracket is due: the place behind it
abbrev pub opened : ℕ → ℕ → Tok → Result ℕ Fault
opened at end opens = Ok end
opened at end closes = Err (Due at)
opened at end equals = Err (Due at)
opened at end (number r) = Err (Due at)
opened at end (variable r) = Err (Due at)
opened at end (word r) = Err (Due at)

abbrev pub opening : List ℕ → ℕ → Result ℕ Fault
opening bs p = lex bs p then λ l. opened l.place l.end l.tok

-- where a closing bracket is due: the place behind it
abbrev pub closed : ℕ → ℕ → Tok → Result ℕ Fault
closed at end opens = Err (Due at)
closed at end closes = Ok end
closed at end equals = Err (Due at)
closed at end (number r) = Err (Due at)
closed at end (variable r) = Err (Due at)
closed at end (word r) = Err (Due at)

abbrev pub closing : List ℕ → ℕ → Result ℕ Fault
closing bs p = lex bs p then λ l. closed l.place l.end l.tok

-- where a certain word is due: the place behind it
abbrev pub worded : List ℕ → ℕ → ℕ → Tok → Result ℕ Fault
worded w at end opens = Err (Due at)
worded w at end closes = Err (Due at)
worded w at end equals = Err (Due at)
worded w at end (number r) = Err (Due at)
worded w at end (variable r) = Err (Due at)
worded w at end (word r) = cond (bytes_eq r w) (Ok end) (Err (Due at))

abbrev pub wording : List ℕ → List ℕ → ℕ → Result ℕ Fault
wording w bs p = lex bs p then λ l. worded w l.place l.end l.tok

-- where one more of a list or its closing bracket is due
abbrev pub marked : Fault → Bool → ℕ → ℕ → Tok → Result Mark Fault
marked f none at end opens = cond none (Err f) (Ok (Opened end))
marked f none at end closes = Ok (Closed end)
marked f none at end equals = Err (Due at)
marked f none at end (number r) = Err (Due at)
marked f none at end (variable r) = Err (Due at)
marked f none at end (word r) = Err (Due at)

abbrev pub literal_mark : List ℕ → Bool → ℕ → Result Mark Fault
literal_mark bs none p = lex bs p then λ l. marked (ManyLiterals l.place) none l.place l.end l.tok

abbrev pub is_equals : Tok → Bool
is_equals opens = false
is_equals closes = false
is_equals equals = true
is_equals (number r) = false
is_equals (variable r) = false
is_equals (word r) = false

abbrev pub is_not : Tok → Bool
is_not opens = false
is_not closes = false
is_not equals = false
is_not (number r) = false
is_not (variable r) = false
is_not (word r) = bytes_eq r (codes "not")

-- what a mark leads to: `one` reads one of the list behind its bracket, `rest` those after it
abbrev pub mark_turn : (State → Result State Halt) → (State → Result State Halt) → State → Mark → Result State Halt
mark_turn one rest st (Closed e) = Ok (moved st e)
mark_turn one rest st (Opened e) = one (moved st e) >>= rest

module _ (bs : List ℕ) where
  -- the two sides of an equation and its closing bracket
  unfoldable pub sides : State → Result State Halt
  sides st =
      term bs limits.depth st >>= λ l.
      term bs limits.depth l >>= λ r.
      from r (closing bs r.pos) >>= λ e.
      Ok (moved r e)

  -- an atom behind its opening bracket, whose head has `sign` added
  abbrev pub atom : ℕ → State → Result State Halt
  atom sign st =
      from st (lex bs st.pos) >>= λ l.
      cond (is_equals l.tok)
      (sides (written st l.end (sign + equality_word)))
      (application bs limits.depth (sign + symbol_word 0) Predicate st)

  -- the atom of a negated literal, behind the word `not`
  unfoldable pub negated : State → Result State Halt
  negated st =
      from st (opening bs st.pos) >>= λ e.
      atom negation (moved st e) >>= λ s.
      from s (closing bs s.pos) >>= λ f.
      Ok (moved s f)

  -- a literal behind its opening bracket
  unfoldable pub literal : State → Result State Halt
  literal st =
      from st (lex bs st.pos) >>= λ l.
      cond (is_not l.tok) (negated (moved st l.end)) (atom 0 st)

  -- the literals up to the closing bracket; the last mark takes none
  unfoldable pub literal_list : ℕ → State → Result State Halt
  literal_list zero st = Ok st
  literal_list (suc left) st = from st (literal_mark bs (left == 0) st.pos) >>= mark_turn literal (literal_list left) st

  -- a clause
  abbrev pub clause : State → Result State Halt
  clause st =
      from st (opening bs st.pos) >>= λ i.
      from st (wording (codes "or") bs i) >>= λ e.
      literal_list (limits.literals + 1) (moved st e)

  -- a clause from a place on, into a store of its own; the count of symbols must not exceed their store
  abbrev pub clause_from : Purpose → ℕ → List ℕ → ℕ → List SymbolRow → Result State Halt
  clause_from p pos out n rows =
      cond (exceeds n rows) (Err (halt Count n rows))
      (clause (record { purpose = p; pos = pos; count = 0; out = out; symbols = n; rows = rows }))
