-- Positions: lists of argument numbers.
use Rattle.std.specs.Prelude.{◌≡◌, ℕ, ◌≤◌, Some, None, Option, zero, suc, ◌+◌, Bool, cond, List, [], ◌∷◌, ◌++◌, take, Ok, Err, Result, ◌==◌}
use Rattle.tokens.specs.declared.fault.Fault.{Fault}
use Rattle.tokens.specs.declared.fault.Fault.TheVariants.{ManyNumbers}
use Rattle.tokens.specs.Tokens.{Tok, opens, closes, equals, number, variable, word, lex}
use Rattle.tokens.specs.Forms.{number_form}
use Rattle.reading.specs.States.{◌then◌}
use Rattle.reading.specs.Clauses.{opening}
use Rattle.reading.specs.declared.cursor.Cursor.{Cursor}
use Rattle.lines.specs.Turns.{Turn, Closed, Given}
use Rattle.lines.specs.Limits as limits

-- a number in form, unless there are as many already as there may be
abbrev pub given_at : Bool → ℕ → ℕ → Tok → Result Turn Fault
given_at none at end t = number_form t at then λ n. cond none (Err (ManyNumbers at)) (Ok (Given n end))

-- where one more number or the closing bracket is due
abbrev pub turned : Bool → ℕ → ℕ → Tok → Result Turn Fault
turned none at end opens = given_at none at end opens
turned none at end closes = Ok (Closed end)
turned none at end equals = given_at none at end equals
turned none at end (number r) = given_at none at end (number r)
turned none at end (variable r) = given_at none at end (variable r)
turned none at end (word r) = given_at none at end (word r)

abbrev pub position_mark : List ℕ → Bool → ℕ → Result Turn Fault
position_mark bs none p = lex bs p then λ l. turned none l.place l.end l.tok

-- a number or the closing bracket that was read, with the place behind it
abbrev pub turned_to : Result (Option ℕ) Fault → Cursor → Result Turn Fault
turned_to (Ok None) c = Ok (Closed c.pos)
turned_to (Ok (Some n)) c = Ok (Given n c.pos)
turned_to (Err f) c = Err f

-- the numbers that were read, and the place behind them
abbrev pub position_read : Result ℕ Fault → List ℕ → Cursor → Result (List ℕ × ℕ) Fault
position_read (Ok n) numbers c = Ok (take n numbers, c.pos)
position_read (Err f) numbers c = Err f

-- a relation of a cursor before a call and after it, which no invariant can state: in the same line, and never back
abbrev pub StaysInLine : Cursor → Cursor → Type 0
StaysInLine c d = (d.line ≡ c.line) × (c.pos ≤ d.pos)

-- what a turn leads to: `rest` reads the numbers after this one; `done` are read already
abbrev pub position_turn : (List ℕ → ℕ → Result (List ℕ × ℕ) Fault) → List ℕ → Turn → Result (List ℕ × ℕ) Fault
position_turn rest done (Closed e) = Ok (done, e)
position_turn rest done (Given n e) = rest (done ++ n ∷ []) e

module _ (bs : List ℕ) where
  -- the numbers up to the closing bracket; the last turn takes none
  unfoldable pub position_list : ℕ → List ℕ → ℕ → Result (List ℕ × ℕ) Fault
  position_list zero done p = Ok (done, p)
  position_list (suc left) done p = position_mark bs (left == 0) p then position_turn (position_list left) done

  -- a position
  abbrev pub position_at : ℕ → Result (List ℕ × ℕ) Fault
  position_at p = opening bs p then λ i. position_list (limits.position_numbers + 1) [] i

  -- a position, where one is due at all
  abbrev pub position_part : Bool → ℕ → Result (List ℕ × ℕ) Fault
  position_part due p = cond due (position_at p) (Ok ([], p))
