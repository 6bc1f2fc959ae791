-- What reading from a cursor on has done.
use Rattle.std.specs.Prelude.{◌≡◌, ℕ, ◌<◌, ◌≤◌, Bool, true, false, cond, List, length, Some, None, Ok, Err, Option, Result, OnOk, IfOk}
use Rattle.std.specs.Str.{bytes_eq}
use Rattle.tokens.specs.declared.fault.Fault.{Fault}
use Rattle.tokens.specs.declared.fault.Fault.TheVariants.{Due}
use Rattle.tokens.specs.Tokens.{Tok, opens, closes, equals, number, variable, word, lex}
use Rattle.reading.specs.declared.cursor.Cursor.{Cursor}
use Rattle.reading.specs.States.{◌then◌}
use Rattle.reading.specs.Bindings.{Found}

-- a relation of a cursor before a call and after it, which no invariant can state:
-- reading has gone on in the same line, never back; where it was not refused, it stands behind a token more
abbrev pub Onward : {A : Type 0} → Cursor → Cursor → Result A Fault → Type 0
Onward c d r = (d.line ≡ c.line) × (c.pos ≤ d.pos) × OnOk r ((c.pos < d.pos) × (d.pos ≤ length c.line.now))

-- the place behind what was read
abbrev pub reached : Result Unit Fault → Cursor → Result ℕ Fault
reached (Ok u) c = Ok c.pos
reached (Err f) c = Err f

-- a variable that was read, and the place behind it
abbrev pub found : Result ℕ Fault → Cursor → Result Found Fault
found (Ok v) c = Ok (record { variable = v; end = c.pos })
found (Err f) c = Err f

-- whether two tokens are the same
abbrev pub same_token : Tok → Tok → Bool
same_token opens opens = true
same_token closes closes = true
same_token equals equals = true
same_token (number r) (number s) = bytes_eq r s
same_token (variable r) (variable s) = bytes_eq r s
same_token (word r) (word s) = bytes_eq r s
same_token _ _ = false

-- where a certain token is due: the place behind it
abbrev pub awaited : Tok → List ℕ → ℕ → Result ℕ Fault
awaited t bs p = lex bs p then λ l. cond (same_token l.tok t) (Ok l.end) (Err (Due l.place))

-- whether a certain token stands next, and the place behind it if it does, else the place before it
abbrev pub ate : Tok → List ℕ → ℕ → Result (Bool × ℕ) Fault
ate t bs p = lex bs p then λ l. cond (same_token l.tok t) (Ok (true, l.end)) (Ok (false, p))

abbrev pub eaten : Result Bool Fault → Cursor → Result (Bool × ℕ) Fault
eaten (Ok b) c = Ok (b, c.pos)
eaten (Err f) c = Err f

-- reading stays in the same line and never goes back; where a token was read, it stands behind it
abbrev pub Still : Cursor → Cursor → Result Bool Fault → Type 0
Still c d r = (d.line ≡ c.line) × (c.pos ≤ d.pos) × IfOk r (λ b. b ≡ true → c.pos < d.pos)

-- where one more of a list or its closing bracket is due: the place of the opening bracket, or none, and the place behind the token
abbrev pub bracket : ℕ → ℕ → Tok → Result (Option ℕ × ℕ) Fault
bracket at end opens = Ok (Some at, end)
bracket at end closes = Ok (None, end)
bracket at end equals = Err (Due at)
bracket at end (number r) = Err (Due at)
bracket at end (variable r) = Err (Due at)
bracket at end (word r) = Err (Due at)

abbrev pub bracket_at : List ℕ → ℕ → Result (Option ℕ × ℕ) Fault
bracket_at bs p = lex bs p then λ l. bracket l.place l.end l.tok

abbrev pub bracketed : Result (Option ℕ) Fault → Cursor → Result (Option ℕ × ℕ) Fault
bracketed (Ok o) c = Ok (o, c.pos)
bracketed (Err f) c = Err f
