-- Numbers of a line, and its end.
use Rattle.std.specs.Prelude.{ℕ, cond, List, Ok, Err, Result, ◌==◌}
use Rattle.tokens.specs.declared.fault.Fault.{Fault}
use Rattle.tokens.specs.declared.fault.Fault.TheVariants.{NoToken, Early, Due, Long, Form, Deep, ManyLiterals, ManyNumbers, ManyBindings, ManyWords, OtherKind, OtherArity, Unknown, ManyArguments, ManySymbols, NoRule, Count}
use Rattle.tokens.specs.Tokens.{Lexed, lex}
use Rattle.tokens.specs.Forms.{number_form}
use Rattle.reading.specs.States.{◌then◌}
use Rattle.reading.specs.declared.cursor.Cursor.{Cursor}

-- a number, its place and the place behind it
pub record Numbered : Type 0 where
  pub number : ℕ
  pub place : ℕ
  pub end : ℕ

abbrev pub number_and_end : Numbered → Result (ℕ × ℕ) Fault
number_and_end m = Ok (m.number, m.end)

-- a number that was read, and the place behind it
abbrev pub number_read : Result ℕ Fault → Cursor → Result (ℕ × ℕ) Fault
number_read (Ok n) c = Ok (n, c.pos)
number_read (Err f) c = Err f

-- the number that is due, and the place behind it
abbrev pub number_at : List ℕ → ℕ → Result Numbered Fault
number_at bs p = lex bs p then λ l. number_form l.tok l.place then λ n. Ok (record { number = n; place = l.place; end = l.end })

-- a step number is at least 1
abbrev pub step_number : List ℕ → ℕ → Result Numbered Fault
step_number bs p = number_at bs p then λ m. cond (m.number == 0) (Err (Form m.place)) (Ok m)

-- behind the line's closing bracket no token is due: the line must end
abbrev pub ended : Result Lexed Fault → Result Unit Fault
ended (Ok l) = Err (Due l.place)
ended (Err (Early p)) = Ok tt
ended (Err (NoToken p)) = Err (NoToken p)
ended (Err (Due p)) = Err (Due p)
ended (Err (Long p)) = Err (Long p)
ended (Err (Form p)) = Err (Form p)
ended (Err (Deep p)) = Err (Deep p)
ended (Err (ManyLiterals p)) = Err (ManyLiterals p)
ended (Err (ManyNumbers p)) = Err (ManyNumbers p)
ended (Err (ManyBindings p)) = Err (ManyBindings p)
ended (Err (ManyWords p)) = Err (ManyWords p)
ended (Err (OtherKind p)) = Err (OtherKind p)
ended (Err (OtherArity p)) = Err (OtherArity p)
ended (Err (Unknown p)) = Err (Unknown p)
ended (Err (ManyArguments p)) = Err (ManyArguments p)
ended (Err (ManySymbols p)) = Err (ManySymbols p)
ended (Err (NoRule p)) = Err (NoRule p)
ended (Err Count) = Err Count

abbrev pub line_end : List ℕ → ℕ → Result Unit Fault
line_end bs p = ended (lex bs p)
