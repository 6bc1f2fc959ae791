-- The tokens of a line, each with its place.
use Rattle.std.specs.Prelude.{ℕ, ◌+◌, Bool, cond, ◌&&◌, List, length, Ok, Err, Result, ◌==◌, nat_le, nat_lt, slice_index}
use Rattle.std.specs.List.{between}
use Rattle.logic.specs.Names.{digit}
use Rattle.tokens.specs.declared.byte.Class.TheVariants.{Space, Digit, Run}
use Rattle.tokens.specs.declared.token.Token.{Token}
use Rattle.tokens.specs.declared.token.Token.TheVariants.{Open, Close, Equals, Number, Variable, Name}
use Rattle.tokens.specs.declared.token.Lexeme.{Lexeme}
use Rattle.tokens.specs.declared.fault.Fault.{Fault}
use Rattle.tokens.specs.declared.fault.Fault.TheVariants.{NoToken, Early}
use Rattle.tokens.specs.Bytes.{within, past}

-- a token: a run is kept as its bytes
pub data Tok : Type 0 where
  opens closes equals : Tok
  number variable word : List ℕ → Tok

-- a token, its place, and the place behind it
pub record Lexed : Type 0 where
  pub tok : Tok
  pub place : ℕ
  pub end : ℕ

-- a token of the code: the bytes in place of the reference to them
abbrev pub tok : Token → Tok
tok Open = opens
tok Close = closes
tok Equals = equals
tok (Number r) = number r.now
tok (Variable r) = variable r.now
tok (Name r) = word r.now

abbrev pub seen : Result Lexeme Fault → Result Lexed Fault
seen (Ok l) = Ok (record { tok = tok l.token; place = l.place; end = l.end })
seen (Err f) = Err f

-- v and then digits only, at least one
abbrev pub variable_run : List ℕ → Bool
variable_run run = slice_index run 0 == 118 && nat_lt 1 (length run) && past Digit run 1 == length run

-- a run that starts with a digit is a number, a variable's run a variable, any other a name
abbrev pub class : List ℕ → Tok
class run = cond (digit (slice_index run 0)) (number run) (cond (variable_run run) (variable run) (word run))

abbrev pub one_byte : Tok → ℕ → Result Lexed Fault
one_byte t s = Ok (record { tok = t; place = s; end = s + 1 })

-- the token at s, whose byte is no space
abbrev pub token_at : List ℕ → ℕ → Result Lexed Fault
token_at bs s =
    cond (nat_le (length bs) s) (Err (Early (length bs)))
    (cond (slice_index bs s == 40) (one_byte opens s)
    (cond (slice_index bs s == 41) (one_byte closes s)
    (cond (slice_index bs s == 61) (one_byte equals s)
    (cond (within Run (slice_index bs s)) (Ok (record { tok = class (between s (past Run bs s) bs); place = s; end = past Run bs s }))
    (Err (NoToken s))))))

-- the first token from p on
unfoldable pub lex : List ℕ → ℕ → Result Lexed Fault
lex bs p = token_at bs (past Space bs p)
