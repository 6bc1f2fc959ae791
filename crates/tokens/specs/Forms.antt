-- The forms of numbers, variables and names.
use Rattle.std.specs.Prelude.{ℕ, ◌+◌, ◌-◌, ◌*◌, Bool, cond, ◌&&◌, ◌||◌, List, length, drop, Ok, Err, codes, fold, Result, ◌==◌, nat_le, nat_lt, slice_index}
use Rattle.std.specs.Borrow.{Bor}
use Rattle.std.specs.List.{prefix_len}
use Rattle.std.specs.Str.{bytes_eq}
use Rattle.logic.specs.Limits as limits
use Rattle.logic.specs.Names.{digit, letter}
use Rattle.tokens.specs.declared.fault.Fault.{Fault}
use Rattle.tokens.specs.declared.fault.Fault.TheVariants.{Due, Long, Form}
use Rattle.tokens.specs.Tokens.{Tok, opens, closes, equals, number, variable, word}

-- the largest number that a line may have
abbrev pub largest_number : ℕ
largest_number = 999999

-- digits only, at least one
abbrev pub digits : List ℕ → Bool
digits run = nat_le 1 (length run) && prefix_len digit run == length run

-- digits only, at least one, with no leading zero except 0 itself
abbrev pub decimal : List ℕ → Bool
decimal run = digits run && (length run == 1 || nat_le 49 (slice_index run 0))

-- what digits stand for in base ten
abbrev pub value : List ℕ → ℕ
value run = fold (λ n b. n * 10 + (b - 48)) 0 run

-- too long a run is 4, another form or a number above the largest is 5
abbrev pub in_form : List ℕ → List ℕ → ℕ → ℕ → Result ℕ Fault
in_form run figures most at =
    cond (nat_lt limits.name_bytes (length run)) (Err (Long at))
    (cond (decimal figures && nat_le (value figures) most) (Ok (value figures)) (Err (Form at)))

-- the number that a token is, where a number is due
abbrev pub number_form : Tok → ℕ → Result ℕ Fault
number_form opens at = Err (Due at)
number_form closes at = Err (Due at)
number_form equals at = Err (Due at)
number_form (number run) at = in_form run run largest_number at
number_form (variable run) at = Err (Due at)
number_form (word run) at = Err (Due at)

-- the number of a variable's run
unfoldable pub variable_form : List ℕ → ℕ → Result ℕ Fault
variable_form run at = in_form run (drop 1 run) (limits.variables - 1) at

-- the names that are never symbols
abbrev pub reserved : List ℕ → Bool
reserved run = bytes_eq run (codes "or") || bytes_eq run (codes "not")

-- a run that starts with no letter is out of form as a name
abbrev pub name_in_form : List ℕ → ℕ → Result (List ℕ) Fault
name_in_form run at =
    cond (nat_lt limits.name_bytes (length run)) (Err (Long at))
    (cond (letter (slice_index run 0)) (Ok run) (Err (Form at)))

-- what stands behind a reference in an answer
abbrev pub behind : Result (Bor (List ℕ)) Fault → Result (List ℕ) Fault
behind (Ok r) = Ok r.now
behind (Err f) = Err f

-- the name that a token is, where the keyword of an inference rule is due
abbrev pub keyword_form : Tok → ℕ → Result (List ℕ) Fault
keyword_form opens at = Err (Due at)
keyword_form closes at = Err (Due at)
keyword_form equals at = Err (Due at)
keyword_form (number run) at = Err (Due at)
keyword_form (variable run) at = Err (Due at)
keyword_form (word run) at = name_in_form run at

-- the name that a token is, where a symbol is due
abbrev pub symbol_form : Tok → ℕ → Result (List ℕ) Fault
symbol_form opens at = Err (Due at)
symbol_form closes at = Err (Due at)
symbol_form equals at = Err (Due at)
symbol_form (number run) at = Err (Due at)
symbol_form (variable run) at = Err (Due at)
symbol_form (word run) at = cond (reserved run) (Err (Due at)) (name_in_form run at)
