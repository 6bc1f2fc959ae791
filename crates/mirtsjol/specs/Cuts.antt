-- The lines of an input: only a newline byte ends a line.
use Rattle.std.specs.Prelude.{◌≡◌, ℕ, ◌+◌, ◌<◌, ◌≤◌, Bool, cond, not, List, [], ◌∷◌, length, drop, Some, None, Option, MatchOption, ◌==◌, nat_lt}
use Rattle.std.specs.List.{between, prefix_len, onto_first}

-- the byte ends a line
abbrev pub Newline : ℕ → Bool
Newline b = b == 10

-- the lines of an input, each without its newline; behind a last newline there is none
abbrev pub lines_of : List ℕ → List (List ℕ)
lines_of [] = []
lines_of (b ∷ bs) = cond (Newline b) ([] ∷ lines_of bs) (onto_first b (lines_of bs))

-- the byte is part of its line
abbrev pub inside : ℕ → Bool
inside b = not (b == 10)

-- the first place from p on that has a newline, or the input's length where none has
abbrev pub line_end : List ℕ → ℕ → ℕ
line_end bs p = p + prefix_len inside (drop p bs)

-- the place behind the newline at p; the input's end has none
abbrev pub behind : List ℕ → ℕ → ℕ
behind bs p = cond (nat_lt p (length bs)) (p + 1) p

-- a line without its newline, and where the next one begins
pub record Cut : Type 0 where
  pub bytes : List ℕ
  pub next : ℕ

-- the line that begins at p; at the input's end there is none
abbrev pub line_at : List ℕ → ℕ → Option Cut
line_at bs p =
    cond (nat_lt p (length bs)) (Some (record { bytes = between p (line_end bs p) bs; next = behind bs (line_end bs p) })) None

-- the lines from place p on are the one that is cut there and those from the next place on, which is further on and within the input
pub record IsFirstFrom (bs : List ℕ) (p : ℕ) (c : Cut) : Type 0 where
  pub lines : lines_of (drop p bs) ≡ c.bytes ∷ lines_of (drop c.next bs)
  pub on : p < c.next
  pub within : c.next ≤ length bs

-- the lines from each place on come as they are cut, one by one; at the input's end there is none
abbrev pub LinesComeOneByOne : List ℕ → Type 0
LinesComeOneByOne bs = (p : ℕ) → MatchOption (line_at bs p) (lines_of (drop p bs) ≡ []) (λ c. IsFirstFrom bs p c)
