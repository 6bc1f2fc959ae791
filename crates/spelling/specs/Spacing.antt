-- The tokens of a line, with any spacing between them.
use Rattle.std.specs.Prelude.{◌≡◌, ℕ, ◌<◌, true, false, List, [], ◌∷◌, ◌++◌, length}
use Rattle.std.specs.List.{AllByRecursion}
use Rattle.logic.specs.Names.{name_byte}
use Rattle.tokens.specs.Tokens.{Tok, opens, closes, equals, class}

-- a run ends before these bytes
abbrev pub RunEnds : List ℕ → Type 0
RunEnds [] = Unit {0}
RunEnds (b ∷ bs) = name_byte b ≡ false

-- the bytes are those of the tokens in their order, with any number of spaces before, between and behind them;
-- a run is the longest there, and its class says what token it is
pub data Spaced : List ℕ → List Tok → Type 0 where
  end : Spaced [] []
  space : {bs : List ℕ} {ts : List Tok} → Spaced bs ts → Spaced (32 ∷ bs) ts
  opening : {bs : List ℕ} {ts : List Tok} → Spaced bs ts → Spaced (40 ∷ bs) (opens ∷ ts)
  closing : {bs : List ℕ} {ts : List Tok} → Spaced bs ts → Spaced (41 ∷ bs) (closes ∷ ts)
  equality : {bs : List ℕ} {ts : List Tok} → Spaced bs ts → Spaced (61 ∷ bs) (equals ∷ ts)
  run :
      {bs : List ℕ} {ts : List Tok} (r : List ℕ) → 0 < length r → AllByRecursion (λ b. name_byte b ≡ true) r → RunEnds bs → Spaced bs ts
      → Spaced (r ++ bs) (class r ∷ ts)
