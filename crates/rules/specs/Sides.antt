-- The head and the sides of an equality on words.
use Rattle.std.specs.Prelude.{◌≡◌, ℕ, List, ◌∷◌, drop}
use Rattle.std.specs.List.{between}

-- the words begin with the head h
abbrev pub Headed : ℕ → List ℕ → Type 0
Headed h ws = (rest : List ℕ) × (ws ≡ h ∷ rest)

-- behind the head of the words, the words xs lie up to the place, and `rest` from there on
pub record Parted (ws : List ℕ) (place : ℕ) (xs rest : List ℕ) : Type 0 where
  pub left : between 1 place ws ≡ xs
  pub right : drop place ws ≡ rest
