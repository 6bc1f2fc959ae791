-- Symbols that appear one after another.
use Rattle.std.proofs.Common.{ℕ, ◌+◌, ◌≤◌, Bool, List, [], ◌∷◌, ◌++◌, arith}
use Rattle.spelling.specs.Appearance.{Appear, none_more, known, next}

pub appear_join : (may : Bool) (n : ℕ) (ss : List ℕ) (m : ℕ) (ts : List ℕ) (l : ℕ) → Appear may n ss m → Appear may m ts l → Appear may n (ss ++ ts) l
appear_join may n [] m ts l none_more g = g
appear_join may n (s ∷ ss) m ts l (known lt f) g = known lt (appear_join may n ss m ts l f g)
appear_join may n (s ∷ ss) m ts l (next y f) g = next y (appear_join may (n + 1) ss m ts l f g)

pub appear_more : (may : Bool) (n : ℕ) (ss : List ℕ) (m : ℕ) → Appear may n ss m → n ≤ m
appear_more may n [] m none_more = omega arith
appear_more may n (s ∷ ss) m (known lt f) = appear_more may n ss m f
appear_more may n (s ∷ ss) m (next y f) = omega (arith, appear_more may (n + 1) ss m f)

-- what appears in two parts
pub appear_split : (may : Bool) (n : ℕ) (ss ts : List ℕ) (l : ℕ) → Appear may n (ss ++ ts) l → (m : ℕ) × Appear may n ss m × Appear may m ts l
appear_split may n [] ts l f = (n, none_more, f)
appear_split may n (s ∷ ss) ts l (known lt f) = let r = appear_split may n ss ts l f in (r.0, known lt r.1, r.2)
appear_split may n (s ∷ ss) ts l (next y f) = let r = appear_split may (n + 1) ss ts l f in (r.0, next y r.1, r.2)
