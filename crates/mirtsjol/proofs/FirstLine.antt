-- The first of the lines of an input, and those behind it.
use Rattle.std.proofs.Common.{◌≡◌, ℕ, ◌+◌, ◌<◌, Bool, true, false, not, cond, suc, List, [], ◌∷◌, length, take, drop, arith, refl}
use Rattle.std.specs.List.{before_first, after_first, position_or_len, onto_first}
use Rattle.mirtsjol.specs.Cuts.{Newline, lines_of}

-- what holds of an input that has a first line
abbrev Parted : List ℕ → Type 0
Parted bs = lines_of bs ≡ before_first Newline bs ∷ lines_of (after_first Newline bs)

-- one byte more before a first line
longer : (b e : ℕ) (bs : List ℕ) (ls : List (List ℕ)) → ls ≡ take e bs ∷ lines_of (drop (e + 1) bs) → onto_first b ls ≡ take (1 + e) (b ∷ bs) ∷ lines_of (drop (1 + e + 1) (b ∷ bs))
longer b e bs ls h =
    let s : 1 + e ≡ suc e = omega arith in
    let t : 1 + e + 1 ≡ suc (e + 1) = omega arith in
    rw (h, t, s)

-- a byte before an input, where q says whether it is a newline
abbrev Put : Bool → ℕ → List ℕ → Type 0
Put q b bs =
    let e : ℕ = cond (not q) (1 + position_or_len Newline bs) 0 in
    cond q ([] ∷ lines_of bs) (onto_first b (lines_of bs)) ≡ take e (b ∷ bs) ∷ lines_of (drop (e + 1) (b ∷ bs))

put : (q : Bool) (b c : ℕ) (cs : List ℕ) → Parted (c ∷ cs) → Put q b (c ∷ cs)
put true b c cs h = refl
put false b c cs h = longer b (position_or_len Newline (c ∷ cs)) (c ∷ cs) (lines_of (c ∷ cs)) h

put_last : (q : Bool) (b : ℕ) → Put q b []
put_last true b = refl
put_last false b = refl

parted_first : (b : ℕ) (bs : List ℕ) → Parted (b ∷ bs)
parted_first b [] = put_last (Newline b) b
parted_first b (c ∷ cs) = put (Newline b) b c cs (parted_first c cs)

pub parted : (bs : List ℕ) → 0 < length bs → Parted bs
parted [] h = absurd (omega arith)
parted (b ∷ bs) h = parted_first b bs
