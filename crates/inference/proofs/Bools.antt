-- Tests joined by and, or, not.
use Rattle.std.proofs.Common.{◌≡◌, Bool, true, false, cond, not, ◌||◌, T, sym, refl, subst}
use mathlib.Core.Bool.{beq}

pub or_left : (a b : Bool) → T a → T (a || b)
or_left true b h = tt
or_left false b h = absurd h

pub or_right : (a b : Bool) → T b → T (a || b)
or_right true b h = tt
or_right false b h = h

pub neither : (a b : Bool) → (T a → ⊥) → T (not b) → T (not (a || b))
neither true b h k = h tt
neither false b h k = k

-- a || (b || c) with b in front
pub or_front : (a b c : Bool) → (a || (b || c)) ≡ (b || (a || c))
or_front true true c = refl
or_front true false c = refl
or_front false b c = refl

pub same_sign : (a b : Bool) → T (beq a b) → a ≡ b
same_sign true true h = refl
same_sign true false h = absurd h
same_sign false true h = absurd h
same_sign false false h = refl

pub sign_same : (a : Bool) → T (beq a a)
sign_same true = tt
sign_same false = tt

pub other_sign : (a b : Bool) → T (not (beq a b)) → a ≡ not b
other_sign true true h = absurd h
other_sign true false h = refl
other_sign false true h = refl
other_sign false false h = absurd h

pub sign_other : (b : Bool) → T (not (beq (not b) b))
sign_other true = tt
sign_other false = tt

-- two literals over one atom x with opposite signs s and r
pub opposite : (s r x : Bool) → T (not (beq s r)) → cond s (not x) x ≡ not (cond r (not x) x)
opposite true true x h = absurd h
opposite true false x h = refl
opposite false true true h = refl
opposite false true false h = refl
opposite false false x h = absurd h

pub resolved : (p q a b : Bool) → p ≡ not q → T (p || a) → T (q || b) → T (a || b)
resolved p true a b e h k = or_left a b (subst (λ (x : Bool). T (x || a)) e h)
resolved p false a b e h k = or_right a b k

pub paramodulated : (p q r a b : Bool) → (T p → r ≡ q) → T (p || a) → T (q || b) → T (a || (r || b))
paramodulated true q r a b e h k = or_right a (r || b) (subst (λ (x : Bool). T (x || b)) (sym (e tt)) k)
paramodulated false q r a b e h k = or_left a (r || b) h
