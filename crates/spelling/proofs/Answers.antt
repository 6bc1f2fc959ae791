-- What is known of a reading that answers.
use Rattle.std.proofs.Common.{◌≡◌, ℕ, Bool, true, false, cond, List, Ok, Err, Result, refl}
use Rattle.logic.specs.declared.row.SymbolRow.{SymbolRow}
use Rattle.tokens.specs.declared.fault.Fault.{Fault}
use Rattle.reading.specs.States.{Halt, ◌>>=◌, ◌then◌, lift}

pub ok_same : {A E : Type 0} {x y : A} → ◌≡◌ {A = Result A E} (Ok x) (Ok y) → x ≡ y
ok_same e = cc

pub bind_ok : {A B : Type 0} (r : Result A Halt) (k : A → Result B Halt) (y : B) → (r >>= k) ≡ Ok y → (x : A) × (r ≡ Ok x) × (k x ≡ Ok y)
bind_ok (Ok x) k y e = (x, refl, e)
bind_ok (Err f) k y e = cc

pub then_ok : {A B : Type 0} (r : Result A Fault) (k : A → Result B Fault) (y : B) → (r then k) ≡ Ok y → (x : A) × (r ≡ Ok x) × (k x ≡ Ok y)
then_ok (Ok x) k y e = (x, refl, e)
then_ok (Err f) k y e = cc

pub lift_ok : {A : Type 0} (n : ℕ) (rows : List SymbolRow) (r : Result A Fault) (x : A) → lift n rows r ≡ Ok x → r ≡ Ok x
lift_ok n rows (Ok y) x e = cc
lift_ok n rows (Err f) x e = cc

-- a refusal that was not taken
pub cond_ok : {A E : Type 0} (b : Bool) (f : E) (k : Result A E) (y : A) → cond b (Err f) k ≡ Ok y → (b ≡ false) × (k ≡ Ok y)
cond_ok true f k y e = cc
cond_ok false f k y e = (refl, e)

pub pick_ok : {A E : Type 0} (b : Bool) (k : Result A E) (f : E) (y : A) → cond b k (Err f) ≡ Ok y → (b ≡ true) × (k ≡ Ok y)
pick_ok true k f y e = (refl, e)
pick_ok false k f y e = cc
