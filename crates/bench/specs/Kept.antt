-- The law of a bench follows from the laws of its rules.
use Rattle.std.specs.Prelude.{◌≡◌, Bool, true, false, cond, List, ◌∷◌, Some, Option}
use Rattle.std.proofs.Common.{subst}
use Rattle.std.specs.Str.{bytes_eq}
use Rattle.bench.specs.Meanings.{Meaning, Sound}
use Rattle.bench.specs.Rows.{first_rule, KeepsTheLaw}

some_is : (m n : Meaning) → Some m ≡ Some n → m ≡ n
some_is m n e = cc

either : (b : Bool) (m n : Meaning) (o : Option Meaning) → Sound m → (o ≡ Some n → Sound n) → cond b (Some m) o ≡ Some n → Sound n
either true m n o s h e = subst Sound (some_is m n e) s
either false m n o s h e = h e

-- a sound rule in front of a row that keeps the law
pub keeps_more : (m : Meaning) (ms : List Meaning) → Sound m → KeepsTheLaw ms → KeepsTheLaw (m ∷ ms)
keeps_more m ms s h k n e = either (bytes_eq m.keyword k) m n (first_rule ms k) s (h k n) e
