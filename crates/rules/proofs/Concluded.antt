-- A conclusion compared piece by piece.
use Rattle.std.proofs.Common.{◌≡◌, ◌≢◌, ℕ, ◌+◌, ◌<◌, Bool, true, false, cond, List, ◌++◌, length, get_or, drop, Some, None, Option, Ok, Err, Result, IsTrue, sym, refl, ap, ◌∙◌}
use mathlib.Core.List.{append_cancel_left}
use Rattle.std.specs.List.{flat_map}
use Rattle.std.specs.Option.{ok_or}
use Rattle.std.proofs.lemmas.List.{at_drop_more}
use Rattle.std.proofs.lemmas.Bool.{false≢true}
use Rattle.bench.specs.declared.fault.RuleFault.{RuleFault}
use Rattle.bench.specs.Faults.{answered}
use Rattle.inference.specs.Answers.{Answer, allowed, fault}
use Rattle.inference.specs.Order.{DemandedLast}
use Rattle.rules.specs.Pieces.{Allows}

-- the same answer to another fact
pub allows_like : {P Q : Type 0} → (P → Q) → (Q → P) → (r : Result (Unit {0}) RuleFault) → Allows r P → Allows r Q
allows_like to from (Ok u) h = to h
allows_like to from (Err f) h = (h.0, λ q. h.1 (from q))

-- what is answered to the last demand of an inference rule
pub answered_last : {P : Type 0} (x : Answer) → DemandedLast P 27 x → (r : Result (Unit {0}) RuleFault) → Allows r P → answered r ≡ x
answered_last x d (Ok u) h = sym (d.then h)
answered_last x d (Err f) h = ap (λ g. answered (Err g)) h.0 ∙ sym (d.otherwise h.1)

-- what is answered to a test
pub answered_test : (b : Bool) (r : Result (Unit {0}) RuleFault) → Allows r (IsTrue b) → answered r ≡ cond b allowed (fault 27)
answered_test true (Ok u) h = refl
answered_test true (Err f) h = absurd (h.1 refl)
answered_test false (Ok u) h = absurd (false≢true h)
answered_test false (Err f) h = ap (λ g. answered (Err g)) h.0

pub some_found : {A : Type 0} (f : RuleFault) (o : Option A) (x : A) → Ok x ≡ ok_or o f → o ≡ Some x
some_found f None x e = cc
some_found f (Some y) x e = cc

pub none_found : {A : Type 0} (f : RuleFault) (o : Option A) (g : RuleFault) → ◌≡◌ {A = Result A RuleFault} (Err g) (ok_or o f) → (o ≡ None) × (g ≡ f)
none_found f None g e = (refl, cc)
none_found f (Some y) g e = absurd cc

-- what is passed on
pub passed_on : (r : Result (Unit {0}) RuleFault) (g : RuleFault) (x : Answer) → r ≡ Err g → answered (Err g) ≡ x → answered r ≡ x
passed_on r g x e h = ap answered e ∙ h

module _ {X : Type 0} (f : X → List ℕ) (xs : List X) (ws : List ℕ) where
  -- behind i pieces: the words are all pieces exactly where those that are left are the other pieces
  abbrev pub Behind : ℕ → List ℕ → Type 0
  Behind i rest = (ws ≡ flat_map f xs → rest ≡ flat_map f (drop i xs)) × (rest ≡ flat_map f (drop i xs) → ws ≡ flat_map f xs)

  module _ (i : ℕ) (rest : List ℕ) (h : Behind i rest) (d : X) (l : i < length xs) where
    opened : flat_map f (drop i xs) ≡ f (get_or xs i d) ++ flat_map f (drop (i + 1) xs)
    opened = at_drop_more (flat_map f) xs i d l

    -- the next piece is there
    pub behind_more : (next : List ℕ) → rest ≡ f (get_or xs i d) ++ next → Behind (i + 1) next
    behind_more next e = (
      λ t. append_cancel_left (f (get_or xs i d)) next (flat_map f (drop (i + 1) xs)) (sym e ∙ h.0 t ∙ opened),
      λ t. h.1 (e ∙ ap (λ r. f (get_or xs i d) ++ r) t ∙ sym opened),
    )

    -- it is not
    pub behind_stops : ((next : List ℕ) → rest ≢ f (get_or xs i d) ++ next) → ws ≡ flat_map f xs → ⊥
    behind_stops n t = n (flat_map f (drop (i + 1) xs)) (h.0 t ∙ opened)
