-- An answer is allowed exactly when every demand is met; and what the demand on a literal's number says.
use Rattle.std.proofs.Common.{◌≡◌, ℕ, zero, suc, ◌-◌, true, false, ◌||◌, T, ltb, leb, List, [], ◌∷◌, length, sym, refl, subst, arith, le→leb, ltb→lt, lt→ltb, leb→le}
use Rattle.std.proofs.Math.Facts.{and_yes, yes_and}
use Rattle.logic.specs.Syntax.{Literal, Clause}
use Rattle.logic.specs.Literals.{literal}
use Rattle.logic.specs.Structures.{Structure, Valuation, clause_truth, literal_truth}
use Rattle.inference.specs.Answers.{Answer, allowed, fault, Demand, ◌otherwise◌, answer}
use Rattle.inference.specs.Literals.{has, without, with_literal}
use Rattle.inference.specs.Conclusions.{HasLiteral}
use Rattle.inference.proofs.Truth.{truth_apart, truth_set}

-- each test of the demands succeeds
abbrev pub Met : List Demand → Type 0
Met [] = Unit {0}
Met ((b otherwise f) ∷ ds) = T b × Met ds

abbrev IsAllowed : Answer → Type 0
IsAllowed allowed = Unit {0}
IsAllowed (fault f) = ⊥

pub never_allowed : (n : ℕ) → fault n ≡ allowed → ⊥
never_allowed n e = subst IsAllowed (sym e) tt

pub met : (ds : List Demand) → answer ds ≡ allowed → Met ds
met [] e = tt
met ((true otherwise f) ∷ ds) e = (tt, met ds e)
met ((false otherwise f) ∷ ds) e = absurd (never_allowed f e)

pub allowed_where_met : (ds : List Demand) → Met ds → answer ds ≡ allowed
allowed_where_met [] m = refl
allowed_where_met ((true otherwise f) ∷ ds) m = allowed_where_met ds m.1
allowed_where_met ((false otherwise f) ∷ ds) m = absurd m.0

pub has_it : (c : Clause) (a : ℕ) → T (has c a) → HasLiteral c a
has_it c a h =
    (ltb→lt 0 a (and_yes (ltb 0 a) (leb a (length c)) h).0, leb→le a (length c) (and_yes (ltb 0 a) (leb a (length c)) h).1)

pub it_has : (c : Clause) (a : ℕ) → HasLiteral c a → T (has c a)
it_has c a h = yes_and (ltb 0 a) (leb a (length c)) (lt→ltb 0 a h.0) (le→leb a (length c) h.1)

module _ (S : Structure) (v : Valuation) where
  -- literal a of a clause, and the others
  pub literal_apart : (c : Clause) (a : ℕ) → T (has c a)
      → clause_truth S v c ≡ (literal_truth S v (literal c a) || clause_truth S v (without c a))
  literal_apart c zero h = absurd h
  literal_apart c (suc k) h =
      let e : suc k - 1 ≡ k = omega arith in
      rw e (truth_apart S v c k _ (leb→le (suc k) (length c) (and_yes (ltb 0 (suc k)) (leb (suc k) (length c)) h).1))

  -- and another literal in its place
  pub literal_put : (c : Clause) (a : ℕ) (m : Literal) → T (has c a)
      → clause_truth S v (with_literal c a m) ≡ (literal_truth S v m || clause_truth S v (without c a))
  literal_put c zero m h = absurd h
  literal_put c (suc k) m h =
      let e : suc k - 1 ≡ k = omega arith in
      rw e (truth_set S v c k m (leb→le (suc k) (length c) (and_yes (ltb 0 (suc k)) (leb (suc k) (length c)) h).1))
