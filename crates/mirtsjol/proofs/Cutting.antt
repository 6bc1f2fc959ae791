-- The lines of an input come as they are cut, one by one.
use Rattle.std.proofs.Common.{◌≡◌, ℕ, ◌+◌, ◌-◌, ◌<◌, ◌≤◌, Bool, true, false, cond, List, [], length, take, drop, arith, refl, MatchOption, Some, None, nat_lt, length-drop}
use Rattle.std.proofs.lemmas.Grind.{common_steps}
use Rattle.std.proofs.lemmas.Bool.Decides.{nat_tests}
use Rattle.std.proofs.lemmas.List.Sums.{prefix_len-le-length}
use Rattle.std.specs.List.{between, prefix_len}
use Rattle.mirtsjol.specs.Cuts.{Cut, lines_of, line_end, behind, inside}
use Rattle.mirtsjol.specs.Cuts.{IsFirstFrom, LinesComeOneByOne}
use Rattle.mirtsjol.proofs.FirstLine.{parted}

module _ (bs : List ℕ) (p e : ℕ) where
  rest_behind : p < length bs → drop (behind bs (p + e)) bs ≡ drop (e + 1) (drop p bs)
  rest_behind h = grind (arith, common_steps, nat_tests)

  line_before : between p (p + e) bs ≡ take e (drop p bs)
  line_before = let d : p + e - p ≡ e = omega arith in rw d

  behind_on : p < length bs → p + e ≤ length bs → (p < behind bs (p + e)) × (behind bs (p + e) ≤ length bs)
  behind_on h k = grind (arith, nat_tests)

module _ (bs : List ℕ) (p : ℕ) where
  -- the cut at p
  abbrev cut : Cut
  cut = record { bytes = between p (line_end bs p) bs; next = behind bs (line_end bs p) }

  first_from : p < length bs → IsFirstFrom bs p cut
  first_from h =
      let e : ℕ = prefix_len inside (drop p bs) in
      let k : p + e ≤ length bs = omega (arith, prefix_len-le-length inside (drop p bs), length-drop p bs) in
      let on = behind_on bs p e h k in
      record {
        lines = rw (line_before bs p e, rest_behind bs p e h) (parted (drop p bs) (omega (arith, length-drop p bs)));
        on = on.0;
        within = on.1;
      }

  by_place : (q : Bool) → nat_lt p (length bs) ≡ q → MatchOption (cond q (Some cut) None) (lines_of (drop p bs) ≡ []) (λ c. IsFirstFrom bs p c)
  by_place true t = first_from (grind (arith, nat_tests))
  by_place false t = grind (arith, nat_tests, common_steps)

pub come_one_by_one : (bs : List ℕ) → LinesComeOneByOne bs
come_one_by_one bs p = by_place bs p (nat_lt p (length bs)) refl
