-- The decimal numeral of a number is in form.
use Rattle.std.proofs.lemmas.List.Sums.{fold-append}
use Rattle.std.proofs.Common.{◌≡◌, ℕ, suc, ◌+◌, ◌-◌, ◌*◌, ◌%◌, ◌^◌, ◌<◌, ◌≤◌, true, cond, ◌||◌, eqb, leb, ◌⊎◌, List, [], ◌∷◌, length, get_or, decimal as numeral, refl, ap, ◌∙◌, inl, inr, mod-lt, one-add, arith}
use native.Mathlib.Nat.{mod-add-div}
use Rattle.std.proofs.lemmas.Bool.Decides.{nat_tests}
use Rattle.std.proofs.lemmas.Bool.{eq-eqb, le-leb, cases_lt, and_from, or_left, or_right}
use Rattle.std.proofs.lemmas.Fmt.{decimal_by_steps, decimal_nonempty, decimal_digit, first_decimal}
use Rattle.std.specs.List.{prefix_len, AllByRecursion}
use Rattle.std.proofs.ByRecursion.{All-append}
use Rattle.logic.specs.Names.{digit, name_byte}
use Rattle.tokens.specs.Forms.{digits, decimal, value}
use Rattle.spelling.specs.Grammar.{Numeral}

abbrev Figures : List ℕ → Type 0
Figures ds = AllByRecursion (λ b. digit b ≡ true) ds

digit_is : (d : ℕ) → d < 10 → digit (48 + d) ≡ true
digit_is d h = grind (arith, nat_tests)

-- digits only, and worth the number
abbrev Worth : ℕ → List ℕ → Type 0
Worth n ds = Figures ds × (value ds ≡ n)

worth : (n : ℕ) → n < 2 ^ 64 → Worth n (numeral n)
worth n h =
    decimal_by_steps Worth (λ m l. ((digit_is m l, tt), omega arith))
    (λ m ds l q.
    let small : m % 10 < 10 = mod-lt m (omega arith) in
    let last : 48 + m % 10 - 48 ≡ m % 10 = omega arith in (
      All-append _ ds ((48 + m % 10) ∷ []) q.0 (digit_is (m % 10) small, tt),
      fold-append _ 0 ds ((48 + m % 10) ∷ []) ∙ ap (λ x. x * 10 + (48 + m % 10 - 48)) q.1 ∙ omega (arith, last, mod-add-div m 10),
    ))
    n h

leading_all : (ds : List ℕ) → Figures ds → prefix_len digit ds ≡ length ds
leading_all [] a = refl
leading_all (d ∷ ds) a = ap (λ b. cond b (1 + prefix_len digit ds) 0) a.0 ∙ one-add _ ∙ ap suc (leading_all ds a.1)

-- no leading zero except 0 itself
plain : (n : ℕ) → n < 2 ^ 64 → (eqb (length (numeral n)) 1 || leb 49 (get_or (numeral n) 0 0)) ≡ true
plain n h = by (cases_lt 0 n)
  where
    by : (0 < n) ⊎ (n ≤ 0) → (eqb (length (numeral n)) 1 || leb 49 (get_or (numeral n) 0 0)) ≡ true
    by (inl some) = or_right _ _ (le-leb 49 (get_or (numeral n) 0 0) (first_decimal n some h))
    by (inr none) = or_left _ _ (eq-eqb (length (numeral n)) 1 (ap length (decimal_digit n (omega arith))))

pub numeral_form : (n : ℕ) → n < 2 ^ 64 → decimal (numeral n) ≡ true
numeral_form n h =
    and_from (digits (numeral n)) (eqb (length (numeral n)) 1 || leb 49 (get_or (numeral n) 0 0))
    (and_from (leb 1 (length (numeral n))) (eqb (prefix_len digit (numeral n)) (length (numeral n))) (le-leb 1 (length (numeral n)) (decimal_nonempty n h))
    (eq-eqb (prefix_len digit (numeral n)) (length (numeral n)) (leading_all (numeral n) (worth n h).0)))
    (plain n h)

-- a digit is a byte of a run
run_byte : (b : ℕ) → digit b ≡ true → name_byte b ≡ true
run_byte b e = grind (arith, nat_tests)

run_bytes : (ds : List ℕ) → Figures ds → AllByRecursion (λ b. name_byte b ≡ true) ds
run_bytes [] a = tt
run_bytes (d ∷ ds) a = (run_byte d a.0, run_bytes ds a.1)

pub numeral_bytes : (n : ℕ) → n < 2 ^ 64 → AllByRecursion (λ b. name_byte b ≡ true) (numeral n)
numeral_bytes n h = run_bytes (numeral n) (worth n h).0

first_digit : (ds : List ℕ) → Figures ds → 0 < length ds → digit (get_or ds 0 0) ≡ true
first_digit [] a h = absurd (omega arith)
first_digit (d ∷ ds) a h = a.0

pub numeral_first : (n : ℕ) → n < 2 ^ 64 → digit (get_or (numeral n) 0 0) ≡ true
numeral_first n h = first_digit (numeral n) (worth n h).0 (decimal_nonempty n h)

pub numeral_leading : (n : ℕ) → n < 2 ^ 64 → prefix_len digit (numeral n) ≡ length (numeral n)
numeral_leading n h = leading_all (numeral n) (worth n h).0

-- a number of at most six digits, and a variable of at most three
pub numeral_of : (run : List ℕ) (n most : ℕ) → n < 2 ^ 64 → n ≤ most → length run ≤ 16 → Numeral run (numeral n) most n
numeral_of run n most h small short = record { short = short; plain = numeral_form n h; worth = (worth n h).1; small = small }
