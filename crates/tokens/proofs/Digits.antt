use Rattle.std.proofs.Common.{◌≡◌, ℕ, ◌^◌, ◌<◌, ◌≤◌, true, arith}
use native.Mathlib.Nat.{pow-le-pow_right}
use Rattle.std.proofs.lemmas.Bool.Decides.{nat_tests}
use Rattle.logic.specs.Names.{digit}

pub ten_small : (i : ℕ) → i ≤ 16 → 10 ^ i ≤ 10 ^ 16
ten_small i h = let pos : 0 < 10 = omega arith in pow-le-pow_right pos h

pub is_digit : (b : ℕ) → digit b ≡ true → (48 ≤ b) × (b ≤ 57)
is_digit b h = grind (arith, nat_tests)
