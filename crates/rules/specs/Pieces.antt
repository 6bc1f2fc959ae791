-- Conclusions compared piece by piece.
use Rattle.std.specs.Prelude.{◌≡◌, ◌≢◌, ℕ, List, ◌++◌, Result, MatchResult}
use Rattle.std.specs.Borrow.{Bor}
use Rattle.bench.specs.declared.fault.RuleFault.{RuleFault}
use Rattle.bench.specs.declared.fault.RuleFault.TheVariants.{OtherConclusion}

-- the words begin with the piece and the answer is what stands behind it, or they do not and it is OtherConclusion
abbrev pub BeginsWith : List ℕ → List ℕ → Result (Bor (List ℕ)) RuleFault → Type 0
BeginsWith ws piece r =
    MatchResult r (λ rest. ws ≡ piece ++ rest.now)
    (λ f. (f ≡ OtherConclusion) × ((rest : List ℕ) → ws ≢ piece ++ rest))

-- the answer allows where P holds, and is OtherConclusion where P does not hold
abbrev pub Allows : Result (Unit {0}) RuleFault → Type 0 → Type 0
Allows r P = MatchResult r (λ _. P) (λ f. (f ≡ OtherConclusion) × (P → ⊥))
