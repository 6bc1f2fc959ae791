-- The literal of a premise that a step numbers.
use Rattle.std.specs.Prelude.{◌≡◌, ℕ, ◌-◌, ◌<◌, ◌⊎◌, length, take, drop, Result, MatchResult}
use Rattle.logic.specs.Syntax.{Clause}
use Rattle.logic.specs.Words.{literal_words, clause_words}
use Rattle.logic.specs.Literals.{literal}
use Rattle.bench.specs.declared.fault.RuleFault.{RuleFault}
use Rattle.bench.specs.declared.fault.RuleFault.TheVariants.{NoLiteral}
use Rattle.inference.specs.Conclusions.{HasLiteral}
use Rattle.rules.specs.declared.literal.Parts.{Parts}

-- the clause has a literal a, and the parts are the words before, of and behind it
pub record Around (c : Clause) (a : ℕ) (p : Parts) : Type 0 where
  pub has : HasLiteral c a
  pub before : p.before.now ≡ clause_words (take (a - 1) c)
  pub here : p.literal.now ≡ literal_words (literal c a)
  pub behind : p.behind.now ≡ clause_words (drop a c)

-- the parts are those around literal a of the clause, or the clause has no literal a, and the answer is NoLiteral
abbrev pub NumberedAt : Clause → ℕ → Result Parts RuleFault → Type 0
NumberedAt c a r = MatchResult r (λ p. Around c a p) (λ f. (f ≡ NoLiteral) × ((a ≡ 0) ⊎ (length c < a)))
