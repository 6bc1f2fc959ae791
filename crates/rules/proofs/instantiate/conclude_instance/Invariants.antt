use Rattle.std.proofs.Common.{ℕ, List}
use Rattle.rules.specs.Images.{ReplacesWords}
use Rattle.rules.proofs.Concluded.{Behind}
use Rattle.rules.proofs.instantiate.conclude_instance.Given as goal

abbrev pub invariant-loop-word : goal.invariant-loop-word
invariant-loop-word l = (σ : ℕ → List ℕ) → ReplacesWords l.bindings σ → Behind σ l.premise l.conclusion l.word-index l.rest
