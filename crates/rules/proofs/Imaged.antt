-- What one word becomes where bound variables are replaced.
use Rattle.std.proofs.Common.{◌≡◌, ℕ, ◌<◌, List, [], ◌∷◌, length, get_or, take, sym, ap, ◌∙◌, arith}
use Rattle.std.proofs.lemmas.List.{length-take-le, get_or-take}
use Rattle.reading.specs.declared.bindings.Bindings.{Bindings}
use Rattle.reading.specs.Limits as limits
use Rattle.rules.specs.Images.{StandsAt, ReplacesWords}

module _ (b : Bindings) (vs : List ℕ) (e : vs ≡ take b.count b.variables) (long : length b.variables ≡ limits.bindings) (σ : ℕ → List ℕ)
    (s : ReplacesWords b σ) where
  -- the variables that are bound, by their places
  counted : length vs ≡ b.count
  counted = ap length e ∙ length-take-le b.count b.variables (omega (arith, s.few))

  variable_at : (k : ℕ) → k < b.count → get_or vs k 0 ≡ get_or b.variables k 0
  variable_at k h = ap (λ (xs : List ℕ). get_or xs k 0) e ∙ get_or-take b.count b.variables k 0 h

  -- any other word stays
  pub other_stays : (w : ℕ) → ((k : ℕ) → StandsAt vs w k → ⊥) → w ∷ [] ≡ σ w
  other_stays w unbound = sym (s.others w (λ k n q l. unbound k (omega (arith, counted), variable_at k n ∙ q, l)))
