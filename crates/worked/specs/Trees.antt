-- Small clauses as trees, and their words. Symbol 0 is the predicate p, symbol 1 the function a.
use Rattle.std.specs.Prelude.{◌≡◌, true, false, [], ◌∷◌}
use Rattle.logic.specs.Syntax.{Clause, var, app, []ₜ, ◌∷ₜ◌, predicate}
use Rattle.logic.specs.Words.{clause_words}

-- (or (p v0))
abbrev pub positive : Clause
positive = record { negated = false; atom = predicate 0 (var 0 ∷ₜ []ₜ) } ∷ []

-- (or (not (p (a))))
abbrev pub negative : Clause
negative = record { negated = true; atom = predicate 0 (app 1 []ₜ ∷ₜ []ₜ) } ∷ []

-- (or)
abbrev pub empty : Clause
empty = []

abbrev pub WordsOfSmallClauses : Type 0
WordsOfSmallClauses =
    (clause_words positive ≡ 256 ∷ 0 ∷ []) × (clause_words negative ≡ 1280 ∷ 257 ∷ []) × (clause_words empty ≡ [])
