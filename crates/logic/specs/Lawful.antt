-- Lawful clauses over symbol rows: kinds and arities as the rows say; variables, depth and literals within their limits.
-- The names of the rows play no part in it.
use Rattle.std.specs.Prelude.{ℕ, suc, ◌<◌, ◌≤◌, max, List, length}
use Rattle.std.specs.List.{AllByRecursion}
use Rattle.logic.specs.declared.row.SymbolRow.{SymbolRow}
use Rattle.logic.specs.declared.row.Kind.TheVariants.{Function, Predicate}
use Rattle.logic.specs.Limits as limits
use Rattle.logic.specs.Symbols.{Symbol}
use Rattle.logic.specs.Syntax.{Term, Terms, Atom, Clause, var, app, []ₜ, ◌∷ₜ◌, predicate, equal}

abbrev pub count : Terms → ℕ
count []ₜ = 0
count (t ∷ₜ ts) = suc (count ts)

-- how deep a term goes: a variable or a symbol without arguments has depth 1
abbrev mutual
  pub deep : Term → ℕ
  deep (var i) = 1
  deep (app s ts) = suc (deeps ts)

  pub deeps : Terms → ℕ
  deeps []ₜ = 0
  deeps (t ∷ₜ ts) = max (deep t) (deeps ts)

module _ (rows : List SymbolRow) where
  abbrev mutual
    pub LawfulTerm : Term → Type 0
    LawfulTerm (var i) = i < limits.variables
    LawfulTerm (app s ts) = Symbol rows s Function (count ts) × LawfulTerms ts

    pub LawfulTerms : Terms → Type 0
    LawfulTerms []ₜ = Unit {0}
    LawfulTerms (t ∷ₜ ts) = LawfulTerm t × LawfulTerms ts

  -- an argument of an atom has depth 1
  abbrev pub LawfulAtom : Atom → Type 0
  LawfulAtom (predicate p ts) = Symbol rows p Predicate (count ts) × LawfulTerms ts × (deeps ts ≤ limits.depth)
  LawfulAtom (equal s t) = LawfulTerm s × LawfulTerm t × (deep s ≤ limits.depth) × (deep t ≤ limits.depth)

  -- with at most so many literals
  abbrev pub LawfulUpTo : ℕ → Clause → Type 0
  LawfulUpTo most c = AllByRecursion (λ l. LawfulAtom l.atom) c × (length c ≤ most)

  abbrev pub Lawful : Clause → Type 0
  Lawful c = LawfulUpTo limits.literals c
