-- Structures, finite or countable, and what is true in one.
use Rattle.std.specs.Prelude.{ℕ, ◌<◌, Bool, false, cond, not, ◌||◌, T, List, [], ◌∷◌, ◌==◌}
use Rattle.std.specs.List.{AllByRecursion}
use Rattle.logic.specs.Syntax.{Term, Terms, Atom, Literal, Clause, var, app, []ₜ, ◌∷ₜ◌, predicate, equal}

-- the elements are the numbers below n, or all numbers
pub data Size : Type 0 where
  finite : ℕ → Size
  countable : Size

abbrev pub Element : Size → ℕ → Type 0
Element (finite n) e = e < n
Element countable e = Unit {0}

-- `inhabited`: 0 is an element, so a finite size is at least 1
pub record Structure : Type 0 where
  pub size : Size
  pub inhabited : Element size 0
  pub function : ℕ → List ℕ → ℕ
  pub closed : (s : ℕ) (row : List ℕ) → AllByRecursion (Element size) row → Element size (function s row)
  pub relation : ℕ → List ℕ → Bool

abbrev pub Valuation : Type 0
Valuation = ℕ → ℕ

abbrev pub OfElements : Structure → Valuation → Type 0
OfElements S v = (i : ℕ) → Element S.size (v i)

module _ (S : Structure) (v : Valuation) where
  abbrev mutual
    pub value : Term → ℕ
    value (var i) = v i
    value (app s ts) = S.function s (values ts)

    pub values : Terms → List ℕ
    values []ₜ = []
    values (t ∷ₜ ts) = value t ∷ values ts

  abbrev pub atom_truth : Atom → Bool
  atom_truth (predicate p ts) = S.relation p (values ts)
  atom_truth (equal s t) = value s == value t

  abbrev pub literal_truth : Literal → Bool
  literal_truth l = cond l.negated (not (atom_truth l.atom)) (atom_truth l.atom)

  abbrev pub clause_truth : Clause → Bool
  clause_truth [] = false
  clause_truth (l ∷ c) = literal_truth l || clause_truth c

-- the clause is true under every valuation by elements
abbrev pub TrueIn : Structure → Clause → Type 0
TrueIn S c = (v : Valuation) → OfElements S v → T (clause_truth S v c)
