-- Sameness of trees, as a test.
use Rattle.std.specs.Prelude.{Bool, true, false, ◌&&◌, ◌||◌, [], ◌∷◌, ◌==◌}
use Rattle.std.specs.Bool.{beq}
use Rattle.logic.specs.Syntax.{Term, Terms, Atom, Literal, Clause, var, app, []ₜ, ◌∷ₜ◌, predicate, equal}

abbrev mutual
  -- the same variable, or the same symbol with the same arguments
  pub same_term : Term → Term → Bool
  same_term (var i) (var j) = i == j
  same_term (var i) (app q us) = false
  same_term (app s ts) (var j) = false
  same_term (app s ts) (app q us) = s == q && same_terms ts us

  -- as many terms, the same at each place
  pub same_terms : Terms → Terms → Bool
  same_terms []ₜ []ₜ = true
  same_terms []ₜ (u ∷ₜ us) = false
  same_terms (t ∷ₜ ts) []ₜ = false
  same_terms (t ∷ₜ ts) (u ∷ₜ us) = same_term t u && same_terms ts us

-- the same predicate symbol with the same arguments, or equations with the same sides
abbrev pub same_atom : Atom → Atom → Bool
same_atom (predicate p ts) (predicate q us) = p == q && same_terms ts us
same_atom (predicate p ts) (equal u w) = false
same_atom (equal s t) (predicate q us) = false
same_atom (equal s t) (equal u w) = same_term s u && same_term t w

-- the same sign and the same atom
abbrev pub same_literal : Literal → Literal → Bool
same_literal l m = beq l.negated m.negated && same_atom l.atom m.atom

-- the same literals in the same order
abbrev pub same_clause : Clause → Clause → Bool
same_clause [] [] = true
same_clause [] (m ∷ d) = false
same_clause (l ∷ c) [] = false
same_clause (l ∷ c) (m ∷ d) = same_literal l m && same_clause c d

-- the literal occurs in the clause
abbrev pub stands_in : Literal → Clause → Bool
stands_in l [] = false
stands_in l (m ∷ c) = same_literal l m || stands_in l c

-- every literal of the first clause occurs in the second
abbrev pub within : Clause → Clause → Bool
within [] d = true
within (l ∷ c) d = stands_in l d && within c d
