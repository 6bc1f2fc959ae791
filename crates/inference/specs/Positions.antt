-- Positions: argument numbers counted from 1, outermost first; the sign of a literal is skipped.
use Rattle.std.specs.Prelude.{ℕ, zero, suc, List, [], ◌∷◌, Some, None, Option}
use Rattle.logic.specs.Syntax.{Term, Terms, Atom, Literal, var, app, []ₜ, ◌∷ₜ◌, predicate, equal}

abbrev mutual
  -- the term to which a position leads from a term, if it leads to one
  pub term_at : Term → List ℕ → Option Term
  term_at (var i) [] = Some (var i)
  term_at (var i) (k ∷ p) = None
  term_at (app s ts) [] = Some (app s ts)
  term_at (app s ts) (k ∷ p) = argument_at ts k p

  -- the term to which a position leads from argument k
  pub argument_at : Terms → ℕ → List ℕ → Option Term
  argument_at []ₜ k p = None
  argument_at (t ∷ₜ ts) zero p = None
  argument_at (t ∷ₜ ts) (suc zero) p = term_at t p
  argument_at (t ∷ₜ ts) (suc (suc k)) p = argument_at ts (suc k) p

abbrev mutual
  -- the term with `new` in the place to which the position leads, and all else as it is
  pub put_term : Term → List ℕ → Term → Term
  put_term (var i) [] new = new
  put_term (var i) (k ∷ p) new = var i
  put_term (app s ts) [] new = new
  put_term (app s ts) (k ∷ p) new = app s (put_argument ts k p new)

  -- the same in argument k, and the other arguments as they are
  pub put_argument : Terms → ℕ → List ℕ → Term → Terms
  put_argument []ₜ k p new = []ₜ
  put_argument (t ∷ₜ ts) zero p new = t ∷ₜ ts
  put_argument (t ∷ₜ ts) (suc zero) p new = put_term t p new ∷ₜ ts
  put_argument (t ∷ₜ ts) (suc (suc k)) p new = t ∷ₜ put_argument ts (suc k) p new

-- the arguments of an atom; those of an equation are its sides
abbrev pub arguments : Atom → Terms
arguments (predicate q ts) = ts
arguments (equal s t) = s ∷ₜ t ∷ₜ []ₜ

-- the atom with other arguments; an equation stays as it is where there are fewer than two
abbrev pub with_arguments : Atom → Terms → Atom
with_arguments (predicate q ts) us = predicate q us
with_arguments (equal s t) []ₜ = equal s t
with_arguments (equal s t) (u ∷ₜ []ₜ) = equal s t
with_arguments (equal s t) (u ∷ₜ w ∷ₜ us) = equal u w

-- the term to which a position leads in a literal; the empty position leads to the atom, which is no term
abbrev pub at_position : Literal → List ℕ → Option Term
at_position l [] = None
at_position l (k ∷ p) = argument_at (arguments l.atom) k p

-- the literal with `new` at the position
abbrev pub put : Literal → List ℕ → Term → Literal
put l [] new = l
put l (k ∷ p) new =
    record {
      negated = l.negated;
      atom = with_arguments l.atom (put_argument (arguments l.atom) k p new);
    }
