-- Flip allows exactly i with the sides of its literal a, an equality, exchanged.
use Rattle.std.proofs.Common.{◌≡◌, ℕ, T, sym, refl, ap, ◌∙◌, subst, ap₂}
use Rattle.logic.specs.Syntax.{Atom, Literal, Clause, predicate, equal}
use Rattle.logic.specs.Literals.{literal}
use Rattle.inference.specs.Same.{same_clause}
use Rattle.inference.specs.Answers.{allowed}
use Rattle.inference.specs.Literals.{with_literal}
use Rattle.inference.specs.Equations.{is_equation, left_side, right_side, equality, left, right}
use Rattle.inference.specs.Flip.{flipped, flip, flip_demands}
use Rattle.inference.specs.Conclusions.{IsEquation, exchange, Flips}
use Rattle.inference.specs.Exactness.{FlipIsExact}
use Rattle.inference.proofs.Same.{clause_is, clause_same}
use Rattle.inference.proofs.Demands.{met, allowed_where_met, has_it, it_has}

equation_by_sides : (a : Atom) → T (is_equation a) → a ≡ equal (left_side a) (right_side a)
equation_by_sides (predicate q ts) h = absurd h
equation_by_sides (equal s t) h = refl

pub equation_is : (l : Literal) → T (equality l) → IsEquation l
equation_is l h = record { s = left l; t = right l; is = equation_by_sides l.atom h }

pub is_an_equation : (l : Literal) → IsEquation l → T (equality l)
is_an_equation l e = subst (λ (x : Atom). T (is_equation x)) (sym e.is) tt

module _ (i : Clause) (a : ℕ) (c : Clause) where
  abbrev pub given : Clause
  given = with_literal i a (flipped (literal i a))

  exchanged : (e : IsEquation (literal i a)) → given ≡ exchange i a e.s e.t
  exchanged e = ap₂ (exchange i a) (ap left_side e.is) (ap right_side e.is)

  pub concludes : (e : IsEquation (literal i a)) → T (same_clause given c) → c ≡ exchange i a e.s e.t
  concludes e q = sym (clause_is given c q) ∙ exchanged e

  pub concluded : (e : IsEquation (literal i a)) → c ≡ exchange i a e.s e.t → T (same_clause given c)
  concluded e h = clause_same given c (exchanged e ∙ sym h)

  flips : flip i a c ≡ allowed → Flips i a c
  flips ok =
      let d = met (flip_demands i a c) ok in
      let e : IsEquation (literal i a) = equation_is (literal i a) d.1.0 in
      record { there = has_it i a d.0; sides = e; conclusion = concludes e d.1.1.0 }

  allows : Flips i a c → flip i a c ≡ allowed
  allows h =
      allowed_where_met (flip_demands i a c)
      (it_has i a h.there, (is_an_equation (literal i a) h.sides, (concluded h.sides h.conclusion, tt)))

pub flip_is_exact : FlipIsExact
flip_is_exact i a c = (flips i a c, allows i a c)
