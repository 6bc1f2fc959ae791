-- Paramod allows exactly i without its equality, followed by j with one left side replaced by the right side.
use Rattle.std.proofs.Common.{◌≡◌, ℕ, Bool, true, false, not, ◌&&◌, T, List, Some, None, Option, sym, refl, ap, ◌∙◌, subst}
use Rattle.logic.specs.Syntax.{Term, Atom, Literal, Clause, predicate, equal}
use Rattle.logic.specs.Literals.{literal}
use Rattle.inference.specs.Same.{same_clause}
use Rattle.inference.specs.Answers.{allowed}
use Rattle.inference.specs.Equations.{is_equation, left_side, right_side, left, right}
use Rattle.inference.specs.Positions.{at_position}
use Rattle.inference.specs.Paramod.{positive_equality, is_found, is_term, paramodulant, paramod, paramod_demands}
use Rattle.inference.specs.Conclusions.{equality_of, IsEquality, replacement, Paramodulates}
use Rattle.inference.specs.Exactness.{ParamodIsExact}
use Rattle.inference.proofs.Same.{term_is, term_itself, clause_is, clause_same}
use Rattle.inference.proofs.Demands.{met, allowed_where_met, has_it, it_has}

-- ── The equality ──

by_sides : (n : Bool) (a : Atom) → T (not n && is_equation a)
    → ◌≡◌ {A = Literal} (record { negated = n; atom = a }) (equality_of (left_side a) (right_side a))
by_sides true a h = absurd h
by_sides false (predicate q ts) h = absurd h
by_sides false (equal s t) h = refl

pub equality_is : (l : Literal) → T (positive_equality l) → IsEquality l
equality_is l h = record { s = left l; t = right l; is = by_sides l.negated l.atom h }

pub is_positive : (l : Literal) → IsEquality l → T (positive_equality l)
is_positive l e = subst (λ (x : Literal). T (positive_equality x)) (sym e.is) tt

-- ── The term at the position ──

pub leads : (o : Option Term) → T (is_found o) → (u : Term) × (o ≡ Some u)
leads None h = absurd h
leads (Some t) h = (t, refl)

pub found : (o : Option Term) (u : Term) → o ≡ Some u → T (is_found o)
found o u h = subst (λ (y : Option Term). T (is_found y)) (sym h) tt

leads_to : (o : Option Term) (s : Term) → T (is_term o s) → o ≡ Some s
leads_to None s h = absurd h
leads_to (Some t) s h = ap Some (term_is t s h)

pub leads_to_side : (l : Literal) (o : Option Term) (e : IsEquality l) → T (is_term o (left l)) → o ≡ Some e.s
leads_to_side l o e q = leads_to o (left l) q ∙ ap Some (ap left e.is)

pub side_is_there : (l : Literal) (o : Option Term) (e : IsEquality l) → o ≡ Some e.s → T (is_term o (left l))
side_is_there l o e h =
    subst (λ (x : Term). T (is_term o x)) (sym (ap left e.is))
    (subst (λ (y : Option Term). T (is_term y e.s)) (sym h) (term_itself e.s))

-- ── The conclusion ──

module _ (i j : Clause) (a b : ℕ) (p : List ℕ) (c : Clause) where
  replaced : (e : IsEquality (literal i a)) → paramodulant i j a b p ≡ replacement i j a b p e.t
  replaced e = ap (replacement i j a b p) (ap right e.is)

  pub concludes : (e : IsEquality (literal i a)) → T (same_clause (paramodulant i j a b p) c) → c ≡ replacement i j a b p e.t
  concludes e q = sym (clause_is (paramodulant i j a b p) c q) ∙ replaced e

  pub concluded : (e : IsEquality (literal i a)) → c ≡ replacement i j a b p e.t → T (same_clause (paramodulant i j a b p) c)
  concluded e h = clause_same (paramodulant i j a b p) c (replaced e ∙ sym h)

  -- ── Both directions ──

  paramodulates : paramod i j a b p c ≡ allowed → Paramodulates i j a b p c
  paramodulates ok =
      let d = met (paramod_demands i j a b p c) ok in
      let e : IsEquality (literal i a) = equality_is (literal i a) d.1.1.0 in
      record {
        first = has_it i a d.0;
        second = has_it j b d.1.0;
        sides = e;
        place = leads_to_side (literal i a) (at_position (literal j b) p) e d.1.1.1.1.0;
        conclusion = concludes e d.1.1.1.1.1.0;
      }

  allows : Paramodulates i j a b p c → paramod i j a b p c ≡ allowed
  allows h =
      let o : Option Term = at_position (literal j b) p in
      allowed_where_met (paramod_demands i j a b p c) (
        it_has i a h.first,
        (
          it_has j b h.second,
          (
            is_positive (literal i a) h.sides,
            (
              found o h.sides.s h.place,
              (side_is_there (literal i a) o h.sides h.place, (concluded h.sides h.conclusion, tt)),
            ),
          ),
        ),
      )

pub paramod_is_exact : ParamodIsExact
paramod_is_exact i j a b p c = (paramodulates i j a b p c, allows i j a b p c)
