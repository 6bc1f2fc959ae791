-- Reflexive allows exactly the clauses of one equality of a term with itself.
use Rattle.std.proofs.Common.{◌≡◌, Bool, true, false, T, [], ◌∷◌, sym, ap, subst}
use Rattle.logic.specs.Syntax.{Atom, Literal, Clause, predicate, equal}
use Rattle.inference.specs.Equations.{left_side, left}
use Rattle.inference.specs.Reflexive.{is_reflexive, reflexive_demands}
use Rattle.inference.specs.Conclusions.{equality_of, Reflects}
use Rattle.inference.specs.Exactness.{ReflexiveIsExact}
use Rattle.inference.proofs.Same.{term_is, term_itself}
use Rattle.inference.proofs.Demands.{met, allowed_where_met}

of_itself : (n : Bool) (a : Atom) → let l : Literal = record { negated = n; atom = a } in
    T (is_reflexive (l ∷ [])) → l ≡ equality_of (left_side a) (left_side a)
of_itself true a h = absurd h
of_itself false (predicate q ts) h = absurd h
of_itself false (equal s t) h = ap (λ u. equality_of s u) (sym (term_is s t h))

pub one_equality : (c : Clause) → T (is_reflexive c) → Reflects c
one_equality [] h = absurd h
one_equality (l ∷ []) h = record { t = left l; conclusion = ap (λ x. x ∷ []) (of_itself l.negated l.atom h) }
one_equality (l ∷ m ∷ c) h = absurd h

pub is_one_equality : (c : Clause) → Reflects c → T (is_reflexive c)
is_one_equality c h = subst (λ (x : Clause). T (is_reflexive x)) (sym h.conclusion) (term_itself h.t)

pub reflexive_is_exact : ReflexiveIsExact
reflexive_is_exact c = (
  λ ok. one_equality c (met (reflexive_demands c) ok).0,
  λ h. allowed_where_met (reflexive_demands c) (is_one_equality c h, tt),
)
