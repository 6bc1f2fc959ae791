-- Worked inferences. The symbols are: predicates p = 0, q = 1, r = 2; functions a = 3, f = 4.
use Rattle.std.specs.Prelude.{◌≡◌, ℕ, true, false, [], ◌∷◌}
use Rattle.logic.specs.Syntax.{Term, Atom, Literal, Clause, var, app, []ₜ, ◌∷ₜ◌, predicate, equal}
use Rattle.inference.specs.Answers.{allowed, fault}
use Rattle.inference.specs.Instantiate.{Binding, instantiate}
use Rattle.inference.specs.Resolve.{resolve}
use Rattle.inference.specs.Paramod.{paramod}
use Rattle.inference.specs.Flip.{flip}
use Rattle.inference.specs.Propositional.{propositional}
use Rattle.inference.specs.Reflexive.{reflexive}

-- an atom as a literal
abbrev pub is : Atom → Literal
is a = record { negated = false; atom = a }

-- (not A)
abbrev pub is_not : Atom → Literal
is_not a = record { negated = true; atom = a }

-- (a)
abbrev pub a_term : Term
a_term = app 3 []ₜ

-- (f t)
abbrev pub f_of : Term → Term
f_of t = app 4 (t ∷ₜ []ₜ)

-- (p t)
abbrev pub p_of : Term → Atom
p_of t = predicate 0 (t ∷ₜ []ₜ)

-- (p s t)
abbrev pub p_of_two : Term → Term → Atom
p_of_two s t = predicate 0 (s ∷ₜ t ∷ₜ []ₜ)

-- (q t)
abbrev pub q_of : Term → Atom
q_of t = predicate 1 (t ∷ₜ []ₜ)

-- (q s t)
abbrev pub q_of_two : Term → Term → Atom
q_of_two s t = predicate 1 (s ∷ₜ t ∷ₜ []ₜ)

-- (r t)
abbrev pub r_of : Term → Atom
r_of t = predicate 2 (t ∷ₜ []ₜ)

-- (v t): variable v bound to the term t
abbrev pub to : ℕ → Term → Binding
to v t = record { variable = v; term = t }

-- (or (p v0 v1))
abbrev pub pair : Clause
pair = is (p_of_two (var 0) (var 1)) ∷ []

-- instances of (or (p v0 v1)) and of (or (p v0))
pub record WorkedInstances : Type 0 where
  pub swapped : instantiate pair (to 0 (var 1) ∷ to 1 (var 0) ∷ []) (is (p_of_two (var 1) (var 0)) ∷ []) ≡ allowed
  pub one_after_the_other : instantiate pair (to 0 (var 1) ∷ to 1 (var 0) ∷ []) (is (p_of_two (var 0) (var 0)) ∷ []) ≡ fault 27
  pub bound_twice : instantiate pair (to 0 (var 1) ∷ to 0 (var 1) ∷ []) (is (p_of_two (var 1) (var 1)) ∷ []) ≡ fault 26
  pub none_bound : instantiate pair [] pair ≡ allowed
  pub a_put_in : instantiate (is (p_of (var 0)) ∷ []) (to 0 a_term ∷ []) (is (p_of a_term) ∷ []) ≡ allowed

-- (or (q v1) (p (a)))
abbrev pub q_or_p : Clause
q_or_p = is (q_of (var 1)) ∷ is (p_of a_term) ∷ []

-- (or (not (p (a))) (r v1))
abbrev pub not_p_or_r : Clause
not_p_or_r = is_not (p_of a_term) ∷ is (r_of (var 1)) ∷ []

-- resolvents of these two and of (or (p v0))
pub record WorkedResolvents : Type 0 where
  pub joined : resolve q_or_p not_p_or_r 2 1 (is (q_of (var 1)) ∷ is (r_of (var 1)) ∷ []) ≡ allowed
  pub exchanged : resolve not_p_or_r q_or_p 1 2 (is (r_of (var 1)) ∷ is (q_of (var 1)) ∷ []) ≡ allowed
  pub another_order : resolve q_or_p not_p_or_r 2 1 (is (r_of (var 1)) ∷ is (q_of (var 1)) ∷ []) ≡ fault 27
  pub no_literal : resolve q_or_p not_p_or_r 3 1 [] ≡ fault 21
  pub other_atom : resolve (is (p_of (var 0)) ∷ []) not_p_or_r 1 1 (is (r_of (var 1)) ∷ []) ≡ fault 22
  pub not_unified : resolve (is (p_of (var 0)) ∷ []) (is_not (p_of a_term) ∷ []) 1 1 [] ≡ fault 22
  pub emptied : resolve (is (p_of a_term) ∷ []) (is_not (p_of a_term) ∷ []) 1 1 [] ≡ allowed

-- (or (= (f v0) v0))
abbrev pub f_same : Clause
f_same = is (equal (f_of (var 0)) (var 0)) ∷ []

-- (or (q (f v0) (f v0)))
abbrev pub q_f_f : Clause
q_f_f = is (q_of_two (f_of (var 0)) (f_of (var 0))) ∷ []

-- (or (q v0 (f v0)))
abbrev pub q_v_f : Clause
q_v_f = is (q_of_two (var 0) (f_of (var 0))) ∷ []

-- (or (r v1) (= (f v0) v0))
abbrev pub r_or_f_same : Clause
r_or_f_same = is (r_of (var 1)) ∷ f_same

-- (or (not (q v2 (f v0))) (r v2))
abbrev pub not_q_or_r : Clause
not_q_or_r = is_not (q_of_two (var 2) (f_of (var 0))) ∷ is (r_of (var 2)) ∷ []

-- paramodulants of these
pub record WorkedParamodulants : Type 0 where
  pub at_1 : paramod f_same q_f_f 1 1 (1 ∷ []) q_v_f ≡ allowed
  pub one_occurrence : paramod f_same q_f_f 1 1 (1 ∷ []) (is (q_of_two (var 0) (var 0)) ∷ []) ≡ fault 27
  pub at_1_1 : paramod f_same q_f_f 1 1 (1 ∷ 1 ∷ []) q_v_f ≡ fault 25
  pub at_the_atom : paramod f_same q_f_f 1 1 [] q_v_f ≡ fault 24
  pub at_3 : paramod f_same q_f_f 1 1 (3 ∷ []) q_v_f ≡ fault 24
  pub at_1_1_1 : paramod f_same q_f_f 1 1 (1 ∷ 1 ∷ 1 ∷ []) q_v_f ≡ fault 24
  pub no_equality : paramod q_f_f f_same 1 1 (1 ∷ []) [] ≡ fault 23
  pub more_literals
      : paramod r_or_f_same not_q_or_r 2 1 (2 ∷ [])
      (is (r_of (var 1)) ∷ is_not (q_of_two (var 2) (var 0)) ∷ is (r_of (var 2)) ∷ [])
      ≡ allowed

-- (or (not (= (f v1) v2)) (r v1))
abbrev pub not_same_or_r : Clause
not_same_or_r = is_not (equal (f_of (var 1)) (var 2)) ∷ is (r_of (var 1)) ∷ []

-- flips of this clause
pub record WorkedFlips : Type 0 where
  pub exchanged : flip not_same_or_r 1 (is_not (equal (var 2) (f_of (var 1))) ∷ is (r_of (var 1)) ∷ []) ≡ allowed
  pub no_equality : flip not_same_or_r 2 [] ≡ fault 23
  pub no_literal : flip not_same_or_r 3 [] ≡ fault 21
  pub not_exchanged : flip not_same_or_r 1 not_same_or_r ≡ fault 27

-- (or (p v0) (p v0))
abbrev pub p_or_p : Clause
p_or_p = is (p_of (var 0)) ∷ is (p_of (var 0)) ∷ []

-- (or (p v0) (not (q v1)))
abbrev pub p_or_not_q : Clause
p_or_not_q = is (p_of (var 0)) ∷ is_not (q_of (var 1)) ∷ []

-- clauses with the same literals, and with others
pub record WorkedRearrangements : Type 0 where
  pub merged : propositional p_or_p (is (p_of (var 0)) ∷ []) ≡ allowed
  pub lost : propositional p_or_p [] ≡ fault 27
  pub repeated : propositional p_or_not_q (is_not (q_of (var 1)) ∷ is (p_of (var 0)) ∷ is (p_of (var 0)) ∷ []) ≡ allowed
  pub another_sign : propositional p_or_not_q (is (p_of (var 0)) ∷ is (q_of (var 1)) ∷ []) ≡ fault 27
  pub added : propositional p_or_not_q (is (p_of (var 0)) ∷ is_not (q_of (var 1)) ∷ is (r_of (var 0)) ∷ []) ≡ fault 27

-- equalities of a term with itself, and other clauses
pub record WorkedReflections : Type 0 where
  pub same_sides : reflexive (is (equal (f_of (var 0)) (f_of (var 0))) ∷ []) ≡ allowed
  pub other_sides : reflexive (is (equal (var 0) (var 1)) ∷ []) ≡ fault 27
  pub negated : reflexive (is_not (equal (var 0) (var 0)) ∷ []) ≡ fault 27
  pub two_literals : reflexive (is (equal (var 0) (var 0)) ∷ is (equal (var 1) (var 1)) ∷ []) ≡ fault 27
