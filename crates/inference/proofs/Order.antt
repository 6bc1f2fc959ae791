-- Each inference rule answers the first of its faults that applies, and allowed where none does.
use Rattle.std.proofs.Common.{ℕ, Bool, true, false, cond, not, ◌&&◌, T, Option, sym, refl}
use Rattle.logic.specs.Syntax.{Term, Literal}
use Rattle.logic.specs.Literals.{literal}
use Rattle.inference.specs.Same.{same_clause, within}
use Rattle.inference.specs.Answers.{Answer, allowed, fault}
use Rattle.inference.specs.Literals.{has}
use Rattle.inference.specs.Instantiate.{instance_of, twice, substitution}
use Rattle.inference.specs.Resolve.{opposed}
use Rattle.inference.specs.Equations.{equality, left}
use Rattle.inference.specs.Positions.{at_position}
use Rattle.inference.specs.Paramod.{positive_equality, is_found, is_term, paramodulant}
use Rattle.inference.specs.Reflexive.{is_reflexive}
use Rattle.inference.specs.Conclusions.{resolvent}
use Rattle.inference.specs.Order.{Demanded, InstantiateAnswers, ResolveAnswers, ParamodAnswers, FlipAnswers, PropositionalAnswers, ReflexiveAnswers}
use Rattle.inference.proofs.Same.{clause_is, clause_same}
use Rattle.inference.proofs.Demands.{has_it, it_has}
use Rattle.inference.proofs.InstantiateExact.{bound_once, not_twice, has_instance, instance_has}
use Rattle.inference.proofs.ResolveExact.{opposed_is, is_opposed}
use Rattle.inference.proofs.ParamodExact as paramod
use Rattle.inference.proofs.FlipExact as flip
use Rattle.inference.proofs.PropositionalExact.{same_literals, within_both}
use Rattle.inference.proofs.ReflexiveExact.{one_equality, is_one_equality}

-- a demand whose test decides P
demanded : {P : Type 0} {f : ℕ} {next : P → Answer → Type 0} (b : Bool) (rest : Answer) → (T b → P) → (P → T b)
    → ((x : P) → next x rest) → Demanded P f next (cond b rest (fault f))
demanded true rest to from n = record { otherwise = λ no. absurd (no (to tt)); then = n }
demanded false rest to from n = record { otherwise = λ no. refl; then = λ x. absurd (from x) }

pub instantiate_answers : InstantiateAnswers
instantiate_answers i bs c =
    demanded (not (twice bs)) _ (bound_once bs) (not_twice bs)
    (λ once. demanded (same_clause (instance_of (substitution bs) i) c) allowed (has_instance i bs c once) (instance_has i bs c) (λ _. refl))

pub resolve_answers : ResolveAnswers
resolve_answers i j a b c =
    demanded (has i a) _ (has_it i a) (it_has i a)
    (λ _. demanded (has j b) _ (has_it j b) (it_has j b)
    (λ _. demanded (opposed (literal i a) (literal j b)) _ (opposed_is (literal i a) (literal j b)) (is_opposed (literal i a) (literal j b))
    (λ _. demanded (same_clause (resolvent i j a b) c) allowed (λ q. sym (clause_is (resolvent i j a b) c q))
    (λ e. clause_same (resolvent i j a b) c (sym e))
    (λ _. refl))))

pub paramod_answers : ParamodAnswers
paramod_answers i j a b p c =
    let l : Literal = literal i a in
    let o : Option Term = at_position (literal j b) p in
    demanded (has i a) _ (has_it i a) (it_has i a)
    (λ _. demanded (has j b) _ (has_it j b) (it_has j b)
    (λ _. demanded (positive_equality l) _ (paramod.equality_is l) (paramod.is_positive l)
    (λ e. demanded (is_found o) _ (paramod.leads o) (λ h. paramod.found o h.0 h.1)
    (λ _. demanded (is_term o (left l)) _ (paramod.leads_to_side l o e) (paramod.side_is_there l o e)
    (λ _. demanded (same_clause (paramodulant i j a b p) c) allowed (paramod.concludes i j a b p c e) (paramod.concluded i j a b p c e)
    (λ _. refl))))))

pub flip_answers : FlipAnswers
flip_answers i a c =
    demanded (has i a) _ (has_it i a) (it_has i a)
    (λ _. demanded (equality (literal i a)) _ (flip.equation_is (literal i a)) (flip.is_an_equation (literal i a))
    (λ e. demanded (same_clause (flip.given i a c) c) allowed (flip.concludes i a c e) (flip.concluded i a c e)
    (λ _. refl)))

pub propositional_answers : PropositionalAnswers
propositional_answers i c = demanded (within i c && within c i) allowed (same_literals i c) (within_both i c) (λ _. refl)

pub reflexive_answers : ReflexiveAnswers
reflexive_answers c = demanded (is_reflexive c) allowed (one_equality c) (is_one_equality c) (λ _. refl)
