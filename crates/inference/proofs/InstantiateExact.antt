-- Instantiate allows exactly the premise with each bound variable replaced, no variable bound twice.
use Rattle.std.proofs.Common.{◌≡◌, ℕ, Bool, true, false, cond, not, T, eqb, List, [], ◌∷◌, sym, refl, ap, ◌∙◌, eqb→eq, T_not}
use Rattle.std.proofs.Math.Facts.{or_no, yes_eqb}
use mathlib.Core.Path.{fun_ext}
use lib.Dec.{not_T, eqb_refl}
use Rattle.std.specs.List.{AllByRecursion}
use Rattle.logic.specs.Syntax.{Term, Clause, var}
use Rattle.inference.specs.Same.{same_clause}
use Rattle.inference.specs.Answers.{allowed}
use Rattle.inference.specs.Instantiate.{Substitution, Binding, instance_of, binds, twice, substitution, instantiate, instantiate_demands}
use Rattle.inference.specs.Conclusions.{Unbound, BoundOnce, Instance, Instantiates}
use Rattle.inference.specs.Exactness.{InstantiateIsExact}
use Rattle.inference.proofs.Bools.{neither}
use Rattle.inference.proofs.Same.{clause_is, clause_same}
use Rattle.inference.proofs.Demands.{met, allowed_where_met}

cond_no : (x : Bool) (s t : Term) → (T x → ⊥) → cond x s t ≡ t
cond_no true s t h = absurd (h tt)
cond_no false s t h = refl

cond_yes : (x : Bool) (s t : Term) → T x → cond x s t ≡ s
cond_yes true s t h = refl
cond_yes false s t h = absurd h

-- ── No variable bound twice ──

unbound : (bs : List Binding) (i : ℕ) → T (not (binds bs i)) → Unbound bs i
unbound [] i h = tt
unbound (b ∷ bs) i h = (
  λ e. T_not (eqb b.variable i) (or_no (eqb b.variable i) (binds bs i) h).0 (yes_eqb e),
  unbound bs i (or_no (eqb b.variable i) (binds bs i) h).1,
)

not_bound : (bs : List Binding) (i : ℕ) → Unbound bs i → T (not (binds bs i))
not_bound [] i h = tt
not_bound (b ∷ bs) i h =
    neither (eqb b.variable i) (binds bs i) (λ q. h.0 (eqb→eq b.variable i q)) (not_bound bs i h.1)

pub bound_once : (bs : List Binding) → T (not (twice bs)) → BoundOnce bs
bound_once [] h = tt
bound_once (b ∷ bs) h = (
  unbound bs b.variable (not_T (binds bs b.variable) (T_not (binds bs b.variable) (or_no (binds bs b.variable) (twice bs) h).0)),
  bound_once bs (or_no (binds bs b.variable) (twice bs) h).1,
)

pub not_twice : (bs : List Binding) → BoundOnce bs → T (not (twice bs))
not_twice [] h = tt
not_twice (b ∷ bs) h =
    neither (binds bs b.variable) (twice bs) (T_not (binds bs b.variable) (not_bound bs b.variable h.0))
    (not_twice bs h.1)

-- ── The substitution of the bindings replaces them, and no other does ──

pub other_stays : (bs : List Binding) (i : ℕ) → Unbound bs i → substitution bs i ≡ var i
other_stays [] i h = refl
other_stays (b ∷ bs) i h =
    cond_no (eqb b.variable i) b.term (substitution bs i) (λ q. h.0 (eqb→eq b.variable i q))
    ∙ other_stays bs i h.1

one_more : (b : Binding) (bs cs : List Binding) → Unbound cs b.variable
    → AllByRecursion (λ c. substitution bs c.variable ≡ c.term) cs → AllByRecursion (λ c. substitution (b ∷ bs) c.variable ≡ c.term) cs
one_more b bs [] u h = tt
one_more b bs (c ∷ cs) u h = (
  cond_no (eqb b.variable c.variable) b.term (substitution bs c.variable)
      (λ q. u.0 (sym (eqb→eq b.variable c.variable q)))
      ∙ h.0,
  one_more b bs cs u.1 h.1,
)

pub each_goes : (bs : List Binding) → BoundOnce bs → AllByRecursion (λ b. substitution bs b.variable ≡ b.term) bs
each_goes [] h = tt
each_goes (b ∷ bs) h = (
  cond_yes (eqb b.variable b.variable) b.term (substitution bs b.variable) (eqb_refl b.variable),
  one_more b bs bs h.0 (each_goes bs h.1),
)

at_first : (x : Bool) (s t u : Term) → (T x → s ≡ u) → ((T x → ⊥) → t ≡ u) → cond x s t ≡ u
at_first true s t u f g = f tt
at_first false s t u f g = g (λ q. q)

only_one : (bs : List Binding) (σ : Substitution) → AllByRecursion (λ b. σ b.variable ≡ b.term) bs
    → (i : ℕ) → (Unbound bs i → σ i ≡ var i) → substitution bs i ≡ σ i
only_one [] σ h i o = sym (o tt)
only_one (b ∷ bs) σ h i o =
    at_first (eqb b.variable i) b.term (substitution bs i) (σ i)
    (λ q. sym h.0 ∙ ap σ (eqb→eq b.variable i q))
    (λ n. only_one bs σ h.1 i (λ u. o (λ e. n (yes_eqb e), u)))

-- ── The instance ──

pub has_instance : (i : Clause) (bs : List Binding) (c : Clause) → BoundOnce bs
    → T (same_clause (instance_of (substitution bs) i) c) → Instance i bs c
has_instance i bs c once q =
    record {
      σ = substitution bs;
      replaces = record { bound = each_goes bs once; others = other_stays bs };
      conclusion = sym (clause_is (instance_of (substitution bs) i) c q);
    }

pub instance_has : (i : Clause) (bs : List Binding) (c : Clause) → Instance i bs c
    → T (same_clause (instance_of (substitution bs) i) c)
instance_has i bs c h =
    let e : substitution bs ≡ h.σ = fun_ext (λ k. only_one bs h.σ h.replaces.bound k (h.replaces.others k)) in
    clause_same (instance_of (substitution bs) i) c (ap (λ τ. instance_of τ i) e ∙ sym h.conclusion)

-- ── Both directions ──

instantiates : (i : Clause) (bs : List Binding) (c : Clause) → instantiate i bs c ≡ allowed → Instantiates i bs c
instantiates i bs c ok =
    let d = met (instantiate_demands i bs c) ok in
    let once : BoundOnce bs = bound_once bs d.0 in
    record { once = once; instance = has_instance i bs c once d.1.0 }

allows : (i : Clause) (bs : List Binding) (c : Clause) → Instantiates i bs c → instantiate i bs c ≡ allowed
allows i bs c h =
    allowed_where_met (instantiate_demands i bs c) (not_twice bs h.once, (instance_has i bs c h.instance, tt))

pub instantiate_is_exact : InstantiateIsExact
instantiate_is_exact i bs c = (instantiates i bs c, allows i bs c)
