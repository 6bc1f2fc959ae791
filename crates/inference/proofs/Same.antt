-- The tests of sameness decide whether trees are equal.
use Rattle.std.proofs.Common.{◌≡◌, T, eqb, [], ◌∷◌, sym, refl, ap, subst, ap₂, inl, inr, ⊎_elim, eqb→eq}
use Rattle.std.proofs.Math.Facts.{and_yes, yes_and, or_yes}
use mathlib.Core.Bool.{beq}
use lib.Dec.{eqb_refl}
use Rattle.logic.specs.Syntax.{Term, Terms, Atom, Literal, Clause, var, app, []ₜ, ◌∷ₜ◌, predicate, equal}
use Rattle.inference.specs.Same.{same_term, same_terms, same_atom, same_literal, same_clause, stands_in, within}
use Rattle.inference.specs.Conclusions.{Occurs}
use Rattle.inference.proofs.Bools.{or_left, or_right, same_sign, sign_same}

-- ── Trees that a test calls the same are equal ──

mutual
  pub term_is : (t u : Term) → T (same_term t u) → t ≡ u
  term_is (var i) (var j) h = ap var (eqb→eq i j h)
  term_is (var i) (app q us) h = absurd h
  term_is (app s ts) (var j) h = absurd h
  term_is (app s ts) (app q us) h =
      ap₂ app (eqb→eq s q (and_yes (eqb s q) (same_terms ts us) h).0)
      (terms_is ts us (and_yes (eqb s q) (same_terms ts us) h).1)

  pub terms_is : (ts us : Terms) → T (same_terms ts us) → ts ≡ us
  terms_is []ₜ []ₜ h = refl
  terms_is []ₜ (u ∷ₜ us) h = absurd h
  terms_is (t ∷ₜ ts) []ₜ h = absurd h
  terms_is (t ∷ₜ ts) (u ∷ₜ us) h =
      ap₂ ◌∷ₜ◌ (term_is t u (and_yes (same_term t u) (same_terms ts us) h).0)
      (terms_is ts us (and_yes (same_term t u) (same_terms ts us) h).1)

pub atom_is : (a b : Atom) → T (same_atom a b) → a ≡ b
atom_is (predicate p ts) (predicate q us) h =
    ap₂ predicate (eqb→eq p q (and_yes (eqb p q) (same_terms ts us) h).0)
    (terms_is ts us (and_yes (eqb p q) (same_terms ts us) h).1)
atom_is (predicate p ts) (equal u w) h = absurd h
atom_is (equal s t) (predicate q us) h = absurd h
atom_is (equal s t) (equal u w) h =
    ap₂ equal (term_is s u (and_yes (same_term s u) (same_term t w) h).0)
    (term_is t w (and_yes (same_term s u) (same_term t w) h).1)

-- literals with equal signs and equal atoms are equal
pub literal_by : (l m : Literal) → l.negated ≡ m.negated → l.atom ≡ m.atom → l ≡ m
literal_by l m s a = λ i. record { negated = s i; atom = a i }

pub literal_is : (l m : Literal) → T (same_literal l m) → l ≡ m
literal_is l m h =
    literal_by l m
    (same_sign l.negated m.negated (and_yes (beq l.negated m.negated) (same_atom l.atom m.atom) h).0)
    (atom_is l.atom m.atom (and_yes (beq l.negated m.negated) (same_atom l.atom m.atom) h).1)

pub clause_is : (c d : Clause) → T (same_clause c d) → c ≡ d
clause_is [] [] h = refl
clause_is [] (m ∷ d) h = absurd h
clause_is (l ∷ c) [] h = absurd h
clause_is (l ∷ c) (m ∷ d) h =
    ap₂ ◌∷◌ (literal_is l m (and_yes (same_literal l m) (same_clause c d) h).0)
    (clause_is c d (and_yes (same_literal l m) (same_clause c d) h).1)

-- ── Equal trees are called the same ──

mutual
  pub term_itself : (t : Term) → T (same_term t t)
  term_itself (var i) = eqb_refl i
  term_itself (app s ts) = yes_and (eqb s s) (same_terms ts ts) (eqb_refl s) (terms_itself ts)

  terms_itself : (ts : Terms) → T (same_terms ts ts)
  terms_itself []ₜ = tt
  terms_itself (t ∷ₜ ts) = yes_and (same_term t t) (same_terms ts ts) (term_itself t) (terms_itself ts)

pub atom_itself : (a : Atom) → T (same_atom a a)
atom_itself (predicate p ts) = yes_and (eqb p p) (same_terms ts ts) (eqb_refl p) (terms_itself ts)
atom_itself (equal s t) = yes_and (same_term s s) (same_term t t) (term_itself s) (term_itself t)

pub literal_itself : (l : Literal) → T (same_literal l l)
literal_itself l =
    yes_and (beq l.negated l.negated) (same_atom l.atom l.atom) (sign_same l.negated) (atom_itself l.atom)

clause_itself : (c : Clause) → T (same_clause c c)
clause_itself [] = tt
clause_itself (l ∷ c) = yes_and (same_literal l l) (same_clause c c) (literal_itself l) (clause_itself c)

pub atom_same : (a b : Atom) → a ≡ b → T (same_atom a b)
atom_same a b e = subst (λ (x : Atom). T (same_atom a x)) e (atom_itself a)

pub literal_same : (l m : Literal) → l ≡ m → T (same_literal l m)
literal_same l m e = subst (λ (x : Literal). T (same_literal l x)) e (literal_itself l)

pub clause_same : (c d : Clause) → c ≡ d → T (same_clause c d)
clause_same c d e = subst (λ (x : Clause). T (same_clause c x)) e (clause_itself c)

-- ── Occurring in a clause ──

pub occurs : (l : Literal) (c : Clause) → T (stands_in l c) → Occurs l c
occurs l [] h = h
occurs l (m ∷ c) h =
    ⊎_elim (λ (q : T (same_literal l m)). inl (literal_is l m q)) (λ (q : T (stands_in l c)). inr (occurs l c q))
    (or_yes (same_literal l m) (stands_in l c) h)

pub stands : (l : Literal) (c : Clause) → Occurs l c → T (stands_in l c)
stands l [] h = h
stands l (m ∷ c) h =
    ⊎_elim (λ (q : l ≡ m). or_left (same_literal l m) (stands_in l c) (literal_same l m q))
    (λ (q : Occurs l c). or_right (same_literal l m) (stands_in l c) (stands l c q)) h

pub each_occurs : (c d : Clause) → T (within c d) → (l : Literal) → Occurs l c → Occurs l d
each_occurs [] d h l o = absurd o
each_occurs (m ∷ c) d h l o =
    ⊎_elim (λ (q : l ≡ m). subst (λ (x : Literal). Occurs x d) (sym q) (occurs m d (and_yes (stands_in m d) (within c d) h).0))
    (λ (q : Occurs l c). each_occurs c d (and_yes (stands_in m d) (within c d) h).1 l q) o

pub is_within : (c d : Clause) → ((l : Literal) → Occurs l c → Occurs l d) → T (within c d)
is_within [] d h = tt
is_within (m ∷ c) d h =
    yes_and (stands_in m d) (within c d) (stands m d (h m (inl refl))) (is_within c d (λ l o. h l (inr o)))
