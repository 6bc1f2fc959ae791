-- Literals with the same atom and opposite signs, by their words.
use Rattle.std.proofs.Common.{◌≡◌, ℕ, ◌+◌, ◌≤◌, Bool, true, false, cond, not, ◌⊎◌, List, [], ◌∷◌, ◌++◌, Decides, sym, refl, ap, ◌∙◌, ap₂, inl, inr, arith}
use Rattle.std.proofs.lemmas.Bool.Decides.{Decides-like}
use Rattle.logic.specs.declared.row.SymbolRow.{SymbolRow}
use Rattle.logic.specs.Syntax.{Atom, Literal, Clause, predicate, equal}
use Rattle.logic.specs.Words.{symbol_word, equality_word, negation, term_words, terms_words, atom_words, literal_words}
use Rattle.logic.specs.Lawful.{LawfulAtom}
use Rattle.logic.specs.Literals.{literal}
use Rattle.logic.proofs.Spelt.{formed_atom, formed_injective}
use Rattle.inference.specs.Conclusions.{Opposed}

-- ── The words of a literal: its head, and its arguments ──

-- the head of an atom that is not negated
abbrev pub head_of : Atom → ℕ
head_of (predicate p ts) = symbol_word p
head_of (equal s t) = equality_word

abbrev tail_of : Atom → List ℕ
tail_of (predicate p ts) = terms_words ts
tail_of (equal s t) = term_words s ++ term_words t

abbrev sign : Literal → ℕ
sign l = cond l.negated negation 0

words_are : (n : ℕ) (a : Atom) → atom_words n a ≡ (n + head_of a) ∷ tail_of a
words_are n (predicate p ts) = refl
words_are n (equal s t) = refl

-- ── Signs ──

-- two heads differ by the mark of negation alone
abbrev pub SignsDiffer : ℕ → ℕ → Type 0
SignsDiffer x y = (x + negation ≡ y) ⊎ (y + negation ≡ x)

signs_from : (s r : Bool) (x y : ℕ) → x ≤ 512 → y ≤ 512 → SignsDiffer (cond s negation 0 + x) (cond r negation 0 + y) → (x ≡ y) × (s ≡ not r)
signs_from true true x y h k q = absurd (omega arith)
signs_from true false x y h k q = (omega arith, refl)
signs_from false true x y h k q = (omega arith, refl)
signs_from false false x y h k q = absurd (omega arith)

signs_to : (s r : Bool) (x : ℕ) → s ≡ not r → SignsDiffer (cond s negation 0 + x) (cond r negation 0 + x)
signs_to true true x e = absurd cc
signs_to true false x e = inr (omega arith)
signs_to false true x e = inl (omega arith)
signs_to false false x e = absurd cc

module _ (rows : List SymbolRow) where
  head_small : (a : Atom) → LawfulAtom rows a → head_of a ≤ 512
  head_small (predicate p ts) g = omega (arith, g.0.0)
  head_small (equal s t) g = omega arith

  atom_injective : (a b : Atom) → LawfulAtom rows a → LawfulAtom rows b → head_of a ≡ head_of b → tail_of a ≡ tail_of b → a ≡ b
  atom_injective a b g h e f =
      ap (λ (c : Clause). (literal c 1).atom)
      (formed_injective rows (record { negated = false; atom = a } ∷ []) (record { negated = false; atom = b } ∷ [])
      (formed_atom rows a g, tt) (formed_atom rows b h, tt)
      (ap (λ r. r ++ []) (words_are 0 a ∙ ap₂ (λ x y. (0 + x) ∷ y) e f ∙ sym (words_are 0 b))))

  -- literals by their heads, and the words behind them
  module _ (a b : ℕ) (xs ys : List ℕ) (l m : Literal) (g : LawfulAtom rows l.atom) (h : LawfulAtom rows m.atom) (e : a ∷ xs ≡ literal_words l) (f : b ∷ ys ≡ literal_words m) where
    one : a ∷ xs ≡ (sign l + head_of l.atom) ∷ tail_of l.atom
    one = e ∙ words_are (sign l) l.atom

    other : b ∷ ys ≡ (sign m + head_of m.atom) ∷ tail_of m.atom
    other = f ∙ words_are (sign m) m.atom

    to_words : Opposed l m → SignsDiffer a b × (xs ≡ ys)
    to_words o =
        let p : a ≡ sign l + head_of l.atom = cc one in
        let q : b ≡ sign m + head_of l.atom = cc (other, o.atom) in
        let t : xs ≡ ys = cc (one, other, o.atom) in
        (rw (p, q) (signs_to l.negated m.negated (head_of l.atom) o.signs), t)

    from_words : SignsDiffer a b → xs ≡ ys → Opposed l m
    from_words d t =
        let p : a ≡ sign l + head_of l.atom = cc one in
        let q : b ≡ sign m + head_of m.atom = cc other in
        let s = signs_from l.negated m.negated (head_of l.atom) (head_of m.atom) (head_small l.atom g) (head_small m.atom h) (rw (p, q) at d) in
        let u : tail_of l.atom ≡ tail_of m.atom = cc (one, other) in
        record { atom = atom_injective l.atom m.atom g h s.0 u; signs = s.1 }

    -- the heads do, and the arguments are compared
    pub opposed_by_tails : (r : Bool) → SignsDiffer a b → Decides r (xs ≡ ys) → Decides r (Opposed l m)
    opposed_by_tails r q d = Decides-like r (from_words q) (λ o. (to_words o).1) d
