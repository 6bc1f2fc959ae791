-- The head and the sides of an equality, on words and on trees.
use Rattle.std.proofs.Common.{◌≡◌, ℕ, ◌+◌, ◌-◌, Bool, true, false, cond, ◌⊎◌, List, [], ◌∷◌, ◌++◌, length, take, drop, Decides, sym, refl, ap, ◌∙◌, subst, ap₂, inl, inr, ⊎_elim, append_assoc, append-nil, arith, drop-drop}
use Rattle.std.specs.List.{between}
use Rattle.std.proofs.lemmas.List.{take_at, drop_at}
use Rattle.std.proofs.lemmas.Bool.Decides.{Decides-like}
use Rattle.logic.specs.declared.row.SymbolRow.{SymbolRow}
use Rattle.logic.specs.Syntax.{Term, Atom, Literal, predicate, equal}
use Rattle.logic.specs.Words.{equality_word, negation, term_words, atom_words, literal_words}
use Rattle.logic.specs.Lawful.{LawfulTerm, LawfulAtom}
use Rattle.inference.specs.Conclusions.{IsEquality, IsEquation}
use Rattle.rules.specs.Sides.{Headed, Parted}

-- ── Words ──

-- a part of the words, by what stands from its ends on
pub cut : (ws xs rest : List ℕ) (from to : ℕ) → drop from ws ≡ xs ++ rest → to ≡ from + length xs → (between from to ws ≡ xs) × (drop to ws ≡ rest)
cut ws xs rest from to e f =
    let z : to - from ≡ length xs = omega arith in (
      ap₂ take z e ∙ take_at xs rest (length xs) refl,
      ap (λ n. drop n ws) f ∙ sym (drop-drop (length xs) from ws) ∙ ap (drop (length xs)) e ∙ drop_at xs rest (length xs) refl,
    )

-- a part behind the head
pub parted : (ws xs rest : List ℕ) (place : ℕ) → drop 1 ws ≡ xs ++ rest → place ≡ 1 + length xs → Parted ws place xs rest
parted ws xs rest place e f =
    let c = cut ws xs rest 1 place e f in
    record { left = c.0; right = c.1 }

-- a row of one term
pub behind_one : (ws : List ℕ) (s : Term) (rest : List ℕ) (from r : ℕ) → drop from ws ≡ term_words s ++ rest
    → (drop from ws ≡ (term_words s ++ []) ++ rest → r ≡ from + length (term_words s ++ [])) → r ≡ from + length (term_words s)
behind_one ws s rest from r e h =
    h (e ∙ ap (λ xs. xs ++ rest) (sym (append-nil (term_words s)))) ∙ ap (λ xs. from + length xs) (append-nil (term_words s))

-- ── Trees ──

-- the words of an equation, whatever its sign
pub equation_words : (l : Literal) (e : IsEquation l)
    → literal_words l ≡ (cond l.negated negation 0 + equality_word) ∷ (term_words e.s ++ term_words e.t)
equation_words l e = ap (atom_words (cond l.negated negation 0)) e.is

-- an equality is an equation
abbrev pub as_equation : (l : Literal) → IsEquality l → IsEquation l
as_equation l e = record { s = e.s; t = e.t; is = ap (λ (x : Literal). x.atom) e.is }

module _ (rows : List SymbolRow) where
  -- the sides of a lawful equation are lawful
  pub sides_lawful : (l : Literal) (e : IsEquation l) → LawfulAtom rows l.atom → LawfulTerm rows e.s × LawfulTerm rows e.t
  sides_lawful l e g =
      let h : LawfulAtom rows (equal e.s e.t) = subst (LawfulAtom rows) e.is g in
      (h.0, h.1)

  -- the head of a literal says whether it is an equality, and a negated one
  by_head : (n : Bool) (a : Atom) (more rest : List ℕ) → LawfulAtom rows a → atom_words (cond n negation 0) a ++ more ≡ equality_word ∷ rest
      → IsEquality (record { negated = n; atom = a })
  by_head true (predicate p ts) more rest g e = let z : 1024 + (256 + p) ≡ 512 = cc in absurd (omega arith)
  by_head true (equal s t) more rest g e = let z : ◌≡◌ {A = ℕ} 1536 512 = cc in absurd (omega arith)
  by_head false (predicate p ts) more rest g e = let z : 0 + (256 + p) ≡ 512 = cc in absurd (omega (arith, g.0.0))
  by_head false (equal s t) more rest g e = record { s = s; t = t; is = refl }

  by_negated_head : (n : Bool) (a : Atom) (more rest : List ℕ) → LawfulAtom rows a → atom_words (cond n negation 0) a ++ more ≡ (negation + equality_word) ∷ rest
      → IsEquation (record { negated = n; atom = a })
  by_negated_head true (predicate p ts) more rest g e = let z : 1024 + (256 + p) ≡ 1536 = cc in absurd (omega (arith, g.0.0))
  by_negated_head true (equal s t) more rest g e = record { s = s; t = t; is = refl }
  by_negated_head false (predicate p ts) more rest g e = let z : 0 + (256 + p) ≡ 1536 = cc in absurd (omega (arith, g.0.0))
  by_negated_head false (equal s t) more rest g e = record { s = s; t = t; is = refl }

  -- the heads of an equation
  either_head : (n : Bool) (xs : List ℕ) → Headed equality_word ((cond n negation 0 + equality_word) ∷ xs) ⊎ Headed (negation + equality_word) ((cond n negation 0 + equality_word) ∷ xs)
  either_head true xs = inr (xs, refl)
  either_head false xs = inl (xs, refl)

  -- words that begin with a lawful literal
  module _ (ws more : List ℕ) (l : Literal) (g : LawfulAtom rows l.atom) (e : ws ≡ literal_words l ++ more) where
    pub equality_headed : Headed equality_word ws → IsEquality l
    equality_headed h = by_head l.negated l.atom more h.0 g (sym e ∙ h.1)

    pub equality_decides : (r : Bool) → Decides r (Headed equality_word ws) → Decides r (IsEquality l)
    equality_decides r d =
        Decides-like r equality_headed
        (λ q. (_, e ∙ ap (λ (x : Literal). literal_words x ++ more) q.is))
        d

    pub equation_decides : (r : Bool) → Decides r (Headed equality_word ws ⊎ Headed (negation + equality_word) ws) → Decides r (IsEquation l)
    equation_decides r d =
        Decides-like r
        (⊎_elim (λ (h : Headed equality_word ws). as_equation l (equality_headed h))
        (λ (h : Headed (negation + equality_word) ws). by_negated_head l.negated l.atom more h.0 g (sym e ∙ h.1)))
        (λ q.
        subst (λ (xs : List ℕ). Headed equality_word xs ⊎ Headed (negation + equality_word) xs) (sym (e ∙ ap (λ xs. xs ++ more) (equation_words l q)))
        (either_head l.negated ((term_words q.s ++ term_words q.t) ++ more)))
        d

    -- behind the head are the sides
    pub sides_behind : (q : IsEquation l) → drop 1 ws ≡ term_words q.s ++ (term_words q.t ++ more)
    sides_behind q =
        ap (drop 1) (e ∙ ap (λ xs. xs ++ more) (equation_words l q)) ∙ append_assoc (term_words q.s) (term_words q.t) more
