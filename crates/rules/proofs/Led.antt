-- The term to which a position leads in a literal, found among the words.
use Rattle.std.proofs.Common.{◌≡◌, ℕ, ◌+◌, ◌-◌, ◌<◌, ◌≤◌, T, List, [], ◌∷◌, ◌++◌, length, take, drop, Some, None, Option, sym, refl, ap, ◌∙◌, ap₂, append_assoc, not-suc-le-zero, arith, length-append, length-drop, take-append-drop}
use Rattle.std.proofs.lemmas.List.{take_at}
use Rattle.logic.specs.declared.row.SymbolRow.{SymbolRow}
use Rattle.logic.specs.declared.words.Span.{Span}
use Rattle.logic.specs.Syntax.{Term, Literal}
use Rattle.logic.specs.Words.{term_words, literal_words}
use Rattle.logic.specs.Lawful.{LawfulTerm, LawfulAtom}
use Rattle.logic.specs.Walks.{arities}
use Rattle.inference.specs.Conclusions.{Leads}
use Rattle.inference.specs.Positions.{at_position}
use Rattle.inference.specs.Paramod.{is_found}
use Rattle.rules.specs.Places.{reached, Found, Led}
use Rattle.rules.proofs.Parted.{cut}
use Rattle.rules.proofs.Reached.{onward, literal_reached}
use Rattle.rules.proofs.Replaced.{the, before_in, behind_in, split_literal, put_words, lawful_found}

-- the words before a place, by what stands from it on
front : (ws xs rest : List ℕ) (x : ℕ) → x ≤ length ws → ws ≡ xs ++ rest → drop x ws ≡ rest → take x ws ≡ xs
front ws xs rest x h e f =
    let a : length ws ≡ length xs + length rest = ap length e ∙ length-append xs rest in
    let b : length ws - x ≡ length rest = sym (length-drop x ws) ∙ ap length f in
    let z : x ≡ length xs = omega arith in
    ap₂ take z e ∙ take_at xs rest (length xs) refl

-- words from a found term on begin with its words
found_is : (o : Option Term) (ws rest : List ℕ) → Some ws ≡ onward o rest → T (is_found o) × (o ≡ Some (the o)) × (ws ≡ term_words (the o) ++ rest)
found_is None ws rest e = absurd cc
found_is (Some u) ws rest e = (tt, refl, cc)

-- the words around a literal put to those around its term
regroup : (r s t v o : List ℕ) → r ++ ((s ++ (t ++ v)) ++ o) ≡ (r ++ s) ++ (t ++ (v ++ o))
regroup r s t v o = simp append_assoc

module _ (rows : List SymbolRow) (ws : List ℕ) (from : ℕ) (l : Literal) (rest : List ℕ) (g : LawfulAtom rows l.atom)
    (e : drop from ws ≡ literal_words l ++ rest) where
  -- the words that a position reaches from the literal
  reach : (k : ℕ) (p : List ℕ) → reached (arities rows) (drop from ws) (k ∷ p) ≡ onward (at_position l (k ∷ p)) (behind_in l k p ++ rest)
  reach k p = ap (λ vs. reached (arities rows) vs (k ∷ p)) e ∙ literal_reached rows l k p rest g

  -- where no words are reached, the position leads to no term; where some are, the term is found with its end behind it
  pub nowhere : (p : List ℕ) → None ≡ reached (arities rows) (drop from ws) p → Leads l p → ⊥
  nowhere [] n h = cc
  nowhere (k ∷ p) n h =
      let f : None ≡ Some (term_words h.0 ++ (behind_in l k p ++ rest)) = n ∙ reach k p ∙ ap (λ o. onward o (behind_in l k p ++ rest)) h.1 in
      cc

  pub somewhere : (p : List ℕ) (x y : ℕ) → 0 < length p → x ≤ length ws → Some (drop x ws) ≡ reached (arities rows) (drop from ws) p
      → ((u : Term) (more : List ℕ) → LawfulTerm rows u → drop x ws ≡ term_words u ++ more → y ≡ x + length (term_words u))
      → Found rows l p ws from rest (record { start = x; end = y })
  somewhere [] x y h k n ends = absurd (not-suc-le-zero h)
  somewhere (m ∷ p) x y h k n ends =
      let B : List ℕ = before_in l m p in
      let C : List ℕ = behind_in l m p in
      let u : Term = the (at_position l (m ∷ p)) in
      let f = found_is (at_position l (m ∷ p)) (drop x ws) (C ++ rest) (n ∙ reach m p) in
      let w : LawfulTerm rows u = lawful_found rows l m p g f.0 in
      let c = cut ws (term_words u) (C ++ rest) x y f.2 (ends u (C ++ rest) w f.2) in
      let split : ws ≡ (take from ws ++ B) ++ (term_words u ++ (C ++ rest)) =
      sym (take-append-drop from ws) ∙ ap (λ xs. take from ws ++ xs) (e ∙ ap (λ xs. xs ++ rest) (split_literal l m p f.0))
      ∙ regroup (take from ws) B (term_words u) C rest in
      record {
        term = u;
        there = f.1;
        lawful = w;
        here = c.0;
        replaced = λ new.
            ap₂ (λ xs ys. xs ++ (term_words new ++ ys)) (front ws (take from ws ++ B) (term_words u ++ (C ++ rest)) x k split f.2) c.1
            ∙ sym (regroup (take from ws) B (term_words new) C rest)
            ∙ ap (λ xs. take from ws ++ (xs ++ rest)) (sym (put_words new l m p f.0));
      }

pub none_led : (rows : List SymbolRow) (l : Literal) (p ws : List ℕ) (from : ℕ) (rest : List ℕ) (r : Option Span) → r ≡ None → (Leads l p → ⊥)
    → Led rows l p ws from rest r
none_led rows l p ws from rest None e h = h
none_led rows l p ws from rest (Some s) e h = absurd cc
