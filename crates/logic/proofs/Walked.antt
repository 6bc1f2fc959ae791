-- What a walk over words comes to, where the words are those of terms or of a clause.
use Rattle.std.proofs.Common.{◌≡◌, ℕ, zero, suc, ◌+◌, ◌-◌, ◌<◌, ◌≤◌, Bool, ltb, List, ◌++◌, length, get_or, take, drop, Some, None, Decides, Option, sym, refl, ap, ◌∙◌, subst, ap₂, inl, inr, zero-add, add-one, arith}
use Rattle.std.proofs.lemmas.Bool.{lt-ltb, le-ltb, cond-true, cond-false, cases_lt}
use Rattle.logic.specs.declared.row.SymbolRow.{SymbolRow}
use Rattle.logic.specs.declared.words.Span.{Span}
use Rattle.logic.specs.Syntax.{Terms, Clause}
use Rattle.logic.specs.Words.{terms_words, literal_words, clause_words}
use Rattle.logic.specs.Lawful.{count, LawfulTerms, Lawful}
use Rattle.logic.specs.Walks.{arities, passed, begins}
use Rattle.logic.specs.Literals.{no_literal, span_of, Lies, LiteralAt}
use Rattle.logic.proofs.Passed.{passed_zero, passed_more, passed_plus}
use Rattle.logic.proofs.Spelt.{AllLawful, words_injective}
use Rattle.logic.proofs.Spanned.{passed_terms, passed_literals, passed_clause, begins_within, begins_end, begins_next, words_around}

module _ (rows : List SymbolRow) (ws : List ℕ) where
  -- ── Behind terms or literals ──

  module _ (place n r : ℕ) (e : r ≡ place + passed (arities rows) n (drop place ws)) where
    pub behind_terms : (ts : Terms) (rest : List ℕ) → LawfulTerms rows ts → count ts ≡ n → drop place ws ≡ terms_words ts ++ rest
        → r ≡ place + length (terms_words ts)
    behind_terms ts rest g m f =
        let z : n ≡ count ts + 0 = omega arith in
        omega (arith, ap₂ (passed (arities rows)) z f, passed_terms rows ts 0 rest g, passed_zero (arities rows) rest)

    pub behind_literals : (c : Clause) (rest : List ℕ) → Lawful rows c → length c ≡ n → drop place ws ≡ clause_words c ++ rest
        → r ≡ place + length (clause_words c)
    behind_literals c rest g m f = omega (arith, ap₂ (passed (arities rows)) (sym m) f, passed_literals rows c rest g.0)

  -- one term or literal from a place with a word goes on by a word at least
  pub goes_on : (place r : ℕ) → place < length ws → r ≡ place + passed (arities rows) 1 (drop place ws) → place < r
  goes_on place r h e = omega (arith, passed_more (arities rows) ws place 1 h (omega arith))

  -- ── The span of a literal ──

  pub span_none : (k a start : ℕ) → a ≡ suc k → start ≡ 0 + passed (arities rows) k ws → length ws ≤ start
      → None ≡ span_of (arities rows) ws a
  span_none k a start p e h =
      sym (cond-false (ltb (passed (arities rows) k ws) (length ws)) _ None (le-ltb (passed (arities rows) k ws) (length ws) (omega arith)))
      ∙ ap (span_of (arities rows) ws) (sym p)

  span_is : (k start end : ℕ) → start ≡ passed (arities rows) k ws → end ≡ start + passed (arities rows) 1 (drop start ws) → start < length ws
      → Some (record { start = start; end = end }) ≡ span_of (arities rows) ws (suc k)
  span_is k start end e f h =
      let q : passed (arities rows) k ws < length ws = omega arith in
      let x : end ≡ passed (arities rows) (suc k) ws =
      f ∙ ap (λ p. p + passed (arities rows) 1 (drop p ws)) e ∙ sym (passed_plus (arities rows) k 1 ws)
      ∙ ap (λ n. passed (arities rows) n ws) (add-one k) in
      ap₂ (λ s t. Some (record { start = s; end = t })) e x
      ∙ sym (cond-true (ltb (passed (arities rows) k ws) (length ws)) (Some (record { start = passed (arities rows) k ws; end = passed (arities rows) (suc k) ws })) None
      (lt-ltb (passed (arities rows) k ws) (length ws) q))

  pub span_some : (k a start end : ℕ) → a ≡ suc k → start ≡ 0 + passed (arities rows) k ws → end ≡ start + passed (arities rows) 1 (drop start ws)
      → start < length ws → Some (record { start = start; end = end }) ≡ span_of (arities rows) ws a
  span_some k a start end p e f h =
      span_is k start end (e ∙ zero-add (passed (arities rows) k ws)) f h ∙ ap (span_of (arities rows) ws) (sym p)

  -- ── The literal of a clause ──

  lies : (c : Clause) (k : ℕ) → AllLawful rows c → ws ≡ clause_words c → k < length c
      → Lies c (suc k) (record { start = passed (arities rows) k ws; end = passed (arities rows) (suc k) ws })
  lies c k g f h =
      let z : suc k - 1 ≡ k = omega arith in
      let x : passed (arities rows) k ws ≡ begins c k = ap (passed (arities rows) k) f ∙ passed_clause rows c k g in
      let y : passed (arities rows) (suc k) ws ≡ begins c (suc k) = ap (passed (arities rows) (suc k)) f ∙ passed_clause rows c (suc k) g in
      record {
        counted = omega arith;
        there = h;
        starts = x ∙ ap (begins c) (sym z);
        ends = y ∙ begins_next c k no_literal h ∙ ap₂ (λ p n. p + length (literal_words (get_or c n no_literal))) (sym x) (sym z);
        words =
            words_around c k no_literal h
            ∙ ap (λ n. clause_words (take n c) ++ (literal_words (get_or c n no_literal) ++ clause_words (drop (suc k) c))) (sym z);
      }

  at_number : (c : Clause) (a : ℕ) → AllLawful rows c → ws ≡ clause_words c → LiteralAt c a (span_of (arities rows) ws a)
  at_number c zero g f = inl refl
  at_number c (suc k) g f =
      let some : Option Span = Some (record { start = passed (arities rows) k ws; end = passed (arities rows) (suc k) ws }) in
      let x : passed (arities rows) k ws ≡ begins c k = ap (passed (arities rows) k) f ∙ passed_clause rows c k g in
      elim (cases_lt k (length c)) [
        | inl h ↦
            subst (LiteralAt c (suc k))
            (sym (cond-true (ltb (passed (arities rows) k ws) (length ws)) some None (lt-ltb (passed (arities rows) k ws) (length ws) (omega (arith, ap length f, begins_within c k no_literal h)))))
            (lies c k g f h)
        | inr h ↦
            subst (LiteralAt c (suc k))
            (sym (cond-false (ltb (passed (arities rows) k ws) (length ws)) some None (le-ltb (passed (arities rows) k ws) (length ws) (omega (arith, ap length f, begins_end c k h)))))
            (inr (omega arith))
      ]

  pub span_literal : (a : ℕ) (r : Option Span) → r ≡ span_of (arities rows) ws a → (c : Clause) → Lawful rows c → ws ≡ clause_words c → LiteralAt c a r
  span_literal a r e c g f = subst (LiteralAt c a) (sym e) (at_number c a g.0 f)

-- ── The same words ──

pub same_clauses : (xs ys : List ℕ) (r : Bool) → Decides r (xs ≡ ys) → (rows : List SymbolRow) (c d : Clause) → Lawful rows c → Lawful rows d
    → xs ≡ clause_words c → ys ≡ clause_words d → Decides r (c ≡ d)
same_clauses xs ys r h rows c d g k e f = (
  λ t. words_injective rows c d g.0 k.0 (sym e ∙ h.0 t ∙ f),
  λ q. h.1 (e ∙ ap clause_words q ∙ sym f),
)
