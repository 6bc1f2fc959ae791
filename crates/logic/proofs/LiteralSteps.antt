-- One literal of a clause's words.
use Rattle.std.proofs.Common.{◌≡◌, ℕ, ◌+◌, ◌-◌, ◌<◌, ◌≤◌, Bool, true, false, cond, ltb, List, [], ◌∷◌, ◌++◌, length, get_or, drop, Some, None, Option, MatchOption, sym, refl, ap, ◌∙◌, subst, inl, inr, append-nil, arith}
use Rattle.std.proofs.lemmas.Bool.{lt-ltb, le-ltb, cond-true, cond-false, cases_lt}
use Rattle.logic.specs.declared.row.SymbolRow.{SymbolRow}
use Rattle.logic.specs.declared.row.Kind.TheVariants.{Predicate}
use Rattle.logic.specs.Symbols.{Symbol}
use Rattle.logic.specs.Syntax.{Terms, Atom, Clause, []ₜ, ◌∷ₜ◌, predicate, equal}
use Rattle.logic.specs.Words.{term_words, terms_words, literal_words, clause_words}
use Rattle.logic.specs.Lawful.{count, deeps, LawfulTerms, LawfulAtom}
use Rattle.logic.specs.Walks.{bare}
use Rattle.logic.specs.Reads.{Reads, Takes, Spells}
use Rattle.logic.proofs.Spelt.{AllLawful}
use Rattle.logic.proofs.TermSteps.{unique, one_arity}

-- ── The sign of a head ──

bare_is : (b : Bool) (h w : ℕ) → h < 1024 → w ≡ cond b 1024 0 + h → bare w ≡ h
bare_is true h w l e = cond-false (ltb w 1024) w (w - 1024) (le-ltb w 1024 (omega arith)) ∙ omega arith
bare_is false h w l e = cond-true (ltb w 1024) w (w - 1024) (lt-ltb w 1024 (omega arith)) ∙ omega arith

sign_of : (w : ℕ) → (b : Bool) × (w ≡ cond b 1024 0 + bare w)
sign_of w = elim (cases_lt w 1024) [
  | inl h ↦ let e : bare w ≡ w = cond-true (ltb w 1024) w (w - 1024) (lt-ltb w 1024 h) in (false, omega arith)
  | inr h ↦ let e : bare w ≡ w - 1024 = cond-false (ltb w 1024) w (w - 1024) (le-ltb w 1024 h) in (true, omega arith)
]

module _ (rows : List SymbolRow) where
  -- ── What a head takes ──

  pub takes_one : (w a b : ℕ) → Takes rows w a → Takes rows w b → a ≡ b
  takes_one w a b (inl p) (inl q) = omega arith
  takes_one w a b (inl p) (inr q) = absurd (omega (arith, q.1.0))
  takes_one w a b (inr p) (inl q) = absurd (omega (arith, p.1.0))
  takes_one w a b (inr p) (inr q) = one_arity rows (bare w - 256) Predicate a b p.1 q.1

  -- ── The first literal ──

  pub record AfterHead (most w : ℕ) (ws : List ℕ) : Type 0 where
    pub some : 0 < most
    pub arity : ℕ
    pub takes : Takes rows w arity
    pub mid : List ℕ
    pub inner : Reads rows 32 arity ws mid
    pub others : Spells rows (most - 1) mid

  pub first_literal : (most w : ℕ) (ws : List ℕ) → Spells rows most (w ∷ ws) → AfterHead most w ws
  first_literal most w ws s = go s.0 s.1 s.2.0 s.2.1
    where
      lit : (b : Bool) (a : Atom) (c : Clause) → w ∷ ws ≡ literal_words (record { negated = b; atom = a }) ++ clause_words c → LawfulAtom rows a → AllLawful rows c
          → length c + 1 ≤ most → AfterHead most w ws
      lit b (predicate p ts) c e l g h =
          let small = l.0.0 in
          let x : w ≡ cond b 1024 0 + (256 + p) = ap (λ xs. get_or xs 0 0) e in
          let y : bare w ≡ 256 + p = bare_is b (256 + p) w (omega arith) x in
          let z : p ≡ bare w - 256 = omega arith in
          record {
            some = omega arith;
            arity = count ts;
            takes = inr (omega arith, subst (λ (k : ℕ). Symbol rows k Predicate (count ts)) z l.0);
            mid = clause_words c;
            inner = record { terms = ts; counted = refl; lawful = l.1; shallow = l.2; spelt = ap (drop 1) e };
            others = (c, refl, (g, omega arith));
          }
      lit b (equal s t) c e l g h =
          let x : w ≡ cond b 1024 0 + 512 = ap (λ xs. get_or xs 0 0) e in
          record {
            some = omega arith;
            arity = 2;
            takes = inl (bare_is b 512 w (omega arith) x, refl);
            mid = clause_words c;
            inner = record {
              terms = s ∷ₜ t ∷ₜ []ₜ;
              counted = refl;
              lawful = (l.0, (l.1, tt));
              shallow = omega (arith, l.2, l.3);
              spelt = ap (drop 1) e ∙ ap (λ xs. (term_words s ++ xs) ++ clause_words c) (sym (append-nil (term_words t)));
            };
            others = (c, refl, (g, omega arith));
          }

      go : (c : Clause) → w ∷ ws ≡ clause_words c → AllLawful rows c → length c ≤ most → AfterHead most w ws
      go [] e g h = absurd (omega (arith, ap length e))
      go (l ∷ c) e g h = lit l.negated l.atom c e g.0 g.1 (omega arith)

  -- a literal before a clause's words
  headed : (most w : ℕ) (b : Bool) (a : Atom) (ws mid : List ℕ) → 0 < most → LawfulAtom rows a
      → w ∷ ws ≡ literal_words (record { negated = b; atom = a }) ++ mid → Spells rows (most - 1) mid → Spells rows most (w ∷ ws)
  headed most w b a ws mid h l e s =
      (record { negated = b; atom = a } ∷ s.0, e ∙ ap (λ xs. literal_words (record { negated = b; atom = a }) ++ xs) s.1, ((l, s.2.0), omega (arith, s.2.1)))

  head_word : (w x : ℕ) (xs ys : List ℕ) → w ≡ x → xs ≡ ys → ◌≡◌ {A = List ℕ} (w ∷ xs) (x ∷ ys)
  head_word w x xs ys e f = cc

  equation : (most w : ℕ) (ws mid : List ℕ) → 0 < most → bare w ≡ 512 → (ts : Terms) → count ts ≡ 2 → LawfulTerms rows ts → deeps ts ≤ 32
      → ws ≡ terms_words ts ++ mid → Spells rows (most - 1) mid → Spells rows most (w ∷ ws)
  equation most w ws mid h e []ₜ n l d f s = absurd (omega arith)
  equation most w ws mid h e (t ∷ₜ []ₜ) n l d f s = absurd (omega arith)
  equation most w ws mid h e (t ∷ₜ u ∷ₜ []ₜ) n l d f s =
      let g = sign_of w in
      headed most w g.0 (equal t u) ws mid h (l.0, l.1.0, omega arith, omega arith)
      (head_word w (cond g.0 1024 0 + 512) ws ((term_words t ++ term_words u) ++ mid) (g.1 ∙ ap (λ x. cond g.0 1024 0 + x) e)
      (f ∙ ap (λ xs. (term_words t ++ xs) ++ mid) (append-nil (term_words u)))) s
  equation most w ws mid h e (t ∷ₜ u ∷ₜ v ∷ₜ ts) n l d f s = absurd (omega arith)

  pub with_literal : (most w : ℕ) (ws : List ℕ) → AfterHead most w ws → Spells rows most (w ∷ ws)
  with_literal most w ws a = go a.arity a.takes a.inner
    where
      go : (n : ℕ) → Takes rows w n → Reads rows 32 n ws a.mid → Spells rows most (w ∷ ws)
      go n (inl p) r = equation most w ws a.mid a.some p.0 r.terms (r.counted ∙ p.1) r.lawful r.shallow r.spelt a.others
      go n (inr p) r =
          let g = sign_of w in
          let y : bare w ≡ 256 + (bare w - 256) = omega arith in
          headed most w g.0 (predicate (bare w - 256) r.terms) ws a.mid a.some
          (subst (Symbol rows (bare w - 256) Predicate) (sym r.counted) p.1, r.lawful, r.shallow)
          (head_word w (cond g.0 1024 0 + (256 + (bare w - 256))) ws (terms_words r.terms ++ a.mid) (g.1 ∙ ap (λ x. cond g.0 1024 0 + x) y) r.spelt) a.others

  -- ── Behind the first word ──

  module _ {most w : ℕ} {ws others : List ℕ} (is : ws ≡ w ∷ others) where
    from_here : Spells rows most ws → AfterHead most w others
    from_here s = first_literal most w others (subst (Spells rows most) is s)

    pub spells_headless : ((a : ℕ) → Takes rows w a → ⊥) → Spells rows most ws → ⊥
    spells_headless n s = n (from_here s).arity (from_here s).takes

    pub spells_broken : (a : ℕ) → Takes rows w a → ((rest : List ℕ) → Reads rows 32 a others rest → ⊥) → Spells rows most ws → ⊥
    spells_broken a t n s = let h = from_here s in
        n h.mid (subst (λ (k : ℕ). Reads rows 32 k others h.mid) (takes_one w h.arity a h.takes t) h.inner)

    pub spells_more : {A : Type 0} (a : ℕ) (mid : List ℕ) (r : Option A) → 0 < most → Takes rows w a → Reads rows 32 a others mid
        → MatchOption r (Spells rows (most - 1) mid → ⊥) (λ _. Spells rows (most - 1) mid)
        → MatchOption r (Spells rows most ws → ⊥) (λ _. Spells rows most ws)
    spells_more a mid None m t g n = λ s.
        let h = from_here s in
        n (subst (Spells rows (most - 1))
        (unique rows 32 a others h.mid mid
        (subst (λ (k : ℕ). Reads rows 32 k others h.mid) (takes_one w h.arity a h.takes t) h.inner) g)
        h.others)
    spells_more a mid (Some x) m t g s =
        subst (Spells rows most) (sym is) (with_literal most w others (record { some = m; arity = a; takes = t; mid = mid; inner = g; others = s }))

  -- where the words are not those of such a clause, there is no answer
  pub spells_none : {A : Type 0} {most : ℕ} {ws : List ℕ} (r : Option A) → r ≡ None → (Spells rows most ws → ⊥)
      → MatchOption r (Spells rows most ws → ⊥) (λ _. Spells rows most ws)
  spells_none None e n = n
  spells_none (Some x) e n = cc
