-- One step of reading terms.
use Rattle.std.proofs.Common.{◌≡◌, ℕ, ◌+◌, ◌-◌, ◌<◌, ◌≤◌, ◌⊎◌, List, [], ◌∷◌, ◌++◌, length, get_or, drop, Bor, None, Option, sym, refl, ap, ◌∙◌, subst, inl, inr, append_assoc, arith, length-append}
use Rattle.logic.specs.declared.row.SymbolRow.{SymbolRow}
use Rattle.logic.specs.declared.row.Kind.{Kind}
use Rattle.logic.specs.declared.row.Kind.TheVariants.{Function}
use Rattle.logic.specs.Symbols.{Symbol}
use Rattle.logic.specs.Syntax.{Term, Terms, var, app, []ₜ, ◌∷ₜ◌}
use Rattle.logic.specs.Words.{term_words, terms_words}
use Rattle.logic.specs.Lawful.{count, deep, deeps, LawfulTerms}
use Rattle.logic.specs.Reads.{Reads, Leaves}
use Rattle.logic.proofs.Spelt.{terms_prefix_unique}

module _ (rows : List SymbolRow) where
  -- words begin with one row of so many terms at most
  pub unique : (d n : ℕ) (ws xs ys : List ℕ) → Reads rows d n ws xs → Reads rows d n ws ys → xs ≡ ys
  unique d n ws xs ys r s =
      (terms_prefix_unique rows r.terms s.terms xs ys r.lawful s.lawful (r.counted ∙ sym s.counted) (sym r.spelt ∙ s.spelt)).1

  -- behind n terms of the words lies what lies behind m terms of xs
  pub record Goes (d n : ℕ) (ws : List ℕ) (m : ℕ) (xs : List ℕ) : Type 0 where
    pub shorter : length xs ≤ length ws
    pub onto : (rest : List ℕ) → Reads rows d m xs rest → Reads rows d n ws rest
    pub from : (rest : List ℕ) → Reads rows d n ws rest → Reads rows d m xs rest

  pub goes_nowhere : (d n m : ℕ) (ws : List ℕ) → n ≡ m → Goes d n ws m ws
  goes_nowhere d n m ws e = record {
    shorter = omega arith;
    onto = λ rest r. subst (λ (k : ℕ). Reads rows d k ws rest) (sym e) r;
    from = λ rest r. subst (λ (k : ℕ). Reads rows d k ws rest) e r;
  }

  pub goes_on : (d n m k : ℕ) (ws xs ys : List ℕ) → k ≡ m - 1 → Goes d n ws m xs → Goes d m xs (m - 1) ys → Goes d n ws k ys
  goes_on d n m k ws xs ys e g h = record {
    shorter = omega (arith, g.shorter, h.shorter);
    onto = λ rest r. g.onto rest (h.onto rest (subst (λ (i : ℕ). Reads rows d i ys rest) e r));
    from = λ rest r. subst (λ (i : ℕ). Reads rows d i ys rest) (sym e) (h.from rest (g.from rest r));
  }

  -- ── Nothing due, or nothing left ──

  pub none : (d n : ℕ) (ws : List ℕ) → n ≡ 0 → Reads rows d n ws ws
  none d n ws e = record { terms = []ₜ; counted = sym e; lawful = tt; shallow = omega arith; spelt = refl }

  some_word : (t : Term) → 0 < length (term_words t)
  some_word (var i) = omega arith
  some_word (app s ts) = omega arith

  no_words : (d n : ℕ) (rest : List ℕ) → 0 < n → Reads rows d n [] rest → ⊥
  no_words d n rest h r = go r.terms r.counted r.spelt
    where
      go : (ts : Terms) → count ts ≡ n → [] ≡ terms_words ts ++ rest → ⊥
      go []ₜ e f = omega arith
      go (t ∷ₜ ts) e f =
          omega (arith, ap length f, length-append (term_words t ++ terms_words ts) rest, length-append (term_words t) (terms_words ts), some_word t)

  some_depth : (t : Term) → 0 < deep t
  some_depth (var i) = omega arith
  some_depth (app s ts) = omega arith

  no_depth : (n : ℕ) (ws rest : List ℕ) → 0 < n → Reads rows 0 n ws rest → ⊥
  no_depth n ws rest h r = go r.terms r.counted r.shallow
    where
      go : (ts : Terms) → count ts ≡ n → deeps ts ≤ 0 → ⊥
      go []ₜ e s = omega arith
      go (t ∷ₜ ts) e s = omega (arith, some_depth t)

  -- ── The first word ──

  pub record AfterSymbol (d n w : ℕ) (ws rest : List ℕ) : Type 0 where
    pub low : 256 ≤ w
    pub arity : ℕ
    pub symbol : Symbol rows (w - 256) Function arity
    pub mid : List ℕ
    pub inner : Reads rows (d - 1) arity ws mid
    pub others : Reads rows d (n - 1) mid rest

  first_word : (d n w : ℕ) (ws rest : List ℕ) → 0 < n → Reads rows d n (w ∷ ws) rest
      → ((w < 64) × Reads rows d (n - 1) ws rest) ⊎ AfterSymbol d n w ws rest
  first_word d n w ws rest h r = go r.terms r.counted r.lawful r.shallow r.spelt
    where
      go : (ts : Terms) → count ts ≡ n → LawfulTerms rows ts → deeps ts ≤ d → w ∷ ws ≡ terms_words ts ++ rest
          → ((w < 64) × Reads rows d (n - 1) ws rest) ⊎ AfterSymbol d n w ws rest
      go []ₜ e g s f = absurd (omega arith)
      go (var i ∷ₜ ts) e g s f =
          let x : w ≡ i = ap (λ xs. get_or xs 0 0) f in
          inl (omega (arith, g.0), record { terms = ts; counted = omega arith; lawful = g.1; shallow = omega arith; spelt = ap (drop 1) f })
      go (app q us ∷ₜ ts) e g s f =
          let x : w ≡ 256 + q = ap (λ xs. get_or xs 0 0) f in
          let y : q ≡ w - 256 = omega arith in
          inr
          (record {
            low = omega arith;
            arity = count us;
            symbol = subst (λ (k : ℕ). Symbol rows k Function (count us)) y g.0.0;
            mid = terms_words ts ++ rest;
            inner =
                record {
                  terms = us;
                  counted = refl;
                  lawful = g.0.1;
                  shallow = omega arith;
                  spelt = ap (drop 1) f ∙ append_assoc (terms_words us) (terms_words ts) rest;
                };
            others = record { terms = ts; counted = omega arith; lawful = g.1; shallow = omega arith; spelt = refl };
          })

  with_var : (d n w : ℕ) (ws rest : List ℕ) → 0 < n → 0 < d → w < 64 → Reads rows d (n - 1) ws rest → Reads rows d n (w ∷ ws) rest
  with_var d n w ws rest h k l r =
      record {
        terms = var w ∷ₜ r.terms;
        counted = omega (arith, r.counted);
        lawful = (l, r.lawful);
        shallow = omega (arith, r.shallow);
        spelt = ap (λ xs. w ∷ xs) r.spelt;
      }

  with_symbol : (d n w : ℕ) (ws rest : List ℕ) → 0 < n → 0 < d → AfterSymbol d n w ws rest → Reads rows d n (w ∷ ws) rest
  with_symbol d n w ws rest h k a =
      let i : Reads rows (d - 1) a.arity ws a.mid = a.inner in
      let o : Reads rows d (n - 1) a.mid rest = a.others in
      let y : 256 + (w - 256) ≡ w = omega (arith, a.low) in
      record {
        terms = app (w - 256) i.terms ∷ₜ o.terms;
        counted = omega (arith, o.counted);
        lawful = ((subst (Symbol rows (w - 256) Function) (sym i.counted) a.symbol, i.lawful), o.lawful);
        shallow = omega (arith, i.shallow, o.shallow);
        spelt =
            ap (λ xs. w ∷ xs) (i.spelt ∙ ap (λ xs. terms_words i.terms ++ xs) o.spelt ∙ sym (append_assoc (terms_words i.terms) (terms_words o.terms) rest))
            ∙ ap (λ x. x ∷ ((terms_words i.terms ++ terms_words o.terms) ++ rest)) (sym y);
      }

  -- a symbol has one arity
  pub one_arity : (s : ℕ) (k : Kind) (a b : ℕ) → Symbol rows s k a → Symbol rows s k b → a ≡ b
  one_arity s k a b p q = sym p.3 ∙ q.3

  -- ── Behind the first word ──

  module _ {d n w : ℕ} {ws others : List ℕ} (is : ws ≡ w ∷ others) (some_due : 0 < n) where
    from_here : (rest : List ℕ) → Reads rows d n ws rest → ((w < 64) × Reads rows d (n - 1) others rest) ⊎ AfterSymbol d n w others rest
    from_here rest r = first_word d n w others rest some_due (subst (λ (xs : List ℕ). Reads rows d n xs rest) is r)

    pub goes_var : 0 < d → w < 64 → Goes d n ws (n - 1) others
    goes_var k l = record {
      shorter = omega (arith, ap length is);
      onto = λ rest r. rw is (with_var d n w others rest some_due k l r);
      from = λ rest r. elim (from_here rest r) [ inl q ↦ q.1 | inr q ↦ absurd (omega (arith, q.low)) ];
    }

    pub leaves_between : 64 ≤ w → w < 256 → (rest : List ℕ) → Reads rows d n ws rest → ⊥
    leaves_between l m rest r = elim (from_here rest r) [ inl q ↦ omega (arith, q.0) | inr q ↦ omega (arith, q.low) ]

    pub leaves_unknown : 256 ≤ w → ((a : ℕ) → Symbol rows (w - 256) Function a → ⊥) → (rest : List ℕ) → Reads rows d n ws rest → ⊥
    leaves_unknown l f rest r = elim (from_here rest r) [ inl q ↦ omega (arith, q.0) | inr q ↦ f q.arity q.symbol ]

    pub leaves_inner : (a : ℕ) → 256 ≤ w → Symbol rows (w - 256) Function a
        → ((rest : List ℕ) → Reads rows (d - 1) a others rest → ⊥)
        → (rest : List ℕ) → Reads rows d n ws rest → ⊥
    leaves_inner a l s h rest r = elim (from_here rest r) [
      | inl q ↦ omega (arith, q.0)
      | inr q ↦ h q.mid (subst (λ (k : ℕ). Reads rows (d - 1) k others q.mid) (one_arity _ _ _ _ q.symbol s) q.inner)
    ]

    pub goes_symbol : (a : ℕ) (mid : List ℕ) → 0 < d → 256 ≤ w → Symbol rows (w - 256) Function a
        → length mid ≤ length others → Reads rows (d - 1) a others mid → Goes d n ws (n - 1) mid
    goes_symbol a mid p l s q g = record {
      shorter = omega (arith, ap length is);
      onto = λ rest r. rw is (with_symbol d n w others rest some_due p
          (record { low = l; arity = a; symbol = s; mid = mid; inner = g; others = r }));
      from = λ rest r. elim (from_here rest r) [
        | inl x ↦ absurd (omega (arith, x.0))
        | inr x ↦ subst (λ (xs : List ℕ). Reads rows d (n - 1) xs rest)
            (unique (d - 1) a others x.mid mid
            (subst (λ (m : ℕ). Reads rows (d - 1) m others x.mid) (one_arity _ _ _ _ x.symbol s) x.inner) g) x.others
      ];
    }

  -- where no words begin with such terms, nothing is left behind them
  pub leaves_none : (d n : ℕ) (ws : List ℕ) (r : Option (Bor (List ℕ))) → r ≡ None → ((rest : List ℕ) → Reads rows d n ws rest → ⊥) → Leaves rows d n ws r
  leaves_none d n ws r e h = subst (Leaves rows d n ws) (sym e) h

  pub at_end : (d n : ℕ) (ws : List ℕ) → length ws ≡ 0 → 0 < n → (rest : List ℕ) → Reads rows d n ws rest → ⊥
  at_end d n [] h k rest r = no_words d n rest k r
  at_end d n (w ∷ ws) h k rest r = omega arith

  pub too_deep : (d n : ℕ) (ws rest : List ℕ) → d ≡ 0 → 0 < n → Reads rows d n ws rest → ⊥
  too_deep d n ws rest e k r = no_depth n ws rest k (subst (λ (x : ℕ). Reads rows x n ws rest) e r)
