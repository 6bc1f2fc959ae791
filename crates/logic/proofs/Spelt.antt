-- Reading the words of a lawful clause gives back the clause.
use Rattle.std.proofs.Common.{◌≡◌, ℕ, zero, suc, ◌+◌, ◌-◌, ◌<◌, Bool, true, false, cond, ◌&&◌, eqb, ltb, List, [], ◌∷◌, ◌++◌, get_or, sym, refl, ap, ◌∙◌, subst, ap₂, append_assoc, append-nil, zero-add, arith}
use mathlib.Core.List.{append_cancel_left}
use Rattle.std.specs.List.{AllByRecursion}
use Rattle.std.proofs.lemmas.Bool.{lt-ltb, le-ltb, ne_eqb}
use Rattle.logic.specs.declared.row.SymbolRow.{SymbolRow}
use Rattle.logic.specs.declared.row.Kind.TheVariants.{Function, Predicate}
use Rattle.logic.specs.Symbols.{Symbol, row_at, same_kind}
use Rattle.logic.specs.Syntax.{Term, Terms, Atom, Literal, Clause, var, app, []ₜ, ◌∷ₜ◌, predicate, equal}
use Rattle.logic.specs.Words.{term_words, terms_words, literal_words, clause_words}
use Rattle.logic.specs.Lawful.{count, LawfulTerm, LawfulTerms, LawfulAtom}
use Rattle.logic.specs.Walks.{arities}

infixr 67 ◌++ₜ◌
abbrev pub ◌++ₜ◌ : Terms → Terms → Terms
[]ₜ ++ₜ us = us
(t ∷ₜ ts) ++ₜ us = t ∷ₜ (ts ++ₜ us)

-- ── Reading words from the last to the first ──

-- the first k terms, and the others
abbrev first_terms : ℕ → Terms → Terms
first_terms zero ts = []ₜ
first_terms (suc k) []ₜ = []ₜ
first_terms (suc k) (t ∷ₜ ts) = t ∷ₜ first_terms k ts

abbrev other_terms : ℕ → Terms → Terms
other_terms zero ts = ts
other_terms (suc k) []ₜ = []ₜ
other_terms (suc k) (t ∷ₜ ts) = other_terms k ts

-- the literals read, and before them the terms that no head has taken yet
record Reading : Type 0 where
  pub literals : Clause
  pub waiting : Terms

abbrev equation : Terms → Atom
equation []ₜ = equal (var 0) (var 0)
equation (s ∷ₜ []ₜ) = equal s s
equation (s ∷ₜ t ∷ₜ ts) = equal s t

abbrev head_term : Terms → Term
head_term []ₜ = var 0
head_term (t ∷ₜ ts) = t

first_append : (ts us : Terms) → first_terms (count ts) (ts ++ₜ us) ≡ ts
first_append []ₜ us = refl
first_append (t ∷ₜ ts) us = ap (λ r. t ∷ₜ r) (first_append ts us)

other-append : (ts us : Terms) → other_terms (count ts) (ts ++ₜ us) ≡ us
other-append []ₜ us = refl
other-append (t ∷ₜ ts) us = other-append ts us

module _ (rows : List SymbolRow) where
  -- every literal is lawful
  abbrev pub AllLawful : Clause → Type 0
  AllLawful c = AllByRecursion (λ l. LawfulAtom rows l.atom) c

  -- kinds, arities and variables are as in a lawful atom; the depth may be any
  abbrev pub FormedAtom : Atom → Type 0
  FormedAtom (predicate p ts) = Symbol rows p Predicate (count ts) × LawfulTerms rows ts
  FormedAtom (equal s t) = LawfulTerm rows s × LawfulTerm rows t

  -- the same of every literal; their number may be any
  abbrev pub Formed : Clause → Type 0
  Formed c = AllByRecursion (λ l. FormedAtom l.atom) c

  pub formed_atom : (a : Atom) → LawfulAtom rows a → FormedAtom a
  formed_atom (predicate p ts) g = (g.0, g.1)
  formed_atom (equal s t) g = (g.0, g.1)

  pub formed : (c : Clause) → AllLawful c → Formed c
  formed [] g = tt
  formed (l ∷ c) g = (formed_atom l.atom g.0, formed c g.1)

  abbrev takes : ℕ → ℕ
  takes h = cond (eqb h 512) 2 (arities rows (h - 256))

  abbrev is_function : ℕ → Bool
  is_function s = same_kind (row_at rows s).kind Function

  abbrev read_head : Bool → ℕ → Reading → Reading
  read_head negated h r =
      record {
        literals =
            record { negated = negated; atom = cond (eqb h 512) (equation (first_terms (takes h) r.waiting)) (predicate (h - 256) (first_terms (takes h) r.waiting)) } ∷ r.literals;
        waiting = other_terms (takes h) r.waiting;
      }

  abbrev read_word : ℕ → Reading → Reading
  read_word w r =
      cond (ltb w 256)
      (record { literals = r.literals; waiting = var w ∷ₜ r.waiting })
      (cond (ltb w 512 && is_function (w - 256))
      (record { literals = r.literals; waiting = app (w - 256) (first_terms (arities rows (w - 256)) r.waiting) ∷ₜ other_terms (arities rows (w - 256)) r.waiting })
      (cond (ltb w 1024) (read_head false w r) (read_head true (w - 1024) r)))

  abbrev read_words : List ℕ → Reading
  read_words [] = record { literals = []; waiting = []ₜ }
  read_words (w ∷ ws) = read_word w (read_words ws)

  -- the reading with more terms waiting
  abbrev waiting_more : Terms → Reading → Reading
  waiting_more ts r = record { literals = r.literals; waiting = ts ++ₜ r.waiting }

  -- ── Terms ──

  read_var : (i : ℕ) (r : Reading) → i < 256 → read_word i r ≡ waiting_more (var i ∷ₜ []ₜ) r
  read_var i r h = rw (lt-ltb i 256 h)

  read_app : (s : ℕ) (ts : Terms) (r : Reading) → Symbol rows s Function (count ts)
      → read_word (256 + s) (waiting_more ts r) ≡ waiting_more (app s ts ∷ₜ []ₜ) r
  read_app s ts r y =
      let h : s < 256 = y.0 in
      let e : arities rows s ≡ count ts = y.3 in
      let w : 256 + s - 256 ≡ s = omega arith in
      let a : ltb (256 + s) 256 ≡ false = le-ltb (256 + s) 256 (omega arith) in
      let b : ltb (256 + s) 512 ≡ true = lt-ltb (256 + s) 512 (omega arith) in
      let g : is_function s ≡ true = ap (λ k. same_kind k Function) y.2 in
      rw (a, b, w, g, e, first_append ts r.waiting, other-append ts r.waiting)

  mutual
    read_term : (t : Term) (ws : List ℕ) → LawfulTerm rows t
        → read_words (term_words t ++ ws) ≡ waiting_more (t ∷ₜ []ₜ) (read_words ws)
    read_term (var i) ws g = read_var i (read_words ws) (omega arith)
    read_term (app s ts) ws g =
        ap (read_word (256 + s)) (read_terms ts ws g.1) ∙ read_app s ts (read_words ws) g.0

    read_terms : (ts : Terms) (ws : List ℕ) → LawfulTerms rows ts
        → read_words (terms_words ts ++ ws) ≡ waiting_more ts (read_words ws)
    read_terms []ₜ ws g = refl
    read_terms (t ∷ₜ ts) ws g =
        ap read_words (append_assoc (term_words t) (terms_words ts) ws)
        ∙ read_term t (terms_words ts ++ ws) g.0
        ∙ ap (waiting_more (t ∷ₜ []ₜ)) (read_terms ts ws g.1)

  -- ── Literals ──

  abbrev with_first : Literal → Reading → Reading
  with_first l r = record { literals = l ∷ r.literals; waiting = r.waiting }

  abbrev signed : Bool → Atom → Literal
  signed n a = record { negated = n; atom = a }

  head_predicate : (n : Bool) (p : ℕ) (ts : Terms) (r : Reading) → Symbol rows p Predicate (count ts)
      → read_head n (256 + p) (waiting_more ts r) ≡ with_first (signed n (predicate p ts)) r
  head_predicate n p ts r y =
      let h : p < 256 = y.0 in
      let e : arities rows p ≡ count ts = y.3 in
      let w : 256 + p - 256 ≡ p = omega arith in
      let a : eqb (256 + p) 512 ≡ false = ne_eqb (256 + p) 512 (λ q. omega arith) in
      rw (a, w, e, first_append ts r.waiting, other-append ts r.waiting)

  word_negated : (h : ℕ) (r : Reading) → read_word (1024 + h) r ≡ read_head true h r
  word_negated h r =
      let w : 1024 + h - 1024 ≡ h = omega arith in
      let a : ltb (1024 + h) 256 ≡ false = le-ltb (1024 + h) 256 (omega arith) in
      let b : ltb (1024 + h) 512 ≡ false = le-ltb (1024 + h) 512 (omega arith) in
      let c : ltb (1024 + h) 1024 ≡ false = le-ltb (1024 + h) 1024 (omega arith) in
      rw (a, b, c, w)

  word_predicate : (p a : ℕ) (r : Reading) → Symbol rows p Predicate a → read_word (256 + p) r ≡ read_head false (256 + p) r
  word_predicate p n r y =
      let h : p < 256 = y.0 in
      let w : 256 + p - 256 ≡ p = omega arith in
      let a : ltb (256 + p) 256 ≡ false = le-ltb (256 + p) 256 (omega arith) in
      let b : ltb (256 + p) 512 ≡ true = lt-ltb (256 + p) 512 (omega arith) in
      let c : ltb (256 + p) 1024 ≡ true = lt-ltb (256 + p) 1024 (omega arith) in
      let g : is_function p ≡ false = ap (λ k. same_kind k Function) y.2 in
      rw (a, b, w, g, c)

  both : (s t : Term) (ws : List ℕ) → LawfulTerm rows s → LawfulTerm rows t
      → read_words ((term_words s ++ term_words t) ++ ws) ≡ waiting_more (s ∷ₜ t ∷ₜ []ₜ) (read_words ws)
  both s t ws g h =
      ap read_words (append_assoc (term_words s) (term_words t) ws)
      ∙ read_term s (term_words t ++ ws) g
      ∙ ap (waiting_more (s ∷ₜ []ₜ)) (read_term t ws h)

  read_atom : (n : Bool) (a : Atom) (ws : List ℕ) → FormedAtom a
      → read_words (literal_words (signed n a) ++ ws) ≡ with_first (signed n a) (read_words ws)
  read_atom true (predicate p ts) ws g =
      ap (read_word (1024 + (256 + p))) (read_terms ts ws g.1)
      ∙ word_negated (256 + p) (waiting_more ts (read_words ws))
      ∙ head_predicate true p ts (read_words ws) g.0
  read_atom false (predicate p ts) ws g =
      ap (λ w. read_word w (read_words (terms_words ts ++ ws))) (zero-add (256 + p))
      ∙ ap (read_word (256 + p)) (read_terms ts ws g.1)
      ∙ word_predicate p (count ts) (waiting_more ts (read_words ws)) g.0
      ∙ head_predicate false p ts (read_words ws) g.0
  read_atom true (equal s t) ws g = ap (read_word 1536) (both s t ws g.0 g.1)
  read_atom false (equal s t) ws g = ap (read_word 512) (both s t ws g.0 g.1)

  read_clause : (c : Clause) (ws : List ℕ) → Formed c
      → read_words (clause_words c ++ ws) ≡ record { literals = c ++ (read_words ws).literals; waiting = (read_words ws).waiting }
  read_clause [] ws g = refl
  read_clause (l ∷ c) ws g =
      ap read_words (append_assoc (literal_words l) (clause_words c) ws)
      ∙ read_atom l.negated l.atom (clause_words c ++ ws) g.0
      ∙ ap (with_first l) (read_clause c ws g.1)

  -- ── Words determine what they are the words of ──

  spelt_words : (c : Clause) → Formed c → (read_words (clause_words c)).literals ≡ c
  spelt_words c g =
      ap (λ ws. (read_words ws).literals) (sym (append-nil (clause_words c)))
      ∙ ap (λ (r : Reading). r.literals) (read_clause c [] g)
      ∙ append-nil c

  pub formed_injective : (c d : Clause) → Formed c → Formed d → clause_words c ≡ clause_words d → c ≡ d
  formed_injective c d g h e = sym (spelt_words c g) ∙ ap (λ ws. (read_words ws).literals) e ∙ spelt_words d h

  pub words_injective : (c d : Clause) → AllLawful c → AllLawful d → clause_words c ≡ clause_words d → c ≡ d
  words_injective c d g h e = formed_injective c d (formed c g) (formed d h) e

  pub term_words_injective : (t u : Term) → LawfulTerm rows t → LawfulTerm rows u → term_words t ≡ term_words u → t ≡ u
  term_words_injective t u g h e =
      ap (λ (r : Reading). head_term r.waiting)
      (sym (read_term t [] g) ∙ ap (λ ws. read_words (ws ++ [])) e ∙ read_term u [] h)

  -- words begin with one term at most
  pub prefix_unique : (t u : Term) (xs ys : List ℕ) → LawfulTerm rows t → LawfulTerm rows u → term_words t ++ xs ≡ term_words u ++ ys
      → (t ≡ u) × (xs ≡ ys)
  prefix_unique t u xs ys g h e =
      let same : t ≡ u =
      ap (λ (r : Reading). head_term r.waiting) (sym (read_term t xs g) ∙ ap read_words e ∙ read_term u ys h) in
      (same, append_cancel_left (term_words u) xs ys (subst (λ (x : Term). term_words x ++ xs ≡ term_words u ++ ys) same e))

  -- and with one row of so many terms
  pub terms_prefix_unique : (ts us : Terms) (xs ys : List ℕ) → LawfulTerms rows ts → LawfulTerms rows us → count ts ≡ count us
      → terms_words ts ++ xs ≡ terms_words us ++ ys → (ts ≡ us) × (xs ≡ ys)
  terms_prefix_unique ts us xs ys g h n e =
      let w : ts ++ₜ (read_words xs).waiting ≡ us ++ₜ (read_words ys).waiting =
      ap (λ (r : Reading). r.waiting) (sym (read_terms ts xs g) ∙ ap read_words e ∙ read_terms us ys h) in
      let same : ts ≡ us =
      sym (first_append ts (read_words xs).waiting) ∙ ap₂ first_terms n w ∙ first_append us (read_words ys).waiting in
      (same, append_cancel_left (terms_words us) xs ys (subst (λ (t : Terms). terms_words t ++ xs ≡ terms_words us ++ ys) same e))

  -- and with one literal
  pub literal_prefix_unique : (l m : Literal) (xs ys : List ℕ) → FormedAtom l.atom → FormedAtom m.atom
      → literal_words l ++ xs ≡ literal_words m ++ ys → (l ≡ m) × (xs ≡ ys)
  literal_prefix_unique l m xs ys g h e =
      let same : l ≡ m =
      ap (λ (r : Reading). get_or r.literals 0 l)
      (sym (read_atom l.negated l.atom xs g) ∙ ap read_words e ∙ read_atom m.negated m.atom ys h) in
      (same, append_cancel_left (literal_words m) xs ys (subst (λ (x : Literal). literal_words x ++ xs ≡ literal_words m ++ ys) same e))

  pub literal_words_injective : (l m : Literal) → LawfulAtom rows l.atom → LawfulAtom rows m.atom → literal_words l ≡ literal_words m → l ≡ m
  literal_words_injective l m g h e =
      (literal_prefix_unique l m [] [] (formed_atom l.atom g) (formed_atom m.atom h) (ap (λ ws. ws ++ []) e)).0
