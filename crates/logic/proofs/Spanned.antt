-- Where terms and literals lie in the words of a clause.
use Rattle.std.proofs.Common.{◌≡◌, ℕ, zero, suc, ◌+◌, ◌-◌, ◌<◌, ◌≤◌, Bool, true, false, cond, eqb, ltb, List, [], ◌∷◌, ◌++◌, length, get_or, take, drop, sym, refl, ap, ◌∙◌, subst, ap₂, append_assoc, append-nil, suc-add, zero-add, arith, length-append, take-append-drop, drop-cons}
use lib.Seq.{take-append_seam, drop-append_seam, drop-append-add}
use Rattle.std.proofs.lemmas.Bool.{lt-ltb, le-ltb, ne_eqb}
use Rattle.std.proofs.lemmas.List.{drop_all}
use Rattle.logic.specs.declared.row.SymbolRow.{SymbolRow}
use Rattle.logic.specs.declared.row.Kind.{Kind}
use Rattle.logic.specs.Symbols.{Symbol}
use Rattle.logic.specs.Syntax.{Term, Terms, Atom, Literal, Clause, var, app, []ₜ, ◌∷ₜ◌, predicate, equal}
use Rattle.logic.specs.Words.{term_words, terms_words, atom_words, literal_words, clause_words}
use Rattle.logic.specs.Lawful.{count, LawfulTerm, LawfulTerms, LawfulAtom}
use Rattle.logic.specs.Walks.{arities, bare, head_arity, word_arity, passed, past, begins}
use Rattle.logic.proofs.Passed.{passed_zero, passed_suc, passed_nil}
use Rattle.logic.proofs.Spelt.{AllLawful}

-- ── Literals of a clause ──

pub words_append : (c d : Clause) → clause_words (c ++ d) ≡ clause_words c ++ clause_words d
words_append [] d = refl
words_append (l ∷ c) d =
    ap (λ r. literal_words l ++ r) (words_append c d) ∙ sym (append_assoc (literal_words l) (clause_words c) (clause_words d))

pub apart : (c : Clause) (k : ℕ) → clause_words c ≡ clause_words (take k c) ++ clause_words (drop k c)
apart c k = ap clause_words (sym (take-append-drop k c)) ∙ words_append (take k c) (drop k c)

pub take-literals : (c : Clause) (k : ℕ) → clause_words (take k c) ≡ take (begins c k) (clause_words c)
take-literals c k = sym (ap (take (begins c k)) (apart c k) ∙ take-append_seam (clause_words (take k c)) (clause_words (drop k c)))

pub drop-literals : (c : Clause) (k : ℕ) → clause_words (drop k c) ≡ drop (begins c k) (clause_words c)
drop-literals c k = sym (ap (drop (begins c k)) (apart c k) ∙ drop-append_seam (clause_words (take k c)) (clause_words (drop k c)))

-- the words before, of and behind a literal
pub words_around : (c : Clause) (k : ℕ) (d : Literal) → k < length c
    → clause_words c ≡ clause_words (take k c) ++ (literal_words (get_or c k d) ++ clause_words (drop (suc k) c))
words_around c k d h = apart c k ∙ ap (λ r. clause_words (take k c) ++ clause_words r) (drop-cons c k d h)

some_atom_word : (n : ℕ) (a : Atom) → 0 < length (atom_words n a)
some_atom_word n (predicate p ts) = omega arith
some_atom_word n (equal s t) = omega arith

-- a literal has words
pub some_word : (l : Literal) → 0 < length (literal_words l)
some_word l = some_atom_word (cond l.negated 1024 0) l.atom

pub begins_sum : (c : Clause) (k : ℕ) → length (clause_words c) ≡ begins c k + length (clause_words (drop k c))
begins_sum c k = ap length (apart c k) ∙ length-append (clause_words (take k c)) (clause_words (drop k c))

pub begins_within : (c : Clause) (k : ℕ) (d : Literal) → k < length c → begins c k < length (clause_words c)
begins_within c k d h =
    let l : Literal = get_or c k d in
    let y : length (clause_words (drop k c)) ≡ length (literal_words l) + length (clause_words (drop (suc k) c)) =
    ap (λ r. length (clause_words r)) (drop-cons c k d h) ∙ length-append (literal_words l) (clause_words (drop (suc k) c)) in
    omega (arith, begins_sum c k, some_word l)

pub begins_end : (c : Clause) (k : ℕ) → length c ≤ k → begins c k ≡ length (clause_words c)
begins_end c k h =
    let y : length (clause_words (drop k c)) ≡ 0 = ap (λ r. length (clause_words r)) (drop_all k c h) in
    omega (arith, begins_sum c k)

pub begins_next : (c : Clause) (k : ℕ) (d : Literal) → k < length c → begins c (suc k) ≡ begins c k + length (literal_words (get_or c k d))
begins_next c k d h =
    let y : length (clause_words (drop k c)) ≡ length (literal_words (get_or c k d)) + length (clause_words (drop (suc k) c)) =
    ap (λ r. length (clause_words r)) (drop-cons c k d h) ∙ length-append (literal_words (get_or c k d)) (clause_words (drop (suc k) c)) in
    omega (arith, begins_sum c k, begins_sum c (suc k))

-- ── Passing over terms and literals ──

-- the length of what stands before, and what is left behind it
left : (arity : ℕ → ℕ) (n m : ℕ) (xs ws : List ℕ) → passed arity n (xs ++ ws) ≡ length xs + passed arity m ws → past arity n (xs ++ ws) ≡ past arity m ws
left arity n m xs ws e = ap (λ k. drop k (xs ++ ws)) e ∙ drop-append-add xs ws (passed arity m ws)

module _ (rows : List SymbolRow) where
  bare_low : (w : ℕ) → w < 1024 → bare w ≡ w
  bare_low w h = rw (lt-ltb w 1024 h)

  bare_negated : (h : ℕ) → bare (1024 + h) ≡ h
  bare_negated h =
      let w : 1024 + h - 1024 ≡ h = omega arith in
      rw (le-ltb (1024 + h) 1024 (omega arith), w)

  -- the sign of a head does not matter
  pub bare_signed : (sign : Bool) (h : ℕ) → h < 1024 → bare (cond sign 1024 0 + h) ≡ h
  bare_signed true h l = bare_negated h
  bare_signed false h l = ap bare (zero-add h) ∙ bare_low h l

  pub arity_var : (i : ℕ) → i < 256 → word_arity (arities rows) i ≡ 0
  arity_var i h = ap (head_arity (arities rows)) (bare_low i (omega arith)) ∙ rw (lt-ltb i 256 h)

  head_arity_symbol : (s : ℕ) → s < 256 → head_arity (arities rows) (256 + s) ≡ arities rows s
  head_arity_symbol s h =
      let w : 256 + s - 256 ≡ s = omega arith in
      let a : eqb (256 + s) 512 ≡ false = ne_eqb (256 + s) 512 (λ e. omega arith) in
      let b : ltb (256 + s) 256 ≡ false = le-ltb (256 + s) 256 (omega arith) in
      rw (b, a, w)

  -- the arity of a symbol's word, with or without the mark of negation
  pub arity_symbol : (sign : Bool) (s a : ℕ) (k : Kind) → Symbol rows s k a → word_arity (arities rows) (cond sign 1024 0 + (256 + s)) ≡ a
  arity_symbol sign s a k y =
      ap (head_arity (arities rows)) (bare_signed sign (256 + s) (omega (arith, y.0))) ∙ head_arity_symbol s y.0 ∙ y.3

  pub arity_equality : (sign : Bool) → word_arity (arities rows) (cond sign 1024 0 + 512) ≡ 2
  arity_equality true = refl
  arity_equality false = refl

  headed : (w a n : ℕ) (xs ws : List ℕ) → word_arity (arities rows) w ≡ a
      → passed (arities rows) (a + n) (xs ++ ws) ≡ length xs + passed (arities rows) n ws
      → passed (arities rows) (suc n) (w ∷ (xs ++ ws)) ≡ length (w ∷ xs) + passed (arities rows) n ws
  headed w a n xs ws e f =
      passed_suc (arities rows) n w (xs ++ ws) ∙ ap (λ k. suc (passed (arities rows) (k + n) (xs ++ ws))) e ∙ ap suc f
      ∙ sym (suc-add (length xs) (passed (arities rows) n ws))

  mutual
    pub passed_term : (t : Term) (n : ℕ) (ws : List ℕ) → LawfulTerm rows t
        → passed (arities rows) (suc n) (term_words t ++ ws) ≡ length (term_words t) + passed (arities rows) n ws
    passed_term (var i) n ws g =
        headed i 0 n [] ws (arity_var i (omega arith)) (ap (λ k. passed (arities rows) k ws) (zero-add n) ∙ sym (zero-add (passed (arities rows) n ws)))
    passed_term (app s ts) n ws g =
        headed (256 + s) (count ts) n (terms_words ts) ws (ap (word_arity (arities rows)) (sym (zero-add (256 + s))) ∙ arity_symbol false s (count ts) _ g.0)
        (passed_terms ts n ws g.1)

    pub passed_terms : (ts : Terms) (n : ℕ) (ws : List ℕ) → LawfulTerms rows ts
        → passed (arities rows) (count ts + n) (terms_words ts ++ ws) ≡ length (terms_words ts) + passed (arities rows) n ws
    passed_terms []ₜ n ws g = ap (λ k. passed (arities rows) k ws) (zero-add n) ∙ sym (zero-add (passed (arities rows) n ws))
    passed_terms (t ∷ₜ ts) n ws g =
        ap₂ (passed (arities rows)) (suc-add (count ts) n) (append_assoc (term_words t) (terms_words ts) ws)
        ∙ passed_term t (count ts + n) (terms_words ts ++ ws) g.0
        ∙ ap (λ k. length (term_words t) + k) (passed_terms ts n ws g.1)
        ∙ omega (arith, length-append (term_words t) (terms_words ts))

  passed_atom : (sign : Bool) (a : Atom) (n : ℕ) (ws : List ℕ) → LawfulAtom rows a
      → passed (arities rows) (suc n) (atom_words (cond sign 1024 0) a ++ ws) ≡ length (atom_words (cond sign 1024 0) a) + passed (arities rows) n ws
  passed_atom sign (predicate p ts) n ws g =
      headed (cond sign 1024 0 + (256 + p)) (count ts) n (terms_words ts) ws (arity_symbol sign p (count ts) _ g.0) (passed_terms ts n ws g.1)
  passed_atom sign (equal s t) n ws g =
      headed (cond sign 1024 0 + 512) 2 n (term_words s ++ term_words t) ws (arity_equality sign)
      (subst (λ (r : List ℕ). passed (arities rows) (2 + n) ((term_words s ++ r) ++ ws) ≡ length (term_words s ++ r) + passed (arities rows) n ws)
      (append-nil (term_words t)) (passed_terms (s ∷ₜ t ∷ₜ []ₜ) n ws (g.0, (g.1, tt))))

  pub passed_literal : (l : Literal) (n : ℕ) (ws : List ℕ) → LawfulAtom rows l.atom
      → passed (arities rows) (suc n) (literal_words l ++ ws) ≡ length (literal_words l) + passed (arities rows) n ws
  passed_literal l n ws g = passed_atom l.negated l.atom n ws g

  pub past_term : (t : Term) (n : ℕ) (ws : List ℕ) → LawfulTerm rows t → past (arities rows) (suc n) (term_words t ++ ws) ≡ past (arities rows) n ws
  past_term t n ws g = left (arities rows) (suc n) n (term_words t) ws (passed_term t n ws g)

  -- all literals of a clause, with other words behind
  pub passed_literals : (c : Clause) (ws : List ℕ) → AllLawful rows c
      → passed (arities rows) (length c) (clause_words c ++ ws) ≡ length (clause_words c)
  passed_literals [] ws g = passed_zero (arities rows) ws
  passed_literals (l ∷ c) ws g =
      ap (passed (arities rows) (suc (length c))) (append_assoc (literal_words l) (clause_words c) ws)
      ∙ passed_literal l (length c) (clause_words c ++ ws) g.0
      ∙ ap (λ k. length (literal_words l) + k) (passed_literals c ws g.1)
      ∙ sym (length-append (literal_words l) (clause_words c))

  -- k literals take the words up to where literal k begins
  pub passed_clause : (c : Clause) (k : ℕ) → AllLawful rows c → passed (arities rows) k (clause_words c) ≡ begins c k
  passed_clause [] zero g = passed_nil (arities rows) 0
  passed_clause [] (suc k) g = passed_nil (arities rows) (suc k)
  passed_clause (l ∷ c) zero g = passed_zero (arities rows) (clause_words (l ∷ c))
  passed_clause (l ∷ c) (suc k) g =
      passed_literal l k (clause_words c) g.0
      ∙ ap (λ n. length (literal_words l) + n) (passed_clause c k g.1)
      ∙ sym (length-append (literal_words l) (clause_words (take k c)))
