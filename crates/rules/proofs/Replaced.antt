-- The words of a clause in which a literal or a term is replaced.
use Rattle.std.proofs.Common.{◌≡◌, ℕ, zero, suc, ◌+◌, ◌<◌, cond, T, List, [], ◌∷◌, ◌++◌, length, take, drop, set, Some, None, Option, sym, refl, ap, ◌∙◌, subst, append_assoc, append-nil, le_of_suc-le-suc, not-suc-le-zero}
use Rattle.logic.specs.declared.row.SymbolRow.{SymbolRow}
use Rattle.logic.specs.declared.row.Kind.TheVariants.{Function, Predicate}
use Rattle.logic.specs.Symbols.{Symbol}
use Rattle.logic.specs.Syntax.{Term, Terms, Atom, Literal, Clause, var, app, []ₜ, ◌∷ₜ◌, predicate, equal}
use Rattle.logic.specs.Words.{symbol_word, equality_word, negation, term_words, terms_words, atom_words, literal_words, clause_words}
use Rattle.logic.specs.Lawful.{count, LawfulTerm, LawfulTerms, LawfulAtom}
use Rattle.logic.proofs.Spelt.{FormedAtom, formed_atom}
use Rattle.inference.specs.Positions.{term_at, argument_at, put_term, put_argument, arguments, with_arguments, at_position, put}
use Rattle.inference.specs.Paramod.{is_found}
use Rattle.rules.proofs.Opposing.{head_of}
use Rattle.rules.proofs.Reached.{before_term, before_argument, behind_term, behind_argument}

-- a clause with another literal in a place
pub set_words : (c : Clause) (k : ℕ) (l : Literal) → k < length c
    → clause_words (set c k l) ≡ clause_words (take k c) ++ (literal_words l ++ clause_words (drop (suc k) c))
set_words [] k l h = absurd (not-suc-le-zero h)
set_words (m ∷ c) zero l h = refl
set_words (m ∷ c) (suc k) l h =
    ap (λ r. literal_words m ++ r) (set_words c k l (le_of_suc-le-suc h))
    ∙ sym (append_assoc (literal_words m) (clause_words (take k c)) (literal_words l ++ clause_words (drop (suc k) c)))

-- the term that was found (where none was, anything)
abbrev pub the : Option Term → Term
the None = var 0
the (Some t) = t

-- ── The words around the term at a position ──

mutual
  split_term : (t : Term) (p : List ℕ) → T (is_found (term_at t p))
      → term_words t ≡ before_term t p ++ (term_words (the (term_at t p)) ++ behind_term t p)
  split_term (var i) [] h = refl
  split_term (var i) (k ∷ p) h = absurd h
  split_term (app s ts) [] h = sym (append-nil (term_words (app s ts)))
  split_term (app s ts) (k ∷ p) h = ap (λ r. symbol_word s ∷ r) (split_argument ts k p h)

  split_argument : (ts : Terms) (k : ℕ) (p : List ℕ) → T (is_found (argument_at ts k p))
      → terms_words ts ≡ before_argument ts k p ++ (term_words (the (argument_at ts k p)) ++ behind_argument ts k p)
  split_argument []ₜ k p h = absurd h
  split_argument (t ∷ₜ ts) zero p h = absurd h
  split_argument (t ∷ₜ ts) (suc zero) p h = ap (λ r. r ++ terms_words ts) (split_term t p h) ∙ simp append_assoc
  split_argument (t ∷ₜ ts) (suc (suc k)) p h = ap (λ r. term_words t ++ r) (split_argument ts (suc k) p h) ∙ simp append_assoc

-- the words of a literal before and behind the term at a position
abbrev pub before_in : Literal → ℕ → List ℕ → List ℕ
before_in l k p = (cond l.negated negation 0 + head_of l.atom) ∷ before_argument (arguments l.atom) k p

abbrev pub behind_in : Literal → ℕ → List ℕ → List ℕ
behind_in l k p = behind_argument (arguments l.atom) k p

split_atom : (n : ℕ) (a : Atom) (k : ℕ) (p : List ℕ) → T (is_found (argument_at (arguments a) k p))
    → atom_words n a
    ≡ (n + head_of a) ∷ (before_argument (arguments a) k p ++ (term_words (the (argument_at (arguments a) k p)) ++ behind_argument (arguments a) k p))
split_atom n (predicate q ts) k p h = ap (λ r. (n + symbol_word q) ∷ r) (split_argument ts k p h)
split_atom n (equal s t) k p h =
    ap (λ r. (n + equality_word) ∷ (term_words s ++ r)) (sym (append-nil (term_words t)))
    ∙ ap (λ r. (n + equality_word) ∷ r) (split_argument (s ∷ₜ t ∷ₜ []ₜ) k p h)

pub split_literal : (l : Literal) (k : ℕ) (p : List ℕ) → T (is_found (at_position l (k ∷ p)))
    → literal_words l ≡ before_in l k p ++ (term_words (the (at_position l (k ∷ p))) ++ behind_in l k p)
split_literal l k p h = split_atom (cond l.negated negation 0) l.atom k p h

-- ── Another term there ──

module _ (new : Term) where
  mutual
    put_term_words : (t : Term) (p : List ℕ) → T (is_found (term_at t p))
        → term_words (put_term t p new) ≡ before_term t p ++ (term_words new ++ behind_term t p)
    put_term_words (var i) [] h = sym (append-nil (term_words new))
    put_term_words (var i) (k ∷ p) h = absurd h
    put_term_words (app s ts) [] h = sym (append-nil (term_words new))
    put_term_words (app s ts) (k ∷ p) h = ap (λ r. symbol_word s ∷ r) (put_argument_words ts k p h)

    put_argument_words : (ts : Terms) (k : ℕ) (p : List ℕ) → T (is_found (argument_at ts k p))
        → terms_words (put_argument ts k p new) ≡ before_argument ts k p ++ (term_words new ++ behind_argument ts k p)
    put_argument_words []ₜ k p h = absurd h
    put_argument_words (t ∷ₜ ts) zero p h = absurd h
    put_argument_words (t ∷ₜ ts) (suc zero) p h = ap (λ r. r ++ terms_words ts) (put_term_words t p h) ∙ simp append_assoc
    put_argument_words (t ∷ₜ ts) (suc (suc k)) p h = ap (λ r. term_words t ++ r) (put_argument_words ts (suc k) p h) ∙ simp append_assoc

  put_atom_words : (n : ℕ) (a : Atom) (k : ℕ) (p : List ℕ) → T (is_found (argument_at (arguments a) k p))
      → atom_words n (with_arguments a (put_argument (arguments a) k p new))
      ≡ (n + head_of a) ∷ (before_argument (arguments a) k p ++ (term_words new ++ behind_argument (arguments a) k p))
  put_atom_words n (predicate q ts) k p h = ap (λ r. (n + symbol_word q) ∷ r) (put_argument_words ts k p h)
  put_atom_words n (equal s t) zero p h = absurd h
  put_atom_words n (equal s t) (suc zero) p h =
      ap (λ r. (n + equality_word) ∷ (term_words (put_term s p new) ++ r)) (sym (append-nil (term_words t)))
      ∙ ap (λ r. (n + equality_word) ∷ r) (put_argument_words (s ∷ₜ t ∷ₜ []ₜ) 1 p h)
  put_atom_words n (equal s t) (suc (suc zero)) p h =
      ap (λ r. (n + equality_word) ∷ (term_words s ++ r)) (sym (append-nil (term_words (put_term t p new))))
      ∙ ap (λ r. (n + equality_word) ∷ r) (put_argument_words (s ∷ₜ t ∷ₜ []ₜ) 2 p h)
  put_atom_words n (equal s t) (suc (suc (suc k))) p h = absurd h

  pub put_words : (l : Literal) (k : ℕ) (p : List ℕ) → T (is_found (at_position l (k ∷ p)))
      → literal_words (put l (k ∷ p) new) ≡ before_in l k p ++ (term_words new ++ behind_in l k p)
  put_words l k p h = put_atom_words (cond l.negated negation 0) l.atom k p h

  count_put : (ts : Terms) (k : ℕ) (p : List ℕ) → count (put_argument ts k p new) ≡ count ts
  count_put []ₜ k p = refl
  count_put (t ∷ₜ ts) zero p = refl
  count_put (t ∷ₜ ts) (suc zero) p = refl
  count_put (t ∷ₜ ts) (suc (suc k)) p = ap suc (count_put ts (suc k) p)

-- ── Lawful terms ──

module _ (rows : List SymbolRow) where
  mutual
    lawful_at : (t : Term) (p : List ℕ) → LawfulTerm rows t → T (is_found (term_at t p)) → LawfulTerm rows (the (term_at t p))
    lawful_at (var i) [] g h = g
    lawful_at (var i) (k ∷ p) g h = absurd h
    lawful_at (app s ts) [] g h = g
    lawful_at (app s ts) (k ∷ p) g h = lawful_argument ts k p g.1 h

    lawful_argument : (ts : Terms) (k : ℕ) (p : List ℕ) → LawfulTerms rows ts → T (is_found (argument_at ts k p)) → LawfulTerm rows (the (argument_at ts k p))
    lawful_argument []ₜ k p g h = absurd h
    lawful_argument (t ∷ₜ ts) zero p g h = absurd h
    lawful_argument (t ∷ₜ ts) (suc zero) p g h = lawful_at t p g.0 h
    lawful_argument (t ∷ₜ ts) (suc (suc k)) p g h = lawful_argument ts (suc k) p g.1 h

  lawful_arguments : (a : Atom) → LawfulAtom rows a → LawfulTerms rows (arguments a)
  lawful_arguments (predicate q ts) g = g.1
  lawful_arguments (equal s t) g = (g.0, (g.1, tt))

  -- the term at a position of a lawful literal is lawful
  pub lawful_found : (l : Literal) (k : ℕ) (p : List ℕ) → LawfulAtom rows l.atom → T (is_found (at_position l (k ∷ p)))
      → LawfulTerm rows (the (at_position l (k ∷ p)))
  lawful_found l k p g h = lawful_argument (arguments l.atom) k p (lawful_arguments l.atom g) h

  module _ (new : Term) (n : LawfulTerm rows new) where
    mutual
      lawful_put : (t : Term) (p : List ℕ) → LawfulTerm rows t → LawfulTerm rows (put_term t p new)
      lawful_put (var i) [] g = n
      lawful_put (var i) (k ∷ p) g = g
      lawful_put (app s ts) [] g = n
      lawful_put (app s ts) (k ∷ p) g = (subst (Symbol rows s Function) (sym (count_put new ts k p)) g.0, lawful_put_argument ts k p g.1)

      lawful_put_argument : (ts : Terms) (k : ℕ) (p : List ℕ) → LawfulTerms rows ts → LawfulTerms rows (put_argument ts k p new)
      lawful_put_argument []ₜ k p g = tt
      lawful_put_argument (t ∷ₜ ts) zero p g = g
      lawful_put_argument (t ∷ₜ ts) (suc zero) p g = (lawful_put t p g.0, g.1)
      lawful_put_argument (t ∷ₜ ts) (suc (suc k)) p g = (g.0, lawful_put_argument ts (suc k) p g.1)

    formed_put_atom : (a : Atom) (k : ℕ) (p : List ℕ) → LawfulAtom rows a → FormedAtom rows (with_arguments a (put_argument (arguments a) k p new))
    formed_put_atom (predicate q ts) k p g = (subst (Symbol rows q Predicate) (sym (count_put new ts k p)) g.0, lawful_put_argument ts k p g.1)
    formed_put_atom (equal s t) zero p g = (g.0, g.1)
    formed_put_atom (equal s t) (suc zero) p g = (lawful_put s p g.0, g.1)
    formed_put_atom (equal s t) (suc (suc zero)) p g = (g.0, lawful_put t p g.1)
    formed_put_atom (equal s t) (suc (suc (suc k))) p g = (g.0, g.1)

    -- a lawful literal with a lawful term at a position; its depth may be any
    pub formed_put : (l : Literal) (p : List ℕ) → LawfulAtom rows l.atom → FormedAtom rows (put l p new).atom
    formed_put l [] g = formed_atom rows l.atom g
    formed_put l (k ∷ p) g = formed_put_atom l.atom k p g
