-- Positions lead to the same terms on trees and on words.
use Rattle.std.proofs.Common.{◌≡◌, ℕ, zero, suc, ◌-◌, Bool, true, false, cond, ◌&&◌, leb, List, [], ◌∷◌, ◌++◌, Some, None, Option, sym, refl, ap, ◌∙◌, ap₂, append_assoc, append-nil, zero-add, arith}
use lib.Dec.{leb-suc-suc}
use Rattle.std.proofs.lemmas.Bool.{le-leb, lt-leb}
use Rattle.logic.specs.declared.row.SymbolRow.{SymbolRow}
use Rattle.logic.specs.Syntax.{Term, Terms, Atom, Literal, var, app, []ₜ, ◌∷ₜ◌, predicate, equal}
use Rattle.logic.specs.Words.{symbol_word, negation, term_words, terms_words, atom_words, literal_words}
use Rattle.logic.specs.Lawful.{count, LawfulTerm, LawfulTerms, LawfulAtom}
use Rattle.logic.specs.Walks.{arities, word_arity, past}
use Rattle.logic.proofs.Passed.{past_zero}
use Rattle.logic.proofs.Spanned.{arity_var, arity_symbol, arity_equality, past_term}
use Rattle.inference.specs.Positions.{term_at, argument_at, arguments, at_position}
use Rattle.rules.specs.Places.{numbers, then, reached}

-- ── The words around a position ──

-- the words before the term to which a position leads
abbrev mutual
  pub before_term : Term → List ℕ → List ℕ
  before_term (var i) p = []
  before_term (app s ts) [] = []
  before_term (app s ts) (k ∷ p) = symbol_word s ∷ before_argument ts k p

  pub before_argument : Terms → ℕ → List ℕ → List ℕ
  before_argument []ₜ k p = []
  before_argument (t ∷ₜ ts) zero p = []
  before_argument (t ∷ₜ ts) (suc zero) p = before_term t p
  before_argument (t ∷ₜ ts) (suc (suc k)) p = term_words t ++ before_argument ts (suc k) p

-- and those behind it
abbrev mutual
  pub behind_term : Term → List ℕ → List ℕ
  behind_term (var i) p = []
  behind_term (app s ts) [] = []
  behind_term (app s ts) (k ∷ p) = behind_argument ts k p

  pub behind_argument : Terms → ℕ → List ℕ → List ℕ
  behind_argument []ₜ k p = []
  behind_argument (t ∷ₜ ts) zero p = []
  behind_argument (t ∷ₜ ts) (suc zero) p = behind_term t p ++ terms_words ts
  behind_argument (t ∷ₜ ts) (suc (suc k)) p = behind_argument ts (suc k) p

-- the words from the found term on
abbrev pub onward : Option Term → List ℕ → Option (List ℕ)
onward None rest = None
onward (Some u) rest = Some (term_words u ++ rest)

-- ── Numbers of arguments ──

and_never : (a : Bool) → (a && false) ≡ false
and_never true = refl
and_never false = refl

numbers_none : (k : ℕ) → numbers k 0 ≡ false
numbers_none zero = refl
numbers_none (suc k) = ap (λ b. leb 1 (suc k) && b) (lt-leb (suc k) 0 (omega arith)) ∙ and_never (leb 1 (suc k))

numbers_first : (n : ℕ) → numbers 1 (suc n) ≡ true
numbers_first n = ap₂ ◌&&◌ (le-leb 1 1 (omega arith)) (le-leb 1 (suc n) (omega arith))

numbers_next : (k n : ℕ) → numbers (suc (suc k)) (suc n) ≡ numbers (suc k) n
numbers_next k n = ap₂ ◌&&◌ (le-leb 1 (suc (suc k)) (omega arith) ∙ sym (le-leb 1 (suc k) (omega arith))) (leb-suc-suc (suc k) n)

-- ── The term that is reached ──

module _ (rows : List SymbolRow) where
  abbrev ar : ℕ → ℕ
  ar = arities rows

  -- on along the position where b holds
  abbrev chosen : Bool → List ℕ → List ℕ → Option (List ℕ)
  chosen b ws p = then (cond b (Some ws) None) (λ vs. reached ar vs p)

  mutual
    pub term_reached : (t : Term) (p rest : List ℕ) → LawfulTerm rows t
        → reached ar (term_words t ++ rest) p ≡ onward (term_at t p) (behind_term t p ++ rest)
    term_reached (var i) [] rest g = refl
    term_reached (var i) (k ∷ p) rest g =
        ap (λ b. chosen b (past ar (k - 1) rest) p) (ap (numbers k) (arity_var rows i (omega arith)) ∙ numbers_none k)
    term_reached (app s ts) [] rest g = refl
    term_reached (app s ts) (k ∷ p) rest g =
        ap (λ n. chosen (numbers k n) (past ar (k - 1) (terms_words ts ++ rest)) p)
        (ap (word_arity ar) (sym (zero-add (symbol_word s))) ∙ arity_symbol rows false s (count ts) _ g.0)
        ∙ argument_reached ts k p rest g.1

    pub argument_reached : (ts : Terms) (k : ℕ) (p rest : List ℕ) → LawfulTerms rows ts
        → chosen (numbers k (count ts)) (past ar (k - 1) (terms_words ts ++ rest)) p ≡ onward (argument_at ts k p) (behind_argument ts k p ++ rest)
    argument_reached []ₜ k p rest g = ap (λ b. chosen b (past ar (k - 1) rest) p) (numbers_none k)
    argument_reached (t ∷ₜ ts) zero p rest g = refl
    argument_reached (t ∷ₜ ts) (suc zero) p rest g =
        ap (λ b. chosen b (past ar (1 - 1) ((term_words t ++ terms_words ts) ++ rest)) p) (numbers_first (count ts))
        ∙ ap (λ ws. reached ar ws p) (past_zero ar ((term_words t ++ terms_words ts) ++ rest) ∙ append_assoc (term_words t) (terms_words ts) rest)
        ∙ term_reached t p (terms_words ts ++ rest) g.0
        ∙ ap (onward (term_at t p)) (sym (append_assoc (behind_term t p) (terms_words ts) rest))
    argument_reached (t ∷ₜ ts) (suc (suc k)) p rest g =
        let z : suc (suc k) - 1 ≡ suc k = omega arith in
        let y : suc k - 1 ≡ k = omega arith in
        ap₂ (λ b ws. chosen b ws p) (numbers_next k (count ts))
        (ap₂ (past ar) z (append_assoc (term_words t) (terms_words ts) rest)
        ∙ past_term rows t k (terms_words ts ++ rest) g.0
        ∙ ap (λ n. past ar n (terms_words ts ++ rest)) (sym y))
        ∙ argument_reached ts (suc k) p rest g.1

  atom_reached : (sign : Bool) (a : Atom) (k : ℕ) (p rest : List ℕ) → LawfulAtom rows a
      → reached ar (atom_words (cond sign negation 0) a ++ rest) (k ∷ p) ≡ onward (argument_at (arguments a) k p) (behind_argument (arguments a) k p ++ rest)
  atom_reached sign (predicate q ts) k p rest g =
      ap (λ n. chosen (numbers k n) (past ar (k - 1) (terms_words ts ++ rest)) p) (arity_symbol rows sign q (count ts) _ g.0)
      ∙ argument_reached ts k p rest g.1
  atom_reached sign (equal s t) k p rest g =
      ap₂ (λ n r. chosen (numbers k n) (past ar (k - 1) (r ++ rest)) p) (arity_equality rows sign)
      (ap (λ r. term_words s ++ r) (sym (append-nil (term_words t))))
      ∙ argument_reached (s ∷ₜ t ∷ₜ []ₜ) k p rest (g.0, (g.1, tt))

  -- a position from a literal on
  pub literal_reached : (l : Literal) (k : ℕ) (p rest : List ℕ) → LawfulAtom rows l.atom
      → reached ar (literal_words l ++ rest) (k ∷ p) ≡ onward (at_position l (k ∷ p)) (behind_argument (arguments l.atom) k p ++ rest)
  literal_reached l k p rest g = atom_reached l.negated l.atom k p rest g
