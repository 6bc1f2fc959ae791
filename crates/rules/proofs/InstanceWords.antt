-- The words of an instance are those of the premise with each variable replaced by the words of its term.
use Rattle.std.proofs.Common.{◌≡◌, ℕ, suc, ◌+◌, ◌<◌, ◌≤◌, Bool, true, false, cond, eqb, ltb, List, [], ◌∷◌, ◌++◌, sym, refl, ap, ◌∙◌, ap₂, append-nil, arith}
use Rattle.std.specs.List.{AllByRecursion, flat_map}
use Rattle.std.proofs.lemmas.List.Concat.{flat_map-append}
use Rattle.std.proofs.lemmas.Bool.{lt-ltb, le-ltb, cond-true, cond-false}
use Rattle.logic.specs.Limits as language
use Rattle.logic.specs.declared.row.SymbolRow.{SymbolRow}
use Rattle.logic.specs.Syntax.{Term, Terms, Atom, Clause, var, app, []ₜ, ◌∷ₜ◌, predicate, equal}
use Rattle.inference.specs.Instantiate.{Binding}
use Rattle.logic.specs.Words.{term_words, terms_words, atom_words, literal_words, clause_words, negation}
use Rattle.logic.specs.Lawful.{count, LawfulTerm, LawfulTerms, LawfulAtom}
use Rattle.bench.specs.Bindings.{LawfulBinding}
use Rattle.logic.proofs.Spelt.{AllLawful, FormedAtom, Formed}
use Rattle.inference.specs.Instantiate.{Substitution, instance_term, instance_terms, instance_atom, instance_of, substitution}

-- what a word becomes: the words of its term for a variable, and else itself
abbrev pub word_image : Substitution → ℕ → List ℕ
word_image σ w = cond (ltb w language.variables) (term_words (σ w)) (w ∷ [])

module _ (σ : Substitution) where
  -- a variable becomes the words of its term
  pub variable_image : (i : ℕ) → i < language.variables → word_image σ i ≡ term_words (σ i)
  variable_image i h = cond-true (ltb i language.variables) (term_words (σ i)) (i ∷ []) (lt-ltb i language.variables h)

  -- any other word stays
  pub head_image : (w : ℕ) → language.variables ≤ w → word_image σ w ≡ w ∷ []
  head_image w h = cond-false (ltb w language.variables) (term_words (σ w)) (w ∷ []) (le-ltb w language.variables h)

  -- part after part
  images-append : (xs ys : List ℕ) → flat_map (word_image σ) (xs ++ ys) ≡ flat_map (word_image σ) xs ++ flat_map (word_image σ) ys
  images-append = flat_map-append (word_image σ)

  head_stays : (w : ℕ) (ws : List ℕ) → language.variables ≤ w → flat_map (word_image σ) (w ∷ ws) ≡ w ∷ flat_map (word_image σ) ws
  head_stays w ws h = ap (λ r. r ++ flat_map (word_image σ) ws) (head_image w h)

  module _ (rows : List SymbolRow) where
    -- ── The words of the instance ──

    mutual
      term_images : (t : Term) → LawfulTerm rows t → term_words (instance_term σ t) ≡ flat_map (word_image σ) (term_words t)
      term_images (var i) g = sym (variable_image i g) ∙ sym (append-nil (word_image σ i))
      term_images (app s ts) g = ap (λ r. (256 + s) ∷ r) (terms_images ts g.1) ∙ sym (head_stays (256 + s) (terms_words ts) (omega arith))

      terms_images : (ts : Terms) → LawfulTerms rows ts → terms_words (instance_terms σ ts) ≡ flat_map (word_image σ) (terms_words ts)
      terms_images []ₜ g = refl
      terms_images (t ∷ₜ ts) g = ap₂ ◌++◌ (term_images t g.0) (terms_images ts g.1) ∙ sym (flat_map-append (word_image σ) (term_words t) (terms_words ts))

    atom_images : (sign : ℕ) (a : Atom) → LawfulAtom rows a → atom_words sign (instance_atom σ a) ≡ flat_map (word_image σ) (atom_words sign a)
    atom_images sign (predicate p ts) g =
        ap (λ r. (sign + (256 + p)) ∷ r) (terms_images ts g.1) ∙ sym (head_stays (sign + (256 + p)) (terms_words ts) (omega arith))
    atom_images sign (equal s t) g =
        ap (λ r. (sign + 512) ∷ r)
        (ap₂ ◌++◌ (term_images s g.0) (term_images t g.1) ∙ sym (flat_map-append (word_image σ) (term_words s) (term_words t)))
        ∙ sym (head_stays (sign + 512) (term_words s ++ term_words t) (omega arith))

    pub clause_images : (c : Clause) → AllLawful rows c → clause_words (instance_of σ c) ≡ flat_map (word_image σ) (clause_words c)
    clause_images [] g = refl
    clause_images (l ∷ c) g =
        ap₂ ◌++◌ (atom_images (cond l.negated negation 0) l.atom g.0) (clause_images c g.1)
        ∙ sym (flat_map-append (word_image σ) (literal_words l) (clause_words c))

    -- ── The instance has kinds and arities as the premise has them ──

    module _ (lawful : (i : ℕ) → i < language.variables → LawfulTerm rows (σ i)) where
      count_instance : (ts : Terms) → count (instance_terms σ ts) ≡ count ts
      count_instance []ₜ = refl
      count_instance (t ∷ₜ ts) = ap suc (count_instance ts)

      mutual
        formed_term : (t : Term) → LawfulTerm rows t → LawfulTerm rows (instance_term σ t)
        formed_term (var i) g = lawful i g
        formed_term (app s ts) g = rw (count_instance ts) (g.0, formed_terms ts g.1)

        formed_terms : (ts : Terms) → LawfulTerms rows ts → LawfulTerms rows (instance_terms σ ts)
        formed_terms []ₜ g = tt
        formed_terms (t ∷ₜ ts) g = (formed_term t g.0, formed_terms ts g.1)

      formed_atom : (a : Atom) → LawfulAtom rows a → FormedAtom rows (instance_atom σ a)
      formed_atom (predicate p ts) g = rw (count_instance ts) (g.0, formed_terms ts g.1)
      formed_atom (equal s t) g = (formed_term s g.0, formed_term t g.1)

      pub formed_instance : (c : Clause) → AllLawful rows c → Formed rows (instance_of σ c)
      formed_instance [] g = tt
      formed_instance (l ∷ c) g = (formed_atom l.atom g.0, formed_instance c g.1)

-- ── The substitution of lawful bindings ──

module _ (rows : List SymbolRow) where
  either_lawful : (x : Bool) (t u : Term) → LawfulTerm rows t → LawfulTerm rows u → LawfulTerm rows (cond x t u)
  either_lawful true t u g h = g
  either_lawful false t u g h = h

  pub lawful_substitution : (bs : List Binding) → AllByRecursion (LawfulBinding rows) bs → (i : ℕ) → i < language.variables → LawfulTerm rows (substitution bs i)
  lawful_substitution [] g i h = h
  lawful_substitution (b ∷ bs) g i h =
      either_lawful (eqb b.variable i) b.term (substitution bs i) g.0.1 (lawful_substitution bs g.1 i h)
