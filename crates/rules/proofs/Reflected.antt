-- What the rule reflexive finds on words.
use Rattle.std.proofs.Common.{◌≡◌, ℕ, ◌<◌, Bool, cond, List, [], ◌∷◌, ◌++◌, length, drop, Decides, sym, refl, ap, ◌∙◌, ap₂, append-nil, le_refl, arith, length-append}
use Rattle.std.specs.List.{between}
use Rattle.std.proofs.lemmas.Slice.{between_to_end}
use Rattle.logic.specs.declared.row.SymbolRow.{SymbolRow}
use Rattle.logic.specs.Syntax.{Term, Atom, Literal, Clause, predicate, equal}
use Rattle.logic.specs.Words.{equality_word, negation, term_words, atom_words, literal_words, clause_words}
use Rattle.logic.specs.Lawful.{LawfulTerm, Lawful}
use Rattle.logic.proofs.Spelt.{prefix_unique}
use Rattle.inference.specs.Equations.{left, right}
use Rattle.inference.specs.Conclusions.{equality_of, IsEquality, Reflects}
use Rattle.rules.specs.Sides.{Headed, Parted}
use Rattle.rules.proofs.Parted.{as_equation, sides_lawful, equality_headed, sides_behind}

-- an atom has a word at least
some_word : (n : ℕ) (a : Atom) → 0 < length (atom_words n a)
some_word n (predicate p ts) = omega arith
some_word n (equal s t) = omega arith

-- a clause without words has no literals
no_words : (c : Clause) → [] ≡ clause_words c → c ≡ []
no_words [] e = refl
no_words (l ∷ c) e = absurd (omega (arith, ap length e, length-append (literal_words l) (clause_words c), some_word (cond l.negated negation 0) l.atom))

-- a literal in front of a clause, where this is one equality of a term with itself
alone : (l : Literal) (d : Clause) (e : IsEquality l) (h : Reflects (l ∷ d)) → (e.s ≡ e.t) × (d ≡ [])
alone l d e h =
    let k : l ≡ equality_of h.t h.t = cc h.conclusion in
    let n : d ≡ [] = cc h.conclusion in
    (ap left (sym e.is ∙ k) ∙ sym (ap right (sym e.is ∙ k)), n)

module _ (rows : List SymbolRow) (ws : List ℕ) where
  -- where the words begin with an equality, its left side is compared with all that is left
  pub compared : (place : ℕ) (r : Bool) → Headed equality_word ws
      → ((s : Term) (rest : List ℕ) → LawfulTerm rows s → drop 1 ws ≡ term_words s ++ rest → Parted ws place (term_words s) rest)
      → Decides r (between 1 place ws ≡ between place (length ws) ws)
      → (c : Clause) → Lawful rows c → ws ≡ clause_words c → Decides r (Reflects c)
  compared place r h sides d [] g e = let z : ◌≡◌ {A = ℕ} 0 1 = omega (arith, ap length (sym e ∙ h.1)) in absurd (omega arith)
  compared place r h sides d (l ∷ c) g e =
      let q : IsEquality l = equality_headed rows ws (clause_words c) l g.0.0 e h in
      let k = sides_lawful rows l (as_equation l q) g.0.0 in
      let b : between place (length ws) ws ≡ drop place ws = between_to_end ws place (length ws) (le_refl (length ws)) in
      let p : Parted ws place (term_words q.s) (term_words q.t ++ clause_words c) =
      sides q.s (term_words q.t ++ clause_words c) k.0 (sides_behind rows ws (clause_words c) l g.0.0 e (as_equation l q)) in (
        λ t.
            let same = prefix_unique rows q.s q.t [] (clause_words c) k.0 k.1 (append-nil (term_words q.s) ∙ sym p.left ∙ d.0 t ∙ b ∙ p.right) in
            record { t = q.s; conclusion = ap₂ ◌∷◌ (q.is ∙ ap (equality_of q.s) (sym same.0)) (no_words c same.1) },
        λ f.
            let a = alone l c q f in
            d.1 (p.left ∙ ap term_words a.0 ∙ sym (append-nil (term_words q.t)) ∙ ap (λ (x : Clause). term_words q.t ++ clause_words x) (sym a.1) ∙ sym p.right ∙ sym b),
      )
