-- The words before, of and behind a literal of a clause; and conclusions compared by their words.
use Rattle.std.proofs.Common.{◌≡◌, ℕ, ◌+◌, ◌-◌, ◌<◌, ◌≤◌, ◌⊎◌, List, ◌++◌, length, take, drop, Result, sym, ap, ◌∙◌, ap₂, ⊎_elim, append_assoc, le_refl, arith, length-append}
use Rattle.std.specs.List.{between}
use Rattle.std.proofs.lemmas.List.{take_at, drop_at}
use Rattle.std.proofs.lemmas.List.Edits.{split_between}
use Rattle.std.proofs.lemmas.Slice.{between_to_end}
use Rattle.std.proofs.ByRecursion.{All-append, All-take, All-drop, All-get_or}
use Rattle.logic.specs.declared.row.SymbolRow.{SymbolRow}
use Rattle.logic.specs.declared.words.Span.{Span}
use Rattle.logic.specs.Syntax.{Literal, Clause}
use Rattle.logic.specs.Words.{literal_words, clause_words}
use Rattle.logic.specs.Lawful.{LawfulAtom, Lawful}
use Rattle.logic.specs.Literals.{no_literal, literal, Lies}
use Rattle.logic.proofs.Spelt.{FormedAtom, Formed, formed, formed_injective}
use Rattle.logic.proofs.Spanned.{words_append}
use Rattle.inference.specs.Literals.{without}
use Rattle.inference.specs.Conclusions.{HasLiteral}
use Rattle.bench.specs.declared.fault.RuleFault.{RuleFault}
use Rattle.rules.specs.declared.literal.Parts.{Parts}
use Rattle.rules.specs.Numbered.{Around}
use Rattle.rules.specs.Pieces.{Allows}
use Rattle.rules.proofs.Concluded.{allows_like}

-- the words around a literal are those before, in and behind its span
pub around : (ws : List ℕ) (c : Clause) (a : ℕ) (s : Span) → ws ≡ clause_words c → Lies c a s
    → (p : Parts) → p.before.now ≡ take s.start ws → p.literal.now ≡ between s.start s.end ws → p.behind.now ≡ between s.end (length ws) ws → Around c a p
around ws c a s f l p before here behind =
    let xs : List ℕ = clause_words (take (a - 1) c) in
    let ys : List ℕ = literal_words (literal c a) in
    let zs : List ℕ = clause_words (drop a c) in
    let e : ws ≡ xs ++ (ys ++ zs) = f ∙ l.words in
    let n : length xs ≡ s.start = sym l.starts in
    let d : drop s.start ws ≡ ys ++ zs = ap (drop s.start) e ∙ drop_at xs (ys ++ zs) s.start n in
    let m : length ys ≡ s.end - s.start = omega (arith, l.ends) in
    let k : length (xs ++ ys) ≡ s.end = length-append xs ys ∙ (let q : length xs + length ys ≡ s.end = omega (arith, l.ends) in q) in
    record {
      has = (l.counted, l.there);
      before = before ∙ ap (take s.start) e ∙ take_at xs (ys ++ zs) s.start n;
      here = here ∙ ap (take (s.end - s.start)) d ∙ take_at ys zs (s.end - s.start) m;
      behind =
          behind ∙ between_to_end ws s.end (length ws) (le_refl (length ws)) ∙ ap (drop s.end) (e ∙ sym (append_assoc xs ys zs))
          ∙ drop_at (xs ++ ys) zs s.end k;
    }

-- the three parts are all words
pub parted_at : (ws : List ℕ) (from to : ℕ) → from ≤ to → ws ≡ take from ws ++ (between from to ws ++ between to (length ws) ws)
parted_at ws from to h =
    split_between ws from to h
    ∙ ap (λ r. take from ws ++ (between from to ws ++ r)) (sym (between_to_end ws to (length ws) (le_refl (length ws))))

-- a literal number without a literal
pub has_not : (c : Clause) (a : ℕ) → (a ≡ 0) ⊎ (length c < a) → HasLiteral c a → ⊥
has_not c a x h = ⊎_elim (λ (e : a ≡ 0). omega (arith, h.0)) (λ (k : length c < a). omega (arith, h.1)) x

module _ (rows : List SymbolRow) where
  -- a literal of a lawful clause is lawful
  pub literal_lawful : (c : Clause) (a : ℕ) → Lawful rows c → HasLiteral c a → LawfulAtom rows (literal c a).atom
  literal_lawful c a g h = All-get_or (λ (l : Literal). LawfulAtom rows l.atom) c (a - 1) no_literal (omega (arith, h.0, h.1)) g.0

  -- a written conclusion is the one described exactly when its words are: these, in whatever way they are put together
  pub allowed_by_words : (ws : List ℕ) (c d : Clause) → Lawful rows c → Formed rows d → ws ≡ clause_words c
      → (xs : List ℕ) → clause_words d ≡ xs → (r : Result (Unit {0}) RuleFault) → Allows r (ws ≡ xs) → Allows r (c ≡ d)
  allowed_by_words ws c d g f e xs h =
      allows_like (λ t. formed_injective rows c d (formed rows c g.0) f (sym e ∙ t ∙ sym h)) (λ q. e ∙ ap clause_words q ∙ h)

  -- what is left of a lawful clause without a literal
  pub without_formed : (c : Clause) (a : ℕ) → Lawful rows c → Formed rows (without c a)
  without_formed c a g =
      let P : Literal → Type 0 = λ l. FormedAtom rows l.atom in
      All-append P (take (a - 1) c) (drop a c) (All-take P (a - 1) c (formed rows c g.0)) (All-drop P a c (formed rows c g.0))

-- and its words
pub without_words : (c : Clause) (a : ℕ) (p : Parts) → Around c a p → clause_words (without c a) ≡ p.before.now ++ p.behind.now
without_words c a p r = words_append (take (a - 1) c) (drop a c) ∙ sym (ap₂ ◌++◌ r.before r.behind)
