-- The literals of words as a list: one by one, how many, all together, and those of a clause.
use Rattle.std.proofs.Common.{◌≡◌, ℕ, true, false, eqb, zero, suc, ◌+◌, ◌<◌, ◌≤◌, List, [], ◌∷◌, ◌++◌, length, map, take, drop, sym, refl, ap, ◌∙◌, ap₂, not-suc-le-zero, arith, length-append, take-append-drop}
use Rattle.std.proofs.lemmas.Bool.{eqb-true, eqb-false}
use Rattle.std.specs.List.{All, concat}
use Rattle.std.proofs.lemmas.List.Elements.{All-cons}
use Rattle.std.proofs.lemmas.List.{take_at, drop_at}
use Rattle.logic.specs.declared.row.SymbolRow.{SymbolRow}
use Rattle.logic.specs.Syntax.{Clause}
use Rattle.logic.specs.Words.{literal_words, clause_words}
use Rattle.logic.specs.Walks.{arities, word_arity, passed, past, heads, literals_from}
use Rattle.logic.proofs.Passed.{passed_zero}
use Rattle.logic.proofs.Spelt.{AllLawful}
use Rattle.logic.proofs.Spanned.{some_word, passed_literal}

module _ (arity : ℕ → ℕ) where
  literals_past : (n : ℕ) (ws : List ℕ) → literals_from arity n ws ≡ literals_from arity 0 (past arity n ws)
  unfolding passed literals_from
  literals_past n [] = refl
  literals_past zero (w ∷ ws) = refl
  literals_past (suc n) (w ∷ ws) = literals_past (word_arity arity w + n) ws

  pub literals_none : (ws : List ℕ) → eqb (length ws) 0 ≡ true → literals_from arity 0 ws ≡ []
  unfolding literals_from
  literals_none [] h = refl
  literals_none (w ∷ ws) h = absurd (omega (arith, eqb-true (length (w ∷ ws)) 0 h))

  -- the first literal, and those behind it
  pub literals_next : (ws : List ℕ) → 0 < length ws
      → literals_from arity 0 ws ≡ take (passed arity 1 ws) ws ∷ literals_from arity 0 (drop (passed arity 1 ws) ws)
  unfolding passed literals_from
  literals_next [] h = absurd (not-suc-le-zero h)
  literals_next (w ∷ ws) h =
      let z : word_arity arity w ≡ word_arity arity w + 0 = omega arith in
      ap (λ r. (w ∷ take (passed arity (word_arity arity w) ws) ws) ∷ r) (literals_past (word_arity arity w) ws)
      ∙ ap (λ k. (w ∷ take (passed arity k ws) ws) ∷ literals_from arity 0 (past arity k ws)) z

  -- the words cut behind the first literal
  pub literals_cut : (ws first others : List ℕ) (end : ℕ) → eqb (length ws) 0 ≡ false → end ≡ passed arity 1 ws → first ≡ take end ws → others ≡ drop end ws
      → literals_from arity 0 ws ≡ first ∷ literals_from arity 0 others
  literals_cut ws first others end h e f g =
      literals_next ws (omega (arith, eqb-false (length ws) 0 h))
      ∙ ap₂ (λ xs ys. xs ∷ literals_from arity 0 ys) (ap (λ k. take k ws) (sym e) ∙ sym f) (ap (λ k. drop k ws) (sym e) ∙ sym g)

  pub literals_counted : (n : ℕ) (ws : List ℕ) → length (literals_from arity n ws) ≡ heads arity n ws
  unfolding heads literals_from
  literals_counted n [] = refl
  literals_counted zero (w ∷ ws) = ap suc (literals_counted (word_arity arity w) ws)
  literals_counted (suc n) (w ∷ ws) = literals_counted (word_arity arity w + n) ws

  pub heads_within : (n : ℕ) (ws : List ℕ) → heads arity n ws ≤ length ws
  unfolding heads
  heads_within n [] = omega arith
  heads_within zero (w ∷ ws) = omega (arith, heads_within (word_arity arity w) ws)
  heads_within (suc n) (w ∷ ws) = omega (arith, heads_within (word_arity arity w + n) ws)

  pub literals_filled : (n : ℕ) (ws : List ℕ) → All (λ l. 0 < length l) (literals_from arity n ws)
  unfolding literals_from
  literals_filled n [] = λ k d h. absurd (not-suc-le-zero h)
  literals_filled zero (w ∷ ws) =
      All-cons (λ l. 0 < length l) (w ∷ take (passed arity (word_arity arity w) ws) ws) (literals_from arity (word_arity arity w) ws) (omega arith)
      (literals_filled (word_arity arity w) ws)
  literals_filled (suc n) (w ∷ ws) = literals_filled (word_arity arity w + n) ws

  pub literals_whole : (n : ℕ) (ws : List ℕ) → concat (literals_from arity n ws) ≡ past arity n ws
  unfolding passed literals_from
  literals_whole n [] = refl
  literals_whole zero (w ∷ ws) =
      ap (λ r. (w ∷ take (passed arity (word_arity arity w) ws) ws) ++ r) (literals_whole (word_arity arity w) ws)
      ∙ ap (λ r. w ∷ r) (take-append-drop (passed arity (word_arity arity w) ws) ws)
  literals_whole (suc n) (w ∷ ws) = literals_whole (word_arity arity w + n) ws

-- the literals of a clause's words are the clause's literals
pub literals_clause : (rows : List SymbolRow) (c : Clause) → AllLawful rows c → literals_from (arities rows) 0 (clause_words c) ≡ map literal_words c
literals_clause rows [] g = literals_none (arities rows) [] refl
literals_clause rows (l ∷ c) g =
    let n : passed (arities rows) 1 (literal_words l ++ clause_words c) ≡ length (literal_words l) =
    omega (arith, passed_literal rows l 0 (clause_words c) g.0, passed_zero (arities rows) (clause_words c)) in
    literals_next (arities rows) (literal_words l ++ clause_words c) (omega (arith, length-append (literal_words l) (clause_words c), some_word l))
    ∙ ap₂ (λ first others. first ∷ literals_from (arities rows) 0 others) (take_at (literal_words l) (clause_words c) _ (sym n)) (drop_at (literal_words l) (clause_words c) _ (sym n))
    ∙ ap (λ r. literal_words l ∷ r) (literals_clause rows c g.1)
