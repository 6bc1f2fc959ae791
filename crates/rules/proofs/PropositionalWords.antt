-- What propositional answers, from the literals of words.
use Rattle.std.proofs.Common.{◌≡◌, ℕ, Bool, true, false, cond, ◌&&◌, ◌||◌, T, List, [], ◌∷◌, map, Result, IsTrue, sym, refl, ap, ◌∙◌, subst, ap₂}
use Rattle.std.specs.List.{list_any, list_all}
use Rattle.std.specs.Str.{bytes_eq}
use Rattle.std.proofs.lemmas.Slice.Eq.{bytes_eq-Decides}
use Rattle.std.proofs.lemmas.Bool.Decides.{Decides-like, same_from_decides}
use Rattle.logic.specs.declared.row.SymbolRow.{SymbolRow}
use Rattle.logic.specs.Syntax.{Literal, Clause}
use Rattle.logic.specs.Words.{literal_words, clause_words}
use Rattle.logic.specs.Walks.{arities, literals_from}
use Rattle.logic.specs.Lawful.{LawfulAtom, Lawful}
use Rattle.logic.proofs.LiteralLists.{literals_clause}
use Rattle.logic.proofs.Spelt.{AllLawful, literal_words_injective}
use Rattle.bench.specs.declared.question.Question.{Question}
use Rattle.bench.specs.declared.fault.RuleFault.{RuleFault}
use Rattle.bench.specs.Faults.{answered}
use Rattle.bench.specs.Meanings.{Asked, premise}
use Rattle.bench.specs.Questions.{Shows}
use Rattle.bench.proofs.Shown.{premise_lawful}
use Rattle.inference.specs.Answers.{allowed, fault}
use Rattle.inference.specs.Same.{same_literal, stands_in, within}
use Rattle.inference.specs.Propositional.{propositional}
use Rattle.inference.proofs.Same.{literal_is, literal_same}
use Rattle.rules.specs.Among.{stands_among, StandsAmong, SameAmong}
use Rattle.rules.specs.Pieces.{Allows}
use Rattle.rules.proofs.Concluded.{answered_test}

-- a test that succeeds is true
is_true : (b : Bool) → T b → b ≡ true
is_true true h = refl
is_true false h = absurd h

module _ (rows : List SymbolRow) where
  same_words : (l m : Literal) → LawfulAtom rows l.atom → LawfulAtom rows m.atom → bytes_eq (literal_words l) (literal_words m) ≡ same_literal l m
  same_words l m g h =
      same_from_decides (bytes_eq (literal_words l) (literal_words m)) (same_literal l m)
      (Decides-like (bytes_eq (literal_words l) (literal_words m)) (literal_words_injective rows l m g h) (λ e. ap literal_words e)
      (bytes_eq-Decides (literal_words l) (literal_words m)))
      (λ e. literal_is l m (subst T (sym e) tt), λ e. is_true (same_literal l m) (literal_same l m e))

  among_literals : (l : Literal) (d : Clause) → LawfulAtom rows l.atom → AllLawful rows d → list_any (bytes_eq (literal_words l)) (map literal_words d) ≡ stands_in l d
  among_literals l [] g h = refl
  among_literals l (m ∷ d) g h = ap₂ ◌||◌ (same_words l m g h.0) (among_literals l d g h.1)

  -- a literal stands among those of a clause as its words do among theirs
  pub among : (xs ws : List ℕ) → StandsAmong rows xs ws (stands_among rows xs ws)
  among xs ws l d g h e f =
      ap₂ (λ vs ys. list_any (bytes_eq vs) ys) e (ap (literals_from (arities rows) 0) f ∙ literals_clause rows d h.0) ∙ among_literals l d g h.0

  -- so do all literals of a clause
  pub all_among : (ws : List ℕ) (c d : Clause) → AllLawful rows c → Lawful rows d → ws ≡ clause_words d
      → list_all (λ xs. stands_among rows xs ws) (map literal_words c) ≡ within c d
  all_among ws [] d g h f = refl
  all_among ws (l ∷ c) d g h f = ap₂ ◌&&◌ (among (literal_words l) ws l d g.0 h refl f) (all_among ws c d g.1 h f)

-- ── The answer ──

-- b says whether the premise and the conclusion have the same literals
pub compared : (q : Question) (s : Asked) → Shows s q → (b : Bool) → SameAmong q.rows.now q.first.now q.conclusion.now b
    → (r : Result (Unit {0}) RuleFault) → Allows r (IsTrue b) → answered r ≡ propositional (premise s 0) s.conclusion
compared q s h b o r k =
    answered_test b r k
    ∙ ap (λ x. cond x allowed (fault 27)) (o (premise s 0) s.conclusion (premise_lawful s q h 0) h.lawful h.first h.conclusion)
