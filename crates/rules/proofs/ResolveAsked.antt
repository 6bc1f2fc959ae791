-- What `resolve` answers, from the tests on words.
use Rattle.std.proofs.Common.{◌≡◌, ℕ, Bool, true, false, List, [], ◌++◌, Ok, Err, Result, Decides, sym, refl, ◌∙◌, ap₂, append_assoc, append-nil}
use Rattle.std.proofs.lemmas.Bool.Decides.{not_from_Decides}
use Rattle.std.proofs.ByRecursion.{All-append}
use Rattle.logic.specs.declared.row.SymbolRow.{SymbolRow}
use Rattle.logic.specs.Syntax.{Literal, Clause}
use Rattle.logic.specs.Words.{literal_words, clause_words}
use Rattle.logic.specs.Lawful.{LawfulAtom}
use Rattle.logic.specs.Literals.{literal}
use Rattle.logic.proofs.Spelt.{FormedAtom}
use Rattle.logic.proofs.Spanned.{words_append}
use Rattle.bench.specs.declared.question.Question.{Question}
use Rattle.bench.specs.declared.fault.RuleFault.{RuleFault}
use Rattle.bench.specs.Faults.{answered}
use Rattle.inference.specs.Answers.{fault}
use Rattle.bench.specs.Meanings.{Asked, premise, literal_number}
use Rattle.bench.specs.Questions.{Shows}
use Rattle.bench.proofs.Shown.{premise_lawful}
use Rattle.inference.specs.Literals.{without}
use Rattle.inference.specs.Conclusions.{Opposed, resolvent}
use Rattle.rules.specs.declared.literal.Parts.{Parts}
use Rattle.rules.specs.Numbered.{Around}
use Rattle.rules.specs.Pieces.{Allows}
use Rattle.rules.specs.Six.{resolve_rule}
use Rattle.inference.proofs.Order.{resolve_answers}
use Rattle.rules.proofs.Concluded.{answered_last}
use Rattle.rules.proofs.Located.{without_formed, allowed_by_words, without_words}
use Rattle.rules.proofs.Numbered as numbered
use Rattle.rules.proofs.Numbered.{Finds}

module _ (q : Question) (s : Asked) (h : Shows s q) where
  abbrev i : Clause
  i = premise s 0

  abbrev j : Clause
  j = premise s 1

  abbrev a : ℕ
  a = literal_number s 0

  abbrev b : ℕ
  b = literal_number s 1

  pub none_second : (x : Parts) → Finds q 0 q.first.now (Ok x) → (g : RuleFault) → Finds q 1 q.second.now (Err g) → answered (Err g) ≡ resolve_rule.answers s
  none_second x f g k =
      numbered.not_found q s h 1 q.second.now h.second g k (resolve_rule.answers s)
      ((resolve_answers i j a b s.conclusion).then (numbered.stands q s h 0 q.first.now h.first x f).has)

  module _ (x y : Parts) (f : Finds q 0 q.first.now (Ok x)) (g : Finds q 1 q.second.now (Ok y)) where
    ai : Around i a x
    ai = numbered.stands q s h 0 q.first.now h.first x f

    aj : Around j b y
    aj = numbered.stands q s h 1 q.second.now h.second y g

    -- the test on the words of the two literals
    abbrev pub OpposedTest : Bool → Type 0
    OpposedTest r =
        (rows : List SymbolRow) (l m : Literal) → LawfulAtom rows l.atom → LawfulAtom rows m.atom → x.literal.now ≡ literal_words l
        → y.literal.now ≡ literal_words m → Decides r (Opposed l m)

    opposed_literals : (r : Bool) → OpposedTest r → Decides r (Opposed (literal i a) (literal j b))
    opposed_literals r t =
        t q.rows.now (literal i a) (literal j b) (numbered.lawful q s h 0 q.first.now h.first x f) (numbered.lawful q s h 1 q.second.now h.second y g)
        ai.here aj.here

    -- the two literals are not opposed
    pub opposed_not : OpposedTest false → fault 22 ≡ resolve_rule.answers s
    opposed_not t =
        sym ((((resolve_answers i j a b s.conclusion).then ai.has).then aj.has).otherwise (not_from_Decides false (opposed_literals false t) refl))

    -- the pieces of the resolvent
    abbrev pub pieces : List ℕ
    pieces = x.before.now ++ (x.behind.now ++ (y.before.now ++ (y.behind.now ++ [])))

    words_are : clause_words (resolvent i j a b) ≡ pieces
    words_are =
        words_append (without i a) (without j b) ∙ ap₂ ◌++◌ (without_words i a x ai) (without_words j b y aj)
        ∙ simp (append_assoc, append-nil)

    -- they are, and the conclusion is compared
    pub concluded : OpposedTest true → (r : Result (Unit {0}) RuleFault) → Allows r (q.conclusion.now ≡ pieces) → answered r ≡ resolve_rule.answers s
    concluded t r k =
        answered_last (resolve_rule.answers s) ((((resolve_answers i j a b s.conclusion).then ai.has).then aj.has).then ((opposed_literals true t).0 refl)) r
        (allowed_by_words q.rows.now q.conclusion.now s.conclusion (resolvent i j a b) h.lawful
        (All-append (λ (l : Literal). FormedAtom q.rows.now l.atom) (without i a) (without j b)
        (without_formed q.rows.now i a (premise_lawful s q h 0)) (without_formed q.rows.now j b (premise_lawful s q h 1)))
        h.conclusion _ words_are r k)
