-- What the rule flip finds on words.
use Rattle.std.proofs.Common.{◌≡◌, ℕ, suc, ◌+◌, ◌-◌, true, false, ◌⊎◌, List, [], ◌++◌, length, take, drop, Ok, Result, Decides, sym, refl, ap, ◌∙◌, ap₂, append_assoc, append-nil, le_refl, arith}
use Rattle.std.specs.List.{between}
use Rattle.std.proofs.lemmas.Slice.{between_to_end}
use Rattle.std.proofs.ByRecursion.{All-set}
use Rattle.std.proofs.lemmas.Bool.Decides.{not_from_Decides}
use Rattle.logic.specs.declared.row.SymbolRow.{SymbolRow}
use Rattle.logic.specs.Syntax.{Term, Literal, Clause, equal}
use Rattle.logic.specs.Words.{equality_word, negation, term_words, literal_words, clause_words}
use Rattle.logic.specs.Lawful.{LawfulTerm, LawfulAtom}
use Rattle.logic.specs.Literals.{literal}
use Rattle.logic.proofs.Spelt.{Formed, FormedAtom, formed}
use Rattle.bench.specs.declared.question.Question.{Question}
use Rattle.bench.specs.declared.fault.RuleFault.{RuleFault}
use Rattle.bench.specs.Faults.{answered}
use Rattle.inference.specs.Answers.{fault}
use Rattle.bench.specs.Meanings.{Asked, premise, literal_number}
use Rattle.bench.specs.Questions.{Shows}
use Rattle.bench.proofs.Shown.{premise_lawful}
use Rattle.inference.specs.Conclusions.{IsEquation, exchange}
use Rattle.inference.specs.Flip.{flip}
use Rattle.rules.specs.Sides.{Headed, Parted}
use Rattle.rules.specs.declared.literal.Parts.{Parts}
use Rattle.rules.specs.Numbered.{Around}
use Rattle.rules.specs.Pieces.{Allows}
use Rattle.rules.proofs.Concluded.{answered_last}
use Rattle.rules.proofs.Located.{allowed_by_words}
use Rattle.rules.proofs.Numbered as numbered
use Rattle.rules.proofs.Numbered.{Finds}
use Rattle.inference.proofs.Order.{flip_answers}
use Rattle.rules.proofs.Parted.{sides_lawful, equation_words, equation_decides, sides_behind}
use Rattle.rules.proofs.Replaced.{set_words}

-- the pieces of a literal, one after another
regroup : (r s t v o : List ℕ) → r ++ ((s ++ (t ++ v)) ++ o) ≡ r ++ (s ++ (t ++ (v ++ (o ++ []))))
regroup r s t v o = simp (append_assoc, append-nil)

-- what is asked, and the words that show it
module _ (q : Question) (s : Asked) (shown : Shows s q) where
  abbrev rows : List SymbolRow
  rows = q.rows.now

  abbrev wi : List ℕ
  wi = q.first.now

  abbrev wc : List ℕ
  wc = q.conclusion.now

  abbrev i : Clause
  i = premise s 0

  abbrev a : ℕ
  a = literal_number s 0

  abbrev c : Clause
  c = s.conclusion

  module _ (sp : Parts) (f : Finds q 0 wi (Ok sp)) where
    -- the words of the literal, and where they stand
    abbrev lit : List ℕ
    lit = sp.literal.now

    abbrev la : Literal
    la = literal i a

    abbrev Equation : Type 0
    Equation = Headed equality_word lit ⊎ Headed (negation + equality_word) lit

    stands : Around i a sp
    stands = numbered.stands q s shown 0 wi shown.first sp f

    lawful : LawfulAtom rows la.atom
    lawful = numbered.lawful q s shown 0 wi shown.first sp f

    spelt : lit ≡ literal_words la ++ []
    spelt = stands.here ∙ sym (append-nil (literal_words la))

    pub no_equation : Decides false Equation → fault 23 ≡ flip i a c
    no_equation d =
        sym (((flip_answers i a c).then stands.has).otherwise
        (not_from_Decides false (equation_decides rows lit [] la lawful spelt false d) refl))

    module _ (d : Decides true Equation) (right : ℕ)
        (sides : (s : Term) (rest : List ℕ) → LawfulTerm rows s → drop 1 lit ≡ term_words s ++ rest → Parted lit right (term_words s) rest) where
      eq : IsEquation la
      eq = (equation_decides rows lit [] la lawful spelt true d).0 refl

      abbrev S : List ℕ
      S = term_words eq.s

      abbrev T : List ℕ
      T = term_words eq.t

      abbrev other : Literal
      other = record { negated = la.negated; atom = equal eq.t eq.s }

      both_lawful : LawfulTerm rows eq.s × LawfulTerm rows eq.t
      both_lawful = sides_lawful rows la eq lawful

      parts : Parted lit right S T
      parts =
          sides eq.s T both_lawful.0
          (sides_behind rows lit [] la lawful spelt eq ∙ ap (λ xs. S ++ xs) (append-nil T))

      -- the words of the exchanged literal: the head, the right side, the left side
      literal_flipped : literal_words other ≡ take 1 lit ++ (between right (length lit) lit ++ between 1 right lit)
      literal_flipped =
          sym (ap₂ ◌++◌ (ap (take 1) (stands.here ∙ equation_words la eq))
          (ap₂ ◌++◌ (between_to_end lit right (length lit) (le_refl (length lit)) ∙ parts.right) parts.left))

      -- the pieces of the flipped clause
      abbrev pub pieces : List ℕ
      pieces = sp.before.now ++ (take 1 lit ++ (between right (length lit) lit ++ (between 1 right lit ++ (sp.behind.now ++ []))))

      words_are : clause_words (exchange i a eq.s eq.t) ≡ pieces
      words_are =
          let z : suc (a - 1) ≡ a = omega (arith, stands.has.0) in
          set_words i (a - 1) other (omega (arith, stands.has.0, stands.has.1))
          ∙ ap₂ (λ xs n. xs ++ (literal_words other ++ clause_words (drop n i))) (sym stands.before) z
          ∙ ap₂ (λ xs ys. sp.before.now ++ (xs ++ ys)) literal_flipped (sym stands.behind)
          ∙ regroup sp.before.now (take 1 lit) (between right (length lit) lit) (between 1 right lit) sp.behind.now

      exchange_formed : Formed rows (exchange i a eq.s eq.t)
      exchange_formed =
          All-set (λ (l : Literal). FormedAtom rows l.atom) i (a - 1) other (both_lawful.1, both_lawful.0) (formed rows i (premise_lawful s q shown 0).0)

      -- the conclusion is compared
      pub concluded : (r : Result (Unit {0}) RuleFault) → Allows r (wc ≡ pieces) → answered r ≡ flip i a c
      concluded r k =
          answered_last (flip i a c) (((flip_answers i a c).then stands.has).then eq) r
          (allowed_by_words rows wc c (exchange i a eq.s eq.t) shown.lawful exchange_formed shown.conclusion _ words_are r k)
