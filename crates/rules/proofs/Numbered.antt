-- The literal of a premise that a question numbers.
use Rattle.std.proofs.Common.{◌≡◌, ℕ, List, get_or, Ok, Err, Result, sym, ap, ◌∙◌, subst}
use Rattle.logic.specs.Syntax.{Clause}
use Rattle.logic.specs.Words.{clause_words}
use Rattle.logic.specs.Lawful.{LawfulAtom, Lawful}
use Rattle.logic.specs.Literals.{literal}
use Rattle.bench.specs.declared.fault.RuleFault.{RuleFault}
use Rattle.bench.specs.Faults.{answered}
use Rattle.inference.specs.Answers.{Answer}
use Rattle.inference.specs.Conclusions.{HasLiteral}
use Rattle.inference.specs.Order.{Demanded}
use Rattle.rules.specs.declared.literal.Parts.{Parts}
use Rattle.rules.specs.Numbered.{NumberedAt, Around}
use Rattle.rules.proofs.Located.{has_not, literal_lawful}
use Rattle.bench.specs.declared.question.Question.{Question}
use Rattle.bench.specs.Meanings.{Asked, premise, literal_number}
use Rattle.bench.specs.Questions.{Shows}
use Rattle.bench.proofs.Shown.{premise_lawful}

-- what a search in the words ws for the literal with number k of the question found
abbrev pub Finds : Question → ℕ → List ℕ → Result Parts RuleFault → Type 0
Finds q k ws r = (d : Clause) → Lawful q.rows.now d → ws ≡ clause_words d → NumberedAt d (get_or q.literals k 0) r

module _ (q : Question) (s : Asked) (shown : Shows s q) (k : ℕ) (ws : List ℕ) (e : ws ≡ clause_words (premise s k)) where
  -- so the premise with these words has it there
  pub found_at : (r : Result Parts RuleFault) → Finds q k ws r → NumberedAt (premise s k) (literal_number s k) r
  found_at r f = subst (λ (n : ℕ). NumberedAt (premise s k) n r) (shown.literals k) (f (premise s k) (premise_lawful s q shown k) e)

  -- it stands among the words, and is lawful
  module _ (x : Parts) (f : Finds q k ws (Ok x)) where
    pub stands : Around (premise s k) (literal_number s k) x
    stands = found_at (Ok x) f

    pub lawful : LawfulAtom q.rows.now (literal (premise s k) (literal_number s k)).atom
    lawful = literal_lawful q.rows.now (premise s k) (literal_number s k) (premise_lawful s q shown k) stands.has

  -- or the premise has it not, and this is answered where the rule demands it
  pub not_found : (g : RuleFault) → Finds q k ws (Err g) → {next : HasLiteral (premise s k) (literal_number s k) → Answer → Type 0} (x : Answer)
      → Demanded (HasLiteral (premise s k) (literal_number s k)) 21 next x → answered (Err g) ≡ x
  not_found g f x d =
      let n = found_at (Err g) f in
      ap (λ h. answered (Err h)) n.0 ∙ sym (d.otherwise (has_not (premise s k) (literal_number s k) n.1))
