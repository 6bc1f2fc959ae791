-- How words show what is asked of an inference rule.
use Rattle.std.specs.Prelude.{◌≡◌, ℕ, ◌≤◌, map, length, slice_index}
use Rattle.std.specs.List.{AllByRecursion}
use Rattle.logic.specs.Words.{clause_words}
use Rattle.logic.specs.Lawful.{Lawful}
use Rattle.bench.specs.Bindings.{LawfulBinding}
use Rattle.reading.specs.Bindings.{held}
use Rattle.bench.specs.Bindings.{kept_binding}
use Rattle.bench.specs.declared.question.Question.{Question}
use Rattle.bench.specs.Meanings.{Asked, premise, literal_number}

-- the words of the question are those of the clauses and terms that are asked about, each of them lawful over its rows
pub record Shows (s : Asked) (q : Question) : Type 0 where
  pub few : length s.premises ≤ 2
  pub premises : AllByRecursion (Lawful q.rows.now) s.premises
  pub lawful : Lawful q.rows.now s.conclusion
  pub terms : AllByRecursion (LawfulBinding q.rows.now) s.bindings
  pub first : q.first.now ≡ clause_words (premise s 0)
  pub second : q.second.now ≡ clause_words (premise s 1)
  pub literals : (k : ℕ) → slice_index q.literals k ≡ literal_number s k
  pub position : q.position.now ≡ s.position
  pub bindings : held q.bindings.now ≡ map kept_binding s.bindings
  pub conclusion : q.conclusion.now ≡ clause_words s.conclusion
