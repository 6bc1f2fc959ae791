-- The premises of what a question shows are lawful, those that are not there too.
use Rattle.std.proofs.Common.{ℕ, zero, suc, List, [], ◌∷◌, get_or, arith}
use Rattle.std.specs.List.{AllByRecursion}
use Rattle.logic.specs.declared.row.SymbolRow.{SymbolRow}
use Rattle.logic.specs.Syntax.{Clause}
use Rattle.logic.specs.Lawful.{Lawful}
use Rattle.bench.specs.declared.question.Question.{Question}
use Rattle.bench.specs.Meanings.{Asked, premise}
use Rattle.bench.specs.Questions.{Shows}

lawful_at : (rows : List SymbolRow) (cs : List Clause) (k : ℕ) → AllByRecursion (Lawful rows) cs → Lawful rows (get_or cs k [])
lawful_at rows [] k g = (tt, omega arith)
lawful_at rows (c ∷ cs) zero g = g.0
lawful_at rows (c ∷ cs) (suc k) g = lawful_at rows cs k g.1

pub premise_lawful : (s : Asked) (q : Question) → Shows s q → (k : ℕ) → Lawful q.rows.now (premise s k)
premise_lawful s q h k = lawful_at q.rows.now s.premises k h.premises
