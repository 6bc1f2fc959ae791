-- The answer of a session, in the words of the grammar.
use Rattle.std.specs.Prelude.{◌≡◌, ℕ, ◌≤◌, List, length, vec_items}
use Rattle.logic.specs.Syntax.{Clause}
use Rattle.logic.specs.Words.{clause_words}
use Rattle.logic.specs.declared.row.SymbolRow.{SymbolRow}
use Rattle.spelling.specs.Spelling.{SpellsRuleLine}
use Rattle.mirtsjol.specs.declared.session.Session.{Session}
use Rattle.mirtsjol.specs.Verdicts.{reads, line_judged}

-- the line spells some rule over the n counted symbols, whose clause has these words, and there is room for them
pub record SpellsWords (line : List ℕ) (room n : ℕ) (rows : List SymbolRow) (ws : List ℕ) : Type 0 where
  pub number : ℕ
  pub clause : Clause
  pub table : List SymbolRow
  pub spelled : SpellsRuleLine line n rows number clause table
  pub words : clause_words clause ≡ ws
  pub fit : length ws ≤ room

-- the answer is these words exactly when the line spells a rule that has them
abbrev pub AnswersWhatIsSpelled : List ℕ → List ℕ → ℕ → List SymbolRow → Type 0
AnswersWhatIsSpelled line out n rows =
    (ws : List ℕ)
    → ((line_judged line out n rows).verdict ≡ reads ws → SpellsWords line (length out) n rows ws)
    × (SpellsWords line (length out) n rows ws → (line_judged line out n rows).verdict ≡ reads ws)

-- this in the stores of a session
abbrev pub SessionAnswersWhatIsSpelled : Session → List ℕ → Type 0
SessionAnswersWhatIsSpelled s line = AnswersWhatIsSpelled line (vec_items s.words) s.symbols (vec_items s.rows)
