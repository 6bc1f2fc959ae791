-- What a step line spells, and that reading finds exactly that.
use Rattle.std.specs.Prelude.{◌≡◌, ℕ, List, map, length, take, Ok}
use Rattle.std.specs.List.{prefix_len}
use Rattle.logic.specs.Syntax.{Clause}
use Rattle.logic.specs.Words.{term_words, clause_words}
use Rattle.logic.specs.Lawful.{Lawful}
use Rattle.logic.specs.declared.row.SymbolRow.{SymbolRow}
use Rattle.tokens.specs.declared.byte.Class.TheVariants.{Space}
use Rattle.tokens.specs.Bytes.{within}
use Rattle.tokens.specs.Tokens.{Tok}
use Rattle.reading.specs.Bindings.{Bound}
use Rattle.lines.specs.Justifications.{Table}
use Rattle.lines.specs.Steps.{Stepped, step_line}
use Rattle.spelling.specs.Spacing.{Spaced}
use Rattle.spelling.specs.Spelling.{Counted, stored}
use Rattle.spelling.specs.StepGrammar.{Binding, Reason, SpellsStep}

-- the line spells the step of this number with this reason and clause: its tokens, however spaced, are those of the
-- grammar over the n counted symbols
pub record SpellsStepLine (line : List ℕ) (shapes : Table) (n : ℕ) (rows : List SymbolRow) (number : ℕ) (reason : Reason) (c : Clause) : Type 0 where
  pub tokens : List Tok
  pub spaced : Spaced line tokens
  pub spelled : SpellsStep (take n rows) shapes number reason c tokens

-- a binding as it is kept: its term's words
abbrev pub kept_binding : Binding → Bound
kept_binding b = record { variable = b.variable; words = term_words b.term }

-- what reading such a line leaves: the symbols stay
abbrev pub step_read : List ℕ → List ℕ → ℕ → List SymbolRow → ℕ → Reason → Clause → Stepped
step_read line out n rows number reason c =
    record {
      place = prefix_len (within Space) line;
      number = number;
      keyword = reason.keyword;
      shape = reason.shape;
      premises = reason.premises;
      literals = reason.literals;
      position = reason.position;
      bound = map kept_binding reason.bindings;
      words = length (clause_words c);
      out = stored out (clause_words c);
      symbols = n;
      rows = rows;
    }

-- a line reads as a step exactly when it spells one, with that number, reason and clause
abbrev pub StepsAreReadAsSpelled : Type 0
StepsAreReadAsSpelled =
    (line : List ℕ) (shapes : Table) (out : List ℕ) (n : ℕ) (rows : List SymbolRow) → Counted n rows → (r : Stepped)
    → (step_line line shapes out n rows ≡ Ok r
    → (number : ℕ) × (reason : Reason) × (c : Clause) × SpellsStepLine line shapes n rows number reason c × (r ≡ step_read line out n rows number reason c))
    × ((number : ℕ) (reason : Reason) (c : Clause) → SpellsStepLine line shapes n rows number reason c → r ≡ step_read line out n rows number reason c
    → step_line line shapes out n rows ≡ Ok r)

-- two readings of one line agree
abbrev pub StepsAreSpelledOneWay : Type 0
StepsAreSpelledOneWay =
    (line : List ℕ) (shapes : Table) (n : ℕ) (rows : List SymbolRow) → Counted n rows → (number number' : ℕ) (reason reason' : Reason) (c c' : Clause)
    → SpellsStepLine line shapes n rows number reason c → SpellsStepLine line shapes n rows number' reason' c' → (number ≡ number') × (reason ≡ reason') × (c ≡ c')

-- what a line spells is lawful over the counted symbols
abbrev pub SpelledStepsAreLawful : Type 0
SpelledStepsAreLawful =
    (line : List ℕ) (shapes : Table) (n : ℕ) (rows : List SymbolRow) → Counted n rows → (number : ℕ) (reason : Reason) (c : Clause)
    → SpellsStepLine line shapes n rows number reason c → Lawful (take n rows) c
