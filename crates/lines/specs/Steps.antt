-- Step lines.
use Rattle.std.specs.Prelude.{ℕ, ◌-◌, List, take, Ok, Err, codes, Result}
use Rattle.logic.specs.declared.row.SymbolRow.{SymbolRow}
use Rattle.tokens.specs.declared.fault.Fault.{Fault}
use Rattle.reading.specs.declared.purpose.Purpose.TheVariants.{Step}
use Rattle.reading.specs.States.{Halt, halt, ◌>>=◌, lift, from, count_checked}
use Rattle.reading.specs.Clauses.{opening, closing, wording, clause_from}
use Rattle.reading.specs.Bindings.{Bound, held}
use Rattle.lines.specs.declared.shape.Shape.{Shape}
use Rattle.lines.specs.declared.justification.Justification.{Justification}
use Rattle.lines.specs.declared.step.StepLine.{StepLine}
use Rattle.lines.specs.Numbers.{step_number, line_end}
use Rattle.lines.specs.Justifications.{Table, asked, justification_at}

-- a step line that is read: its opening bracket's place, its number, its justification, its count of words, and the stores after it
pub record Stepped : Type 0 where
  pub place : ℕ
  pub number : ℕ
  pub keyword : List ℕ
  pub shape : Shape
  pub premises : List ℕ
  pub literals : List ℕ
  pub position : List ℕ
  pub bound : List Bound
  pub words : ℕ
  pub out : List ℕ
  pub symbols : ℕ
  pub rows : List SymbolRow

abbrev pub after_step : Result StepLine Fault → Justification → List ℕ → ℕ → List SymbolRow → Result Stepped Halt
after_step (Ok l) j out n rows =
    Ok (record {
      place = l.place;
      number = l.number;
      keyword = l.keyword.now;
      shape = l.shape;
      premises = asked l.shape.premises j.premises;
      literals = asked l.shape.literals j.literals;
      position = take j.steps j.position;
      bound = held j.bindings;
      words = l.words;
      out = out;
      symbols = n;
      rows = rows;
    })
after_step (Err f) j out n rows = Err (halt f n rows)

-- what the text of a step line reads as; `out` is the store for the words of its clause
unfoldable pub step_text : List ℕ → Table → List ℕ → ℕ → List SymbolRow → Result Stepped Halt
step_text bs table out n rows =
    lift n rows (opening bs 0) >>= λ o.
    lift n rows (wording (codes "step") bs o) >>= λ w.
    lift n rows (step_number bs w) >>= λ m.
    justification_at bs table m.end n rows >>= λ j.
    clause_from bs Step j.keyword.end out j.symbols j.rows >>= λ st.
    from st (closing bs st.pos) >>= λ c.
    from st (line_end bs c) >>= λ e.
    Ok (record {
      place = o - 1;
      number = m.number;
      keyword = j.keyword.run;
      shape = j.keyword.shape;
      premises = j.premises;
      literals = j.literals;
      position = j.position;
      bound = j.bound;
      words = st.count;
      out = st.out;
      symbols = st.symbols;
      rows = st.rows;
    })

-- what a line reads as, as a step line; the count of symbols must not exceed their store
abbrev pub step_line : List ℕ → Table → List ℕ → ℕ → List SymbolRow → Result Stepped Halt
step_line bs table out n rows = lift n rows (count_checked n rows) >>= λ u. step_text bs table out n rows
