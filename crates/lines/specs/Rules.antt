-- Rule lines.
use Rattle.std.specs.Prelude.{ℕ, ◌-◌, List, Ok, Err, codes, Result}
use Rattle.logic.specs.declared.row.SymbolRow.{SymbolRow}
use Rattle.tokens.specs.declared.fault.Fault.{Fault}
use Rattle.reading.specs.declared.purpose.Purpose.TheVariants.{Rule}
use Rattle.reading.specs.States.{Halt, halt, ◌>>=◌, lift, from, count_checked}
use Rattle.reading.specs.Clauses.{opening, closing, wording, clause_from}
use Rattle.lines.specs.declared.rule.RuleLine.{RuleLine}
use Rattle.lines.specs.Numbers.{step_number, line_end}

-- a rule line that is read: its opening bracket's place, its number, its count of words, and the stores after it
pub record Ruled : Type 0 where
  pub place : ℕ
  pub number : ℕ
  pub words : ℕ
  pub out : List ℕ
  pub symbols : ℕ
  pub rows : List SymbolRow

abbrev pub after_rule : Result RuleLine Fault → List ℕ → ℕ → List SymbolRow → Result Ruled Halt
after_rule (Ok l) out n rows = Ok (record { place = l.place; number = l.number; words = l.words; out = out; symbols = n; rows = rows })
after_rule (Err f) out n rows = Err (halt f n rows)

-- what a line reads as, as a rule line
unfoldable pub rule_line : List ℕ → List ℕ → ℕ → List SymbolRow → Result Ruled Halt
rule_line bs out n rows =
    lift n rows (count_checked n rows) >>= λ u.
    lift n rows (opening bs 0) >>= λ o.
    lift n rows (wording (codes "rule") bs o) >>= λ w.
    lift n rows (step_number bs w) >>= λ m.
    clause_from bs Rule m.end out n rows >>= λ st.
    from st (closing bs st.pos) >>= λ c.
    from st (line_end bs c) >>= λ e.
    Ok (record { place = o - 1; number = m.number; words = st.count; out = st.out; symbols = st.symbols; rows = st.rows })
