-- The answer to a line, in terms of what the line reads as.
use Rattle.std.specs.Prelude.{ℕ, cond, List, length, take, Ok, Err, Result, nat_lt}
use Rattle.logic.specs.declared.row.SymbolRow.{SymbolRow}
use Rattle.tokens.specs.Faults.{fault_number, fault_place}
use Rattle.reading.specs.States.{Halt}
use Rattle.lines.specs.Rules.{Ruled, rule_line}
use Rattle.mirtsjol.specs.declared.refusal.Refusal.{Refusal}
use Rattle.mirtsjol.specs.Refusals.{no_room, refusal_number, refusal_place}

-- the words of a line's clause, or the number and the place of its refusal
pub data Verdict : Type 0 where
  reads : List ℕ → Verdict
  refuses : ℕ → ℕ → Verdict

-- a verdict, with the symbols that are counted after it and their store
pub record Judged : Type 0 where
  pub verdict : Verdict
  pub symbols : ℕ
  pub rows : List SymbolRow

-- the words that are counted are those that stand first in the store
abbrev pub verdict : Result ℕ Refusal → List ℕ → Verdict
verdict (Ok n) out = reads (take n out)
verdict (Err r) out = refuses (refusal_number r) (refusal_place r)

-- what a reading from n symbols with a store of so many words comes to; where the line is refused, n are counted again
abbrev pub judged : ℕ → ℕ → Result Ruled Halt → Judged
judged n room (Ok l) =
    cond (nat_lt room l.words) (record { verdict = refuses no_room l.place; symbols = n; rows = l.rows })
    (record { verdict = reads (take l.words l.out); symbols = l.symbols; rows = l.rows })
judged n room (Err h) =
    record { verdict = refuses (fault_number h.fault) (fault_place h.fault); symbols = n; rows = h.rows }

-- the answer that a line has, read as a rule line
abbrev pub line_judged : List ℕ → List ℕ → ℕ → List SymbolRow → Judged
line_judged bs out n rows = judged n (length out) (rule_line bs out n rows)

-- what the code has answered
abbrev pub after_answer : Result ℕ Refusal → List ℕ → ℕ → List SymbolRow → Judged
after_answer a out n rows = record { verdict = verdict a out; symbols = n; rows = rows }

-- how many symbols are counted when a refusal has put back those that were counted before it
abbrev pub put_back : Result ℕ Refusal → ℕ → ℕ → ℕ
put_back (Ok n) before now = now
put_back (Err r) before now = before
