-- A rule line only adds symbols, within the bounds; the rows of those counted before it stay as they were, where the arities are fixed.
use Rattle.std.proofs.Common.{◌≡◌, ℕ, ◌≤◌, List, length, take, Ok, Err, codes, Result, sym, subst, arith}
use Rattle.logic.specs.Limits as language
use Rattle.logic.specs.declared.row.SymbolRow.{SymbolRow}
use Rattle.tokens.specs.declared.fault.Fault.{Fault}
use Rattle.reading.specs.declared.purpose.Purpose.TheVariants.{Rule}
use Rattle.reading.specs.States.{lift, from, count_checked}
use Rattle.reading.specs.Clauses.{opening, closing, wording, clause_from}
use Rattle.reading.specs.Fixed.{Fixed}
use Rattle.reading.proofs.Keeping.{Safe, bind_safe, Any}
use Rattle.reading.proofs.Covered.{Covers, HaltCovers, StateCovers, covers_itself, lift_covers, clause_covers}
use Rattle.lines.specs.declared.rule.RuleLine.{RuleLine}
use Rattle.lines.specs.Numbers.{step_number, line_end}
use Rattle.lines.specs.Rules.{Ruled, after_rule, rule_line}

module _ (bs out : List ℕ) (n : ℕ) (rows : List SymbolRow) where
  abbrev pub RuledCovers : Ruled → Type 0
  RuledCovers l = Covers n rows l.symbols l.rows

  pub rule_covers : Safe (HaltCovers n rows) RuledCovers (rule_line bs out n rows)
  unfolding rule_line
  rule_covers =
      let g = covers_itself n rows in
      bind_safe (HaltCovers n rows) Any RuledCovers (lift n rows (count_checked n rows)) _ (lift_covers n rows n rows (count_checked n rows) g) (λ u _.
      bind_safe (HaltCovers n rows) Any RuledCovers (lift n rows (opening bs 0)) _ (lift_covers n rows n rows (opening bs 0) g) (λ o _.
      bind_safe (HaltCovers n rows) Any RuledCovers (lift n rows (wording (codes "rule") bs o)) _ (lift_covers n rows n rows (wording (codes "rule") bs o) g) (λ w _.
      bind_safe (HaltCovers n rows) Any RuledCovers (lift n rows (step_number bs w)) _ (lift_covers n rows n rows (step_number bs w) g) (λ m _.
      bind_safe (HaltCovers n rows) (StateCovers n rows) RuledCovers (clause_from bs Rule m.end out n rows) _ (clause_covers n rows bs Rule m.end out n rows g) (λ st h.
      bind_safe (HaltCovers n rows) Any RuledCovers (from st (closing bs st.pos)) _ (lift_covers n rows st.symbols st.rows (closing bs st.pos) h) (λ c _.
      bind_safe (HaltCovers n rows) Any RuledCovers (from st (line_end bs c)) _ (lift_covers n rows st.symbols st.rows (line_end bs c) h) (λ e _. h)))))))

  after_covers : (a : Result RuleLine Fault) (last : List ℕ) (m : ℕ) (left : List SymbolRow) → Safe (HaltCovers n rows) RuledCovers (after_rule a last m left) → Covers n rows m left
  after_covers (Ok l) last m left s = s
  after_covers (Err f) last m left s = s

  module _ (a : Result RuleLine Fault) (last : List ℕ) (m : ℕ) (left : List SymbolRow) (is : after_rule a last m left ≡ rule_line bs out n rows) where
    covers : Covers n rows m left
    covers = after_covers a last m left (subst (Safe (HaltCovers n rows) RuledCovers) (sym is) rule_covers)

    pub rule_kept : Fixed n rows → take n left ≡ take n rows
    rule_kept = covers.3

    pub rule_counted : (n ≤ m) × ((n ≤ length rows) × (n ≤ language.symbols) → (m ≤ length left) × (m ≤ language.symbols))
    rule_counted = (covers.0, λ within. (omega (arith, covers.1, (covers.2 within).0), (covers.2 within).1))
