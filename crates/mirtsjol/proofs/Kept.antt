-- The symbols after a line have fixed arities, where those counted before it had them.
use Rattle.std.proofs.Common.{◌≡◌, ℕ, ◌≤◌, List, take, Ok, sym, ap, ◌∙◌, subst}
use Rattle.std.proofs.lemmas.List.{get_or-take}
use Rattle.logic.specs.Limits as language
use Rattle.logic.specs.Symbols.{row_at, no_row}
use Rattle.logic.specs.declared.row.SymbolRow.{SymbolRow}
use Rattle.reading.specs.Fixed.{Fixed}
use Rattle.lines.specs.declared.rule.RuleLine.{RuleLine}
use Rattle.lines.specs.Rules.{after_rule, rule_line}
use Rattle.spelling.proofs.RulesRead.{rule_read, settled_after}

-- rows that are as they were
pub still_fixed : (n : ℕ) (rows left : List SymbolRow) → take n left ≡ take n rows → Fixed n rows → Fixed n left
still_fixed n rows left e fixed s lt =
    let here : row_at left s ≡ row_at rows s = sym (get_or-take n left s no_row lt) ∙ ap (λ (rs : List SymbolRow). row_at rs s) e ∙ get_or-take n rows s no_row lt in
    subst (λ (r : SymbolRow). r.arity ≤ language.arguments) (sym here) (fixed s lt)

-- rows after a line that was read
pub rule_fixed :
    (bs out : List ℕ) (n : ℕ) (rows : List SymbolRow) (l : RuleLine) (last : List ℕ) (m : ℕ) (left : List SymbolRow)
    → after_rule (Ok l) last m left ≡ rule_line bs out n rows → Fixed n rows → Fixed m left
rule_fixed bs out n rows l last m left is fixed =
    settled_after n rows m left fixed (rule_read bs out n rows fixed (record { place = l.place; number = l.number; words = l.words; out = last; symbols = m; rows = left }) (sym is)).grows
