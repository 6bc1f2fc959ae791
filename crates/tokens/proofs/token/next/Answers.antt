use Rattle.std.proofs.Common.{◌<◌, ◌≤◌, length, sym, arith, rules}
use Rattle.tokens.proofs.Pasts.{past_on, past_within}
use Rattle.tokens.specs.declared.byte.Class.TheVariants.{Run}
use Rattle.tokens.specs.Tokens.{lex}
use Rattle.tokens.proofs.token.next.Goals as goal
use Rattle.tokens.proofs.token.next.Goals.{in-40, in-41, in-61, in_default}

pub slice_bounds-class-end : goal.slice_bounds-class-end
slice_bounds-class-end c =
    let on = past_on Run _ _ c.if-place-line.false (sym c.if-has.ensures) in
    let inside = past_within Run c.args.line.now c.past-place.result (omega arith) in
    search rules

pub returns : goal.returns
unfolding lex
returns c =
    let skipped : c.args.from ≤ c.past-place.result = omega (arith, c.past-place.ensures) in
    let inside : c.past-place.result < length c.args.line.now = c.if-place-line.false in
    record {
      is = search rules;
      on = elim c.match-line-place.branch [
        | in-40 w ↦ omega (arith, w.end-is)
        | in-41 w ↦ omega (arith, w.end-is)
        | in-61 w ↦ omega (arith, w.end-is)
        | in_default w ↦ omega (arith, w.end-is, w.past-end.ensures, past_on Run _ _ inside (sym w.if-has.ensures), past_within Run c.args.line.now c.past-place.result (omega arith))
      ];
    }

pub returns-then-place-line : goal.returns-then-place-line
unfolding lex
returns-then-place-line c = search rules

pub returns-in_default-2 : goal.returns-in_default-2
unfolding lex
returns-in_default-2 c = search rules
