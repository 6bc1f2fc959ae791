use Rattle.std.proofs.Common.{rules}
use Rattle.rules.proofs.Concluded.{passed_on}
use Rattle.rules.proofs.Paramodulated.{no_equality, no_term, found_there, other_term, concluded}
use Rattle.rules.proofs.paramod.ParamodRule.ask.Goals as goal

pub returns-then-not-is_equality : goal.returns-then-not-is_equality
returns-then-not-is_equality c =
    record {
      means = λ s h.
          no_equality c.args.question.now s h _ c.in_ok-from.ensures.literal _ c.in_ok-into.ensures.literal c.if-not-is_equality.ensures;
    }

pub returns-in_err-start : goal.returns-in_err-start
returns-in_err-start c =
    record {
      means = λ s h.
          passed_on _ _ _ (search rules)
          (no_term c.args.question.now s h _ c.in_ok-from.ensures.literal _ c.in_ok-into.ensures.literal c.if-not-is_equality.ensures c.in_ok-into.ensures.whole
          c.term_span-found.result c.term_span-found.ensures.leads _ c.in_err-start.ensures.value);
    }

pub returns-then-not-same : goal.returns-then-not-same
returns-then-not-same c =
    record {
      means = λ s h.
          let found =
          found_there c.args.question.now s h _ c.in_ok-from.ensures.literal _ c.in_ok-into.ensures.literal c.if-not-is_equality.ensures c.in_ok-into.ensures.whole
          c.term_span-found.result c.term_span-found.ensures.leads _ c.in_ok-start.ensures.value in
          other_term c.args.question.now s h _ c.in_ok-from.ensures.literal _ c.in_ok-into.ensures.literal
          c.if-not-is_equality.ensures c.in_ok-into.ensures.whole c.right_side-right.result c.right_side-right.ensures.sides _ found c.if-not-same.ensures.words;
    }

pub returns : goal.returns
returns c =
    record {
      means = λ s h.
          let found =
          found_there c.args.question.now s h _ c.in_ok-from.ensures.literal _ c.in_ok-into.ensures.literal c.if-not-is_equality.ensures c.in_ok-into.ensures.whole
          c.term_span-found.result c.term_span-found.ensures.leads _ c.in_ok-start.ensures.value in
          concluded c.args.question.now s h _ c.in_ok-from.ensures.literal _ c.in_ok-into.ensures.literal
          c.if-not-is_equality.ensures c.in_ok-into.ensures.whole c.right_side-right.result c.right_side-right.ensures.sides _ found c.if-not-same.ensures.words
          c.conclude.result c.conclude.ensures;
    }
