use Rattle.std.proofs.Common.{rules}
use Rattle.rules.proofs.Concluded.{passed_on}
use Rattle.rules.proofs.ResolveAsked.{none_second, opposed_not, concluded}
use Rattle.rules.proofs.resolve.ResolveRule.ask.Goals as goal

pub returns-in_err-other : goal.returns-in_err-other
returns-in_err-other c =
    record {
      means = λ s h.
          passed_on _ _ _ (search rules) (none_second c.args.question.now s h _ c.in_ok-one.ensures.literal _ c.in_err-other.ensures.literal);
    }

pub returns-then-not-opposed : goal.returns-then-not-opposed
returns-then-not-opposed c =
    record {
      means = λ s h.
          opposed_not c.args.question.now s h _ _ c.in_ok-one.ensures.literal c.in_ok-other.ensures.literal c.if-not-opposed.ensures;
    }

pub returns : goal.returns
returns c =
    record {
      means = λ s h.
          concluded c.args.question.now s h _ _ c.in_ok-one.ensures.literal c.in_ok-other.ensures.literal c.if-not-opposed.ensures
          c.conclude.result c.conclude.ensures;
    }
