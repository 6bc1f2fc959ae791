use Rattle.rules.proofs.Flipped.{no_equation, concluded}
use Rattle.rules.proofs.flip.FlipRule.ask.Goals as goal

pub returns-then-not-is_equation : goal.returns-then-not-is_equation
returns-then-not-is_equation c =
    record { means = λ s h. no_equation c.args.question.now s h _ c.in_ok-before.ensures.literal c.if-not-is_equation.ensures }

pub returns : goal.returns
returns c =
    record {
      means = λ s h.
          concluded c.args.question.now s h _ c.in_ok-before.ensures.literal c.if-not-is_equation.ensures c.right_side-right.result
          c.right_side-right.ensures.sides c.conclude.result c.conclude.ensures;
    }
