-- Propositional allows exactly the clauses with the same literals.
use Rattle.std.proofs.Common.{◌&&◌, T}
use Rattle.std.proofs.Math.Facts.{and_yes, yes_and}
use Rattle.logic.specs.Syntax.{Clause}
use Rattle.inference.specs.Same.{within}
use Rattle.inference.specs.Propositional.{propositional_demands}
use Rattle.inference.specs.Conclusions.{SameLiterals}
use Rattle.inference.specs.Exactness.{PropositionalIsExact}
use Rattle.inference.proofs.Same.{each_occurs, is_within}
use Rattle.inference.proofs.Demands.{met, allowed_where_met}

pub same_literals : (i c : Clause) → T (within i c && within c i) → SameLiterals i c
same_literals i c q =
    record {
      kept = each_occurs i c (and_yes (within i c) (within c i) q).0;
      none_added = each_occurs c i (and_yes (within i c) (within c i) q).1;
    }

pub within_both : (i c : Clause) → SameLiterals i c → T (within i c && within c i)
within_both i c h = yes_and (within i c) (within c i) (is_within i c h.kept) (is_within c i h.none_added)

pub propositional_is_exact : PropositionalIsExact
propositional_is_exact i c = (
  λ ok. same_literals i c (met (propositional_demands i c) ok).0,
  λ h. allowed_where_met (propositional_demands i c) (within_both i c h, tt),
)
