use Rattle.std.proofs.Common.{rules}
use Rattle.std.proofs.lemmas.Slice.{overwrites, between_to_end}
use Rattle.tokens.specs.Forms.{variable_form}
use Rattle.tokens.proofs.form.variable.Goals.{in-empty, in-len1-up}
use Rattle.tokens.proofs.form.variable.Goals as goal

pub returns : goal.returns
unfolding variable_form
returns c = elim c.if-run-lt1.branch [ in-empty w ↦ search rules | in-len1-up w ↦ search (rules, overwrites, between_to_end) ]
