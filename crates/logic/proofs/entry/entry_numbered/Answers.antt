use Rattle.std.proofs.Common.{◌≡◌}
use Rattle.std.proofs.lemmas.Bool.Decides.{Decides-eqb}
use Rattle.logic.specs.Directory.{has_number}
use Rattle.logic.proofs.Firsts.{at_first}
use Rattle.logic.proofs.entry.entry_numbered.Goals as goal

pub returns-clause-first : goal.returns-clause-first
returns-clause-first c =
    at_first (λ e. has_number e c.args.number) (λ e. e.number ≡ c.args.number) (λ e. Decides-eqb e.number c.args.number) c.args.entries.now c.find.result c.find.ensures
