use Rattle.std.proofs.Common.{◌≡◌}
use Rattle.std.proofs.lemmas.Slice.Eq.{bytes_eq-Decides}
use Rattle.logic.specs.Directory.{has_name}
use Rattle.logic.specs.Symbols.{name_of}
use Rattle.logic.proofs.Firsts.{at_first}
use Rattle.logic.proofs.names.symbol_named.Goals as goal

pub returns-clause-first : goal.returns-clause-first
returns-clause-first c =
    at_first (λ row. has_name row c.args.name.now) (λ row. name_of row ≡ c.args.name.now) (λ row. bytes_eq-Decides (name_of row) c.args.name.now) c.args.rows.now c.find.result c.find.ensures
