-- What follows.
use Rattle.std.specs.Prelude.{List}
use Rattle.std.specs.List.{AllByRecursion}
use Rattle.logic.specs.Syntax.{Clause}
use Rattle.logic.specs.Structures.{Structure, TrueIn}

-- the conclusion is true in every structure, finite or countable, in which all premises are true
abbrev pub Follows : List Clause → Clause → Type 0
Follows premises c = (S : Structure) → AllByRecursion (TrueIn S) premises → TrueIn S c
