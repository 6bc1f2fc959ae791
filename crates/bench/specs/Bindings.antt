-- Bindings as they are kept, and lawful ones.
use Rattle.std.specs.Prelude.{◌<◌, List}
use Rattle.logic.specs.Limits as limits
use Rattle.logic.specs.Words.{term_words}
use Rattle.logic.specs.Lawful.{LawfulTerm}
use Rattle.logic.specs.declared.row.SymbolRow.{SymbolRow}
use Rattle.inference.specs.Instantiate.{Binding}
use Rattle.reading.specs.Bindings.{Bound}

-- a binding as it is kept: its term's words
abbrev pub kept_binding : Binding → Bound
kept_binding b = record { variable = b.variable; words = term_words b.term }

-- a binding of a variable to a term of any depth
abbrev pub LawfulBinding : List SymbolRow → Binding → Type 0
LawfulBinding rows b = (b.variable < limits.variables) × LawfulTerm rows b.term
