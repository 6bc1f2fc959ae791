-- What reading a clause or a list of bindings by itself has done.
use Rattle.std.specs.Prelude.{ℕ, List, Ok, Err, Result}
use Rattle.logic.specs.declared.row.SymbolRow.{SymbolRow}
use Rattle.tokens.specs.declared.fault.Fault.{Fault}
use Rattle.reading.specs.declared.alone.Extent.{Extent}
use Rattle.reading.specs.declared.bindings.Bindings.{Bindings}
use Rattle.reading.specs.declared.purpose.Purpose.{Purpose}
use Rattle.reading.specs.States.{State, Halt, halt}
use Rattle.reading.specs.Bindings.{Bounds, held}

abbrev pub after_clause : Purpose → Result Extent Fault → List ℕ → ℕ → List SymbolRow → Result State Halt
after_clause p (Ok e) out n rows = Ok (record { purpose = p; pos = e.end; count = e.words; out = out; symbols = n; rows = rows })
after_clause p (Err f) out n rows = Err (halt f n rows)

abbrev pub bindings_after : Result ℕ Fault → Bindings → ℕ → List SymbolRow → Result Bounds Halt
bindings_after (Ok e) b n rows = Ok (record { bound = held b; end = e; symbols = n; rows = rows })
bindings_after (Err f) b n rows = Err (halt f n rows)
