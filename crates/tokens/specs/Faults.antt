-- The number and the place of every refusal of a line.
use Rattle.std.specs.Prelude.{ℕ}
use Rattle.tokens.specs.declared.fault.Fault.{Fault}
use Rattle.tokens.specs.declared.fault.Fault.TheVariants.{NoToken, Early, Due, Long, Form, Deep, ManyLiterals, ManyNumbers, ManyBindings, ManyWords, OtherKind, OtherArity, Unknown, ManyArguments, ManySymbols, NoRule, Count}

abbrev pub fault_number : Fault → ℕ
fault_number (NoToken p) = 1
fault_number (Early p) = 2
fault_number (Due p) = 3
fault_number (Long p) = 4
fault_number (Form p) = 5
fault_number (Deep p) = 6
fault_number (ManyLiterals p) = 7
fault_number (ManyNumbers p) = 7
fault_number (ManyBindings p) = 7
fault_number (ManyWords p) = 7
fault_number (OtherKind p) = 8
fault_number (OtherArity p) = 8
fault_number (Unknown p) = 8
fault_number (ManyArguments p) = 9
fault_number (ManySymbols p) = 9
fault_number (NoRule p) = 11
fault_number Count = 42

abbrev pub fault_place : Fault → ℕ
fault_place (NoToken p) = p
fault_place (Early p) = p
fault_place (Due p) = p
fault_place (Long p) = p
fault_place (Form p) = p
fault_place (Deep p) = p
fault_place (ManyLiterals p) = p
fault_place (ManyNumbers p) = p
fault_place (ManyBindings p) = p
fault_place (ManyWords p) = p
fault_place (OtherKind p) = p
fault_place (OtherArity p) = p
fault_place (Unknown p) = p
fault_place (ManyArguments p) = p
fault_place (ManySymbols p) = p
fault_place (NoRule p) = p
fault_place Count = 0
