-- The refusals of a line: the reader's, and that of a clause whose words do not all fit the store.
use Rattle.std.specs.Prelude.{ℕ, List, ◌++◌, codes, decimal}
use Rattle.tokens.specs.Faults.{fault_number, fault_place}
use Rattle.mirtsjol.specs.declared.refusal.Refusal.{Refusal}
use Rattle.mirtsjol.specs.declared.refusal.Refusal.TheVariants.{Text, NoRoom}

-- the words do not all fit the store
abbrev pub no_room : ℕ
no_room = 40

abbrev pub refusal_number : Refusal → ℕ
refusal_number (Text fault) = fault_number fault
refusal_number (NoRoom place) = no_room

abbrev pub refusal_place : Refusal → ℕ
refusal_place (Text fault) = fault_place fault
refusal_place (NoRoom place) = place

-- the refusal as text
abbrev pub refusal_text : Refusal → List ℕ
refusal_text r = codes "refused " ++ (decimal (refusal_number r) ++ (codes " " ++ decimal (refusal_place r)))
