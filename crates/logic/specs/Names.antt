-- Names of symbols, and the rows that make a record.
use Rattle.std.specs.Prelude.{◌≡◌, ℕ, ◌<◌, ◌≤◌, Bool, true, ◌&&◌, ◌||◌, List, ◌==◌, nat_le, slice_index}
use Rattle.logic.specs.Limits as limits

abbrev pub letter : ℕ → Bool
letter b = nat_le 97 b && nat_le b 122

abbrev pub digit : ℕ → Bool
digit b = nat_le 48 b && nat_le b 57

-- a byte of a name: a to z, 0 to 9 or the underscore
abbrev pub name_byte : ℕ → Bool
name_byte b = letter b || digit b || b == 95

-- a name of 1 to 16 lawful bytes, and an arity of at most 4
abbrev pub Recordable : List ℕ → ℕ → ℕ → Type 0
Recordable name len arity =
    (1 ≤ len) × (len ≤ limits.name_bytes) × (arity ≤ limits.arguments)
    × ((k : ℕ) → k < len → name_byte (slice_index name k) ≡ true)
