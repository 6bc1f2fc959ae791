-- A clause without one of its literals, or with another in its place; literals are counted from 1.
use Rattle.std.specs.Prelude.{ℕ, ◌-◌, Bool, ◌&&◌, ◌++◌, length, take, drop, nat_le, nat_lt, slice_set}
use Rattle.logic.specs.Syntax.{Literal, Clause}

-- the clause has a literal a
abbrev pub has : Clause → ℕ → Bool
has c a = nat_lt 0 a && nat_le a (length c)

-- literal a left out and all others in their order
abbrev pub without : Clause → ℕ → Clause
without c a = take (a - 1) c ++ drop a c

-- literal a replaced and all others in their places
abbrev pub with_literal : Clause → ℕ → Literal → Clause
with_literal c a l = slice_set c (a - 1) l
