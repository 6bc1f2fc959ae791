-- The limits of the language of clauses, each in one place.
use Rattle.std.specs.Prelude.{ℕ}

-- variables are v0 up to, and without, this one
abbrev pub variables : ℕ
variables = 64

-- symbols of a book
abbrev pub symbols : ℕ
symbols = 256

-- arguments of a term or an atom
abbrev pub arguments : ℕ
arguments = 4

-- depth of a term
abbrev pub depth : ℕ
depth = 32

-- literals of a clause
abbrev pub literals : ℕ
literals = 32

-- bytes of a name
abbrev pub name_bytes : ℕ
name_bytes = 16
