-- The limits of bindings, each in one place.
use Rattle.std.specs.Prelude.{ℕ}

-- bindings of a list
abbrev pub bindings : ℕ
bindings = 64

-- words of the terms of a list's bindings, together
abbrev pub binding_words : ℕ
binding_words = 512
