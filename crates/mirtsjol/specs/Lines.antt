-- The lines that an iterator over an input has left.
use Rattle.std.specs.Prelude.{ℕ, List}
use Rattle.mirtsjol.specs.declared.lines_of.Lines.{Lines}
use Rattle.mirtsjol.specs.Cuts.{lines_of}

-- the lines of the rest of the input
abbrev pub lines_left : Lines → List (List ℕ)
lines_left s = lines_of s.rest.now
