-- Verdicts as text.
use Rattle.std.specs.Prelude.{ℕ, List, ◌++◌, codes, decimal}
use Rattle.std.specs.List.{flat_map}
use Rattle.mirtsjol.specs.Verdicts.{Verdict, reads, refuses}

-- each number behind a space
abbrev pub spaced : List ℕ → List ℕ
spaced = flat_map (λ n. codes " " ++ decimal n)

-- the words of a clause as text
abbrev pub words_text : List ℕ → List ℕ
words_text ws = codes "words" ++ spaced ws

-- the line that tells a verdict, with its newline
abbrev pub told : Verdict → List ℕ
told (reads ws) = codes "words" ++ (spaced ws ++ codes "\n")
told (refuses number place) = codes "refused " ++ (decimal number ++ (codes " " ++ (decimal place ++ codes "\n")))
