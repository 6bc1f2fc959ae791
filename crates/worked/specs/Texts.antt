-- Small rule lines, and what they read as.
use Rattle.std.specs.Prelude.{◌≡◌, ℕ, List, [], ◌∷◌, ◌++◌, take, replicate, Some, None, Ok, Err, codes, Option, Result}
use Rattle.logic.specs.declared.row.SymbolRow.{SymbolRow}
use Rattle.logic.specs.declared.row.Kind.TheVariants.{Function, Predicate}
use Rattle.logic.specs.Syntax.{Clause}
use Rattle.logic.specs.Words.{clause_words}
use Rattle.tokens.specs.Faults.{fault_number, fault_place}
use Rattle.reading.specs.States.{Halt}
use Rattle.lines.specs.Rules.{Ruled, rule_line}
use Rattle.worked.specs.Trees.{positive, negative, empty}

-- a row in which nothing has been written
abbrev pub blank : SymbolRow
blank = record { name = replicate 16 0; length = 0; kind = Function; arity = 0 }

-- p, a predicate of one argument
abbrev pub p_row : SymbolRow
p_row = record { name = codes "p" ++ replicate 15 0; length = 1; kind = Predicate; arity = 1 }

-- a, a function of none
abbrev pub a_row : SymbolRow
a_row = record { name = codes "a" ++ replicate 15 0; length = 1; kind = Function; arity = 0 }

-- the line as a rule line, with n symbols counted, and room for three words
abbrev pub reads : List ℕ → ℕ → List SymbolRow → Result Ruled Halt
reads line n rows = rule_line line (9 ∷ 9 ∷ 9 ∷ []) n rows

-- the same with no symbol counted, and room for two
abbrev pub first_reads : List ℕ → Result Ruled Halt
first_reads line = reads line 0 (blank ∷ blank ∷ [])

-- the number and the place of a refusal; a line that is read has none
abbrev pub refusal : Result Ruled Halt → Option (ℕ × ℕ)
refusal (Ok l) = None
refusal (Err h) = Some (fault_number h.fault, fault_place h.fault)

-- what the line of each clause reads as
abbrev pub positive_read : Ruled
positive_read = record { place = 0; number = 1; words = 2; out = 256 ∷ 0 ∷ 9 ∷ []; symbols = 1; rows = p_row ∷ blank ∷ [] }

abbrev pub negative_read : Ruled
negative_read = record { place = 0; number = 2; words = 2; out = 1280 ∷ 257 ∷ 9 ∷ []; symbols = 2; rows = p_row ∷ a_row ∷ [] }

abbrev pub empty_read : Ruled
empty_read = record { place = 1; number = 3; words = 0; out = 9 ∷ 9 ∷ 9 ∷ []; symbols = 0; rows = blank ∷ blank ∷ [] }

-- the words are written, the symbols are entered as they are met, and the rest of the stores is left as it was
abbrev pub LinesOfSmallClauses : Type 0
LinesOfSmallClauses =
    (first_reads (codes "(rule 1 (or (p v0)))") ≡ Ok positive_read)
    × (first_reads (codes "(rule 2 (or (not (p (a)))))") ≡ Ok negative_read)
    × (first_reads (codes " ( rule 3 (or ) )") ≡ Ok empty_read)

-- as many words of the store as are counted are those of the tree
abbrev pub HoldsTheWords : Ruled → Clause → Type 0
HoldsTheWords l c = take l.words l.out ≡ clause_words c

abbrev pub LinesHaveTheWordsOfTrees : Type 0
LinesHaveTheWordsOfTrees =
    HoldsTheWords positive_read positive × HoldsTheWords negative_read negative × HoldsTheWords empty_read empty

-- v63 is the last variable; v64 and v07 are out of form, which is 5 and lies at the variable
abbrev pub VariablesEndAt63 : Type 0
VariablesEndAt63 =
    (first_reads (codes "(rule 1 (or (p v63)))") ≡ Ok (record { place = 0; number = 1; words = 2; out = 256 ∷ 63 ∷ 9 ∷ []; symbols = 1; rows = p_row ∷ blank ∷ [] }))
    × (refusal (first_reads (codes "(rule 1 (or (p v64)))")) ≡ Some (5, 15))
    × (refusal (first_reads (codes "(rule 1 (or (p v07)))")) ≡ Some (5, 15))

-- read again, with the symbols of its first reading, the line has the same words and enters no symbol
abbrev pub ReadAgainTheSame : Type 0
ReadAgainTheSame =
    (first_reads (codes "(rule 2 (or (not (p (a)))))") ≡ Ok negative_read)
    × (reads (codes "(rule 2 (or (not (p (a)))))") negative_read.symbols negative_read.rows ≡ Ok negative_read)
