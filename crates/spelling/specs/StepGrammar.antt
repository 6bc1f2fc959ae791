-- Justifications and step lines as tokens spell them over a symbol table.
use Rattle.std.specs.Prelude.{◌≡◌, ℕ, ◌<◌, ◌≤◌, Bool, true, false, cond, List, [], ◌∷◌, ◌++◌, length, Some, codes, ◌==◌, slice_index}
use Rattle.logic.specs.Limits as limits
use Rattle.logic.specs.Names.{letter}
use Rattle.logic.specs.Syntax.{Term, Clause}
use Rattle.logic.specs.Words.{term_words}
use Rattle.logic.specs.declared.row.SymbolRow.{SymbolRow}
use Rattle.tokens.specs.Tokens.{Tok, opens, closes, number, variable, word}
use Rattle.tokens.specs.Forms.{largest_number}
use Rattle.reading.specs.Limits as reading
use Rattle.lines.specs.Limits as lines
use Rattle.lines.specs.declared.shape.Shape.{Shape}
use Rattle.lines.specs.Justifications.{Table}
use Rattle.spelling.specs.Grammar.{Numeral, VariableRun, SpellsTerm, SpellsClause}

-- a variable and the term that it is bound to
pub record Binding : Type 0 where
  pub variable : ℕ
  pub term : Term

-- the words of the terms, one after another
abbrev pub bound_words : List Binding → List ℕ
bound_words [] = []
bound_words (b ∷ bs) = term_words b.term ++ bound_words bs

-- what a step gives as its reason: the keyword of an inference rule, with its shape, and the parts that this has
pub record Reason : Type 0 where
  pub keyword : List ℕ
  pub shape : Shape
  pub premises : List ℕ
  pub literals : List ℕ
  pub position : List ℕ
  pub bindings : List Binding

-- a name that may be a keyword: at most 16 bytes, a letter first
pub record KeywordName (run : List ℕ) : Type 0 where
  pub short : length run ≤ limits.name_bytes
  pub lettered : letter (slice_index run 0) ≡ true

-- how many numbers a shape asks for: none, one or two
abbrev pub due : ℕ → ℕ
due wanted = cond (wanted == 0) 0 (cond (wanted == 1) 1 2)

-- In each relation the first list of tokens begins with what is spelled, and the second is what follows it.

-- numbers in a row
pub data SpellsNumbers : List ℕ → List Tok → List Tok → Type 0 where
  no_numbers : {ts : List Tok} → SpellsNumbers [] ts ts
  more_numbers :
      {n : ℕ} {ns r : List ℕ} {ts us : List Tok} → Numeral r r largest_number n → SpellsNumbers ns ts us → SpellsNumbers (n ∷ ns) (number r ∷ ts) us

-- a position, where one is due
pub data SpellsPosition : Bool → List ℕ → List Tok → List Tok → Type 0 where
  no_position : {ts : List Tok} → SpellsPosition false [] ts ts
  a_position :
      {ns : List ℕ} {ts us : List Tok} → length ns ≤ lines.position_numbers → SpellsNumbers ns ts (closes ∷ us) → SpellsPosition true ns (opens ∷ ts) us

module _ (table : List SymbolRow) where
  pub data SpellsBindings : List Binding → List Tok → List Tok → Type 0 where
    no_bindings : {ts : List Tok} → SpellsBindings [] ts ts
    more_bindings :
        {v : ℕ} {t : Term} {bs : List Binding} {r : List ℕ} {ts us vs : List Tok} → VariableRun r v → SpellsTerm table limits.depth t ts (closes ∷ us)
        → SpellsBindings bs us vs → SpellsBindings (record { variable = v; term = t } ∷ bs) (opens ∷ variable r ∷ ts) vs

  -- a list of bindings, where one is due
  pub data SpellsBindingList : Bool → List Binding → List Tok → List Tok → Type 0 where
    no_list : {ts : List Tok} → SpellsBindingList false [] ts ts
    a_list :
        {bs : List Binding} {ts us : List Tok} → length bs ≤ reading.bindings → length (bound_words bs) ≤ reading.binding_words → SpellsBindings bs ts (closes ∷ us)
        → SpellsBindingList true bs (opens ∷ ts) us

  -- a justification: the keyword, then the parts that its shape has, in this order
  pub data SpellsReason (shapes : Table) : Reason → List Tok → List Tok → Type 0 where
    a_reason :
        {r : Reason} {ts₁ ts₂ ts₃ ts₄ us : List Tok} → KeywordName r.keyword → shapes r.keyword ≡ Some r.shape
        → length r.premises ≡ due r.shape.premises → SpellsNumbers r.premises ts₁ ts₂ → length r.literals ≡ due r.shape.literals
        → SpellsNumbers r.literals ts₂ ts₃ → SpellsPosition r.shape.position r.position ts₃ ts₄
        → SpellsBindingList r.shape.bindings r.bindings ts₄ (closes ∷ us) → SpellsReason shapes r (opens ∷ word r.keyword ∷ ts₁) us

  -- a whole step line
  pub data SpellsStep (shapes : Table) : ℕ → Reason → Clause → List Tok → Type 0 where
    a_step :
        {n : ℕ} {reason : Reason} {c : Clause} {r : List ℕ} {ts us : List Tok} → Numeral r r largest_number n → 0 < n → SpellsReason shapes reason ts us
        → SpellsClause table c us (closes ∷ []) → SpellsStep shapes n reason c (opens ∷ word (codes "step") ∷ number r ∷ ts)
