-- Terms, clauses and rule lines as tokens spell them over a symbol table.
use Rattle.std.specs.Prelude.{◌≡◌, ℕ, suc, ◌-◌, ◌<◌, ◌≤◌, true, false, List, [], ◌∷◌, length, drop, Some, codes, slice_index}
use Rattle.logic.specs.Limits as limits
use Rattle.logic.specs.Names.{letter}
use Rattle.logic.specs.Syntax.{Term, Terms, Atom, Literal, Clause, var, app, []ₜ, ◌∷ₜ◌, predicate, equal}
use Rattle.logic.specs.Lawful.{count}
use Rattle.logic.specs.Symbols.{row_at}
use Rattle.logic.specs.Directory.{place_of_name}
use Rattle.logic.specs.declared.row.SymbolRow.{SymbolRow}
use Rattle.logic.specs.declared.row.Kind.{Kind}
use Rattle.logic.specs.declared.row.Kind.TheVariants.{Function, Predicate}
use Rattle.tokens.specs.Tokens.{Tok, opens, closes, equals, number, variable, word}
use Rattle.tokens.specs.Forms.{decimal, value, reserved, largest_number}

-- a run of at most 16 bytes whose digits are the decimal numeral of n, which is at most `most`
pub record Numeral (run digits : List ℕ) (most n : ℕ) : Type 0 where
  pub short : length run ≤ limits.name_bytes
  pub plain : decimal digits ≡ true
  pub worth : value digits ≡ n
  pub small : n ≤ most

-- the run of variable i: v and its number
abbrev pub VariableRun : List ℕ → ℕ → Type 0
VariableRun run i = Numeral run (drop 1 run) (limits.variables - 1) i

-- a name that may be a symbol's: at most 16 bytes, a letter first, neither `or` nor `not`
pub record SymbolName (run : List ℕ) : Type 0 where
  pub short : length run ≤ limits.name_bytes
  pub lettered : letter (slice_index run 0) ≡ true
  pub free : reserved run ≡ false

-- the name stands for symbol s of the table, which has this kind and arity
pub record Names (table : List SymbolRow) (run : List ℕ) (s : ℕ) (k : Kind) (a : ℕ) : Type 0 where
  pub form : SymbolName run
  pub first : place_of_name table run ≡ Some s
  pub kind : (row_at table s).kind ≡ k
  pub arity : (row_at table s).arity ≡ a

-- In each relation the first list of tokens begins with what is spelled, and the second is what follows it.
module _ (table : List SymbolRow) where
  -- a term that goes at most so deep
  mutual
    pub data SpellsTerm : ℕ → Term → List Tok → List Tok → Type 0 where
      a_variable : {room i : ℕ} {r : List ℕ} {ts : List Tok} → 0 < room → VariableRun r i → SpellsTerm room (var i) (variable r ∷ ts) ts
      an_application :
          {room s : ℕ} {args : Terms} {r : List ℕ} {ts us : List Tok} → Names table r s Function (count args)
          → SpellsTerms room args ts (closes ∷ us) → SpellsTerm (suc room) (app s args) (opens ∷ word r ∷ ts) us

    pub data SpellsTerms : ℕ → Terms → List Tok → List Tok → Type 0 where
      no_terms : {room : ℕ} {ts : List Tok} → SpellsTerms room []ₜ ts ts
      more_terms :
          {room : ℕ} {t : Term} {args : Terms} {ts us vs : List Tok} → SpellsTerm room t ts us → SpellsTerms room args us vs
          → SpellsTerms room (t ∷ₜ args) ts vs

  -- an atom behind its opening bracket
  pub data SpellsAtom : Atom → List Tok → List Tok → Type 0 where
    an_atom :
        {p : ℕ} {args : Terms} {r : List ℕ} {ts us : List Tok} → Names table r p Predicate (count args)
        → SpellsTerms limits.depth args ts (closes ∷ us) → SpellsAtom (predicate p args) (word r ∷ ts) us
    an_equation :
        {s t : Term} {ts us vs : List Tok} → SpellsTerm limits.depth s ts us → SpellsTerm limits.depth t us (closes ∷ vs)
        → SpellsAtom (equal s t) (equals ∷ ts) vs

  pub data SpellsLiteral : Literal → List Tok → List Tok → Type 0 where
    positive : {a : Atom} {ts us : List Tok} → SpellsAtom a ts us → SpellsLiteral (record { negated = false; atom = a }) (opens ∷ ts) us
    negative :
        {a : Atom} {ts us : List Tok} → SpellsAtom a ts (closes ∷ us)
        → SpellsLiteral (record { negated = true; atom = a }) (opens ∷ word (codes "not") ∷ opens ∷ ts) us

  pub data SpellsLiterals : Clause → List Tok → List Tok → Type 0 where
    no_literals : {ts : List Tok} → SpellsLiterals [] ts ts
    more_literals :
        {l : Literal} {c : Clause} {ts us vs : List Tok} → SpellsLiteral l ts us → SpellsLiterals c us vs → SpellsLiterals (l ∷ c) ts vs

  pub data SpellsClause : Clause → List Tok → List Tok → Type 0 where
    a_clause :
        {c : Clause} {ts us : List Tok} → length c ≤ limits.literals → SpellsLiterals c ts (closes ∷ us)
        → SpellsClause c (opens ∷ word (codes "or") ∷ ts) us

  -- a whole rule line
  pub data SpellsRule : ℕ → Clause → List Tok → Type 0 where
    a_rule :
        {n : ℕ} {c : Clause} {r : List ℕ} {ts : List Tok} → Numeral r r largest_number n → 0 < n → SpellsClause c ts (closes ∷ [])
        → SpellsRule n c (opens ∷ word (codes "rule") ∷ number r ∷ ts)
