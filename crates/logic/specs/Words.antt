-- The words of a clause: literal after literal, each head before its arguments.
use Rattle.std.specs.Prelude.{ℕ, ◌+◌, cond, List, [], ◌∷◌, ◌++◌}
use Rattle.logic.specs.Syntax.{Term, Terms, Atom, Literal, Clause, var, app, []ₜ, ◌∷ₜ◌, predicate, equal}

-- symbol s; a word below the first symbol's is a variable
abbrev pub symbol_word : ℕ → ℕ
symbol_word s = 256 + s

-- the head of an equation
abbrev pub equality_word : ℕ
equality_word = 512

-- what the head of a negated literal has more
abbrev pub negation : ℕ
negation = 1024

abbrev mutual
  pub term_words : Term → List ℕ
  term_words (var i) = i ∷ []
  term_words (app s ts) = symbol_word s ∷ terms_words ts

  pub terms_words : Terms → List ℕ
  terms_words []ₜ = []
  terms_words (t ∷ₜ ts) = term_words t ++ terms_words ts

-- an atom whose head has `sign` added
abbrev pub atom_words : ℕ → Atom → List ℕ
atom_words sign (predicate p ts) = (sign + symbol_word p) ∷ terms_words ts
atom_words sign (equal s t) = (sign + equality_word) ∷ (term_words s ++ term_words t)

abbrev pub literal_words : Literal → List ℕ
literal_words l = atom_words (cond l.negated negation 0) l.atom

abbrev pub clause_words : Clause → List ℕ
clause_words [] = []
clause_words (l ∷ c) = literal_words l ++ clause_words c
