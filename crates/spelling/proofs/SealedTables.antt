-- Where no name is entered the symbols and their rows stay as they were.
use Rattle.std.proofs.Common.{◌≡◌, ℕ, Bool, false, List, [], ◌∷◌, ◌++◌, length, refl, inl, inr, arith}
use Rattle.std.proofs.lemmas.List.{ext_get_or}
use Rattle.std.proofs.lemmas.Bool.{cases_lt}
use Rattle.logic.specs.Syntax.{Term, Terms, Atom, Literal, Clause}
use Rattle.logic.specs.Symbols.{no_row}
use Rattle.logic.specs.declared.row.SymbolRow.{SymbolRow}
use Rattle.tokens.specs.Tokens.{Tok}
use Rattle.spelling.specs.Appearance.{term_symbols, terms_symbols, atom_symbols, clause_symbols, Appear, none_more, known, next}
use Rattle.spelling.specs.Grammar.{SpellsTerm, SpellsTerms, SpellsAtom, SpellsLiteral, SpellsLiterals, SpellsClause, a_variable, an_application, no_terms, more_terms, an_atom, an_equation, positive, negative, no_literals, more_literals, a_clause}
use Rattle.spelling.proofs.Tables.{Grows, within_table}
use Rattle.spelling.proofs.Appearing.{appear_join}
use Rattle.spelling.proofs.RulesRead.{Settled}

pub appear_sealed : (n : ℕ) (ss : List ℕ) (m : ℕ) → Appear false n ss m → m ≡ n
appear_sealed n [] m none_more = refl
appear_sealed n (s ∷ ss) m (known lt f) = appear_sealed n ss m f
appear_sealed n (s ∷ ss) m (next y f) = cc

pub rows_sealed : (n : ℕ) (rows : List SymbolRow) (m : ℕ) (rows' : List SymbolRow) → Settled n rows → Grows n rows m rows' → m ≡ n → rows' ≡ rows
rows_sealed n rows m rows' s g e =
    ext_get_or no_row rows' rows g.long
    (λ k h. elim (cases_lt k n) [ inl lt ↦ (g.kept k lt).fixed (s k lt) | inr ge ↦ g.beyond k (omega arith) ])

-- every symbol that is spelled over a table is one of it
module _ (may : Bool) (table : List SymbolRow) where
  abbrev Stays : List ℕ → Type 0
  Stays ss = Appear may (length table) ss (length table)

  join : (ss ts : List ℕ) → Stays ss → Stays ts → Stays (ss ++ ts)
  join ss ts f g = appear_join may (length table) ss (length table) ts (length table) f g

  mutual
    pub term_stays : {room : ℕ} {t : Term} {ts us : List Tok} → SpellsTerm table room t ts us → Stays (term_symbols t)
    term_stays (a_variable some v) = none_more
    term_stays (an_application {s = s} {r = r} names inner) = known (within_table r table s names.first).0 (terms_stay inner)

    terms_stay : {room : ℕ} {qs : Terms} {ts us : List Tok} → SpellsTerms table room qs ts us → Stays (terms_symbols qs)
    terms_stay (no_terms) = none_more
    terms_stay (more_terms {t = t} {args = qs} x y) = join (term_symbols t) (terms_symbols qs) (term_stays x) (terms_stay y)

  atom_stays : {a : Atom} {ts us : List Tok} → SpellsAtom table a ts us → Stays (atom_symbols a)
  atom_stays (an_atom {p = p} {r = r} names inner) = known (within_table r table p names.first).0 (terms_stay inner)
  atom_stays (an_equation {s = s} {t = t} x y) = join (term_symbols s) (term_symbols t) (term_stays x) (term_stays y)

  literal_stays : {l : Literal} {ts us : List Tok} → SpellsLiteral table l ts us → Stays (atom_symbols l.atom)
  literal_stays (positive x) = atom_stays x
  literal_stays (negative x) = atom_stays x

  literals_stay : {c : Clause} {ts us : List Tok} → SpellsLiterals table c ts us → Stays (clause_symbols c)
  literals_stay (no_literals) = none_more
  literals_stay (more_literals {l = l} {c = c} x y) = join (atom_symbols l.atom) (clause_symbols c) (literal_stays x) (literals_stay y)

  pub clause_stays : {c : Clause} {ts us : List Tok} → SpellsClause table c ts us → Stays (clause_symbols c)
  clause_stays (a_clause few inner) = literals_stay inner
