-- What the grammar spells is lawful.
use Rattle.std.proofs.Common.{ℕ, ◌<◌, ◌≤◌, List, length, subst, arith}
use Rattle.std.specs.List.{AllByRecursion}
use Rattle.logic.specs.Syntax.{Term, Terms, Atom, Literal, Clause}
use Rattle.logic.specs.Lawful.{count, deep, deeps, LawfulTerm, LawfulTerms, LawfulAtom, Lawful}
use Rattle.logic.specs.Symbols.{row_at, Symbol}
use Rattle.logic.specs.declared.row.SymbolRow.{SymbolRow}
use Rattle.logic.specs.declared.row.Kind.{Kind}
use Rattle.tokens.specs.Tokens.{Tok}
use Rattle.spelling.specs.Grammar.{Names, SpellsTerm, SpellsTerms, SpellsAtom, SpellsLiteral, SpellsLiterals, SpellsClause, a_variable, an_application, no_terms, more_terms, an_atom, an_equation, positive, negative, no_literals, more_literals, a_clause}
use Rattle.spelling.proofs.Tables.{within_table}

module _ (table : List SymbolRow) (settled : (k : ℕ) → k < length table → (row_at table k).arity ≤ 4) (few : length table ≤ 256) where
  named_symbol : (r : List ℕ) (s : ℕ) (k : Kind) (a : ℕ) → Names table r s k a → Symbol table s k a
  named_symbol r s k a n =
      let lt = (within_table r table s n.first).0 in
      (omega arith, lt, n.kind, n.arity, subst (λ (x : ℕ). x ≤ 4) n.arity (settled s lt))

  mutual
    pub lawful_term : {room : ℕ} {t : Term} {ts us : List Tok} → SpellsTerm table room t ts us → LawfulTerm table t × (deep t ≤ room)
    lawful_term (a_variable some v) = (omega (arith, v.small), omega arith)
    lawful_term (an_application {s = s} {args = qs} {r = r} names inner) =
        let i = lawful_terms inner in
        ((named_symbol r s _ (count qs) names, i.0), omega (arith, i.1))

    lawful_terms : {room : ℕ} {qs : Terms} {ts us : List Tok} → SpellsTerms table room qs ts us → LawfulTerms table qs × (deeps qs ≤ room)
    lawful_terms (no_terms) = (tt, omega arith)
    lawful_terms (more_terms x y) =
        let i = lawful_term x in
        let j = lawful_terms y in
        ((i.0, j.0), omega (arith, i.1, j.1))

  lawful_atom : {a : Atom} {ts us : List Tok} → SpellsAtom table a ts us → LawfulAtom table a
  lawful_atom (an_atom {p = p} {args = qs} {r = r} names inner) = let i = lawful_terms inner in (named_symbol r p _ (count qs) names, i.0, i.1)
  lawful_atom (an_equation x y) =
      let i = lawful_term x in
      let j = lawful_term y in
      (i.0, j.0, i.1, j.1)

  lawful_literal : {l : Literal} {ts us : List Tok} → SpellsLiteral table l ts us → LawfulAtom table l.atom
  lawful_literal (positive x) = lawful_atom x
  lawful_literal (negative x) = lawful_atom x

  lawful_literals : {c : Clause} {ts us : List Tok} → SpellsLiterals table c ts us → AllByRecursion (λ l. LawfulAtom table l.atom) c
  lawful_literals (no_literals) = tt
  lawful_literals (more_literals x y) = (lawful_literal x, lawful_literals y)

  pub lawful_clause : {c : Clause} {ts us : List Tok} → SpellsClause table c ts us → Lawful table c
  lawful_clause (a_clause short inner) = (lawful_literals inner, short)
