-- Positions on words.
use Rattle.std.specs.Prelude.{◌≡◌, ℕ, ◌-◌, Bool, cond, ◌&&◌, List, [], ◌∷◌, ◌++◌, take, drop, Some, None, Option, MatchOption, nat_le}
use Rattle.std.specs.List.{between}
use Rattle.logic.specs.declared.row.SymbolRow.{SymbolRow}
use Rattle.logic.specs.declared.words.Span.{Span}
use Rattle.logic.specs.Syntax.{Term, Literal}
use Rattle.logic.specs.Words.{term_words, literal_words}
use Rattle.logic.specs.Lawful.{LawfulTerm}
use Rattle.logic.specs.Walks.{word_arity, past}
use Rattle.inference.specs.Positions.{at_position, put}
use Rattle.inference.specs.Conclusions.{Leads}

-- k is the number of one of n arguments, counted from 1
abbrev pub numbers : ℕ → ℕ → Bool
numbers k n = nat_le 1 k && nat_le k n

-- the words from argument k on of the term or literal with which the words begin, if it has so many
abbrev pub stepped : (ℕ → ℕ) → List ℕ → ℕ → Option (List ℕ)
stepped arity [] k = None
stepped arity (w ∷ ws) k = cond (numbers k (word_arity arity w)) (Some (past arity (k - 1) ws)) None

-- what f gives for the words, if there are any
abbrev pub then : Option (List ℕ) → (List ℕ → Option (List ℕ)) → Option (List ℕ)
then None f = None
then (Some ws) f = f ws

-- the words from the term on to which a position leads from the term or literal with which the words begin
abbrev pub reached : (ℕ → ℕ) → List ℕ → List ℕ → Option (List ℕ)
reached arity ws [] = Some ws
reached arity ws (k ∷ p) = then (stepped arity ws k) (λ vs. reached arity vs p)

-- a place in the words, as the words from there on
abbrev pub from_place : Option ℕ → List ℕ → Option (List ℕ)
from_place None ws = None
from_place (Some x) ws = Some (drop x ws)

-- the term to which the position leads in the literal, which begins at the place `from` of the words and has `rest` behind
-- it: the term's words lie at the span, and with another term's in their place the words are those with the literal
-- replaced
pub record Found (rows : List SymbolRow) (l : Literal) (p ws : List ℕ) (from : ℕ) (rest : List ℕ) (s : Span) : Type 0 where
  pub term : Term
  pub there : at_position l p ≡ Some term
  pub lawful : LawfulTerm rows term
  pub here : between s.start s.end ws ≡ term_words term
  pub replaced : (new : Term) → take s.start ws ++ (term_words new ++ drop s.end ws) ≡ take from ws ++ (literal_words (put l p new) ++ rest)

-- the position leads to no term of the literal, or to one that is found at the span
abbrev pub Led : List SymbolRow → Literal → List ℕ → List ℕ → ℕ → List ℕ → Option Span → Type 0
Led rows l p ws from rest r = MatchOption r (Leads l p → ⊥) (λ s. Found rows l p ws from rest s)
