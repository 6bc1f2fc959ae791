-- The literals of a clause by their numbers, counted from 1, and where they lie in the words.
use Rattle.std.specs.Prelude.{◌≡◌, ℕ, zero, suc, ◌+◌, ◌-◌, ◌<◌, ◌≤◌, false, cond, ◌⊎◌, List, ◌++◌, length, take, drop, Some, None, Option, MatchOption, nat_lt, slice_index_or}
use Rattle.logic.specs.declared.literals.Literals.{Literals}
use Rattle.logic.specs.declared.words.Span.{Span}
use Rattle.logic.specs.Syntax.{Literal, Clause, var, equal}
use Rattle.logic.specs.Words.{literal_words, clause_words}
use Rattle.logic.specs.Walks.{arities, passed, literals_from}

-- what stands for a literal past the end
abbrev pub no_literal : Literal
no_literal = record { negated = false; atom = equal (var 0) (var 0) }

-- literal a of a clause
abbrev pub literal : Clause → ℕ → Literal
literal c a = slice_index_or c (a - 1) no_literal

-- literal a of any words: from behind a - 1 literals up to behind a literals, if words are left there
abbrev pub span_of : (ℕ → ℕ) → List ℕ → ℕ → Option Span
span_of arity ws zero = None
span_of arity ws (suc k) =
    cond (nat_lt (passed arity k ws) (length ws)) (Some (record { start = passed arity k ws; end = passed arity (suc k) ws })) None

-- literal a lies at the span among the words of the clause
pub record Lies (c : Clause) (a : ℕ) (s : Span) : Type 0 where
  pub counted : 0 < a
  pub there : a ≤ length c
  pub starts : s.start ≡ length (clause_words (take (a - 1) c))
  pub ends : s.end ≡ s.start + length (literal_words (literal c a))
  pub words : clause_words c ≡ clause_words (take (a - 1) c) ++ (literal_words (literal c a) ++ clause_words (drop a c))

-- the clause has no literal a, or it lies at the span
abbrev pub LiteralAt : Clause → ℕ → Option Span → Type 0
LiteralAt c a r = MatchOption r ((a ≡ 0) ⊎ (length c < a)) (λ s. Lies c a s)

-- the words of each literal that is still to come
abbrev pub literals_left : Literals → List (List ℕ)
literals_left it = literals_from (arities it.rows.now) 0 it.words.now
