-- What a rule line spells, and that reading finds exactly that.
use Rattle.std.specs.Prelude.{◌≡◌, ℕ, ◌<◌, ◌≤◌, true, List, ◌++◌, length, take, drop, Some, Ok}
use Rattle.std.specs.List.{prefix_len, AllByRecursion}
use Rattle.logic.specs.Limits as limits
use Rattle.logic.specs.Syntax.{Clause}
use Rattle.logic.specs.Words.{clause_words}
use Rattle.logic.specs.Lawful.{Lawful}
use Rattle.logic.specs.Names.{name_byte}
use Rattle.logic.specs.Symbols.{row_at, name_of}
use Rattle.logic.specs.Directory.{place_of_name}
use Rattle.logic.specs.declared.row.SymbolRow.{SymbolRow}
use Rattle.tokens.specs.declared.byte.Class.TheVariants.{Space}
use Rattle.tokens.specs.Bytes.{within}
use Rattle.tokens.specs.Tokens.{Tok, word, class}
use Rattle.tokens.specs.Forms.{largest_number}
use Rattle.lines.specs.Rules.{Ruled, rule_line}
use Rattle.spelling.specs.Spacing.{Spaced}
use Rattle.spelling.specs.Grammar.{SymbolName, SpellsRule}
use Rattle.spelling.specs.Appearance.{clause_symbols, Appear, PlainRow}

-- ── Before the line ──

-- n symbols are counted in these rows: within the store and the limit, each with a settled arity
pub record Counted (n : ℕ) (rows : List SymbolRow) : Type 0 where
  pub room : n ≤ length rows
  pub few : n ≤ limits.symbols
  pub settled : (k : ℕ) → k < n → (row_at rows k).arity ≤ limits.arguments

-- ── What the line spells ──

-- the table that a line leads to: the n symbols as they were, then new ones, which the store and the limit hold
pub record Extends (n : ℕ) (rows table : List SymbolRow) : Type 0 where
  pub kept : take n table ≡ take n rows
  pub plain : (k : ℕ) → n ≤ k → k < length table → PlainRow (row_at table k)
  pub settled : (k : ℕ) → n ≤ k → k < length table → (row_at table k).arity ≤ limits.arguments
  pub few : length table ≤ limits.symbols
  pub room : length table ≤ length rows

-- the line spells the rule of this number with this clause: its tokens, however spaced, are those of the grammar over
-- the table, in which the new symbols stand as they appear
pub record SpellsRuleLine (line : List ℕ) (n : ℕ) (rows : List SymbolRow) (number : ℕ) (c : Clause) (table : List SymbolRow) : Type 0 where
  pub tokens : List Tok
  pub spaced : Spaced line tokens
  pub spelled : SpellsRule table number c tokens
  pub appear : Appear true n (clause_symbols c) (length table)
  pub extends : Extends n rows table

-- ── What reading it leaves ──

-- a store after words were written from its start on: as many of them as it holds, and the rest as it was
abbrev pub stored : List ℕ → List ℕ → List ℕ
stored out ws = take (length out) ws ++ drop (length ws) out

-- the place of the opening bracket, the number, the count of words, and the stores
abbrev pub rule_read : List ℕ → List ℕ → List SymbolRow → ℕ → Clause → List SymbolRow → Ruled
rule_read line out rows number c table =
    record {
      place = prefix_len (within Space) line;
      number = number;
      words = length (clause_words c);
      out = stored out (clause_words c);
      symbols = length table;
      rows = table ++ drop (length table) rows;
    }

-- ── The theorems ──

-- a line reads as a rule exactly when it spells one, with that number, clause and table
abbrev pub RulesAreReadAsSpelled : Type 0
RulesAreReadAsSpelled =
    (line out : List ℕ) (n : ℕ) (rows : List SymbolRow) → Counted n rows → (r : Ruled)
    → (rule_line line out n rows ≡ Ok r
    → (number : ℕ) × (c : Clause) × (table : List SymbolRow) × SpellsRuleLine line n rows number c table × (r ≡ rule_read line out rows number c table))
    × ((number : ℕ) (c : Clause) (table : List SymbolRow) → SpellsRuleLine line n rows number c table → r ≡ rule_read line out rows number c table
    → rule_line line out n rows ≡ Ok r)

-- two readings of one line agree
abbrev pub RulesAreSpelledOneWay : Type 0
RulesAreSpelledOneWay =
    (line : List ℕ) (n : ℕ) (rows : List SymbolRow) → Counted n rows → (number number' : ℕ) (c c' : Clause) (table table' : List SymbolRow)
    → SpellsRuleLine line n rows number c table → SpellsRuleLine line n rows number' c' table' → (number ≡ number') × (c ≡ c') × (table ≡ table')

-- what a line spells is lawful over the table that it leads to
abbrev pub SpelledRulesAreLawful : Type 0
SpelledRulesAreLawful =
    (line : List ℕ) (n : ℕ) (rows : List SymbolRow) → Counted n rows → (number : ℕ) (c : Clause) (table : List SymbolRow)
    → SpellsRuleLine line n rows number c table → Lawful table c

-- each symbol has a name that a line can spell, and no other has it before
pub record Nameable (table : List SymbolRow) : Type 0 where
  pub form : (k : ℕ) → k < length table → SymbolName (name_of (row_at table k))
  pub bytes : (k : ℕ) → k < length table → AllByRecursion (λ b. name_byte b ≡ true) (name_of (row_at table k))
  pub class_is : (k : ℕ) → k < length table → class (name_of (row_at table k)) ≡ word (name_of (row_at table k))
  pub own : (k : ℕ) → k < length table → place_of_name table (name_of (row_at table k)) ≡ Some k

-- every lawful clause over such symbols is that of some line, with any step number
abbrev pub LawfulClausesAreSpelled : Type 0
LawfulClausesAreSpelled =
    (n : ℕ) (rows : List SymbolRow) → Counted n rows → Nameable (take n rows) → (c : Clause) → Lawful (take n rows) c → (number : ℕ) → 0 < number → number ≤ largest_number
    → (line : List ℕ) × SpellsRuleLine line n rows number c (take n rows)
