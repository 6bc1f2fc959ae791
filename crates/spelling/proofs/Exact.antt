-- Rule lines are read exactly as they are spelled.
use Rattle.std.proofs.Common.{◌≡◌, ℕ, ◌+◌, ◌-◌, ◌<◌, ◌≤◌, Bool, true, false, cond, eqb, leb, List, [], ◌∷◌, ◌++◌, length, get_or, take, drop, replicate, Ok, Result, sym, refl, ap, ◌∙◌, subst, arith}
use lib.ListN.{length-replicate}
use Rattle.std.proofs.lemmas.List.{get_or-take, length-take-le, ext_get_or, take_all}
use lib.Seq.{take-append_seam}
use Rattle.std.specs.List.{prefix_len, between}
use Rattle.logic.specs.Names.{digit}
use Rattle.logic.specs.Syntax.{Clause}
use Rattle.logic.specs.Words.{clause_words}
use Rattle.logic.specs.Lawful.{Lawful}
use Rattle.logic.specs.Symbols.{row_at, no_row}
use Rattle.logic.specs.declared.row.SymbolRow.{SymbolRow}
use Rattle.logic.proofs.Spelt.{words_injective}
use Rattle.tokens.specs.declared.byte.Class.TheVariants.{Space, Run}
use Rattle.tokens.specs.declared.fault.Fault.{Fault}
use Rattle.tokens.specs.Bytes.{within, past}
use Rattle.tokens.specs.Tokens.{Tok, opens, closes, equals, number, variable, word, Lexed, variable_run, class, token_at, lex}
use Rattle.lines.specs.Rules.{Ruled, rule_line}
use Rattle.spelling.specs.Appearance.{clause_symbols, Appear, PlainRow}
use Rattle.spelling.specs.Grammar.{SpellsRule, SpellsClause, a_rule}
use Rattle.spelling.specs.Spelling.{Counted, Extends, SpellsRuleLine, stored, rule_read, RulesAreReadAsSpelled, RulesAreSpelledOneWay, SpelledRulesAreLawful}
use Rattle.spelling.proofs.Answers.{ok_same}
use Rattle.spelling.proofs.Spacing.{tokens_spaced, spaced_tokens, by_run, by_equals, by_close, by_open, by_end}
use Rattle.spelling.proofs.LawfulSpelled.{lawful_clause}
use Rattle.spelling.proofs.RulesRead.{RuleRead, rule_read as read-rule}
use Rattle.spelling.proofs.RulesGo.{pour_stored, rows_are, table_settled, RuleDone, rule_done}

-- ── The place of the line's bracket ──

not_opens : (run : List ℕ) → class run ≡ opens → ⊥
not_opens run = by (digit (get_or run 0 0)) (variable_run run)
  where
    by : (a b : Bool) → cond a (number run) (cond b (variable run) (word run)) ≡ opens → ⊥
    by true b e = cc
    by false true e = cc
    by false false e = cc

module _ (bs : List ℕ) (s : ℕ) (l : Lexed) (is : l.tok ≡ opens) where
  abbrev Here : Type 0
  Here = l.end ≡ s + 1

  other : (t : Tok) (e : ℕ) → (t ≡ opens → ⊥) → ◌≡◌ {A = Result Lexed Fault} (Ok (record { tok = t; place = s; end = e })) (Ok l) → Here
  other t e never k = absurd (never (ap (λ (x : Lexed). x.tok) (ok_same k) ∙ is))

  opens_at : token_at bs s ≡ Ok l → Here
  opens_at = from_end (leb (length bs) s)
    where
      from_run : (q : Bool) → by_run bs s [] q ≡ Ok l → Here
      from_run true k = other (class (between s (past Run bs s) bs)) (past Run bs s) (not_opens (between s (past Run bs s) bs)) k
      from_run false k = cc

      from_equals : (q : Bool) → by_equals bs s [] q ≡ Ok l → Here
      from_equals true k = other equals (s + 1) (λ e. cc) k
      from_equals false k = from_run (within Run (get_or bs s 0)) k

      from_close : (q : Bool) → by_close bs s [] q ≡ Ok l → Here
      from_close true k = other closes (s + 1) (λ e. cc) k
      from_close false k = from_equals (eqb (get_or bs s 0) 61) k

      from_open : (q : Bool) → by_open bs s [] q ≡ Ok l → Here
      from_open true k = sym (ap (λ (x : Lexed). x.end) (ok_same k))
      from_open false k = from_close (eqb (get_or bs s 0) 41) k

      from_end : (q : Bool) → by_end bs s [] q ≡ Ok l → Here
      from_end true k = cc
      from_end false k = from_open (eqb (get_or bs s 0) 40) k

pub bracket_place : (bs : List ℕ) (l : Lexed) → lex bs 0 ≡ Ok l → l.tok ≡ opens → l.end - 1 ≡ prefix_len (within Space) bs
unfolding lex
bracket_place bs l e is = let h = opens_at bs (past Space bs 0) l is e in omega arith

-- ── Reading is spelling ──

take_same : (n : ℕ) (xs ys : List SymbolRow) → n ≤ length xs → n ≤ length ys → ((k : ℕ) → k < n → row_at xs k ≡ row_at ys k) → take n xs ≡ take n ys
take_same n xs ys h j same =
    let a = length-take-le n xs h in
    let b = length-take-le n ys j in
    ext_get_or no_row (take n xs) (take n ys) (a ∙ sym b)
    (λ k l. let lt : k < n = omega arith in get_or-take n xs k no_row lt ∙ same k lt ∙ sym (get_or-take n ys k no_row lt))

ruled_same : (p p' q q' w w' : ℕ) (o o' : List ℕ) (n n' : ℕ) (rs rs' : List SymbolRow) → p ≡ p' → q ≡ q' → w ≡ w' → o ≡ o' → n ≡ n' → rs ≡ rs'
    → ◌≡◌ {A = Ruled} (record { place = p; number = q; words = w; out = o; symbols = n; rows = rs }) (record { place = p'; number = q'; words = w'; out = o'; symbols = n'; rows = rs' })
ruled_same p p' q q' w w' o o' n n' rs rs' a b c d e f = cc

module _ (line out : List ℕ) (n : ℕ) (rows : List SymbolRow) (counted : Counted n rows) (r : Ruled) where
  module _ (q : RuleRead line out n rows r) where
    abbrev after : List SymbolRow
    after = take r.symbols r.rows

    long : length after ≡ r.symbols
    long = length-take-le r.symbols r.rows (q.grows.within q.short)

    row_is : (k : ℕ) → k < r.symbols → row_at after k ≡ row_at r.rows k
    row_is k h = get_or-take r.symbols r.rows k no_row h

    old_is : (k : ℕ) → k < n → row_at after k ≡ row_at rows k
    old_is k h = row_is k (omega (arith, q.grows.more)) ∙ (q.grows.kept k h).fixed (counted.settled k h)

    extends : Extends n rows after
    extends =
        record {
          kept = take_same n after rows (omega (arith, long, q.grows.more)) q.short old_is;
          plain = λ k h j. let lt : k < r.symbols = omega (arith, long) in subst PlainRow (sym (row_is k lt)) (q.grows.plain k h lt);
          settled = λ k h j. let lt : k < r.symbols = omega (arith, long) in subst (λ (x : SymbolRow). x.arity ≤ 4) (sym (row_is k lt)) (q.grows.fresh k h lt);
          few = omega (arith, long, q.grows.few q.few);
          room = omega (arith, long, q.grows.long, q.grows.within q.short);
        }

    rows_spelled : r.rows ≡ after ++ drop (length after) rows
    rows_spelled =
        rows_are n rows r.symbols r.rows after q.grows long (omega (arith, q.grows.long, q.grows.within q.short)) (λ k h. sym (row_is k h))

    as_read : r ≡ rule_read line out rows r.number q.read after
    as_read =
        ruled_same r.place (prefix_len (within Space) line) r.number r.number r.words (length (clause_words q.read)) r.out (stored out (clause_words q.read))
        r.symbols (length after) r.rows (after ++ drop (length after) rows) (q.placed ∙ bracket_place line q.opened q.first q.is) refl q.counted
        (q.poured ∙ pour_stored out (clause_words q.read)) (sym long) rows_spelled

    spelled : SpellsRuleLine line n rows r.number q.read after
    spelled =
        record {
          tokens = q.toks;
          spaced = tokens_spaced line 0 q.toks q.there;
          spelled = q.spelled;
          appear = subst (Appear true n (clause_symbols q.read)) (sym long) q.appear;
          extends = extends;
        }

  pub read_is_spelled : rule_line line out n rows ≡ Ok r
      → (step : ℕ) × (c : Clause) × (table : List SymbolRow) × SpellsRuleLine line n rows step c table × (r ≡ rule_read line out rows step c table)
  read_is_spelled e =
      let q : RuleRead line out n rows r = read-rule line out n rows counted.settled r e in
      (r.number, q.read, after q, spelled q, as_read q)

  pub spelled_is_read : (step : ℕ) (c : Clause) (table : List SymbolRow) → SpellsRuleLine line n rows step c table → r ≡ rule_read line out rows step c table
      → rule_line line out n rows ≡ Ok r
  spelled_is_read step c table s e =
      let d : RuleDone line out n rows step c table =
      rule_done line out n rows table counted s.extends step c s.tokens s.spelled s.appear (spaced_tokens line s.spaced 0 refl) in
      d.goes
      ∙ ap (λ p. Ok (record { place = p; number = step; words = length (clause_words c); out = stored out (clause_words c); symbols = length table; rows = table ++ drop (length table) rows }))
      (bracket_place line d.opened d.first d.is)
      ∙ ap Ok (sym e)

pub rules_are_read_as_spelled : RulesAreReadAsSpelled
rules_are_read_as_spelled line out n rows counted r = (read_is_spelled line out n rows counted r, spelled_is_read line out n rows counted r)

-- ── What is spelled is lawful, and spelled one way ──

clause_of : {table : List SymbolRow} {step : ℕ} {c : Clause} {ts : List Tok} → SpellsRule table step c ts → (us : List Tok) × (vs : List Tok) × SpellsClause table c us vs
clause_of (a_rule {ts = ts} m some inner) = (ts, closes ∷ [], inner)

pub spelled_rules_are_lawful : SpelledRulesAreLawful
spelled_rules_are_lawful line n rows counted step c table s =
    lawful_clause table (table_settled n rows table counted s.extends) s.extends.few (clause_of s.spelled).2

-- words that a store has room for stand first in it
pub words_stored : (out ws : List ℕ) → length ws ≤ length out → take (length ws) (stored out ws) ≡ ws
words_stored out ws h = ap (λ xs. take (length ws) (xs ++ drop (length ws) out)) (take_all (length out) ws h) ∙ take-append_seam ws (drop (length ws) out)

-- words that equal stores hold
pub words_same : (out ws vs : List ℕ) → length ws ≤ length out → length vs ≤ length out → length ws ≡ length vs → stored out ws ≡ stored out vs → ws ≡ vs
words_same out ws vs short brief many whole =
    sym (words_stored out ws short) ∙ ap (take (length ws)) whole ∙ ap (λ j. take j (stored out vs)) many ∙ words_stored out vs brief

module _ (line : List ℕ) (n : ℕ) (rows : List SymbolRow) (counted : Counted n rows) (step step' : ℕ) (c c' : Clause) (table table' : List SymbolRow)
    (s : SpellsRuleLine line n rows step c table) (s' : SpellsRuleLine line n rows step' c' table') where
  one_reading : (k : ℕ) → rule_read line (replicate k 0) rows step c table ≡ rule_read line (replicate k 0) rows step' c' table'
  one_reading k =
      ok_same
      (sym (spelled_is_read line (replicate k 0) n rows counted (rule_read line (replicate k 0) rows step c table) step c table s refl)
      ∙ spelled_is_read line (replicate k 0) n rows counted (rule_read line (replicate k 0) rows step' c' table') step' c' table' s' refl)

  one_table : table ≡ table'
  one_table =
      let many : length table ≡ length table' = ap (λ (r : Ruled). r.symbols) (one_reading 0) in
      let whole : table ++ drop (length table) rows ≡ table' ++ drop (length table') rows = ap (λ (r : Ruled). r.rows) (one_reading 0) in
      sym (take-append_seam table (drop (length table) rows)) ∙ ap (take (length table)) whole ∙ ap (λ j. take j (table' ++ drop (length table') rows)) many
      ∙ take-append_seam table' (drop (length table') rows)

  one_list : clause_words c ≡ clause_words c'
  one_list =
      let k : ℕ = length (clause_words c) + length (clause_words c') in
      let out : List ℕ = replicate k 0 in
      let room : length out ≡ k = length-replicate k 0 in
      words_same out (clause_words c) (clause_words c') (omega arith) (omega arith) (ap (λ (r : Ruled). r.words) (one_reading k)) (ap (λ (r : Ruled). r.out) (one_reading k))

  one_clause : c ≡ c'
  one_clause =
      words_injective table c c' (spelled_rules_are_lawful line n rows counted step c table s).0
      (subst (λ (t : List SymbolRow). Lawful t c') (sym one_table) (spelled_rules_are_lawful line n rows counted step' c' table' s')).0 one_list

pub rules_are_spelled_one_way : RulesAreSpelledOneWay
rules_are_spelled_one_way line n rows counted step step' c c' table table' s s' = (
  ap (λ (r : Ruled). r.number) (one_reading line n rows counted step step' c c' table table' s s' 0),
  one_clause line n rows counted step step' c c' table table' s s',
  one_table line n rows counted step step' c c' table table' s s',
)
