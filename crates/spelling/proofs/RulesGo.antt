-- A rule line that is spelled is read.
use Rattle.std.proofs.Common.{◌≡◌, ℕ, zero, suc, ◌+◌, ◌-◌, ◌<◌, ◌≤◌, true, false, cond, ◌||◌, eqb, List, [], ◌∷◌, ◌++◌, length, get_or, take, drop, set, Ok, Err, codes, Result, sym, refl, ap, ◌∙◌, subst, ap₂, inl, inr, arith, length-append, length-drop}
use Rattle.std.proofs.lemmas.List.{get_or-take, get_or_append_left, get_or-append_right, get_or-drop, ext_get_or}
use Rattle.std.proofs.lemmas.Bool.{cases_lt, cond-false, le-ltb, ne_eqb}
use Rattle.logic.specs.Syntax.{Clause}
use Rattle.logic.specs.Words.{clause_words}
use Rattle.logic.specs.Symbols.{row_at, no_row}
use Rattle.logic.specs.declared.row.SymbolRow.{SymbolRow}
use Rattle.tokens.specs.declared.fault.Fault.TheVariants.{Form, Count}
use Rattle.tokens.specs.Tokens.{Tok, opens, closes, number, word, Lexed, lex}
use Rattle.tokens.specs.Forms.{number_form, largest_number}
use Rattle.reading.specs.declared.purpose.Purpose.TheVariants.{Rule}
use Rattle.reading.specs.States.{State, Halt, halt, ◌>>=◌, ◌then◌, lift, from, exceeds}
use Rattle.reading.specs.Clauses.{opening, closing, wording, clause, clause_from}
use Rattle.lines.specs.Numbers.{Numbered}
use Rattle.lines.specs.Numbers.{number_at, step_number, ended, line_end}
use Rattle.lines.specs.Rules.{Ruled, rule_line}
use Rattle.spelling.specs.Appearance.{clause_symbols, Appear}
use Rattle.spelling.specs.Grammar.{Numeral, SpellsRule, SpellsClause, a_rule}
use Rattle.spelling.specs.Spelling.{Counted, Extends, stored}
use Rattle.spelling.proofs.Tables.{RowGrows, row_stays, Grows, Fits}
use Rattle.spelling.proofs.Streams.{Tokens, stop, pour}
use Rattle.spelling.proofs.Appearing.{appear_more}
use Rattle.spelling.proofs.HeadsGo.{Final, numeral_goes}
use Rattle.spelling.proofs.TermsGo.{first_token, Toward}
use Rattle.spelling.proofs.ClausesGo.{Done, clause_done, opening_goes, closing_goes, wording_goes}
use Rattle.spelling.proofs.ClausesRead.{ClauseRead, clause_read}
use Rattle.spelling.proofs.RulesRead.{start, settled_after}

-- ── Words in their store ──

pour_later : (x : ℕ) (out : List ℕ) (n : ℕ) (ws : List ℕ) → pour (x ∷ out) (suc n) ws ≡ x ∷ pour out n ws
pour_later x out n [] = refl
pour_later x out n (w ∷ ws) =
    let e : suc n + 1 ≡ suc (n + 1) = omega arith in
    ap (λ m. pour (x ∷ set out n w) m ws) e ∙ pour_later x (set out n w) (n + 1) ws

pour_nothing : (n : ℕ) (ws : List ℕ) → pour [] n ws ≡ []
pour_nothing n [] = refl
pour_nothing n (w ∷ ws) = pour_nothing (n + 1) ws

take_nothing : (n : ℕ) → take {A = ℕ} n [] ≡ []
take_nothing zero = refl
take_nothing (suc n) = refl

pub pour_stored : (out ws : List ℕ) → pour out 0 ws ≡ stored out ws
pour_stored out [] = sym (ap (λ xs. xs ++ out) (take_nothing (length out)))
pour_stored [] (w ∷ ws) = pour_nothing 1 ws
pour_stored (x ∷ out) (w ∷ ws) = pour_later w out 0 ws ∙ ap (λ r. w ∷ r) (pour_stored out ws)

-- ── The rows at the end ──

pub rows_are : (n : ℕ) (rows : List SymbolRow) (m : ℕ) (rows' table : List SymbolRow) → Grows n rows m rows' → length table ≡ m → m ≤ length rows
    → ((k : ℕ) → k < m → row_at rows' k ≡ row_at table k) → rows' ≡ table ++ drop (length table) rows
rows_are n rows m rows' table g long short same =
    ext_get_or no_row rows' (table ++ drop (length table) rows) (omega (arith, g.long, length-append table (drop (length table) rows), length-drop (length table) rows))
    (λ k h.
    elim (cases_lt k m) [
      | inl lt ↦ same k lt ∙ sym (get_or_append_left table (drop (length table) rows) no_row k (omega arith))
      | inr ge ↦
          let back : length table + (k - m) ≡ k = omega arith in
          g.beyond k ge
          ∙ sym (get_or-append_right table (drop (length table) rows) m k no_row long ge ∙ get_or-drop (length table) rows (k - m) no_row ∙ ap (λ j. get_or rows j no_row) back)
    ])

-- the first n rows of the table are the counted ones
pub kept_row : (n : ℕ) (rows table : List SymbolRow) → take n table ≡ take n rows → (k : ℕ) → k < n → row_at table k ≡ row_at rows k
kept_row n rows table e k h = sym (get_or-take n table k no_row h) ∙ ap (λ xs. row_at xs k) e ∙ get_or-take n rows k no_row h

module _ (n : ℕ) (rows table : List SymbolRow) (counted : Counted n rows) (extends : Extends n rows table) where
  pub table_settled : (k : ℕ) → k < length table → (row_at table k).arity ≤ 4
  table_settled k h = elim (cases_lt k n) [
    | inl lt ↦ subst (λ (r : SymbolRow). r.arity ≤ 4) (sym (kept_row n rows table extends.kept k lt)) (counted.settled k lt)
    | inr ge ↦ extends.settled k ge h
  ]

  pub final : Final n table
  final = record { settled = table_settled; few = extends.few; plain = extends.plain }

  pub fits_start : n ≤ length table → Fits n rows table
  fits_start le =
      record {
        enough = le;
        settled = table_settled;
        kept = λ k h. subst (RowGrows (row_at rows k)) (sym (kept_row n rows table extends.kept k h)) (row_stays (row_at rows k));
      }

-- ── The line ──

pub step_goes : (bs : List ℕ) (p : ℕ) (l : Lexed) (r : List ℕ) (n : ℕ) → lex bs p ≡ Ok l → l.tok ≡ number r → Numeral r r largest_number n → 0 < n
    → step_number bs p ≡ Ok (record { number = n; place = l.place; end = l.end })
step_goes bs p l r n e t m some =
    let found : number_at bs p ≡ Ok (record { number = n; place = l.place; end = l.end }) =
    ap (λ z. z then λ x. number_form x.tok x.place then λ y. Ok (record { number = y; place = x.place; end = x.end })) e
    ∙ ap (λ z. number_form z l.place then λ y. Ok (record { number = y; place = l.place; end = l.end })) t
    ∙ ap (λ z. z then λ y. Ok (record { number = y; place = l.place; end = l.end })) (numeral_goes r r largest_number n l.place m) in
    ap (λ z. z then λ x. cond (eqb x.number 0) (Err (Form x.place)) (Ok x)) found
    ∙ cond-false (eqb n 0) (Err (Form l.place)) (Ok (record { number = n; place = l.place; end = l.end })) (ne_eqb n 0 (λ q. omega arith))

pub end_goes : (bs : List ℕ) (p : ℕ) → Tokens bs p [] → line_end bs p ≡ Ok tt
end_goes bs p (stop e) = ap ended e

pub not_exceeding : (n : ℕ) (rows : List SymbolRow) → n ≤ length rows → n ≤ 256 → exceeds n rows ≡ false
not_exceeding n rows h k = ap₂ ◌||◌ (le-ltb (length rows) n h) (le-ltb 256 n k)

line_goes : (bs out : List ℕ) (n : ℕ) (rows : List SymbolRow) (o w c : ℕ) (m : Numbered) (st : State) → exceeds n rows ≡ false → lift n rows (opening bs 0) ≡ Ok o
    → lift n rows (wording (codes "rule") bs o) ≡ Ok w → step_number bs w ≡ Ok m → clause bs (start Rule m.end out n rows) ≡ Ok st → from st (closing bs st.pos) ≡ Ok c
    → line_end bs c ≡ Ok tt
    → rule_line bs out n rows ≡ Ok (record { place = o - 1; number = m.number; words = st.count; out = st.out; symbols = st.symbols; rows = st.rows })
unfolding rule_line
line_goes bs out n rows o w c m st inside opened worded stepped read closed done =
    let last : ℕ → State → Unit → Result Ruled Halt = λ j s u. Ok (record { place = o - 1; number = j; words = s.count; out = s.out; symbols = s.symbols; rows = s.rows }) in
    let behind : ℕ → State → Result Ruled Halt = λ j s. from s (closing bs s.pos) >>= λ q. from s (line_end bs q) >>= last j s in
    ap (λ z. lift n rows (cond z (Err Count) (Ok tt)) >>= λ u. lift n rows (opening bs 0) >>= λ x. lift n rows (wording (codes "rule") bs x) >>= λ y. lift n rows (step_number bs y) >>= λ q. clause_from bs Rule q.end out n rows >>= λ s. from s (closing bs s.pos) >>= λ d. from s (line_end bs d) >>= λ e. Ok (record { place = x - 1; number = q.number; words = s.count; out = s.out; symbols = s.symbols; rows = s.rows })) inside
    ∙ ap (λ z. z >>= λ x. lift n rows (wording (codes "rule") bs x) >>= λ y. lift n rows (step_number bs y) >>= λ q. clause_from bs Rule q.end out n rows >>= λ s. from s (closing bs s.pos) >>= λ d. from s (line_end bs d) >>= λ e. Ok (record { place = x - 1; number = q.number; words = s.count; out = s.out; symbols = s.symbols; rows = s.rows })) opened
    ∙ ap (λ z. z >>= λ y. lift n rows (step_number bs y) >>= λ q. clause_from bs Rule q.end out n rows >>= behind q.number) worded
    ∙ ap (λ z. lift n rows z >>= λ q. clause_from bs Rule q.end out n rows >>= behind q.number) stepped
    ∙ ap (λ z. z >>= behind m.number) (cond-false (exceeds n rows) (Err (halt Count n rows)) (clause bs (start Rule m.end out n rows)) inside ∙ read)
    ∙ ap (λ z. z >>= λ q. from st (line_end bs q) >>= last m.number st) closed
    ∙ ap (λ z. from st z >>= last m.number st) done

ruled_is : (p q words words' : ℕ) (out out' : List ℕ) (n n' : ℕ) (rows rows' : List SymbolRow) → words ≡ words' → out ≡ out' → n ≡ n' → rows ≡ rows'
    → ◌≡◌ {A = Ruled} (record { place = p; number = q; words = words; out = out; symbols = n; rows = rows }) (record { place = p; number = q; words = words'; out = out'; symbols = n'; rows = rows' })
ruled_is p q words words' out out' n n' rows rows' e f g h = cc

-- what is read of a line that is spelled
pub record RuleDone (bs out : List ℕ) (n : ℕ) (rows : List SymbolRow) (step : ℕ) (c : Clause) (table : List SymbolRow) : Type 0 where
  pub opened : Lexed
  pub first : lex bs 0 ≡ Ok opened
  pub is : opened.tok ≡ opens
  pub goes :
      rule_line bs out n rows
      ≡ Ok (record { place = opened.end - 1; number = step; words = length (clause_words c); out = stored out (clause_words c); symbols = length table; rows = table ++ drop (length table) rows })

module _ (bs out : List ℕ) (n : ℕ) (rows table : List SymbolRow) (counted : Counted n rows) (extends : Extends n rows table) where
  abbrev begin : ℕ → State
  begin p = start Rule p out n rows

  toward_start : n ≤ length table → (p : ℕ) → Toward bs Rule n table (final n rows table counted extends) (begin p)
  toward_start le p =
      record { purpose = refl; fits = fits_start n rows table counted extends le; since = omega arith; short = counted.room; room = extends.room }

  -- the stores after the clause
  rows_after : (p : ℕ) (c : Clause) (d : Done bs Rule n table (final n rows table counted extends) (clause bs) (begin p) (clause_words c) (closes ∷ []) (length table))
      → d.b.rows ≡ table ++ drop (length table) rows
  rows_after p c d =
      let r : ClauseRead bs (begin p) d.b (closes ∷ []) = clause_read bs (begin p) d.b (closes ∷ []) counted.room d.goes d.went.left in
      let g : Grows n rows (length table) d.b.rows = subst (λ (m : ℕ). Grows n rows m d.b.rows) d.went.symbols r.grows in
      let f : Fits (length table) d.b.rows table = subst (λ (m : ℕ). Fits m d.b.rows table) d.went.symbols d.went.toward.fits in
      rows_are n rows (length table) d.b.rows table g refl extends.room
      (λ k h. sym ((f.kept k h).fixed (settled_after n rows (length table) d.b.rows counted.settled g k h)))

  by_tokens : (step : ℕ) (c : Clause) (r : List ℕ) (ts : List Tok) → Numeral r r largest_number step → 0 < step → SpellsClause table c ts (closes ∷ [])
      → Appear true n (clause_symbols c) (length table) → Tokens bs 0 (opens ∷ word (codes "rule") ∷ number r ∷ ts) → RuleDone bs out n rows step c table
  by_tokens step c r ts m some inner appear there =
      let o = first_token bs 0 (opens ∷ word (codes "rule") ∷ number r ∷ ts) there in
      let w = first_token bs o.0.end (word (codes "rule") ∷ number r ∷ ts) o.3 in
      let q = first_token bs w.0.end (number r ∷ ts) w.3 in
      let le = appear_more true n (clause_symbols c) (length table) appear in
      let d = clause_done bs Rule n table (final n rows table counted extends) inner (begin q.0.end) (length table) (toward_start le q.0.end) appear (omega arith) (λ k h l. refl) q.3 in
      let x = first_token bs d.b.pos (closes ∷ []) d.went.left in
      let counts : d.b.count ≡ length (clause_words c) = omega (arith, d.went.wrote.counted) in
      record {
        opened = o.0;
        first = o.1;
        is = o.2;
        goes =
            line_goes bs out n rows o.0.end w.0.end x.0.end (record { number = step; place = q.0.place; end = q.0.end }) d.b
            (not_exceeding n rows counted.room counted.few) (opening_goes bs (begin 0) 0 o.0 o.1 o.2)
            (wording_goes bs (begin 0) (codes "rule") o.0.end w.0 w.1 w.2) (step_goes bs w.0.end q.0 r step q.1 q.2 m some) d.goes
            (closing_goes bs d.b d.b.pos x.0 x.1 x.2) (end_goes bs x.0.end x.3)
            ∙ ap Ok
            (ruled_is (o.0.end - 1) step d.b.count (length (clause_words c)) d.b.out (stored out (clause_words c)) d.b.symbols (length table) d.b.rows
            (table ++ drop (length table) rows) counts (d.went.wrote.poured ∙ pour_stored out (clause_words c)) d.went.symbols (rows_after q.0.end c d));
      }

  pub rule_done : (step : ℕ) (c : Clause) (ts : List Tok) → SpellsRule table step c ts → Appear true n (clause_symbols c) (length table) → Tokens bs 0 ts
      → RuleDone bs out n rows step c table
  rule_done step c ts (a_rule {r = r} {ts = us} m some inner) appear there = by_tokens step c r us m some inner appear there
