-- What is read as a rule line is one of the grammar.
use Rattle.std.proofs.Common.{◌≡◌, ℕ, ◌-◌, ◌<◌, ◌≤◌, Bool, true, false, ◌||◌, eqb, ltb, List, [], ◌∷◌, length, take, Ok, Err, codes, Result, sym, refl, ap, subst, inl, inr, arith}
use Rattle.std.proofs.lemmas.List.{get_or-take, length-take-le}
use Rattle.std.proofs.lemmas.Bool.{cases_lt, ltb-false, eqb-false}
use Rattle.logic.specs.Syntax.{Clause}
use Rattle.logic.specs.Words.{clause_words}
use Rattle.logic.specs.Symbols.{row_at, no_row}
use Rattle.logic.specs.declared.row.SymbolRow.{SymbolRow}
use Rattle.tokens.specs.declared.fault.Fault.{Fault}
use Rattle.tokens.specs.declared.fault.Fault.TheVariants.{NoToken, Early, Due, Long, Form, Deep, ManyLiterals, ManyNumbers, ManyBindings, ManyWords, OtherKind, OtherArity, Unknown, ManyArguments, ManySymbols, NoRule, Count}
use Rattle.tokens.specs.Tokens.{Tok, opens, closes, equals, number, variable, word, Lexed, lex}
use Rattle.tokens.specs.Forms.{number_form, largest_number}
use Rattle.reading.specs.declared.purpose.Purpose.{Purpose}
use Rattle.reading.specs.declared.purpose.Purpose.TheVariants.{Rule}
use Rattle.reading.specs.States.{State, halt, lift, from, exceeds, count_checked}
use Rattle.reading.specs.Clauses.{opening, closing, wording, clause, clause_from}
use Rattle.lines.specs.Numbers.{Numbered}
use Rattle.lines.specs.Numbers.{number_at, step_number, ended, line_end}
use Rattle.lines.specs.Rules.{Ruled, rule_line}
use Rattle.spelling.specs.Appearance.{clause_symbols, Appear}
use Rattle.spelling.specs.Grammar.{Numeral, SpellsRule, a_rule}
use Rattle.spelling.proofs.Answers.{ok_same, bind_ok, then_ok, lift_ok, cond_ok}
use Rattle.spelling.proofs.Tables.{RowGrows, row_stays, Grows, Fits}
use Rattle.spelling.proofs.Streams.{Tokens, stop, pour}
use Rattle.spelling.proofs.Heads.{numeral_is}
use Rattle.spelling.proofs.Marks.{TokenRead, token_there, opening_read, closing_read, wording_read}
use Rattle.spelling.proofs.ClausesRead.{ClauseRead, clause_read}

-- ── The symbol table at the end ──

-- every counted row has its arity
abbrev pub Settled : ℕ → List SymbolRow → Type 0
Settled n rows = (k : ℕ) → k < n → (row_at rows k).arity ≤ 4

pub settled_after : (n : ℕ) (rows : List SymbolRow) (m : ℕ) (rows' : List SymbolRow) → Settled n rows → Grows n rows m rows' → Settled m rows'
settled_after n rows m rows' s g k h = elim (cases_lt k n) [
  | inl lt ↦ subst (λ (r : SymbolRow). r.arity ≤ 4) (sym ((g.kept k lt).fixed (s k lt))) (s k lt)
  | inr ge ↦ g.fresh k ge h
]

-- rows that are settled are the table that they become
pub fits_itself : (m : ℕ) (rows : List SymbolRow) → m ≤ length rows → Settled m rows → Fits m rows (take m rows)
fits_itself m rows short s =
    let long : length (take m rows) ≡ m = length-take-le m rows short in
    record {
      enough = omega arith;
      settled = λ k h. let lt : k < m = omega arith in subst (λ (r : SymbolRow). r.arity ≤ 4) (sym (get_or-take m rows k no_row lt)) (s k lt);
      kept = λ k h. subst (RowGrows (row_at rows k)) (sym (get_or-take m rows k no_row h)) (row_stays (row_at rows k));
    }

-- ── Numbers and the end of the line ──

pub number_is : (t : Tok) (at n : ℕ) → number_form t at ≡ Ok n → (r : List ℕ) × (t ≡ number r) × Numeral r r largest_number n
number_is opens at n e = cc
number_is closes at n e = cc
number_is equals at n e = cc
number_is (number r) at n e = (r, refl, numeral_is r r largest_number at n e)
number_is (variable r) at n e = cc
number_is (word r) at n e = cc

pub record NumberRead (bs : List ℕ) (p : ℕ) (m : Numbered) : Type 0 where
  pub run : List ℕ
  pub read : TokenRead bs p (number run) m.end
  pub numeral : Numeral run run largest_number m.number

pub number_read : (bs : List ℕ) (p : ℕ) (m : Numbered) → number_at bs p ≡ Ok m → NumberRead bs p m
number_read bs p m e =
    let l = then_ok (lex bs p) _ m e in
    let n = then_ok (number_form l.0.tok l.0.place) _ m l.2 in
    let i = number_is l.0.tok l.0.place n.0 n.1 in
    let same = ok_same n.2 in
    record {
      run = i.0;
      read = record { lexed = l.0; read = l.1; is = i.1; on = sym (ap (λ (x : Numbered). x.end) same) };
      numeral = subst (λ (x : Numbered). Numeral i.0 i.0 largest_number x.number) same i.2;
    }

pub step_number_read : (bs : List ℕ) (p : ℕ) (m : Numbered) → step_number bs p ≡ Ok m → NumberRead bs p m × (0 < m.number)
step_number_read bs p m e =
    let a = then_ok (number_at bs p) _ m e in
    let b = cond_ok (eqb a.0.number 0) (Form a.0.place) (Ok a.0) m a.2 in
    let same = ok_same b.1 in
    (subst (NumberRead bs p) same (number_read bs p a.0 a.1), subst (λ (x : Numbered). 0 < x.number) same (let d = eqb-false a.0.number 0 b.0 in omega arith))

ended_is : (r : Result Lexed Fault) → ended r ≡ Ok tt → (x : ℕ) × (r ≡ Err (Early x))
ended_is (Ok l) e = cc
ended_is (Err (Early p)) e = (p, refl)
ended_is (Err (NoToken p)) e = cc
ended_is (Err (Due p)) e = cc
ended_is (Err (Long p)) e = cc
ended_is (Err (Form p)) e = cc
ended_is (Err (Deep p)) e = cc
ended_is (Err (ManyLiterals p)) e = cc
ended_is (Err (ManyNumbers p)) e = cc
ended_is (Err (ManyBindings p)) e = cc
ended_is (Err (ManyWords p)) e = cc
ended_is (Err (OtherKind p)) e = cc
ended_is (Err (OtherArity p)) e = cc
ended_is (Err (Unknown p)) e = cc
ended_is (Err (ManyArguments p)) e = cc
ended_is (Err (ManySymbols p)) e = cc
ended_is (Err (NoRule p)) e = cc
ended_is (Err Count) e = cc

pub end_read : (bs : List ℕ) (p : ℕ) → line_end bs p ≡ Ok tt → Tokens bs p []
end_read bs p e = stop (ended_is (lex bs p) e).1

-- ── The line ──

pub within_store : (n : ℕ) (rows : List SymbolRow) → exceeds n rows ≡ false → (n ≤ length rows) × (n ≤ 256)
within_store n rows e = by (ltb (length rows) n) (ltb 256 n) refl refl e
  where
    by : (a b : Bool) → ltb (length rows) n ≡ a → ltb 256 n ≡ b → (a || b) ≡ false → (n ≤ length rows) × (n ≤ 256)
    by false false f g h = (ltb-false (length rows) n f, ltb-false 256 n g)
    by false true f g h = cc
    by true false f g h = cc
    by true true f g h = cc

abbrev pub start : Purpose → ℕ → List ℕ → ℕ → List SymbolRow → State
start p pos out n rows = record { purpose = p; pos = pos; count = 0; out = out; symbols = n; rows = rows }

pub record RuleRead (bs out : List ℕ) (n : ℕ) (rows : List SymbolRow) (l : Ruled) : Type 0 where
  pub read : Clause
  pub toks : List Tok
  pub there : Tokens bs 0 toks
  pub spelled : SpellsRule (take l.symbols l.rows) l.number read toks
  pub appear : Appear true n (clause_symbols read) l.symbols
  pub counted : l.words ≡ length (clause_words read)
  pub poured : l.out ≡ pour out 0 (clause_words read)
  pub grows : Grows n rows l.symbols l.rows
  pub short : n ≤ length rows
  pub few : n ≤ 256
  pub opened : Lexed
  pub first : lex bs 0 ≡ Ok opened
  pub is : opened.tok ≡ opens
  pub placed : l.place ≡ opened.end - 1

module _ (bs out : List ℕ) (n : ℕ) (rows : List SymbolRow) (settled : Settled n rows) (l : Ruled) where
  rule_by : (o w c : ℕ) (m : Numbered) (st : State) → (n ≤ length rows) × (n ≤ 256) → TokenRead bs 0 opens o → TokenRead bs o (word (codes "rule")) w
      → NumberRead bs w m × (0 < m.number) → ClauseRead bs (start Rule m.end out n rows) st (closes ∷ []) → TokenRead bs st.pos closes c → Tokens bs c []
      → record { place = o - 1; number = m.number; words = st.count; out = st.out; symbols = st.symbols; rows = st.rows } ≡ l → RuleRead bs out n rows l
  rule_by o w c m st short opened worded num r close end same =
      subst (RuleRead bs out n rows) same
      (record {
        read = r.read;
        toks = opens ∷ word (codes "rule") ∷ number num.0.run ∷ r.toks;
        there =
            token_there bs 0 opens o (word (codes "rule") ∷ number num.0.run ∷ r.toks) opened
            (token_there bs o (word (codes "rule")) w (number num.0.run ∷ r.toks) worded
            (token_there bs w (number num.0.run) m.end r.toks num.0.read r.there));
        spelled =
            a_rule num.0.numeral num.1
            (r.spelled (take st.symbols st.rows)
            (fits_itself st.symbols st.rows (r.grows.within short.0) (settled_after n rows st.symbols st.rows settled r.grows)));
        appear = r.appear;
        counted = omega (arith, r.wrote.counted);
        poured = r.wrote.poured;
        grows = r.grows;
        short = short.0;
        few = short.1;
        opened = opened.lexed;
        first = opened.read;
        is = opened.is;
        placed = ap (λ x. x - 1) opened.on;
      })

  pub rule_read : rule_line bs out n rows ≡ Ok l → RuleRead bs out n rows l
  unfolding rule_line
  rule_read e =
      let u = bind_ok (lift n rows (count_checked n rows)) _ l e in
      let o = bind_ok (lift n rows (opening bs 0)) _ l u.2 in
      let w = bind_ok (lift n rows (wording (codes "rule") bs o.0)) _ l o.2 in
      let m = bind_ok (lift n rows (step_number bs w.0)) _ l w.2 in
      let st = bind_ok (clause_from bs Rule m.0.end out n rows) _ l m.2 in
      let c = bind_ok (from st.0 (closing bs st.0.pos)) _ l st.2 in
      let f = bind_ok (from st.0 (line_end bs c.0)) _ l c.2 in
      let within = within_store n rows (cond_ok (exceeds n rows) Count (Ok tt) u.0 (lift_ok n rows (count_checked n rows) u.0 u.1)).0 in
      let close = closing_read bs st.0 st.0.pos c.0 c.1 in
      let end = end_read bs c.0 (lift_ok st.0.symbols st.0.rows (line_end bs c.0) f.0 f.1) in
      rule_by o.0 w.0 c.0 m.0 st.0 within (opening_read bs (start Rule 0 out n rows) 0 o.0 o.1)
      (wording_read bs (start Rule 0 out n rows) (codes "rule") o.0 w.0 w.1) (step_number_read bs w.0 m.0 (lift_ok n rows (step_number bs w.0) m.0 m.1))
      (clause_read bs (start Rule m.0.end out n rows) st.0 (closes ∷ []) within.0
      (cond_ok (exceeds n rows) (halt Count n rows) (clause bs (start Rule m.0.end out n rows)) st.0 st.1).1
      (token_there bs st.0.pos closes c.0 [] close end)) close end (ok_same f.2)
