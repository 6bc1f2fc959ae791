-- What the reading of a symbol says of its token, and the forms of runs.
use Rattle.std.proofs.Common.{◌≡◌, ℕ, ◌+◌, ◌<◌, ◌≤◌, Bool, true, false, cond, ◌&&◌, eqb, ltb, leb, List, length, get_or, take, set, Some, None, Ok, Err, Option, sym, refl, ap, subst, arith, length-set}
use Rattle.std.proofs.lemmas.Bool.{ltb-true, ltb-false, leb-true, eqb-true, and_parts}
use Rattle.logic.specs.Limits as limits
use Rattle.logic.specs.Names.{letter}
use Rattle.logic.specs.declared.row.SymbolRow.{SymbolRow}
use Rattle.logic.specs.declared.row.Kind.{Kind}
use Rattle.logic.specs.declared.row.Kind.TheVariants.{Function, Predicate}
use Rattle.logic.specs.Symbols.{row_at, same_kind}
use Rattle.logic.specs.Directory.{place_of_name}
use Rattle.tokens.specs.declared.fault.Fault.TheVariants.{Due, Long, Form, ManyWords, OtherKind, OtherArity, Unknown, ManySymbols}
use Rattle.tokens.specs.Tokens.{Tok, opens, closes, equals, number, variable, word, Lexed, lex}
use Rattle.tokens.specs.Forms.{decimal, value, in_form, reserved, name_in_form, symbol_form}
use Rattle.reading.specs.declared.purpose.Purpose.{Purpose}
use Rattle.reading.specs.States.{halt, lift, enters, full}
use Rattle.reading.specs.Entering.{new_row, with_arity, Met, known, meet, room_for_word, Headed, head, settle}
use Rattle.spelling.specs.Grammar.{Numeral, SymbolName}
use Rattle.spelling.proofs.Answers.{ok_same, bind_ok, lift_ok, cond_ok, pick_ok}
use Rattle.spelling.proofs.Tables.{RowGrows, row_stays, found_below, MetAs, old, new, SettledAs, others_stay, set_here}

-- ── Numerals ──

pub numeral_is : (run figures : List ℕ) (most at n : ℕ) → in_form run figures most at ≡ Ok n → Numeral run figures most n
numeral_is run figures most at n e =
    let a = cond_ok (ltb limits.name_bytes (length run)) (Long at) _ n e in
    let b = pick_ok (decimal figures && leb (value figures) most) (Ok (value figures)) (Form at) n a.1 in
    let w : value figures ≡ n = ok_same b.1 in
    record {
      short = ltb-false limits.name_bytes (length run) a.0;
      plain = (and_parts (decimal figures) (leb (value figures) most) b.0).0;
      worth = w;
      small = subst (λ (x : ℕ). x ≤ most) w (leb-true (value figures) most (and_parts (decimal figures) (leb (value figures) most) b.0).1);
    }

-- ── Names ──

pub name_is : (t : Tok) (at : ℕ) (r : List ℕ) → symbol_form t at ≡ Ok r → (t ≡ word r) × SymbolName r
name_is opens at r e = cc
name_is closes at r e = cc
name_is equals at r e = cc
name_is (number q) at r e = cc
name_is (variable q) at r e = cc
name_is (word q) at r e =
    let a = cond_ok (reserved q) (Due at) (name_in_form q at) r e in
    let b = cond_ok (ltb limits.name_bytes (length q)) (Long at) _ r a.1 in
    let c = pick_ok (letter (get_or q 0 0)) (Ok q) (Form at) r b.1 in
    let same : q ≡ r = ok_same c.1 in
    (ap word same, subst SymbolName same (record { short = ltb-false limits.name_bytes (length q) b.0; lettered = c.0; free = a.0 }))

pub kind_is : (j k : Kind) → same_kind j k ≡ true → j ≡ k
kind_is Function Function e = refl
kind_is Function Predicate e = cc
kind_is Predicate Function e = cc
kind_is Predicate Predicate e = refl

-- ── A symbol that is met ──

abbrev MetOf : Bool → ℕ → List SymbolRow → List ℕ → Kind → Met → Type 0
MetOf may n rows name k m = MetAs may n rows name k m.symbol m.symbols m.rows

pub met_is : (p : Purpose) (k : Kind) (name : List ℕ) (at n : ℕ) (rows : List SymbolRow) (m : Met) → n ≤ length rows → meet p k name at n rows ≡ Ok m
    → MetOf (enters p) n rows name k m
met_is p k name at n rows m short = by (place_of_name (take n rows) name) refl
  where
    by : (o : Option ℕ) → place_of_name (take n rows) name ≡ o → known p k name at n rows o ≡ Ok m → MetOf (enters p) n rows name k m
    by None e h =
        let a = pick_ok (enters p) _ (halt (Unknown at) n rows) m h in
        let b = pick_ok (ltb n limits.symbols && ltb n (length rows)) (Ok (record { symbol = n; symbols = n + 1; rows = set rows n (new_row name k) })) (halt (ManySymbols at) n rows) m a.1 in
        subst (MetOf (enters p) n rows name k) (ok_same b.1)
        (new a.0 e (ltb-true n (length rows) (and_parts (ltb n limits.symbols) (ltb n (length rows)) b.0).1)
        (ltb-true n limits.symbols (and_parts (ltb n limits.symbols) (ltb n (length rows)) b.0).0))
    by (Some s) e h =
        let a = pick_ok (same_kind (row_at rows s).kind k) (Ok (record { symbol = s; symbols = n; rows = rows })) (halt (OtherKind at) n rows) m h in
        subst (MetOf (enters p) n rows name k) (ok_same a.1) (old (found_below name n rows s short e) e (kind_is (row_at rows s).kind k a.0))

-- what the reading of a head says
pub record HeadIs (bs : List ℕ) (k : Kind) (p : Purpose) (pos count n : ℕ) (rows : List SymbolRow) (h : Headed) : Type 0 where
  pub lexed : Lexed
  pub run : List ℕ
  pub read : lex bs pos ≡ Ok lexed
  pub named : lexed.tok ≡ word run
  pub form : SymbolName run
  pub roomy : full p count ≡ false
  pub met : MetAs (enters p) n rows run k h.symbol h.symbols h.rows
  pub on : h.end ≡ lexed.end

pub head_is : (bs : List ℕ) (k : Kind) (p : Purpose) (pos count n : ℕ) (rows : List SymbolRow) (h : Headed) → n ≤ length rows
    → head bs k p pos count n rows ≡ Ok h → HeadIs bs k p pos count n rows h
head_is bs k p pos count n rows h short e =
    let a = bind_ok (lift n rows (lex bs pos)) _ h e in
    let l : Lexed = a.0 in
    let b = bind_ok (lift n rows (symbol_form l.tok l.place)) _ h a.2 in
    let c = bind_ok (lift n rows (room_for_word {A = Unit {0}} p count l.place (Ok tt))) _ h b.2 in
    let d = bind_ok (meet p k b.0 l.place n rows) _ h c.2 in
    let t = name_is l.tok l.place b.0 (lift_ok n rows (symbol_form l.tok l.place) b.0 b.1) in
    let same = ok_same d.2 in
    record {
      lexed = l;
      run = b.0;
      read = lift_ok n rows (lex bs pos) l a.1;
      named = t.0;
      form = t.1;
      roomy = (cond_ok (full p count) (ManyWords l.place) (Ok tt) c.0 (lift_ok n rows (room_for_word {A = Unit {0}} p count l.place (Ok tt)) c.0 c.1)).0;
      met = subst (λ (x : Headed). MetAs (enters p) n rows b.0 k x.symbol x.symbols x.rows) same (met_is p k b.0 l.place n rows d.0 short d.1);
      on = sym (ap (λ (x : Headed). x.end) same);
    }

-- ── The arity that is settled ──

pub settle_is : (rows : List SymbolRow) (s given at : ℕ) (rows' : List SymbolRow) → s < length rows → settle rows s given at ≡ Ok rows'
    → SettledAs s given rows rows'
settle_is rows s given at rows' lt = by (ltb limits.arguments (row_at rows s).arity) refl
  where
    by : (b : Bool) → ltb limits.arguments (row_at rows s).arity ≡ b
        → cond b (Ok (set rows s (with_arity (row_at rows s) given))) (cond (eqb (row_at rows s).arity given) (Ok rows) (Err (OtherArity at))) ≡ Ok rows'
        → SettledAs s given rows rows'
    by true e h =
        let new : SymbolRow = with_arity (row_at rows s) given in
        subst (SettledAs s given rows) (ok_same h)
        (record {
          long = length-set rows s new;
          here =
              subst (RowGrows (row_at rows s)) (sym (set_here rows s new lt))
              (record { shape = refl; fixed = λ q. absurd (omega (arith, ltb-true limits.arguments (row_at rows s).arity e)) });
          arity = ap (λ (r : SymbolRow). r.arity) (set_here rows s new lt);
          others = others_stay rows s new;
        })
    by false e h =
        let a = pick_ok (eqb (row_at rows s).arity given) (Ok rows) (OtherArity at) rows' h in
        subst (SettledAs s given rows) (ok_same a.1)
        (record { long = refl; here = row_stays (row_at rows s); arity = eqb-true (row_at rows s).arity given a.0; others = λ j d. refl })
