-- A term of the grammar is read.
use Rattle.std.proofs.Common.{◌≡◌, ℕ, zero, suc, ◌+◌, ◌-◌, ◌<◌, ◌≤◌, Bool, false, cond, eqb, List, [], ◌∷◌, ◌++◌, length, Ok, Err, Result, sym, refl, ap, ◌∙◌, subst, add-zero, arith, length-append}
use Rattle.std.proofs.lemmas.Bool.Decides.{nat_tests}
use Rattle.logic.specs.Limits as limits
use Rattle.logic.specs.Syntax.{Term, Terms, var, app, []ₜ, ◌∷ₜ◌}
use Rattle.logic.specs.Words.{term_words, terms_words}
use Rattle.logic.specs.Lawful.{count}
use Rattle.logic.specs.declared.row.SymbolRow.{SymbolRow}
use Rattle.logic.specs.declared.row.Kind.{Kind}
use Rattle.logic.specs.declared.row.Kind.TheVariants.{Function}
use Rattle.tokens.specs.declared.fault.Fault.TheVariants.{ManyWords}
use Rattle.tokens.specs.Tokens.{Tok, opens, closes, variable, word, Lexed, lex}
use Rattle.tokens.specs.Forms.{variable_form, symbol_form}
use Rattle.reading.specs.declared.purpose.Purpose.{Purpose}
use Rattle.reading.specs.Slots.{Slot}
use Rattle.reading.specs.Slots.{Closed, Variable, Opened}
use Rattle.reading.specs.States.{State, Halt, ◌>>=◌, ◌then◌, lift, from, moved, written, enters, full}
use Rattle.reading.specs.Entering.{Met, meet, room_for_word, Headed, head, settle}
use Rattle.reading.specs.Terms.{slot_at, slot, turn, args, body, nest, headed_state, with_rows}
use Rattle.reading.proofs.Turns.{args_suc}
use Rattle.spelling.specs.Appearance.{term_symbols, terms_symbols, Appear, none_more}
use Rattle.spelling.specs.Grammar.{VariableRun, Names, SpellsTerm, SpellsTerms, a_variable, an_application, no_terms, more_terms}
use Rattle.spelling.proofs.Tables.{within_table}
use Rattle.spelling.proofs.Streams.{Tokens, stop, token, Wrote, wrote_join, wrote_none, wrote_one, wrote_rows}
use Rattle.spelling.proofs.Appearing.{appear_split, appear_more}
use Rattle.spelling.proofs.HeadsGo.{numeral_goes, name_goes, Final, MetToward, meet_goes, SettledToward, settle_goes}
use Rattle.spelling.proofs.TermsGrow.{Fitting}

-- ── The first token of a list ──

abbrev pub First : List ℕ → ℕ → List Tok → Type 0
First bs p [] = Unit {0}
First bs p (t ∷ ts) = (l : Lexed) × (lex bs p ≡ Ok l) × (l.tok ≡ t) × Tokens bs l.end ts

pub first_token : (bs : List ℕ) (p : ℕ) (ts : List Tok) → Tokens bs p ts → First bs p ts
first_token bs p [] (stop e) = tt
first_token bs p (t ∷ ts) (token l e r) = (l, e, refl, r)

-- ── Room for words ──

-- none of the next w words finds the limit reached
abbrev pub Roomy : Purpose → ℕ → ℕ → Type 0
Roomy p c w = (k : ℕ) → c ≤ k → k < c + w → full p k ≡ false

pub roomy_left : (p : Purpose) (c : ℕ) (ws vs : List ℕ) → Roomy p c (length (ws ++ vs)) → Roomy p c (length ws)
roomy_left p c ws vs r k h l = r k h (omega (arith, length-append ws vs))

pub roomy_right : (p : Purpose) (c d : ℕ) (ws vs : List ℕ) → d ≡ c + length ws → Roomy p c (length (ws ++ vs)) → Roomy p d (length vs)
roomy_right p c d ws vs e r k h l = r k (omega arith) (omega (arith, length-append ws vs))

pub suc_some : (l : ℕ) → eqb (suc l) 0 ≡ false
suc_some l = grind (arith, nat_tests)

pos_some : (n : ℕ) → 0 < n → eqb n 0 ≡ false
pos_some n h = grind (arith, nat_tests)

pub variable_goes : (r : List ℕ) (i at : ℕ) → VariableRun r i → variable_form r at ≡ Ok i
unfolding variable_form
variable_goes r i at v = numeral_goes r _ (limits.variables - 1) i at v

-- where no symbol appears, none is met
pub appears_none : (p : Purpose) (n m : ℕ) → Appear (enters p) n [] m → m ≡ n
appears_none p n m none_more = refl

module _ (bs : List ℕ) (p : Purpose) (first : ℕ) (table : List SymbolRow) (final : Final first table) where
  -- a state from which the table can be reached
  pub record Toward (a : State) : Type 0 where
    pub purpose : a.purpose ≡ p
    pub fits : Fitting a table
    pub since : first ≤ a.symbols
    pub short : a.symbols ≤ length a.rows
    pub room : length table ≤ length a.rows

  -- reading went from a to b: these words, these tokens left, m symbols
  pub record Went (a b : State) (ws : List ℕ) (us : List Tok) (m : ℕ) : Type 0 where
    pub left : Tokens bs b.pos us
    pub wrote : Wrote a b ws
    pub symbols : b.symbols ≡ m
    pub toward : Toward b

  pub record TermDone (room : ℕ) (a : State) (t : Term) (us : List Tok) (m : ℕ) : Type 0 where
    pub b : State
    pub went : Went a b (term_words t) us m
    pub goes :
        (rest : State → Result (ℕ × State) Halt) (given : ℕ)
        → (from a (slot bs (eqb room 0) (full a.purpose a.count) false a.pos) >>= turn (nest bs room) rest given a) ≡ rest b

  pub record ArgsDone (room l given : ℕ) (a : State) (ts : Terms) (us : List Tok) (m : ℕ) : Type 0 where
    pub b : State
    pub went : Went a b (terms_words ts) us m
    pub goes : args bs (nest bs room) (eqb room 0) (suc l) given a ≡ Ok (given + count ts, b)

  pub record BodyDone (room base : ℕ) (k : Kind) (a : State) (s : ℕ) (ts : Terms) (us : List Tok) (m : ℕ) : Type 0 where
    pub b : State
    pub went : Went a b ((base + s) ∷ terms_words ts) us m
    pub goes : body bs (nest bs room) (eqb room 0) base k a ≡ Ok b

  slot_goes : (st : State) (deep words more : Bool) (l : Lexed) (t : Tok) (s : Slot) → lex bs st.pos ≡ Ok l → l.tok ≡ t
      → slot_at deep words more l.place l.end t ≡ Ok s → from st (slot bs deep words more st.pos) ≡ Ok s
  slot_goes st deep words more l t s e k f =
      ap (λ r. lift st.symbols st.rows (r then λ x. slot_at deep words more x.place x.end x.tok)) e
      ∙ ap (λ x. lift st.symbols st.rows (slot_at deep words more l.place l.end x)) k ∙ ap (lift st.symbols st.rows) f

  -- ── A variable ──

  variable_read : (room i : ℕ) (r : List ℕ) (us : List Tok) (m : ℕ) → 0 < room → VariableRun r i → (a : State) → Toward a → m ≡ a.symbols
      → Roomy p a.count 1 → Tokens bs a.pos (variable r ∷ us) → TermDone room a (var i) us m
  variable_read room i r us m some v a on e roomy toks = by (first_token bs a.pos (variable r ∷ us) toks)
    where
      free : full a.purpose a.count ≡ false
      free = ap (λ x. full x a.count) on.purpose ∙ roomy a.count (omega arith) (omega arith)

      by : First bs a.pos (variable r ∷ us) → TermDone room a (var i) us m
      by f =
          let l : Lexed = f.0 in
          let slotted : slot_at (eqb room 0) (full a.purpose a.count) false l.place l.end (variable r) ≡ Ok (Variable i l.end) =
          ap (λ d. slot_at d (full a.purpose a.count) false l.place l.end (variable r)) (pos_some room some)
          ∙ ap (λ d. slot_at false d false l.place l.end (variable r)) free
          ∙ ap (λ z. z then λ j. Ok (Variable j l.end)) (variable_goes r i l.place v) in
          record {
            b = written a l.end i;
            went =
                record {
                  left = f.3;
                  wrote = wrote_one a (written a l.end i) i refl refl refl;
                  symbols = sym e;
                  toward = record { purpose = on.purpose; fits = on.fits; since = on.since; short = on.short; room = on.room };
                };
            goes = λ rest given.
                ap (λ z. z >>= turn (nest bs room) rest given a)
                (slot_goes a (eqb room 0) (full a.purpose a.count) false l (variable r) (Variable i l.end) f.1 f.2 slotted);
          }

  -- ── From a symbol to the closing bracket ──

  head_goes : (k : Kind) (a : State) (l : Lexed) (r : List ℕ) (s : ℕ) (ss : List ℕ) (m : ℕ) → lex bs a.pos ≡ Ok l → l.tok ≡ word r → full a.purpose a.count ≡ false
      → (ar : ℕ) → Names table r s k ar → (w : MetToward first table final a.purpose a.symbols a.rows k r l.place s ss m)
      → head bs k a.purpose a.pos a.count a.symbols a.rows ≡ Ok (record { symbol = s; place = l.place; end = l.end; symbols = w.symbols; rows = w.after })
  head_goes k a l r s ss m e t free ar names w =
      let n : ℕ = a.symbols in
      let rows : List SymbolRow = a.rows in
      let last : Met → Result Headed Halt = λ x. Ok (record { symbol = x.symbol; place = l.place; end = l.end; symbols = x.symbols; rows = x.rows }) in
      ap (λ z. lift n rows z >>= λ x. lift n rows (symbol_form x.tok x.place) >>= λ name. lift n rows (room_for_word {A = Unit {0}} a.purpose a.count x.place (Ok tt)) >>= λ u. meet a.purpose k name x.place n rows >>= λ y. Ok (record { symbol = y.symbol; place = x.place; end = x.end; symbols = y.symbols; rows = y.rows })) e
      ∙ ap (λ z. lift n rows z >>= λ name. lift n rows (room_for_word {A = Unit {0}} a.purpose a.count l.place (Ok tt)) >>= λ u. meet a.purpose k name l.place n rows >>= last) (ap (λ x. symbol_form x l.place) t ∙ name_goes r l.place names.form)
      ∙ ap (λ d. lift n rows (cond d (Err (ManyWords l.place)) (Ok tt)) >>= λ u. meet a.purpose k r l.place n rows >>= last) free
      ∙ ap (λ z. z >>= last) w.goes

  body_goes : (room base : ℕ) (k : Kind) (a : State) (h : Headed) (g : ℕ × State) (rows : List SymbolRow)
      → head bs k a.purpose a.pos a.count a.symbols a.rows ≡ Ok h
      → args bs (nest bs room) (eqb room 0) 5 0 (headed_state a h (base + h.symbol)) ≡ Ok g
      → settle g.1.rows h.symbol g.0 h.place ≡ Ok rows → body bs (nest bs room) (eqb room 0) base k a ≡ Ok (with_rows g.1 rows)
  body_goes room base k a h g rows e f i =
      ap (λ z. z >>= λ x. args bs (nest bs room) (eqb room 0) 5 0 (headed_state a x (base + x.symbol)) >>= λ y. from y.1 (settle y.1.rows x.symbol y.0 x.place) >>= λ q. Ok (with_rows y.1 q)) e
      ∙ ap (λ z. z >>= λ y. from y.1 (settle y.1.rows h.symbol y.0 h.place) >>= λ q. Ok (with_rows y.1 q)) f
      ∙ ap (λ z. from g.1 z >>= λ q. Ok (with_rows g.1 q)) i

  -- what the arguments do, wherever they are reached
  abbrev pub ArgsGo : ℕ → Terms → List Tok → List Tok → Type 0
  ArgsGo room ts toks us =
      (a : State) (m : ℕ) → Toward a → Appear (enters p) a.symbols (terms_symbols ts) m → m ≤ length table → Roomy p a.count (length (terms_words ts))
      → Tokens bs a.pos toks → ArgsDone room 4 0 a ts us m

  module _ (room base : ℕ) (k : Kind) (a : State) (r : List ℕ) (s : ℕ) (ts : Terms) (toks us : List Tok) (m : ℕ) (names : Names table r s k (count ts))
      (inner : ArgsGo room ts toks us) (on : Toward a) (appear : Appear (enters p) a.symbols (s ∷ terms_symbols ts) m) (top : m ≤ length table)
      (roomy : Roomy p a.count (length ((base + s) ∷ terms_words ts))) where
    abbrev Meets : Lexed → Type 0
    Meets l = MetToward first table final a.purpose a.symbols a.rows k r l.place s (terms_symbols ts) m

    abbrev headed : (l : Lexed) → Meets l → Headed
    headed l w = record { symbol = s; place = l.place; end = l.end; symbols = w.symbols; rows = w.after }

    abbrev behind_head : (l : Lexed) → Meets l → State
    behind_head l w = headed_state a (headed l w) (base + s)

    toward_head : (l : Lexed) (w : Meets l) → Toward (behind_head l w)
    toward_head l w =
        record {
          purpose = on.purpose;
          fits = w.fits;
          since = omega (arith, w.more, on.since);
          short = omega (arith, w.fits.enough, w.long, on.room);
          room = omega (arith, w.long, on.room);
        }

    settled : (l : Lexed) (w : Meets l) (d : ArgsDone room 4 0 (behind_head l w) ts us m)
        → SettledToward first table final d.b.symbols s (0 + count ts) l.place d.b.rows
    settled l w d =
        let same : 0 + count ts ≡ count ts = omega arith in
        settle_goes first table final d.b.symbols s (0 + count ts) l.place d.b.rows
        (omega (arith, w.below, d.went.symbols, appear_more (enters a.purpose) w.symbols (terms_symbols ts) m w.appear))
        d.went.toward.short d.went.toward.fits (names.arity ∙ sym same)

    finish : (l : Lexed) → lex bs a.pos ≡ Ok l → l.tok ≡ word r → (w : Meets l) (d : ArgsDone room 4 0 (behind_head l w) ts us m)
        → SettledToward first table final d.b.symbols s (0 + count ts) l.place d.b.rows → BodyDone room base k a s ts us m
    finish l e t w d x =
        record {
          b = with_rows d.b x.after;
          went =
              record {
                left = d.went.left;
                wrote =
                    wrote_rows a d.b x.after ((base + s) ∷ terms_words ts)
                    (wrote_join a (behind_head l w) d.b ((base + s) ∷ []) (terms_words ts) (wrote_one a (behind_head l w) (base + s) refl refl refl) d.went.wrote);
                symbols = d.went.symbols;
                toward =
                    record {
                      purpose = d.went.toward.purpose;
                      fits = x.fits;
                      since = d.went.toward.since;
                      short = omega (arith, d.went.toward.short, x.long);
                      room = omega (arith, d.went.toward.room, x.long);
                    };
              };
          goes = body_goes room base k a (headed l w) (0 + count ts, d.b) x.after (head_goes k a l r s (terms_symbols ts) m e t free (count ts) names w) d.goes x.goes;
        }
      where
        free : full a.purpose a.count ≡ false
        free = ap (λ y. full y a.count) on.purpose ∙ roomy a.count (omega arith) (omega arith)

    with_head : (l : Lexed) → lex bs a.pos ≡ Ok l → l.tok ≡ word r → Tokens bs l.end toks → Meets l → BodyDone room base k a s ts us m
    with_head l e t rest w =
        let d : ArgsDone room 4 0 (behind_head l w) ts us m =
        inner (behind_head l w) m (toward_head l w) (subst (λ x. Appear (enters x) w.symbols (terms_symbols ts) m) on.purpose w.appear) top
        (roomy_right p a.count (a.count + 1) ((base + s) ∷ []) (terms_words ts) (omega arith) roomy) rest in
        finish l e t w d (settled l w d)

    by_head : First bs a.pos (word r ∷ toks) → BodyDone room base k a s ts us m
    by_head f =
        with_head f.0 f.1 f.2 f.3
        (meet_goes first table final a.purpose a.symbols a.rows k r f.0.place s (terms_symbols ts) m (count ts) on.since on.short on.room on.fits names
        (subst (λ x. Appear (enters x) a.symbols (s ∷ terms_symbols ts) m) (sym on.purpose) appear))

    pub body_read : Tokens bs a.pos (word r ∷ toks) → BodyDone room base k a s ts us m
    body_read there = by_head (first_token bs a.pos (word r ∷ toks) there)

  -- ── Terms and arguments ──

  nest_goes : (k : ℕ) (a b : State) → body bs (nest bs k) (eqb k 0) 256 Function a ≡ Ok b → nest bs (suc k) a ≡ Ok b
  unfolding nest
  nest_goes k a b e = e

  application_done : (k : ℕ) (a : State) (s : ℕ) (ts : Terms) (l : Lexed) (us : List Tok) (m : ℕ) → lex bs a.pos ≡ Ok l → l.tok ≡ opens
      → BodyDone k 256 Function (moved a l.end) s ts us m → TermDone (suc k) a (app s ts) us m
  application_done k a s ts l us m e t d =
      let slotted : slot_at (eqb (suc k) 0) (full a.purpose a.count) false l.place l.end opens ≡ Ok (Opened l.end) =
      ap (λ q. slot_at q (full a.purpose a.count) false l.place l.end opens) (suc_some k) in
      record {
        b = d.b;
        went =
            record {
              left = d.went.left;
              wrote = record { counted = d.went.wrote.counted; poured = d.went.wrote.poured; purpose = d.went.wrote.purpose };
              symbols = d.went.symbols;
              toward = d.went.toward;
            };
        goes = λ rest given.
            ap (λ z. z >>= turn (nest bs (suc k)) rest given a)
            (slot_goes a (eqb (suc k) 0) (full a.purpose a.count) false l opens (Opened l.end) e t slotted)
            ∙ ap (λ z. z >>= rest) (nest_goes k (moved a l.end) d.b d.goes);
      }

  pub toward_moved : (a : State) (e : ℕ) → Toward a → Toward (moved a e)
  toward_moved a e on = record { purpose = on.purpose; fits = on.fits; since = on.since; short = on.short; room = on.room }

  -- only the place moves
  pub went_over : (a : State) (e : ℕ) (us : List Tok) (m : ℕ) → Toward a → m ≡ a.symbols → Tokens bs e us → Went a (moved a e) [] us m
  went_over a e us m on same there =
      record { left = there; wrote = wrote_none a (moved a e) refl refl refl; symbols = sym same; toward = toward_moved a e on }

  application_read : (k s : ℕ) (ts : Terms) (r : List ℕ) (toks us : List Tok) (m : ℕ) → Names table r s Function (count ts) → ArgsGo k ts toks us → (a : State) → Toward a
      → Appear (enters p) a.symbols (s ∷ terms_symbols ts) m → m ≤ length table → Roomy p a.count (length ((256 + s) ∷ terms_words ts))
      → Tokens bs a.pos (opens ∷ word r ∷ toks) → TermDone (suc k) a (app s ts) us m
  application_read k s ts r toks us m names inner a on appear top roomy there = by (first_token bs a.pos (opens ∷ word r ∷ toks) there)
    where
      by : First bs a.pos (opens ∷ word r ∷ toks) → TermDone (suc k) a (app s ts) us m
      by f =
          application_done k a s ts f.0 us m f.1 f.2
          (body_read k 256 Function (moved a f.0.end) r s ts toks us m names inner (toward_moved a f.0.end on) appear top roomy f.3)

  closed_read : (room l given : ℕ) (a : State) (us : List Tok) (m : ℕ) → Toward a → m ≡ a.symbols → Tokens bs a.pos (closes ∷ us) → ArgsDone room l given a []ₜ us m
  closed_read room l given a us m on e there = by (first_token bs a.pos (closes ∷ us) there)
    where
      by : First bs a.pos (closes ∷ us) → ArgsDone room l given a []ₜ us m
      by f =
          record {
            b = moved a f.0.end;
            went = went_over a f.0.end us m on e f.3;
            goes =
                args_suc bs (nest bs room) (eqb room 0) given a l
                ∙ ap (λ z. z >>= turn (nest bs room) (args bs (nest bs room) (eqb room 0) l (given + 1)) given a)
                (slot_goes a (eqb room 0) (full a.purpose a.count) (eqb l 0) f.0 closes (Closed f.0.end) f.1 f.2 refl)
                ∙ ap (λ n. Ok (n, moved a f.0.end)) (sym (add-zero given));
          }

  more_read : (room l given : ℕ) (a : State) (t : Term) (ts : Terms) (us vs : List Tok) (m j : ℕ) → (d : TermDone room a t us j) → ArgsDone room l (given + 1) d.b ts vs m
      → ArgsDone room (suc l) given a (t ∷ₜ ts) vs m
  more_read room l given a t ts us vs m j d r =
      record {
        b = r.b;
        went =
            record {
              left = r.went.left;
              wrote = wrote_join a d.b r.b (term_words t) (terms_words ts) d.went.wrote r.went.wrote;
              symbols = r.went.symbols;
              toward = r.went.toward;
            };
        goes =
            args_suc bs (nest bs room) (eqb room 0) given a (suc l)
            ∙ ap (λ q. from a (slot bs (eqb room 0) (full a.purpose a.count) q a.pos) >>= turn (nest bs room) (args bs (nest bs room) (eqb room 0) (suc l) (given + 1)) given a) (suc_some l)
            ∙ d.goes (args bs (nest bs room) (eqb room 0) (suc l) (given + 1)) given
            ∙ r.goes
            ∙ ap (λ n. Ok (n, r.b)) (omega arith);
      }

  mutual
    pub term_goes : {room : ℕ} {t : Term} {ts us : List Tok} → SpellsTerm table room t ts us → (a : State) (m : ℕ) → Toward a → Appear (enters p) a.symbols (term_symbols t) m
        → m ≤ length table → Roomy p a.count (length (term_words t)) → Tokens bs a.pos ts → TermDone room a t us m
    term_goes {room} (a_variable {i = i} {r = r} {ts = us} some v) a m on appear top roomy there =
        variable_read room i r us m some v a on (appears_none p a.symbols m appear) roomy there
    term_goes (an_application {room = k} {s = s} {args = qs} {r = r} {ts = ts} {us = us} names inner) a m on appear top roomy there =
        application_read k s qs r ts us m names
        (λ c j onc ap-c top-c room-c there-c.
        let four : count qs ≤ 4 = subst (λ (x : ℕ). x ≤ 4) names.arity (final.settled s (within_table r table s names.first).0) in
        terms_go inner 4 0 c j us refl four onc ap-c top-c room-c there-c) a on appear top roomy there

    pub terms_go : {room : ℕ} {qs : Terms} {ts vs : List Tok} → SpellsTerms table room qs ts vs → (l given : ℕ) (a : State) (m : ℕ) (us : List Tok) → vs ≡ closes ∷ us
        → count qs ≤ l → Toward a → Appear (enters p) a.symbols (terms_symbols qs) m → m ≤ length table → Roomy p a.count (length (terms_words qs))
        → Tokens bs a.pos ts → ArgsDone room l given a qs us m
    terms_go {room} (no_terms) l given a m us e few on appear top roomy there =
        closed_read room l given a us m on (appears_none p a.symbols m appear) (subst (Tokens bs a.pos) e there)
    terms_go {room} (more_terms {t = t} {args = qs} {us = ws} x y) zero given a m us e few on appear top roomy there = absurd (omega arith)
    terms_go {room} (more_terms {t = t} {args = qs} {us = ws} x y) (suc l) given a m us e few on appear top roomy there =
        let parts = appear_split (enters p) a.symbols (term_symbols t) (terms_symbols qs) m appear in
        let d : TermDone room a t ws parts.0 =
        term_goes x a parts.0 on parts.1 (omega (arith, appear_more (enters p) parts.0 (terms_symbols qs) m parts.2))
        (roomy_left p a.count (term_words t) (terms_words qs) roomy) there in
        more_read room l given a t qs ws us m parts.0 d
        (terms_go y l (given + 1) d.b m us e (omega arith) d.went.toward
        (subst (λ (n : ℕ). Appear (enters p) n (terms_symbols qs) m) (sym d.went.symbols) parts.2) top
        (roomy_right p a.count d.b.count (term_words t) (terms_words qs) d.went.wrote.counted roomy) d.went.left)
