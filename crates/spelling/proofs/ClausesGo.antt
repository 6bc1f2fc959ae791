-- A clause of the grammar is read.
use Rattle.std.proofs.Common.{◌≡◌, ℕ, zero, suc, ◌+◌, ◌≤◌, Bool, true, false, cond, ◌||◌, eqb, List, [], ◌∷◌, ◌++◌, length, Ok, Err, codes, Result, sym, refl, ap, ◌∙◌, subst, arith}
use Rattle.std.proofs.lemmas.Bool.{cond-false}
use Rattle.std.proofs.lemmas.Slice.Eq.{bytes_eq-Decides}
use Rattle.std.specs.Str.{bytes_eq}
use Rattle.logic.specs.Syntax.{Term, Terms, Atom, Literal, Clause, predicate, equal}
use Rattle.logic.specs.Words.{term_words, terms_words, atom_words, literal_words, clause_words}
use Rattle.logic.specs.Lawful.{count}
use Rattle.logic.specs.declared.row.SymbolRow.{SymbolRow}
use Rattle.logic.specs.declared.row.Kind.TheVariants.{Predicate}
use Rattle.tokens.specs.declared.fault.Fault.TheVariants.{Due, ManyLiterals}
use Rattle.tokens.specs.Forms.{reserved}
use Rattle.tokens.specs.Tokens.{Tok, opens, closes, equals, word, Lexed, lex}
use Rattle.reading.specs.declared.purpose.Purpose.{Purpose}
use Rattle.reading.specs.Slots.{Slot}
use Rattle.reading.specs.Slots.{Closed, Variable, Opened}
use Rattle.reading.specs.Marks.{Mark}
use Rattle.reading.specs.Marks.{Closed as Ends, Opened as Begins}
use Rattle.reading.specs.States.{State, Halt, ◌>>=◌, ◌then◌, lift, from, moved, written, enters, full}
use Rattle.reading.specs.Terms.{slot, turn, nest, application, term_turn, term, body}
use Rattle.reading.specs.Clauses.{opened, opening, closed, closing, worded, wording, marked, literal_mark, is_equals, is_not, mark_turn, sides, atom, negated, literal, literal_list, clause}
use Rattle.reading.proofs.Turns.{nest_application}
use Rattle.reading.proofs.Lists.{literals_suc}
use Rattle.spelling.specs.Appearance.{term_symbols, atom_symbols, clause_symbols, Appear}
use Rattle.spelling.specs.Grammar.{SpellsAtom, SpellsLiteral, SpellsLiterals, SpellsClause, an_atom, an_equation, positive, negative, no_literals, more_literals, a_clause}
use Rattle.spelling.proofs.Answers.{ok_same, bind_ok}
use Rattle.spelling.proofs.Tables.{within_table}
use Rattle.spelling.proofs.Streams.{Tokens, wrote_join, wrote_one}
use Rattle.spelling.proofs.Appearing.{appear_split, appear_more}
use Rattle.spelling.proofs.TermsGrow.{SlotRead, slot_read, some}
use Rattle.spelling.proofs.HeadsGo.{Final}
use Rattle.spelling.proofs.TermsGo.{First, first_token, suc_some, appears_none, Roomy, roomy_left, roomy_right, Toward, Went, TermDone, BodyDone, ArgsGo, body_read, toward_moved, went_over, term_goes, terms_go}

-- ── Brackets and words ──

pub closing_goes : (bs : List ℕ) (st : State) (p : ℕ) (l : Lexed) → lex bs p ≡ Ok l → l.tok ≡ closes → from st (closing bs p) ≡ Ok l.end
closing_goes bs st p l e t =
    ap (λ r. lift st.symbols st.rows (r then λ x. closed x.place x.end x.tok)) e
    ∙ ap (λ x. lift st.symbols st.rows (closed l.place l.end x)) t

pub opening_goes : (bs : List ℕ) (st : State) (p : ℕ) (l : Lexed) → lex bs p ≡ Ok l → l.tok ≡ opens → from st (opening bs p) ≡ Ok l.end
opening_goes bs st p l e t =
    ap (λ r. lift st.symbols st.rows (r then λ x. opened x.place x.end x.tok)) e
    ∙ ap (λ x. lift st.symbols st.rows (opened l.place l.end x)) t

pub wording_goes : (bs : List ℕ) (st : State) (w : List ℕ) (p : ℕ) (l : Lexed) → lex bs p ≡ Ok l → l.tok ≡ word w → from st (wording w bs p) ≡ Ok l.end
wording_goes bs st w p l e t =
    ap (λ r. lift st.symbols st.rows (r then λ x. worded w x.place x.end x.tok)) e
    ∙ ap (λ x. lift st.symbols st.rows (worded w l.place l.end x)) t
    ∙ ap (λ b. lift st.symbols st.rows (cond b (Ok l.end) (Err (Due l.place)))) ((bytes_eq-Decides w w).1 refl)

mark_goes : (bs : List ℕ) (st : State) (none : Bool) (l : Lexed) (t : Tok) (m : Mark) → lex bs st.pos ≡ Ok l → l.tok ≡ t
    → marked (ManyLiterals l.place) none l.place l.end t ≡ Ok m → from st (literal_mark bs none st.pos) ≡ Ok m
mark_goes bs st none l t m e k f =
    ap (λ r. lift st.symbols st.rows (r then λ x. marked (ManyLiterals x.place) none x.place x.end x.tok)) e
    ∙ ap (λ x. lift st.symbols st.rows (marked (ManyLiterals l.place) none l.place l.end x)) k
    ∙ ap (lift st.symbols st.rows) f

-- a name that may be a symbol's is not the word `not`
not_reserved : (r : List ℕ) → reserved r ≡ false → bytes_eq r (codes "not") ≡ false
not_reserved r = by (bytes_eq r (codes "or")) (bytes_eq r (codes "not"))
  where
    by : (a b : Bool) → (a || b) ≡ false → b ≡ false
    by true b e = cc
    by false b e = e

module _ (bs : List ℕ) (p : Purpose) (first : ℕ) (table : List SymbolRow) (final : Final first table) where
  abbrev On : State → Type 0
  On a = Toward bs p first table final a

  abbrev Goes : State → State → List ℕ → List Tok → ℕ → Type 0
  Goes a b ws us m = Went bs p first table final a b ws us m

  -- a reading that ends at a state
  pub record Done (reading : State → Result State Halt) (a : State) (ws : List ℕ) (us : List Tok) (m : ℕ) : Type 0 where
    pub b : State
    pub went : Goes a b ws us m
    pub goes : reading a ≡ Ok b

  -- ── A term on its own ──

  pub term_done : (room : ℕ) (a : State) (t : Term) (us : List Tok) (m : ℕ) → TermDone bs p first table final room a t us m → Done (term bs room) a (term_words t) us m
  term_done room a t us m d =
      let s = bind_ok (from a (slot bs (eqb room 0) (full a.purpose a.count) false a.pos)) _ (1, d.b) (d.goes (λ q. Ok (1, q)) 0) in
      record {
        b = d.b;
        went = d.went;
        goes =
            ap (λ z. z >>= term_turn bs room a) s.1
            ∙ by d.b s.0 (slot_read bs a (eqb room 0) (full a.purpose a.count) false s.0 s.1) s.2;
      }
    where
      by : (b : State) (s : Slot) → SlotRead bs (eqb room 0) (full a.purpose a.count) false a.pos s
          → turn (nest bs room) (λ q. Ok (1, q)) 0 a s ≡ Ok (1, b) → term_turn bs room a s ≡ Ok b
      by b (Closed e) q k = let z : ◌≡◌ {A = ℕ} 0 1 = ap (λ (x : ℕ × State). x.0) (ok_same k) in absurd (omega arith)
      by b (Variable i e) q k = ap (λ (x : ℕ × State). Ok x.1) (ok_same k)
      by b (Opened e) q k =
          let c = bind_ok (nest bs room (moved a e)) _ (1, b) k in
          sym (nest_application bs room (moved a e) (some room q.is.1)) ∙ c.1 ∙ ap (λ (x : ℕ × State). Ok x.1) (ok_same c.2)

  -- ── Atoms ──

  sides_go : (a l r : State) (x : Lexed) → term bs 32 a ≡ Ok l → term bs 32 l ≡ Ok r → from r (closing bs r.pos) ≡ Ok x.end → sides bs a ≡ Ok (moved r x.end)
  unfolding sides
  sides_go a l r x e f g =
      ap (λ z. z >>= λ y. term bs 32 y >>= λ w. from w (closing bs w.pos) >>= λ q. Ok (moved w q)) e
      ∙ ap (λ z. z >>= λ w. from w (closing bs w.pos) >>= λ q. Ok (moved w q)) f
      ∙ ap (λ z. z >>= λ q. Ok (moved r q)) g

  atom_goes : (sign : ℕ) (a : State) (l : Lexed) (q : Bool) (b : State) → lex bs a.pos ≡ Ok l → is_equals l.tok ≡ q
      → cond q (sides bs (written a l.end (sign + 512))) (application bs 32 (sign + 256) Predicate a) ≡ Ok b → atom bs sign a ≡ Ok b
  atom_goes sign a l q b e f g =
      ap (λ z. lift a.symbols a.rows z >>= λ x. cond (is_equals x.tok) (sides bs (written a x.end (sign + 512))) (application bs 32 (sign + 256) Predicate a)) e
      ∙ ap (λ z. cond z (sides bs (written a l.end (sign + 512))) (application bs 32 (sign + 256) Predicate a)) f ∙ g

  went_from : (a b : State) (e : ℕ) (ws : List ℕ) (us : List Tok) (m : ℕ) → Goes (moved a e) b ws us m → Goes a b ws us m
  went_from a b e ws us m w =
      record {
        left = w.left;
        wrote = record { counted = w.wrote.counted; poured = w.wrote.poured; purpose = w.wrote.purpose };
        symbols = w.symbols;
        toward = w.toward;
      }

  -- a closing bracket behind what was read
  went_closed : (a b : State) (ws : List ℕ) (us : List Tok) (m : ℕ) (l : Lexed) → Goes a b ws (closes ∷ us) m → Tokens bs l.end us → Goes a (moved b l.end) ws us m
  went_closed a b ws us m l w there =
      record {
        left = there;
        wrote = record { counted = w.wrote.counted; poured = w.wrote.poured; purpose = w.wrote.purpose };
        symbols = w.symbols;
        toward = toward_moved bs p first table final b l.end w.toward;
      }

  written_on : (a : State) (e w : ℕ) → On a → On (written a e w)
  written_on a e w on = record { purpose = on.purpose; fits = on.fits; since = on.since; short = on.short; room = on.room }

  equation_done : (sign : ℕ) (a : State) (s t : Term) (l : Lexed) (us : List Tok) (m j : ℕ) → lex bs a.pos ≡ Ok l → l.tok ≡ equals → (mid : List Tok)
      → (d : Done (term bs 32) (written a l.end (sign + 512)) (term_words s) mid j) → Done (term bs 32) d.b (term_words t) (closes ∷ us) m
      → Done (atom bs sign) a (atom_words sign (equal s t)) us m
  equation_done sign a s t l us m j e k mid d r = by (first_token bs r.b.pos (closes ∷ us) r.went.left)
    where
      by : First bs r.b.pos (closes ∷ us) → Done (atom bs sign) a (atom_words sign (equal s t)) us m
      by f =
          let st : State = written a l.end (sign + 512) in
          let w = wrote_join st d.b r.b (term_words s) (term_words t) d.went.wrote r.went.wrote in
          record {
            b = moved r.b f.0.end;
            went =
                went_closed a r.b (atom_words sign (equal s t)) us m f.0
                (record {
                  left = r.went.left;
                  wrote = wrote_join a st r.b ((sign + 512) ∷ []) (term_words s ++ term_words t) (wrote_one a st (sign + 512) refl refl refl) w;
                  symbols = r.went.symbols;
                  toward = r.went.toward;
                })
                f.3;
            goes =
                atom_goes sign a l true (moved r.b f.0.end) e (ap is_equals k)
                (sides_go st d.b r.b f.0 d.goes r.goes (closing_goes bs r.b r.b.pos f.0 f.1 f.2));
          }

  application_goes : (room base : ℕ) (a : State) (b : State) → body bs (nest bs room) (eqb room 0) base Predicate a ≡ Ok b → application bs room base Predicate a ≡ Ok b
  unfolding application
  application_goes room base a b e = e

  predicate_done : (sign : ℕ) (a : State) (s : ℕ) (ts : Terms) (l : Lexed) (r : List ℕ) (us : List Tok) (m : ℕ) → lex bs a.pos ≡ Ok l → l.tok ≡ word r
      → BodyDone bs p first table final 32 (sign + 256) Predicate a s ts us m → Done (atom bs sign) a (atom_words sign (predicate s ts)) us m
  predicate_done sign a s ts l r us m e k d =
      let same : sign + 256 + s ≡ sign + (256 + s) = omega arith in
      record {
        b = d.b;
        went = subst (λ (x : ℕ). Goes a d.b (x ∷ terms_words ts) us m) same d.went;
        goes = atom_goes sign a l false d.b e (ap is_equals k) (application_goes 32 (sign + 256) a d.b d.goes);
      }

  pub atom_done : {x : Atom} {ts us : List Tok} → SpellsAtom table x ts us → (sign : ℕ) (a : State) (m : ℕ) → On a → Appear (enters p) a.symbols (atom_symbols x) m
      → m ≤ length table → Roomy p a.count (length (atom_words sign x)) → Tokens bs a.pos ts → Done (atom bs sign) a (atom_words sign x) us m
  atom_done (an_atom {p = s} {args = qs} {r = r} {ts = ts} {us = us} names inner) sign a m on appear top roomy there =
      by (first_token bs a.pos (word r ∷ ts) there)
    where
      go : ArgsGo bs p first table final 32 qs ts us
      go c j onc ap-c top-c room-c there-c =
          let four : count qs ≤ 4 = subst (λ (x : ℕ). x ≤ 4) names.arity (final.settled s (within_table r table s names.first).0) in
          terms_go bs p first table final inner 4 0 c j us refl four onc ap-c top-c room-c there-c

      by : First bs a.pos (word r ∷ ts) → Done (atom bs sign) a (atom_words sign (predicate s qs)) us m
      by f =
          predicate_done sign a s qs f.0 r us m f.1 f.2
          (body_read bs p first table final 32 (sign + 256) Predicate a r s qs ts us m names go on appear top roomy there)
  atom_done (an_equation {s = s} {t = t} {ts = ts} {us = mid} {vs = us} x y) sign a m on appear top roomy there =
      by (first_token bs a.pos (equals ∷ ts) there)
    where
      sides_room : Roomy p (a.count + 1) (length (term_words s ++ term_words t))
      sides_room = roomy_right p a.count (a.count + 1) ((sign + 512) ∷ []) (term_words s ++ term_words t) (omega arith) roomy

      by : First bs a.pos (equals ∷ ts) → Done (atom bs sign) a (atom_words sign (equal s t)) us m
      by f =
          let st : State = written a f.0.end (sign + 512) in
          let parts = appear_split (enters p) a.symbols (term_symbols s) (term_symbols t) m appear in
          let d : Done (term bs 32) st (term_words s) mid parts.0 =
          term_done 32 st s mid parts.0
          (term_goes bs p first table final x st parts.0 (written_on a f.0.end (sign + 512) on) parts.1
          (omega (arith, appear_more (enters p) parts.0 (term_symbols t) m parts.2)) (roomy_left p (a.count + 1) (term_words s) (term_words t) sides_room) f.3) in
          equation_done sign a s t f.0 us m parts.0 f.1 f.2 mid d
          (term_done 32 d.b t (closes ∷ us) m
          (term_goes bs p first table final y d.b m d.went.toward (subst (λ (n : ℕ). Appear (enters p) n (term_symbols t) m) (sym d.went.symbols) parts.2) top
          (roomy_right p (a.count + 1) d.b.count (term_words s) (term_words t) d.went.wrote.counted sides_room) d.went.left))

  -- ── Literals ──

  negated_goes : (a : State) (o x : Lexed) (l : State) → from a (opening bs a.pos) ≡ Ok o.end → atom bs 1024 (moved a o.end) ≡ Ok l
      → from l (closing bs l.pos) ≡ Ok x.end → negated bs a ≡ Ok (moved l x.end)
  unfolding negated
  negated_goes a o x l e f g =
      ap (λ z. z >>= λ y. atom bs 1024 (moved a y) >>= λ w. from w (closing bs w.pos) >>= λ q. Ok (moved w q)) e
      ∙ ap (λ z. z >>= λ w. from w (closing bs w.pos) >>= λ q. Ok (moved w q)) f
      ∙ ap (λ z. z >>= λ q. Ok (moved l q)) g

  literal_goes : (a : State) (l : Lexed) (q : Bool) (b : State) → lex bs a.pos ≡ Ok l → is_not l.tok ≡ q
      → cond q (negated bs (moved a l.end)) (atom bs 0 a) ≡ Ok b → literal bs a ≡ Ok b
  unfolding literal
  literal_goes a l q b e f g =
      ap (λ z. lift a.symbols a.rows z >>= λ x. cond (is_not x.tok) (negated bs (moved a x.end)) (atom bs 0 a)) e
      ∙ ap (λ z. cond z (negated bs (moved a l.end)) (atom bs 0 a)) f ∙ g

  negative_done : (a : State) (x : Atom) (n o : Lexed) (us : List Tok) (m : ℕ) → lex bs a.pos ≡ Ok n → n.tok ≡ word (codes "not") → lex bs n.end ≡ Ok o → o.tok ≡ opens
      → Done (atom bs 1024) (moved a o.end) (atom_words 1024 x) (closes ∷ us) m → Done (literal bs) a (atom_words 1024 x) us m
  negative_done a x n o us m e k f j d = by (first_token bs d.b.pos (closes ∷ us) d.went.left)
    where
      by : First bs d.b.pos (closes ∷ us) → Done (literal bs) a (atom_words 1024 x) us m
      by c =
          record {
            b = moved d.b c.0.end;
            went = went_closed a d.b (atom_words 1024 x) us m c.0 (went_from a d.b o.end (atom_words 1024 x) (closes ∷ us) m d.went) c.3;
            goes =
                literal_goes a n true (moved d.b c.0.end) e (ap is_not k ∙ (bytes_eq-Decides (codes "not") (codes "not")).1 refl)
                (negated_goes (moved a n.end) o c.0 d.b (opening_goes bs (moved a n.end) n.end o f j) d.goes
                (closing_goes bs d.b d.b.pos c.0 c.1 c.2));
          }

  -- the first token of an atom is not the word `not`
  atom_first : {x : Atom} {ts us : List Tok} (a : State) → SpellsAtom table x ts us → Tokens bs a.pos ts → (l : Lexed) × (lex bs a.pos ≡ Ok l) × (is_not l.tok ≡ false)
  atom_first a (an_atom {r = r} {ts = ts} names inner) there =
      let f = first_token bs a.pos (word r ∷ ts) there in
      (f.0, f.1, ap is_not f.2 ∙ not_reserved r names.form.free)
  atom_first a (an_equation {ts = ts} x y) there = let f = first_token bs a.pos (equals ∷ ts) there in (f.0, f.1, ap is_not f.2)

  pub literal_done : {l : Literal} {ts us : List Tok} → SpellsLiteral table l ts us → (a : State) (m : ℕ) → On a → Appear (enters p) a.symbols (atom_symbols l.atom) m
      → m ≤ length table → Roomy p a.count (length (literal_words l)) → (o : Lexed) → lex bs a.pos ≡ Ok o → o.tok ≡ opens → Tokens bs a.pos ts
      → Done (literal bs) (moved a o.end) (literal_words l) us m
  literal_done (positive {a = x} {ts = ts} {us = us} y) a m on appear top roomy o e k there =
      let f = first_token bs a.pos (opens ∷ ts) there in
      let same : o ≡ f.0 = ok_same (sym e ∙ f.1) in
      let st : State = moved a o.end in
      let rest : Tokens bs st.pos ts = subst (λ (z : Lexed). Tokens bs z.end ts) (sym same) f.3 in
      let h = atom_first st y rest in
      let d = atom_done y 0 st m (toward_moved bs p first table final a o.end on) appear top roomy rest in
      record { b = d.b; went = d.went; goes = literal_goes st h.0 false d.b h.1 h.2 d.goes }
  literal_done (negative {a = x} {ts = ts} {us = us} y) a m on appear top roomy o e k there =
      let f = first_token bs a.pos (opens ∷ word (codes "not") ∷ opens ∷ ts) there in
      let same : o ≡ f.0 = ok_same (sym e ∙ f.1) in
      let rest : Tokens bs o.end (word (codes "not") ∷ opens ∷ ts) = subst (λ (z : Lexed). Tokens bs z.end (word (codes "not") ∷ opens ∷ ts)) (sym same) f.3 in
      let n = first_token bs o.end (word (codes "not") ∷ opens ∷ ts) rest in
      let c = first_token bs n.0.end (opens ∷ ts) n.3 in
      negative_done (moved a o.end) x n.0 c.0 us m n.1 n.2 c.1 c.2
      (atom_done y 1024 (moved a c.0.end) m (toward_moved bs p first table final a c.0.end on) appear top roomy c.3)

  -- ── Clauses ──

  list_goes : (l : ℕ) (a : State) (x : Mark) (r : Result State Halt) → from a (literal_mark bs (eqb l 0) a.pos) ≡ Ok x
      → mark_turn (literal bs) (literal_list bs l) a x ≡ r → literal_list bs (suc l) a ≡ r
  list_goes l a x r e f = literals_suc bs l a ∙ ap (λ z. z >>= mark_turn (literal bs) (literal_list bs l) a) e ∙ f

  list_end : (l : ℕ) (a : State) (us : List Tok) (m : ℕ) → On a → m ≡ a.symbols → Tokens bs a.pos (closes ∷ us) → Done (literal_list bs (suc l)) a [] us m
  list_end l a us m on e there = by (first_token bs a.pos (closes ∷ us) there)
    where
      by : First bs a.pos (closes ∷ us) → Done (literal_list bs (suc l)) a [] us m
      by f =
          record {
            b = moved a f.0.end;
            went = went_over bs p first table final a f.0.end us m on e f.3;
            goes = list_goes l a (Ends f.0.end) (Ok (moved a f.0.end)) (mark_goes bs a (eqb l 0) f.0 closes (Ends f.0.end) f.1 f.2 refl) refl;
          }

  list_more : (l : ℕ) (a : State) (o : Lexed) (ws vs : List ℕ) (us mid : List Tok) (m j : ℕ) → lex bs a.pos ≡ Ok o → o.tok ≡ opens
      → (d : Done (literal bs) (moved a o.end) ws mid j) → Done (literal_list bs (suc l)) d.b vs us m → Done (literal_list bs (suc (suc l))) a (ws ++ vs) us m
  list_more l a o ws vs us mid m j e k d r =
      record {
        b = r.b;
        went =
            record {
              left = r.went.left;
              wrote = wrote_join a d.b r.b ws vs (went_from a d.b o.end ws mid j d.went).wrote r.went.wrote;
              symbols = r.went.symbols;
              toward = r.went.toward;
            };
        goes =
            list_goes (suc l) a (Begins o.end) (Ok r.b)
            (mark_goes bs a (eqb (suc l) 0) o opens (Begins o.end) e k (cond-false (eqb (suc l) 0) (Err (ManyLiterals o.place)) (Ok (Begins o.end)) (suc_some l)))
            (ap (λ z. z >>= literal_list bs (suc l)) d.goes ∙ r.goes);
      }

  -- a literal begins with an opening bracket
  opens_first : {l : Literal} {ts us : List Tok} (q : ℕ) → SpellsLiteral table l ts us → Tokens bs q ts → (o : Lexed) × (lex bs q ≡ Ok o) × (o.tok ≡ opens)
  opens_first q (positive {ts = ts} y) there = let f = first_token bs q (opens ∷ ts) there in (f.0, f.1, f.2)
  opens_first q (negative {ts = ts} y) there = let f = first_token bs q (opens ∷ word (codes "not") ∷ opens ∷ ts) there in (f.0, f.1, f.2)

  pub literals_done : {c : Clause} {ts vs : List Tok} → SpellsLiterals table c ts vs → (l : ℕ) (a : State) (m : ℕ) (us : List Tok) → vs ≡ closes ∷ us → length c ≤ l → On a
      → Appear (enters p) a.symbols (clause_symbols c) m → m ≤ length table → Roomy p a.count (length (clause_words c)) → Tokens bs a.pos ts
      → Done (literal_list bs (suc l)) a (clause_words c) us m
  literals_done (no_literals) l a m us e few on appear top roomy there = list_end l a us m on (appears_none p a.symbols m appear) (subst (Tokens bs a.pos) e there)
  literals_done (more_literals {l = x} {c = c} {ts = ts} {us = mid} y z) zero a m us e few on appear top roomy there = absurd (omega arith)
  literals_done (more_literals {l = x} {c = c} {ts = ts} {us = mid} y z) (suc l) a m us e few on appear top roomy there =
      let o = opens_first a.pos y there in
      let parts = appear_split (enters p) a.symbols (atom_symbols x.atom) (clause_symbols c) m appear in
      let d : Done (literal bs) (moved a o.0.end) (literal_words x) mid parts.0 =
      literal_done y a parts.0 on parts.1 (omega (arith, appear_more (enters p) parts.0 (clause_symbols c) m parts.2))
      (roomy_left p a.count (literal_words x) (clause_words c) roomy) o.0 o.1 o.2 there in
      list_more l a o.0 (literal_words x) (clause_words c) us mid m parts.0 o.1 o.2 d
      (literals_done z l d.b m us e (omega arith) d.went.toward (subst (λ (n : ℕ). Appear (enters p) n (clause_symbols c) m) (sym d.went.symbols) parts.2) top
      (roomy_right p a.count d.b.count (literal_words x) (clause_words c) d.went.wrote.counted roomy) d.went.left)

  clause_goes : (a : State) (o w : Lexed) (b : State) → from a (opening bs a.pos) ≡ Ok o.end → from a (wording (codes "or") bs o.end) ≡ Ok w.end
      → literal_list bs 33 (moved a w.end) ≡ Ok b → clause bs a ≡ Ok b
  clause_goes a o w b e f g =
      ap (λ z. z >>= λ i. from a (wording (codes "or") bs i) >>= λ y. literal_list bs 33 (moved a y)) e ∙ ap (λ z. z >>= λ y. literal_list bs 33 (moved a y)) f ∙ g

  pub clause_done : {c : Clause} {ts us : List Tok} → SpellsClause table c ts us → (a : State) (m : ℕ) → On a → Appear (enters p) a.symbols (clause_symbols c) m
      → m ≤ length table → Roomy p a.count (length (clause_words c)) → Tokens bs a.pos ts → Done (clause bs) a (clause_words c) us m
  clause_done (a_clause {c = c} {ts = ts} {us = us} few inner) a m on appear top roomy there =
      let o = first_token bs a.pos (opens ∷ word (codes "or") ∷ ts) there in
      let w = first_token bs o.0.end (word (codes "or") ∷ ts) o.3 in
      let d = literals_done inner 32 (moved a w.0.end) m us refl few (toward_moved bs p first table final a w.0.end on) appear top roomy w.3 in
      record {
        b = d.b;
        went = went_from a d.b w.0.end (clause_words c) us m d.went;
        goes =
            clause_goes a o.0 w.0 d.b (opening_goes bs a a.pos o.0 o.1 o.2) (wording_goes bs a (codes "or") o.0.end w.0 w.1 w.2) d.goes;
      }
