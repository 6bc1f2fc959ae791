-- What is read as a term is one of the grammar, and its words are written.
use Rattle.std.proofs.Common.{◌≡◌, ℕ, zero, suc, ◌+◌, false, eqb, List, [], ◌∷◌, Ok, sym, refl, ap, ◌∙◌, subst, add-zero, arith}
use Rattle.std.proofs.lemmas.Bool.{true≢false}
use Rattle.logic.specs.Syntax.{Term, Terms, var, app, []ₜ, ◌∷ₜ◌}
use Rattle.logic.specs.Words.{term_words, terms_words}
use Rattle.logic.specs.Lawful.{count}
use Rattle.logic.specs.declared.row.SymbolRow.{SymbolRow}
use Rattle.logic.specs.declared.row.Kind.{Kind}
use Rattle.logic.specs.declared.row.Kind.TheVariants.{Function}
use Rattle.tokens.specs.Tokens.{Tok, opens, closes, variable, word}
use Rattle.reading.specs.Slots.{Slot}
use Rattle.reading.specs.Slots.{Closed, Variable, Opened}
use Rattle.reading.specs.States.{State, from, moved, written, enters, full}
use Rattle.reading.specs.Terms.{slot, turn, args, body, nest, application, headed_state, term_turn, term}
use Rattle.reading.proofs.Turns.{args_suc, nest_application}
use Rattle.spelling.specs.Appearance.{term_symbols, terms_symbols, Appear, none_more}
use Rattle.spelling.specs.Grammar.{Names, SpellsTerm, SpellsTerms, a_variable, an_application, no_terms, more_terms}
use Rattle.spelling.proofs.Answers.{ok_same, bind_ok}
use Rattle.spelling.proofs.Tables.{stays, Fits, fits_before, fits_settled}
use Rattle.spelling.proofs.Streams.{Tokens, behind, Wrote, wrote_join, wrote_none, wrote_one, wrote_rows}
use Rattle.spelling.proofs.Naming.{named_in, arity_in, met_appears}
use Rattle.spelling.proofs.Appearing.{appear_join}
use Rattle.spelling.proofs.TermsGrow.{SlotRead, slot_read, some, Short, Grown, Fitting, Appears, appears_on, args_grow, BodySteps, body_steps, nest_keeps}

module _ (bs : List ℕ) where
  -- a term that was read between two states
  pub record TermRead (room : ℕ) (a b : State) (us : List Tok) : Type 0 where
    pub term : Term
    pub toks : List Tok
    pub spelled : (table : List SymbolRow) → Fitting b table → SpellsTerm table room term toks us
    pub appear : Appears a (term_symbols term) b
    pub there : Tokens bs a.pos toks
    pub wrote : Wrote a b (term_words term)

  -- arguments up to the closing bracket
  pub record ArgsRead (room given : ℕ) (a : State) (g : ℕ × State) (us : List Tok) : Type 0 where
    pub terms : Terms
    pub toks : List Tok
    pub spelled : (table : List SymbolRow) → Fitting g.1 table → SpellsTerms table room terms toks (closes ∷ us)
    pub appear : Appears a (terms_symbols terms) g.1
    pub there : Tokens bs a.pos toks
    pub wrote : Wrote a g.1 (terms_words terms)
    pub counted : g.0 ≡ given + count terms

  -- from a symbol on to the closing bracket
  pub record BodyRead (room base : ℕ) (k : Kind) (a b : State) (us : List Tok) : Type 0 where
    pub symbol : ℕ
    pub run : List ℕ
    pub terms : Terms
    pub toks : List Tok
    pub names : (table : List SymbolRow) → Fitting b table → Names table run symbol k (count terms)
    pub inner : (table : List SymbolRow) → Fitting b table → SpellsTerms table room terms toks (closes ∷ us)
    pub appear : Appears a (symbol ∷ terms_symbols terms) b
    pub there : Tokens bs a.pos (word run ∷ toks)
    pub wrote : Wrote a b ((base + symbol) ∷ terms_words terms)

  -- a term behind its opening bracket
  abbrev pub Nested : ℕ → Type 0
  Nested room =
      (a : State) (p : ℕ) (b : State) → Short a → eqb room 0 ≡ false → nest bs room (moved a p) ≡ Ok b → (us : List Tok) → Tokens bs b.pos us
      → (toks : List Tok) × (t : Term) × ((table : List SymbolRow) → Fitting b table → SpellsTerm table room t (opens ∷ toks) us)
      × Appears a (term_symbols t) b × Tokens bs p toks × Wrote a b (term_words t)

  module _ (room : ℕ) (nested : Nested room) where
    abbrev RestRead : ℕ → ℕ → (ℕ × State) → List Tok → Type 0
    RestRead l given g us =
        eqb l 0 ≡ false → (c : State) → Short c → args bs (nest bs room) (eqb room 0) l (given + 1) c ≡ Ok g
        → ArgsRead room (given + 1) c g us × Grown c g.1

    args_by : (l given : ℕ) (a : State) (g : ℕ × State) (us : List Tok) → Short a → Tokens bs g.1.pos us → RestRead l given g us
        → args bs (nest bs room) (eqb room 0) (suc l) given a ≡ Ok g → ArgsRead room given a g us
    args_by l given a g us short toks rest e =
        let b = bind_ok (from a (slot bs (eqb room 0) (full a.purpose a.count) (eqb l 0) a.pos)) _ g (sym (args_suc bs (nest bs room) (eqb room 0) given a l) ∙ e) in
        by b.0 (slot_read bs a (eqb room 0) (full a.purpose a.count) (eqb l 0) b.0 b.1) b.2
      where
        by : (s : Slot) → SlotRead bs (eqb room 0) (full a.purpose a.count) (eqb l 0) a.pos s
            → turn (nest bs room) (args bs (nest bs room) (eqb room 0) l (given + 1)) given a s ≡ Ok g → ArgsRead room given a g us
        by (Closed e) q k =
            let same : (given, moved a e) ≡ g = ok_same k in
            record {
              terms = []ₜ;
              toks = closes ∷ us;
              spelled = λ table f. no_terms;
              appear = subst (λ (x : ℕ × State). Appears a [] x.1) same none_more;
              there = behind bs a.pos q.lexed closes e us q.read q.is.0 q.is.1 (subst (λ (x : ℕ × State). Tokens bs x.1.pos us) (sym same) toks);
              wrote = subst (λ (x : ℕ × State). Wrote a x.1 []) same (wrote_none a (moved a e) refl refl refl);
              counted = sym (ap (λ (x : ℕ × State). x.0) same) ∙ sym (add-zero given);
            }
        by (Variable i e) q k =
            let r = (rest q.is.5 (written a e i) short k).0 in
            record {
              terms = var i ∷ₜ r.terms;
              toks = variable q.is.0 ∷ r.toks;
              spelled = λ table f. more_terms (a_variable (some room q.is.3) q.is.2) (r.spelled table f);
              appear = r.appear;
              there = behind bs a.pos q.lexed (variable q.is.0) e r.toks q.read q.is.1 q.is.6 r.there;
              wrote = wrote_join a (written a e i) g.1 (i ∷ []) (terms_words r.terms) (wrote_one a (written a e i) i refl refl refl) r.wrote;
              counted = omega (arith, r.counted);
            }
        by (Opened e) q k =
            let b = bind_ok (nest bs room (moved a e)) _ g k in
            let c : State = b.0 in
            let gr = nest_keeps bs room (moved a e) c short b.1 in
            let rg = rest q.is.2 c (gr.within short) b.2 in
            let r : ArgsRead room (given + 1) c g us = rg.0 in
            let n = nested a e c short q.is.1 b.1 r.toks r.there in
            record {
              terms = n.1 ∷ₜ r.terms;
              toks = opens ∷ n.0;
              spelled = λ table f. more_terms (n.2 table (fits_before c.symbols c.rows g.1.symbols g.1.rows table rg.1 f)) (r.spelled table f);
              appear = appear_join (enters a.purpose) a.symbols (term_symbols n.1) c.symbols (terms_symbols r.terms) g.1.symbols n.3
                  (appears_on a c (terms_symbols r.terms) c.symbols g.1.symbols n.5.purpose r.appear);
              there = behind bs a.pos q.lexed opens e n.0 q.read q.is.0 q.is.3 n.4;
              wrote = wrote_join a c g.1 (term_words n.1) (terms_words r.terms) n.5 r.wrote;
              counted = omega (arith, r.counted);
            }

    pub args_read : (l given : ℕ) (a : State) (g : ℕ × State) (us : List Tok) → Short a → Tokens bs g.1.pos us
        → args bs (nest bs room) (eqb room 0) (suc l) given a ≡ Ok g → ArgsRead room given a g us
    args_read zero given a g us short toks e = args_by zero given a g us short toks (λ q. absurd (true≢false q)) e
    args_read (suc l) given a g us short toks e =
        args_by (suc l) given a g us short toks
        (λ q c sh k. (args_read l (given + 1) c g us sh toks k, (args_grow bs (nest bs room) (nest_keeps bs room) (eqb room 0) l (given + 1) c g sh k).0)) e

    module _ (base : ℕ) (k : Kind) (a b : State) (us : List Tok) (short : Short a) (s : BodySteps bs (nest bs room) (eqb room 0) base k a b) where
      abbrev behind_head : State
      behind_head = headed_state a s.head (base + s.head.symbol)

      fits_group : (table : List SymbolRow) → Fitting b table → Fitting s.group.1 table
      fits_group table f =
          fits_settled s.group.1.symbols s.head.symbol s.group.0 s.group.1.rows b.rows table s.settled
          (subst (λ (n : ℕ). Fits n b.rows table) (ap (λ (x : State). x.symbols) s.same) f)

      body_names : (n : ℕ) → s.group.0 ≡ n → (table : List SymbolRow) → Fitting b table → Names table s.head_is.run s.head.symbol k n
      body_names n e table f =
          let g = fits_group table f in
          let h : Fits s.head.symbols s.head.rows table =
          fits_before s.head.symbols s.head.rows s.group.1.symbols s.group.1.rows table s.inner g in
          let i = named_in (enters a.purpose) a.symbols a.rows s.head_is.run k s.head.symbol s.head.symbols s.head.rows table short s.head_is.met h in
          record {
            form = s.head_is.form;
            first = i.0;
            kind = i.1;
            arity =
                arity_in s.group.1.symbols s.head.symbol s.group.0 s.group.1.rows b.rows table s.settled s.few s.below
                (subst (λ (m : ℕ). Fits m b.rows table) (ap (λ (x : State). x.symbols) s.same) f)
                ∙ e;
          }

      body_by : ArgsRead room 0 behind_head s.group us → BodyRead room base k a b us
      body_by r =
          record {
            symbol = s.head.symbol;
            run = s.head_is.run;
            terms = r.terms;
            toks = r.toks;
            names = body_names (count r.terms) (omega (arith, r.counted));
            inner = λ table f. r.spelled table (fits_group table f);
            appear =
                subst (λ (m : ℕ). Appear (enters a.purpose) a.symbols (s.head.symbol ∷ terms_symbols r.terms) m) (sym (ap (λ (x : State). x.symbols) s.same))
                (met_appears (enters a.purpose) a.symbols a.rows s.head_is.run k s.head.symbol s.head.symbols s.head.rows
                (terms_symbols r.terms) s.group.1.symbols s.head_is.met r.appear);
            there = behind bs a.pos s.head_is.lexed (word s.head_is.run) s.head.end r.toks s.head_is.read s.head_is.named s.head_is.on r.there;
            wrote =
                subst (λ (x : State). Wrote a x ((base + s.head.symbol) ∷ terms_words r.terms)) (sym s.same)
                (wrote_rows a s.group.1 b.rows ((base + s.head.symbol) ∷ terms_words r.terms)
                (wrote_join a behind_head s.group.1 ((base + s.head.symbol) ∷ []) (terms_words r.terms)
                (wrote_one a behind_head (base + s.head.symbol) refl refl refl) r.wrote));
          }

    -- an application from its symbol on
    pub body_read : (base : ℕ) (k : Kind) (a b : State) (us : List Tok) → Short a → body bs (nest bs room) (eqb room 0) base k a ≡ Ok b → Tokens bs b.pos us
        → BodyRead room base k a b us
    body_read base k a b us short e toks = go (body_steps bs (nest bs room) (nest_keeps bs room) (eqb room 0) base k a b short e)
      where
        go : BodySteps bs (nest bs room) (eqb room 0) base k a b → BodyRead room base k a b us
        go s =
            body_by base k a b us short s
            (args_read 4 0 (headed_state a s.head (base + s.head.symbol)) s.group us s.short
            (subst (λ (x : ℕ). Tokens bs x us) (ap (λ (x : State). x.pos) s.same) toks) s.read)

  -- a term behind its opening bracket
  pub nested_read : (room : ℕ) → Nested room
  unfolding nest
  nested_read zero a p b short q e us toks = absurd (true≢false q)
  nested_read (suc room) a p b short q e us toks =
      let r : BodyRead room 256 Function (moved a p) b us = body_read room (nested_read room) 256 Function (moved a p) b us short e toks in (
        word r.run ∷ r.toks,
        app r.symbol r.terms,
        λ table f. an_application (r.names table f) (r.inner table f),
        r.appear,
        r.there,
        record { counted = r.wrote.counted; poured = r.wrote.poured; purpose = r.wrote.purpose },
      )

  -- a term
  pub term_read : (room : ℕ) (a b : State) (us : List Tok) → Short a → term bs room a ≡ Ok b → Tokens bs b.pos us → TermRead room a b us
  term_read room a b us short e toks =
      let c = bind_ok (from a (slot bs (eqb room 0) (full a.purpose a.count) false a.pos)) _ b e in
      by c.0 (slot_read bs a (eqb room 0) (full a.purpose a.count) false c.0 c.1) c.2
    where
      by : (s : Slot) → SlotRead bs (eqb room 0) (full a.purpose a.count) false a.pos s → term_turn bs room a s ≡ Ok b → TermRead room a b us
      by (Closed e) q k = cc
      by (Variable i e) q k =
          let same : written a e i ≡ b = ok_same k in
          record {
            term = var i;
            toks = variable q.is.0 ∷ us;
            spelled = λ table f. a_variable (some room q.is.3) q.is.2;
            appear = subst (Appears a []) same none_more;
            there = behind bs a.pos q.lexed (variable q.is.0) e us q.read q.is.1 q.is.6 (subst (λ (x : State). Tokens bs x.pos us) (sym same) toks);
            wrote = subst (λ (x : State). Wrote a x (i ∷ [])) same (wrote_one a (written a e i) i refl refl refl);
          }
      by (Opened e) q k =
          let n = nested_read room a e b short q.is.1 (nest_application bs room (moved a e) (some room q.is.1) ∙ k) us toks in
          record {
            term = n.1;
            toks = opens ∷ n.0;
            spelled = n.2;
            appear = n.3;
            there = behind bs a.pos q.lexed opens e n.0 q.read q.is.0 q.is.3 n.4;
            wrote = n.5;
          }

  -- and the table grows
  pub term_keeps : (room : ℕ) (a b : State) → Short a → term bs room a ≡ Ok b → Grown a b
  term_keeps room a b short e =
      let c = bind_ok (from a (slot bs (eqb room 0) (full a.purpose a.count) false a.pos)) _ b e in
      by c.0 (slot_read bs a (eqb room 0) (full a.purpose a.count) false c.0 c.1) c.2
    where
      by : (s : Slot) → SlotRead bs (eqb room 0) (full a.purpose a.count) false a.pos s → term_turn bs room a s ≡ Ok b → Grown a b
      by (Closed e) q k = cc
      by (Variable i e) q k = subst (Grown a) (ok_same k) (stays a.symbols a.rows)
      by (Opened e) q k = nest_keeps bs room (moved a e) b short (nest_application bs room (moved a e) (some room q.is.1) ∙ k)

  -- an application with any head
  pub application_read : (room base : ℕ) (k : Kind) (a b : State) (us : List Tok) → Short a → application bs room base k a ≡ Ok b → Tokens bs b.pos us
      → BodyRead room base k a b us
  unfolding application
  application_read room base k a b us short e toks = body_read room (nested_read room) base k a b us short e toks

  pub application_keeps : (room base : ℕ) (k : Kind) (a b : State) → Short a → application bs room base k a ≡ Ok b → Grown a b
  unfolding application
  application_keeps room base k a b short e = (body_steps bs (nest bs room) (nest_keeps bs room) (eqb room 0) base k a b short e).grows
