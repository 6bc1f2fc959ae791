-- What is known of a slot, and how the symbol table grows while a term is read.
use Rattle.std.proofs.Common.{◌≡◌, ℕ, zero, suc, ◌+◌, ◌-◌, ◌<◌, ◌≤◌, Bool, false, eqb, List, length, Ok, Result, sym, refl, ap, ◌∙◌, subst, arith, length-set}
use Rattle.std.proofs.lemmas.Bool.Decides.{nat_tests}
use Rattle.std.proofs.lemmas.Bool.{true≢false}
use Rattle.logic.specs.Limits as limits
use Rattle.logic.specs.declared.row.SymbolRow.{SymbolRow}
use Rattle.logic.specs.declared.row.Kind.{Kind}
use Rattle.logic.specs.declared.row.Kind.TheVariants.{Function}
use Rattle.tokens.specs.declared.fault.Fault.TheVariants.{Deep, ManyWords, ManyArguments}
use Rattle.tokens.specs.Tokens.{Tok, opens, closes, equals, number, variable, word, Lexed, lex}
use Rattle.tokens.specs.Forms.{variable_form}
use Rattle.reading.specs.Slots.{Slot}
use Rattle.reading.specs.Slots.{Closed, Variable, Opened}
use Rattle.reading.specs.States.{State, Halt, from, moved, written, enters, full}
use Rattle.reading.specs.Entering.{Headed, head, settle, new_row}
use Rattle.reading.specs.Terms.{fitting, slot_at, slot, turn, args, body, nest, headed_state, with_rows}
use Rattle.reading.proofs.Turns.{args_suc}
use Rattle.spelling.specs.Appearance.{Appear}
use Rattle.spelling.specs.Grammar.{VariableRun}
use Rattle.spelling.proofs.Answers.{ok_same, bind_ok, then_ok, lift_ok, cond_ok}
use Rattle.spelling.proofs.Tables.{Grows, stays, grows_then, Fits, MetAs, old, new, SettledAs, application_grows}
use Rattle.spelling.proofs.Heads.{numeral_is, HeadIs, head_is, settle_is}

-- ── Slots ──

-- what a slot says of its token
abbrev pub SlotIs : Bool → Bool → Bool → ℕ → Tok → Slot → Type 0
SlotIs deep words more end t (Closed e) = (t ≡ closes) × (e ≡ end)
SlotIs deep words more end t (Variable i e) = (r : List ℕ) × (t ≡ variable r) × VariableRun r i × (deep ≡ false) × (words ≡ false) × (more ≡ false) × (e ≡ end)
SlotIs deep words more end t (Opened e) = (t ≡ opens) × (deep ≡ false) × (more ≡ false) × (e ≡ end)

fitting_ok : {A : Type 0} (deep words more : Bool) (at : ℕ) (x y : A) → fitting deep words more at (Ok x) ≡ Ok y → (deep ≡ false) × (words ≡ false) × (more ≡ false) × (x ≡ y)
fitting_ok deep words more at x y e =
    let a = cond_ok deep (Deep at) _ y e in
    let b = cond_ok words (ManyWords at) _ y a.1 in
    let c = cond_ok more (ManyArguments at) _ y b.1 in
    (a.0, b.0, c.0, ok_same c.1)

pub variable_is : (r : List ℕ) (at i : ℕ) → variable_form r at ≡ Ok i → VariableRun r i
unfolding variable_form
variable_is r at i e = numeral_is r _ (limits.variables - 1) at i e

pub slot_is : (deep words more : Bool) (at end : ℕ) (t : Tok) (s : Slot) → slot_at deep words more at end t ≡ Ok s → SlotIs deep words more end t s
slot_is deep words more at end opens s e =
    let f = fitting_ok deep false more at (Opened end) s e in
    subst (SlotIs deep words more end opens) f.3 (refl, f.0, f.2, refl)
slot_is deep words more at end closes s e = subst (SlotIs deep words more end closes) (ok_same e) (refl, refl)
slot_is deep words more at end equals s e = cc
slot_is deep words more at end (number r) s e = cc
slot_is deep words more at end (variable r) s e =
    let b = then_ok (variable_form r at) (λ i. fitting deep words more at (Ok (Variable i end))) s e in
    let f = fitting_ok deep words more at (Variable b.0 end) s b.2 in
    subst (SlotIs deep words more end (variable r)) f.3 (r, refl, variable_is r at b.0 b.1, f.0, f.1, f.2, refl)
slot_is deep words more at end (word r) s e = cc

pub some : (room : ℕ) → eqb room 0 ≡ false → 0 < room
some room e = grind (arith, nat_tests)

-- the token of a slot, with what is known of it
pub record SlotRead (bs : List ℕ) (deep words more : Bool) (p : ℕ) (s : Slot) : Type 0 where
  pub lexed : Lexed
  pub read : lex bs p ≡ Ok lexed
  pub is : SlotIs deep words more lexed.end lexed.tok s

pub slot_read : (bs : List ℕ) (st : State) (deep words more : Bool) (s : Slot) → from st (slot bs deep words more st.pos) ≡ Ok s → SlotRead bs deep words more st.pos s
slot_read bs st deep words more s e =
    let c = then_ok (lex bs st.pos) _ s (lift_ok st.symbols st.rows (slot bs deep words more st.pos) s e) in
    record { lexed = c.0; read = c.1; is = slot_is deep words more c.0.place c.0.end c.0.tok s c.2 }

abbrev pub Short : State → Type 0
Short st = st.symbols ≤ length st.rows

abbrev pub Grown : State → State → Type 0
Grown a b = Grows a.symbols a.rows b.symbols b.rows

abbrev pub Fitting : State → List SymbolRow → Type 0
Fitting st table = Fits st.symbols st.rows table

abbrev pub Appears : State → List ℕ → State → Type 0
Appears a ss b = Appear (enters a.purpose) a.symbols ss b.symbols

-- the purpose stays
pub appears_on : (a b : State) (ss : List ℕ) (n m : ℕ) → b.purpose ≡ a.purpose → Appear (enters b.purpose) n ss m → Appear (enters a.purpose) n ss m
appears_on a b ss n m e h = subst (λ p. Appear (enters p) n ss m) e h

-- ── The table grows ──

module _ (bs : List ℕ) where
  abbrev pub Keeps : (State → Result State Halt) → Type 0
  Keeps nested = (a b : State) → Short a → nested a ≡ Ok b → Grown a b

  module _ (nested : State → Result State Halt) (keeps : Keeps nested) (deep : Bool) where
    abbrev ArgsGrow : ℕ → Type 0
    ArgsGrow l = (given : ℕ) (a : State) (g : ℕ × State) → Short a → args bs nested deep (suc l) given a ≡ Ok g → Grown a g.1 × (g.0 ≤ given + l)

    -- what is known of the arguments after this one
    abbrev RestGrows : ℕ → ℕ → (ℕ × State) → Type 0
    RestGrows l given g = eqb l 0 ≡ false → (c : State) → Short c → args bs nested deep l (given + 1) c ≡ Ok g → Grown c g.1 × (g.0 ≤ given + l)

    args_by : (l given : ℕ) (a : State) (g : ℕ × State) → Short a → RestGrows l given g → args bs nested deep (suc l) given a ≡ Ok g → Grown a g.1 × (g.0 ≤ given + l)
    args_by l given a g short rest e =
        let b = bind_ok (from a (slot bs deep (full a.purpose a.count) (eqb l 0) a.pos)) _ g (sym (args_suc bs nested deep given a l) ∙ e) in
        by b.0 (slot_read bs a deep (full a.purpose a.count) (eqb l 0) b.0 b.1) b.2
      where
        by : (s : Slot) → SlotRead bs deep (full a.purpose a.count) (eqb l 0) a.pos s → turn nested (args bs nested deep l (given + 1)) given a s ≡ Ok g
            → Grown a g.1 × (g.0 ≤ given + l)
        by (Closed e) q k =
            subst (λ (x : ℕ × State). Grown a x.1 × (x.0 ≤ given + l)) (ok_same k) (stays a.symbols a.rows, omega arith)
        by (Variable i e) q k = rest q.is.5 (written a e i) short k
        by (Opened e) q k =
            let b = bind_ok (nested (moved a e)) _ g k in
            let gr = keeps (moved a e) b.0 short b.1 in
            let r = rest q.is.2 b.0 (gr.within short) b.2 in
            (grows_then a.symbols a.rows b.0.symbols b.0.rows g.1.symbols g.1.rows gr r.0, r.1)

    -- arguments, where each that is nested lets the table grow; at most l of them fit l + 1 slots
    pub args_grow : (l : ℕ) → ArgsGrow l
    args_grow zero given a g short e = args_by zero given a g short (λ q. absurd (true≢false q)) e
    args_grow (suc l) given a g short e =
        args_by (suc l) given a g short (λ q c sh k. let r = args_grow l (given + 1) c g sh k in (r.0, omega (arith, r.1))) e

  -- what is read from a symbol on to the closing bracket, step by step
  pub record BodySteps (nested : State → Result State Halt) (deep : Bool) (base : ℕ) (k : Kind) (a b : State) : Type 0 where
    pub head : Headed
    pub head_is : HeadIs bs k a.purpose a.pos a.count a.symbols a.rows head
    pub group : ℕ × State
    pub read : args bs nested deep 5 0 (headed_state a head (base + head.symbol)) ≡ Ok group
    pub short : Short (headed_state a head (base + head.symbol))
    pub inner : Grown (headed_state a head (base + head.symbol)) group.1
    pub few : group.0 ≤ 4
    pub settled : SettledAs head.symbol group.0 group.1.rows b.rows
    pub same : b ≡ with_rows group.1 b.rows
    pub grows : Grown a b
    pub below : head.symbol < group.1.symbols

  met_short : (may : Bool) (n : ℕ) (rows : List SymbolRow) (name : List ℕ) (k : Kind) (s m : ℕ) (rows' : List SymbolRow) → n ≤ length rows
      → MetAs may n rows name k s m rows' → (m ≤ length rows') × (s < m)
  met_short may n rows name k s m rows' short (old lt at is) = (short, lt)
  met_short may n rows name k s m rows' short (new allowed none lt few) = (omega (arith, length-set rows n (new_row name k)), omega arith)

  pub body_steps : (nested : State → Result State Halt) → Keeps nested → (deep : Bool) (base : ℕ) (k : Kind) (a b : State) → Short a
      → body bs nested deep base k a ≡ Ok b → BodySteps nested deep base k a b
  body_steps nested keeps deep base k a b short e =
      let h = bind_ok (head bs k a.purpose a.pos a.count a.symbols a.rows) _ b e in
      let hi = head_is bs k a.purpose a.pos a.count a.symbols a.rows h.0 short h.1 in
      let ms = met_short (enters a.purpose) a.symbols a.rows hi.run k h.0.symbol h.0.symbols h.0.rows short hi.met in
      let st : State = headed_state a h.0 (base + h.0.symbol) in
      let g = bind_ok (args bs nested deep 5 0 st) _ b h.2 in
      let gr = args_grow nested keeps deep 4 0 st g.0 ms.0 g.1 in
      let lt : h.0.symbol < g.0.1.symbols = omega (arith, ms.1, gr.0.more) in
      let f = bind_ok (from g.0.1 (settle g.0.1.rows h.0.symbol g.0.0 h.0.place)) _ b g.2 in
      let same : with_rows g.0.1 f.0 ≡ b = ok_same f.2 in
      let rows_are : f.0 ≡ b.rows = ap (λ (x : State). x.rows) same in
      let se : SettledAs h.0.symbol g.0.0 g.0.1.rows b.rows =
      subst (SettledAs h.0.symbol g.0.0 g.0.1.rows) rows_are
      (settle_is g.0.1.rows h.0.symbol g.0.0 h.0.place f.0 (omega (arith, gr.0.within ms.0))
      (lift_ok g.0.1.symbols g.0.1.rows (settle g.0.1.rows h.0.symbol g.0.0 h.0.place) f.0 f.1)) in
      let few : g.0.0 ≤ 4 = omega (arith, gr.1) in
      let b_is : b ≡ with_rows g.0.1 b.rows = sym same ∙ ap (with_rows g.0.1) rows_are in
      let whole : Grows a.symbols a.rows g.0.1.symbols b.rows =
      application_grows (enters a.purpose) a.symbols a.rows hi.run k h.0.symbol h.0.symbols g.0.1.symbols h.0.rows g.0.1.rows b.rows
      hi.met gr.0 se.long se.here (omega (arith, se.arity)) se.others in
      record {
        head = h.0;
        head_is = hi;
        group = g.0;
        read = g.1;
        short = ms.0;
        inner = gr.0;
        few = few;
        settled = se;
        same = b_is;
        grows = subst (λ (n : ℕ). Grows a.symbols a.rows n b.rows) (ap (λ (x : State). x.symbols) same) whole;
        below = lt;
      }

  pub nest_keeps : (room : ℕ) → Keeps (nest bs room)
  unfolding nest
  nest_keeps zero a b short e = subst (Grown a) (ok_same e) (stays a.symbols a.rows)
  nest_keeps (suc room) a b short e = (body_steps (nest bs room) (nest_keeps room) (eqb room 0) 256 Function a b short e).grows
