-- What is read as a step line is one of the grammar.
use Rattle.std.proofs.Common.{◌≡◌, ℕ, zero, suc, ◌+◌, ◌-◌, ◌<◌, ◌≤◌, Bool, true, false, eqb, List, [], ◌∷◌, ◌++◌, map, length, take, drop, set, Ok, Err, Result, sym, refl, ap, ◌∙◌, subst, append_assoc, append-nil, arith, length-append, length-set, take-append-drop}
use lib.Seq.{take-append_seam, drop-append_seam}
use Rattle.std.proofs.lemmas.List.{length-take-le, take_more_set, drop-set-lt}
use Rattle.std.proofs.lemmas.Bool.{true≢false}
use Rattle.std.specs.List.{between}
use Rattle.logic.specs.Words.{term_words}
use Rattle.logic.specs.declared.row.SymbolRow.{SymbolRow}
use Rattle.logic.specs.declared.row.Kind.{Kind}
use Rattle.tokens.specs.declared.fault.Fault.{Fault}
use Rattle.tokens.specs.declared.fault.Fault.TheVariants.{ManyBindings, Count}
use Rattle.tokens.specs.Tokens.{Tok, opens, closes, equals, number, variable, word, lex}
use Rattle.reading.specs.declared.purpose.Purpose.TheVariants.{Binding as for-bindings}
use Rattle.reading.specs.Marks.{Mark}
use Rattle.reading.specs.Marks.{Closed, Opened}
use Rattle.reading.specs.Bindings.{Found}
use Rattle.reading.specs.States.{State, Halt, halt, ◌>>=◌, lift, from, moved, enters, exceeds}
use Rattle.reading.specs.Entering.{Headed, head, settle}
use Rattle.reading.specs.Terms.{headed_state, with_rows, term}
use Rattle.reading.specs.Clauses.{opening, closing}
use Rattle.lines.specs.Justifications.{bindings_part}
use Rattle.reading.specs.Bindings.{Bound, Bounds, blank, variable_due, variable_at, binding_mark, binding_turn, binding, binding_list}
use Rattle.reading.proofs.Blind.{length-blank}
use Rattle.reading.proofs.Kept.{term_kept}
use Rattle.reading.proofs.Keeping.{Safe, Any, term_safe}
use Rattle.reading.proofs.Sealed.{Halted, Sealed, term_sealed, settle_same}
use Rattle.spelling.specs.Appearance.{Appear}
use Rattle.spelling.specs.Grammar.{VariableRun, SpellsTerm}
use Rattle.spelling.specs.StepGrammar.{Binding, bound_words, SpellsBindings, no_bindings, more_bindings, SpellsBindingList, no_list, a_list}
use Rattle.spelling.specs.StepSpelling.{kept_binding}
use Rattle.spelling.proofs.Answers.{ok_same, bind_ok, then_ok, lift_ok, cond_ok}
use Rattle.spelling.proofs.Tables.{Grows, Fits}
use Rattle.spelling.proofs.Streams.{Tokens, behind, pour}
use Rattle.spelling.proofs.Marks.{TokenRead, token_there, opening_read, closing_read, marked_is, MarkRead}
use Rattle.spelling.proofs.TermsGrow.{some, Short, Fitting, variable_is}
use Rattle.spelling.proofs.TermsRead.{TermRead, term_read}
use Rattle.spelling.proofs.RulesRead.{Settled, fits_itself, start}
use Rattle.spelling.proofs.SealedTables.{appear_sealed, rows_sealed}

-- ── Words where they were written ──

pub length-pour : (out : List ℕ) (n : ℕ) (ws : List ℕ) → length (pour out n ws) ≡ length out
length-pour out n [] = refl
length-pour out n (w ∷ ws) = length-pour (set out n w) (n + 1) ws ∙ length-set out n w

pour_fits : (out : List ℕ) (n : ℕ) (ws : List ℕ) → n + length ws ≤ length out → pour out n ws ≡ take n out ++ (ws ++ drop (n + length ws) out)
pour_fits out n [] h =
    let e : n ≡ n + 0 = omega arith in
    sym (take-append-drop n out) ∙ ap (λ m. take n out ++ drop m out) e
pour_fits out n (w ∷ ws) h =
    let long = length-set out n w in
    let lt : n < length out = omega arith in
    let e : n + 1 + length ws ≡ n + length (w ∷ ws) = omega arith in
    let before : n < n + 1 + length ws = omega arith in
    pour_fits (set out n w) (n + 1) ws (omega arith)
    ∙ ap (λ q. take (n + 1) (set out n w) ++ (ws ++ q)) (drop-set-lt (n + 1 + length ws) out n w before)
    ∙ ap (λ q. q ++ (ws ++ drop (n + 1 + length ws) out)) (take_more_set out n w lt)
    ∙ append_assoc (take n out) (w ∷ []) (ws ++ drop (n + 1 + length ws) out)
    ∙ ap (λ m. take n out ++ (w ∷ (ws ++ drop m out))) e

pub poured_between : (out : List ℕ) (n m : ℕ) (ws : List ℕ) → m ≡ n + length ws → m ≤ length out → between n m (pour out n ws) ≡ ws
poured_between out n m ws e h =
    let front : length (take n out) ≡ n = length-take-le n out (omega arith) in
    let many : m - n ≡ length ws = omega arith in
    ap (λ xs. take (m - n) (drop n xs)) (pour_fits out n ws (omega arith))
    ∙ ap (λ j. take (m - n) (drop j (take n out ++ (ws ++ drop (n + length ws) out)))) (sym front)
    ∙ ap (take (m - n)) (drop-append_seam (take n out) (ws ++ drop (n + length ws) out))
    ∙ ap (λ j. take j (ws ++ drop (n + length ws) out)) many ∙ take-append_seam ws (drop (n + length ws) out)

-- ── Variables ──

due_is : (at : ℕ) (t : Tok) (i : ℕ) → variable_due at t ≡ Ok i → (r : List ℕ) × (t ≡ variable r) × VariableRun r i
due_is at opens i e = cc
due_is at closes i e = cc
due_is at equals i e = cc
due_is at (number r) i e = cc
due_is at (variable r) i e = (r, refl, variable_is r at i e)
due_is at (word r) i e = cc

record VariableRead (bs : List ℕ) (p : ℕ) (v : Found) : Type 0 where
  run : List ℕ
  read : TokenRead bs p (variable run) v.end
  is : VariableRun run v.variable

variable_read : (bs : List ℕ) (p : ℕ) (v : Found) → variable_at bs p ≡ Ok v → VariableRead bs p v
variable_read bs p v e =
    let l = then_ok (lex bs p) _ v e in
    let i = then_ok (variable_due l.0.place l.0.tok) _ v l.2 in
    let d = due_is l.0.place l.0.tok i.0 i.1 in
    subst (VariableRead bs p) (ok_same i.2) (record { run = d.0; read = record { lexed = l.0; read = l.1; is = d.1; on = refl }; is = d.2 })

-- a store keeps its length while a term is read
pub term-length : (bs : List ℕ) (room : ℕ) (u v : State) → term bs room u ≡ Ok v → length v.out ≡ length u.out
term-length bs room u v e = subst (Safe Any Long) e (term_safe Long Any Any (λ s f h. tt) (λ s x h. h) (λ s x w f h. length-set s.out s.count w ∙ h) heads settles bs room u refl)
  where
    Long : State → Type 0
    Long st = length st.out ≡ length u.out

    heads : (bs : List ℕ) (k : Kind) (st : State) → Long st → Safe Any (λ h. Unit {0} × ((w : ℕ) → Long (headed_state st h w))) (head bs k st.purpose st.pos st.count st.symbols st.rows)
    heads bs k st g = by (head bs k st.purpose st.pos st.count st.symbols st.rows)
      where
        by : (r : Result Headed Halt) → Safe Any (λ h. Unit {0} × ((w : ℕ) → Long (headed_state st h w))) r
        by (Ok h) = (tt, λ w. length-set st.out st.count w ∙ g)
        by (Err f) = tt

    settles : (st : State) (s given at : ℕ) → Unit {0} → Long st → Safe Any (λ rs. Long (with_rows st rs)) (from st (settle st.rows s given at))
    settles st s given at u g = by (settle st.rows s given at)
      where
        by : (r : Result (List SymbolRow) Fault) → Safe Any (λ rs. Long (with_rows st rs)) (from st r)
        by (Ok rs) = g
        by (Err f) = tt

module _ (bs : List ℕ) (n : ℕ) (rows : List SymbolRow) (settled : Settled n rows) (short : n ≤ length rows) where
  -- a state of a sealed book
  abbrev pub At : State → Type 0
  At st = (st.symbols ≡ n) × (st.rows ≡ rows)

  abbrev pub sealed_table : List SymbolRow
  sealed_table = take n rows

  pub at_short : (st : State) → At st → Short st
  at_short st at = subst (λ (k : ℕ). k ≤ length st.rows) (sym at.0) (subst (λ (rs : List SymbolRow). n ≤ length rs) (sym at.1) short)

  pub at_fits : (st : State) → At st → Fitting st sealed_table
  at_fits st at = subst (λ (k : ℕ). Fits k st.rows sealed_table) (sym at.0) (subst (λ (rs : List SymbolRow). Fits n rs sealed_table) (sym at.1) (fits_itself n rows short settled))

  -- reading that enters no name stays in it
  pub at_after : (a b : State) (ss : List ℕ) → At a → enters a.purpose ≡ false → Appear (enters a.purpose) a.symbols ss b.symbols
      → Grows a.symbols a.rows b.symbols b.rows → At b
  at_after a b ss at never appear g =
      let same : b.symbols ≡ a.symbols = appear_sealed a.symbols ss b.symbols (subst (λ (q : Bool). Appear q a.symbols ss b.symbols) never appear) in
      let m_is : b.symbols ≡ n = same ∙ at.0 in
      let g' : Grows n rows b.symbols b.rows =
      subst (λ (rs : List SymbolRow). Grows n rs b.symbols b.rows) at.1 (subst (λ (k : ℕ). Grows k a.rows b.symbols b.rows) at.0 g) in
      (m_is, rows_sealed n rows b.symbols b.rows settled g' m_is)

  -- ── One binding ──

  record BoundRead (a : State) (x : Bound × State) (us : List Tok) : Type 0 where
    bound : Binding
    toks : List Tok
    run : List ℕ
    named : VariableRun run bound.variable
    spelled : SpellsTerm sealed_table 32 bound.term toks (closes ∷ us)
    there : Tokens bs a.pos (variable run ∷ toks)
    kept : x.0 ≡ kept_binding bound
    counted : x.1.count ≡ a.count + length (term_words bound.term)

  -- what stays true from binding to binding
  record Filling (st : State) : Type 0 where
    at : At st
    purpose : st.purpose ≡ for-bindings
    few : st.count ≤ 512
    long : 512 ≤ length st.out

  record BindingSteps (a : State) (x : Bound × State) : Type 0 where
    found : Found
    var_read : VariableRead bs a.pos found
    last : State
    end : ℕ
    term_is : term bs 32 (moved a found.end) ≡ Ok last
    closed : TokenRead bs last.pos closes end
    same : (record { variable = found.variable; words = between a.count last.count last.out }, moved last end) ≡ x

  binding_steps : (a : State) (x : Bound × State) → binding bs a ≡ Ok x → BindingSteps a x
  unfolding binding
  binding_steps a x e =
      let v = bind_ok (from a (variable_at bs a.pos)) _ x e in
      let t = bind_ok (term bs 32 (moved a v.0.end)) _ x v.2 in
      let c = bind_ok (from t.0 (closing bs t.0.pos)) _ x t.2 in
      record {
        found = v.0;
        var_read = variable_read bs a.pos v.0 (lift_ok a.symbols a.rows (variable_at bs a.pos) v.0 v.1);
        last = t.0;
        end = c.0;
        term_is = t.1;
        closed = closing_read bs t.0 t.0.pos c.0 c.1;
        same = ok_same c.2;
      }

  filling_enters : (a : State) → Filling a → enters a.purpose ≡ false
  filling_enters a f = ap enters f.purpose

  -- the symbols after a term, whatever follows
  at_term : (a b : State) (room : ℕ) → At a → enters a.purpose ≡ false → term bs room a ≡ Ok b → At b
  at_term a b room at never e =
      let s = subst (Safe (Halted n (λ rs. rs ≡ rows)) (Sealed n (λ rs. rs ≡ rows))) e (term_sealed n (λ rs. rs ≡ rows) (settle_same n rows settled) bs room a (never, at.0, at.1)) in
      (s.1, s.2)

  few_after : (a b : State) → a.purpose ≡ for-bindings → a.count ≤ 512 → term bs 32 a ≡ Ok b → (b.purpose ≡ for-bindings) × (b.count ≤ 512)
  few_after a b p few e =
      let k = term_kept 0 [] bs 32 a b (p, omega arith, few, refl) (sym e) in
      (k.0, k.2)

  -- the binding, once the tokens behind it are known
  bound_by : (a : State) (x : Bound × State) (us : List Tok) → Filling a → BindingSteps a x → Tokens bs x.1.pos us → BoundRead a x us
  bound_by a x us f s toks =
      let st : State = moved a s.found.end in
      let close = token_there bs s.last.pos closes s.end us s.closed (subst (λ (y : Bound × State). Tokens bs y.1.pos us) (sym s.same) toks) in
      let r : TermRead bs 32 st s.last (closes ∷ us) = term_read bs 32 st s.last (closes ∷ us) (at_short st f.at) s.term_is close in
      let at : At s.last = at_term st s.last 32 f.at (filling_enters a f) s.term_is in
      let small = few_after st s.last f.purpose f.few s.term_is in
      let words_are : between a.count s.last.count s.last.out ≡ term_words r.term =
      ap (between a.count s.last.count) r.wrote.poured
      ∙ poured_between a.out a.count s.last.count (term_words r.term) r.wrote.counted (omega (arith, small.1, f.long)) in
      record {
        bound = record { variable = s.found.variable; term = r.term };
        toks = r.toks;
        run = s.var_read.run;
        named = s.var_read.is;
        spelled = r.spelled sealed_table (at_fits s.last at);
        there = token_there bs a.pos (variable s.var_read.run) s.found.end r.toks s.var_read.read r.there;
        kept = sym (ap (λ (y : Bound × State). y.0) s.same) ∙ ap (λ ws. record { variable = s.found.variable; words = ws }) words_are;
        counted = sym (ap (λ (y : Bound × State). y.1.count) s.same) ∙ r.wrote.counted;
      }

  -- what stays true, also where the tokens behind are not known yet
  filling_after : (a : State) (x : Bound × State) → Filling a → BindingSteps a x → Filling x.1
  filling_after a x f s =
      let st : State = moved a s.found.end in
      let at : At s.last = at_term st s.last 32 f.at (filling_enters a f) s.term_is in
      let small = few_after st s.last f.purpose f.few s.term_is in
      let long : length s.last.out ≡ length a.out = term-length bs 32 st s.last s.term_is in
      subst (λ (y : Bound × State). Filling y.1) s.same (record { at = at; purpose = small.0; few = small.1; long = omega (arith, long, f.long) })

  -- ── The list ──

  pub record ListRead (l : ℕ) (done : List Bound) (a : State) (r : Bounds) (us : List Tok) : Type 0 where
    pub bindings : List Binding
    pub toks : List Tok
    pub all : r.bound ≡ done ++ map kept_binding bindings
    pub few : length bindings ≤ l
    pub words : a.count + length (bound_words bindings) ≤ 512
    pub spelled : SpellsBindings sealed_table bindings toks (closes ∷ us)
    pub there : Tokens bs a.pos toks
    pub symbols : r.symbols ≡ n
    pub rows_are : r.rows ≡ rows

  pub list_suc : (l : ℕ) (done : List Bound) (a : State) → binding_list bs (suc l) done a ≡ (from a (binding_mark bs (eqb l 0) a.pos) >>= binding_turn (binding bs) (binding_list bs l) done a)
  unfolding binding_list
  list_suc l done a = refl

  abbrev RestList : ℕ → List Bound → Bounds → List Tok → Type 0
  RestList l done r us =
      eqb l 0 ≡ false → (b : Bound) (c : State) → Filling c → binding_list bs l (done ++ b ∷ []) c ≡ Ok r → ListRead (l - 1) (done ++ b ∷ []) c r us

  mark_read : (a : State) (l : ℕ) (m : Mark) → from a (binding_mark bs (eqb l 0) a.pos) ≡ Ok m → MarkRead bs (eqb l 0) a.pos m
  mark_read a l m h =
      let c = then_ok (lex bs a.pos) _ m (lift_ok a.symbols a.rows (binding_mark bs (eqb l 0) a.pos) m h) in
      record { lexed = c.0; read = c.1; is = marked_is (ManyBindings c.0.place) (eqb l 0) c.0.place c.0.end c.0.tok m c.2 }

  list_joined : (l : ℕ) (done : List Bound) (a : State) (r : Bounds) (us : List Tok) (e : ℕ) (x : Bound × State) → MarkRead bs (eqb l 0) a.pos (Opened e)
      → (z : ListRead (l - 1) (done ++ x.0 ∷ []) x.1 r us) → BoundRead (moved a e) x z.toks → ListRead l done a r us
  list_joined l done a r us e x q z b =
      record {
        bindings = b.bound ∷ z.bindings;
        toks = opens ∷ variable b.run ∷ b.toks;
        all = z.all ∙ append_assoc done (x.0 ∷ []) (map kept_binding z.bindings) ∙ ap (λ y. done ++ (y ∷ map kept_binding z.bindings)) b.kept;
        few = let h = some l q.is.2 in omega (arith, z.few);
        words = omega (arith, z.words, b.counted, length-append (term_words b.bound.term) (bound_words z.bindings));
        spelled = more_bindings b.named b.spelled z.spelled;
        there = behind bs a.pos q.lexed opens e (variable b.run ∷ b.toks) q.read q.is.0 q.is.1 b.there;
        symbols = z.symbols;
        rows_are = z.rows_are;
      }

  list_by : (l : ℕ) (done : List Bound) (a : State) (r : Bounds) (us : List Tok) → Filling a → Tokens bs r.end us → RestList l done r us
      → binding_list bs (suc l) done a ≡ Ok r → ListRead l done a r us
  list_by l done a r us f toks rest e =
      let m = bind_ok (from a (binding_mark bs (eqb l 0) a.pos)) _ r (sym (list_suc l done a) ∙ e) in
      by m.0 (mark_read a l m.0 m.1) m.2
    where
      by : (m : Mark) → MarkRead bs (eqb l 0) a.pos m → binding_turn (binding bs) (binding_list bs l) done a m ≡ Ok r → ListRead l done a r us
      by (Closed e) q k =
          let same : record { bound = done; end = e; symbols = a.symbols; rows = a.rows } ≡ r = ok_same k in
          record {
            bindings = [];
            toks = closes ∷ us;
            all = sym (ap (λ (y : Bounds). y.bound) same) ∙ sym (append-nil done);
            few = omega arith;
            words = omega (arith, f.few);
            spelled = no_bindings;
            there = behind bs a.pos q.lexed closes e us q.read q.is.0 q.is.1 (subst (λ (y : Bounds). Tokens bs y.end us) (sym same) toks);
            symbols = sym (ap (λ (y : Bounds). y.symbols) same) ∙ f.at.0;
            rows_are = sym (ap (λ (y : Bounds). y.rows) same) ∙ f.at.1;
          }
      by (Opened e) q k =
          let x = bind_ok (binding bs (moved a e)) _ r k in
          let g : Filling (moved a e) = record { at = f.at; purpose = f.purpose; few = f.few; long = f.long } in
          let s = binding_steps (moved a e) x.0 x.1 in
          let z = rest q.is.2 x.0.0 x.0.1 (filling_after (moved a e) x.0 g s) x.2 in
          list_joined l done a r us e x.0 q z (bound_by (moved a e) x.0 z.toks g s z.there)

  list_read : (l : ℕ) (done : List Bound) (a : State) (r : Bounds) (us : List Tok) → Filling a → Tokens bs r.end us → binding_list bs (suc l) done a ≡ Ok r → ListRead l done a r us
  list_read zero done a r us f toks e = list_by zero done a r us f toks (λ q. absurd (true≢false q)) e
  list_read (suc l) done a r us f toks e =
      let one_less : l ≡ suc l - 1 = omega arith in
      list_by (suc l) done a r us f toks (λ q b c g k. subst (λ (m : ℕ). ListRead m (done ++ b ∷ []) c r us) one_less (list_read l (done ++ b ∷ []) c r us g toks k)) e

  -- a list of bindings, where one is due
  pub record BoundsRead (wanted : Bool) (p : ℕ) (r : Bounds) (us : List Tok) : Type 0 where
    pub bindings : List Binding
    pub toks : List Tok
    pub all : r.bound ≡ map kept_binding bindings
    pub spelled : SpellsBindingList sealed_table wanted bindings toks us
    pub there : Tokens bs p toks
    pub symbols : r.symbols ≡ n
    pub rows_are : r.rows ≡ rows

  pub bounds_read : (wanted : Bool) (p : ℕ) (r : Bounds) (us : List Tok) → bindings_part bs wanted p n rows ≡ Ok r → Tokens bs r.end us
      → BoundsRead wanted p r us
  bounds_read false p r us e toks =
      let same : record { bound = []; end = p; symbols = n; rows = rows } ≡ r = ok_same e in
      record {
        bindings = [];
        toks = us;
        all = sym (ap (λ (y : Bounds). y.bound) same);
        spelled = no_list;
        there = subst (λ (y : Bounds). Tokens bs y.end us) (sym same) toks;
        symbols = sym (ap (λ (y : Bounds). y.symbols) same);
        rows_are = sym (ap (λ (y : Bounds). y.rows) same);
      }
  bounds_read true p r us e toks =
      let c = cond_ok (exceeds n rows) (halt Count n rows) _ r e in
      let o = bind_ok (lift n rows (opening bs p)) _ r c.1 in
      let st : State = start for-bindings o.0 blank n rows in
      let f : Filling st = record { at = (refl, refl); purpose = refl; few = omega arith; long = omega (arith, length-blank) } in
      let z = list_read 64 [] st r us f toks o.2 in
      record {
        bindings = z.bindings;
        toks = opens ∷ z.toks;
        all = z.all;
        spelled = a_list z.few (omega (arith, z.words)) z.spelled;
        there = token_there bs p opens o.0 z.toks (opening_read bs st p o.0 o.1) z.there;
        symbols = z.symbols;
        rows_are = z.rows_are;
      }
