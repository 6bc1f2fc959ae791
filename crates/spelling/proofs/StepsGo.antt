-- Bindings, justifications and step lines that are spelled are read.
use Rattle.std.proofs.Common.{◌≡◌, ℕ, zero, suc, ◌+◌, ◌≤◌, Bool, false, eqb, List, [], ◌∷◌, ◌++◌, map, length, take, Ok, Err, Result, sym, refl, ap, ◌∙◌, subst, append_assoc, append-nil, arith, length-append}
use Rattle.std.proofs.lemmas.List.{length-take-le}
use Rattle.std.proofs.lemmas.Bool.{cond-false, lt-leb}
use Rattle.std.specs.List.{between}
use Rattle.logic.specs.Syntax.{Term}
use Rattle.logic.specs.Words.{term_words}
use Rattle.logic.specs.declared.row.SymbolRow.{SymbolRow}
use Rattle.tokens.specs.declared.fault.Fault.TheVariants.{ManyBindings, Count}
use Rattle.tokens.specs.Tokens.{Tok, opens, closes, variable, Lexed, lex}
use Rattle.reading.specs.declared.purpose.Purpose.{Purpose}
use Rattle.reading.specs.declared.purpose.Purpose.TheVariants.{Binding as for-bindings}
use Rattle.reading.specs.Marks.{Mark}
use Rattle.reading.specs.Marks.{Closed, Opened}
use Rattle.reading.specs.Bindings.{Found}
use Rattle.reading.specs.States.{State, Halt, halt, ◌>>=◌, ◌then◌, lift, from, moved, exceeds}
use Rattle.reading.specs.Terms.{term}
use Rattle.reading.specs.Clauses.{opening, closing, marked}
use Rattle.reading.proofs.Blind.{length-blank}
use Rattle.reading.specs.Bindings.{Bound, Bounds, blank, variable_due, variable_at, binding_mark, binding_turn, binding, binding_list}
use Rattle.lines.specs.Justifications.{bindings_part}
use Rattle.spelling.specs.Appearance.{term_symbols, Appear}
use Rattle.spelling.specs.Grammar.{VariableRun, SpellsTerm}
use Rattle.spelling.specs.Spelling.{Counted}
use Rattle.spelling.specs.StepGrammar.{Binding, bound_words, SpellsBindings, no_bindings, more_bindings, SpellsBindingList, no_list, a_list}
use Rattle.spelling.specs.StepSpelling.{kept_binding}
use Rattle.spelling.proofs.Streams.{Tokens}
use Rattle.spelling.proofs.HeadsGo.{Final}
use Rattle.spelling.proofs.TermsGo.{First, first_token, suc_some, Toward, toward_moved, term_goes, variable_goes}
use Rattle.spelling.proofs.ClausesGo.{Done, term_done, opening_goes, closing_goes}
use Rattle.spelling.proofs.RulesRead.{fits_itself, start}
use Rattle.spelling.proofs.RulesGo.{not_exceeding}
use Rattle.spelling.proofs.SealedTables.{term_stays}
use Rattle.spelling.proofs.StepsRead.{poured_between, list_suc, term-length}

module _ (bs : List ℕ) (n : ℕ) (rows : List SymbolRow) (counted : Counted n rows) where
  abbrev pub table : List SymbolRow
  table = take n rows

  pub table_long : length table ≡ n
  table_long = length-take-le n rows counted.room

  -- the counted symbols are a table of their own
  pub sealed_final : Final n table
  sealed_final =
      let f = fits_itself n rows counted.room counted.settled in
      record { settled = f.settled; few = omega (arith, table_long, counted.few); plain = λ k h j. absurd (omega (arith, table_long)) }

  abbrev pub On : Purpose → State → Type 0
  On p a = Toward bs p n table sealed_final a

  pub on_start : (p : Purpose) (pos : ℕ) (out : List ℕ) → On p (start p pos out n rows)
  on_start p pos out =
      record { purpose = refl; fits = fits_itself n rows counted.room counted.settled; since = omega arith; short = counted.room; room = omega (arith, table_long, counted.room) }

  -- ── One binding ──

  variable_goes_at : (p : ℕ) (l : Lexed) (r : List ℕ) (i : ℕ) → lex bs p ≡ Ok l → l.tok ≡ variable r → VariableRun r i → variable_at bs p ≡ Ok (record { variable = i; end = l.end })
  variable_goes_at p l r i e t v =
      ap (λ z. z then λ x. variable_due x.place x.tok then λ y. Ok (record { variable = y; end = x.end })) e
      ∙ ap (λ z. variable_due l.place z then λ y. Ok (record { variable = y; end = l.end })) t
      ∙ ap (λ z. z then λ y. Ok (record { variable = y; end = l.end })) (variable_goes r i l.place v)

  binding_goes : (a : State) (v : Found) (b : State) (e : ℕ) → variable_at bs a.pos ≡ Ok v → term bs 32 (moved a v.end) ≡ Ok b → from b (closing bs b.pos) ≡ Ok e
      → binding bs a ≡ Ok (record { variable = v.variable; words = between a.count b.count b.out }, moved b e)
  unfolding binding
  binding_goes a v b e f g h =
      ap (λ z. lift a.symbols a.rows z >>= λ x. term bs 32 (moved a x.end) >>= λ t. from t (closing bs t.pos) >>= λ y. Ok (record { variable = x.variable; words = between a.count t.count t.out }, moved t y)) f
      ∙ ap (λ z. z >>= λ t. from t (closing bs t.pos) >>= λ y. Ok (record { variable = v.variable; words = between a.count t.count t.out }, moved t y)) g
      ∙ ap (λ z. z >>= λ y. Ok (record { variable = v.variable; words = between a.count b.count b.out }, moved b y)) h

  -- what stays true from binding to binding, with w words to come
  record Ready (a : State) (w : ℕ) : Type 0 where
    on : On for-bindings a
    all : a.symbols ≡ length table
    room : a.count + w ≤ 512
    long : 512 ≤ length a.out

  record BindingDone (a : State) (x : Binding) (us : List Tok) (w : ℕ) : Type 0 where
    b : State
    goes : binding bs a ≡ Ok (kept_binding x, b)
    left : Tokens bs b.pos us
    ready : Ready b w

  binding_done : (a : State) (v : ℕ) (t : Term) (r : List ℕ) (ts us : List Tok) (w : ℕ) → VariableRun r v → SpellsTerm table 32 t ts (closes ∷ us)
      → Ready a (length (term_words t) + w) → Tokens bs a.pos (variable r ∷ ts) → BindingDone a (record { variable = v; term = t }) us w
  binding_done a v t r ts us w named s ready there = by (first_token bs a.pos (variable r ∷ ts) there)
    where
      after : (l : Lexed) (d : Done bs for-bindings n table sealed_final (term bs 32) (moved a l.end) (term_words t) (closes ∷ us) (length table)) → lex bs a.pos ≡ Ok l
          → l.tok ≡ variable r → First bs d.b.pos (closes ∷ us) → BindingDone a (record { variable = v; term = t }) us w
      after l d e k x =
          let words_are : between a.count d.b.count d.b.out ≡ term_words t =
          ap (between a.count d.b.count) d.went.wrote.poured
          ∙ poured_between a.out a.count d.b.count (term_words t) d.went.wrote.counted (omega (arith, d.went.wrote.counted, ready.room, ready.long)) in
          record {
            b = moved d.b x.0.end;
            goes =
                binding_goes a (record { variable = v; end = l.end }) d.b x.0.end (variable_goes_at a.pos l r v e k named) d.goes
                (closing_goes bs d.b d.b.pos x.0 x.1 x.2)
                ∙ ap (λ ws. Ok (record { variable = v; words = ws }, moved d.b x.0.end)) words_are;
            left = x.3;
            ready =
                record {
                  on = toward_moved bs for-bindings n table sealed_final d.b x.0.end d.went.toward;
                  all = d.went.symbols;
                  room = omega (arith, d.went.wrote.counted, ready.room);
                  long = omega (arith, term-length bs 32 (moved a l.end) d.b d.goes, ready.long);
                };
          }

      by : First bs a.pos (variable r ∷ ts) → BindingDone a (record { variable = v; term = t }) us w
      by f =
          let st : State = moved a f.0.end in
          let d : Done bs for-bindings n table sealed_final (term bs 32) st (term_words t) (closes ∷ us) (length table) =
          term_done bs for-bindings n table sealed_final 32 st t (closes ∷ us) (length table)
          (term_goes bs for-bindings n table sealed_final s st (length table) (toward_moved bs for-bindings n table sealed_final a f.0.end ready.on)
          (subst (λ (j : ℕ). Appear false j (term_symbols t) (length table)) (sym ready.all) (term_stays false table s)) (omega arith)
          (λ k h l. lt-leb 512 k (omega (arith, ready.room))) f.3) in
          after f.0 d f.1 f.2 (first_token bs d.b.pos (closes ∷ us) d.went.left)

  -- ── The list ──

  mark_goes : (st : State) (none : Bool) (l : Lexed) (t : Tok) (m : Mark) → lex bs st.pos ≡ Ok l → l.tok ≡ t
      → marked (ManyBindings l.place) none l.place l.end t ≡ Ok m → from st (binding_mark bs none st.pos) ≡ Ok m
  mark_goes st none l t m e k f =
      ap (λ r. lift st.symbols st.rows (r then λ x. marked (ManyBindings x.place) none x.place x.end x.tok)) e
      ∙ ap (λ x. lift st.symbols st.rows (marked (ManyBindings l.place) none l.place l.end x)) k
      ∙ ap (lift st.symbols st.rows) f

  list_goes : (l : ℕ) (done : List Bound) (a : State) (x : Mark) (r : Result Bounds Halt) → from a (binding_mark bs (eqb l 0) a.pos) ≡ Ok x
      → binding_turn (binding bs) (binding_list bs l) done a x ≡ r → binding_list bs (suc l) done a ≡ r
  list_goes l done a x r e f =
      list_suc bs n rows counted.settled counted.room l done a ∙ ap (λ z. z >>= binding_turn (binding bs) (binding_list bs l) done a) e ∙ f

  -- the end of the list, where the symbols are as they were
  abbrev ListGoes : ℕ → List Bound → State → List Binding → List Tok → Type 0
  ListGoes l done a xs us = (r : Bounds) × (binding_list bs (suc l) done a ≡ Ok r) × (r.bound ≡ done ++ map kept_binding xs) × Tokens bs r.end us

  bindings_go : {xs : List Binding} {ts vs : List Tok} → SpellsBindings table xs ts vs → (l : ℕ) (done : List Bound) (a : State) (us : List Tok) → vs ≡ closes ∷ us → length xs ≤ l
      → Ready a (length (bound_words xs)) → Tokens bs a.pos ts → ListGoes l done a xs us
  bindings_go (no_bindings) l done a us same few ready there =
      let f = first_token bs a.pos (closes ∷ us) (subst (Tokens bs a.pos) same there) in (
        record { bound = done; end = f.0.end; symbols = a.symbols; rows = a.rows },
        list_goes l done a (Closed f.0.end) (Ok (record { bound = done; end = f.0.end; symbols = a.symbols; rows = a.rows }))
            (mark_goes a (eqb l 0) f.0 closes (Closed f.0.end) f.1 f.2 refl) refl,
        sym (append-nil done),
        f.3,
      )
  bindings_go (more_bindings named s rest) zero done a us same few ready there = absurd (omega arith)
  bindings_go (more_bindings {v = v} {t = t} {bs = xs} {r = r} {ts = ts} {us = mid} named s rest) (suc l) done a us same few ready there =
      let f = first_token bs a.pos (opens ∷ variable r ∷ ts) there in
      let x : Binding = record { variable = v; term = t } in
      let st : State = moved a f.0.end in
      let ready_st : Ready st (length (term_words t) + length (bound_words xs)) =
      record {
        on = toward_moved bs for-bindings n table sealed_final a f.0.end ready.on;
        all = ready.all;
        room = omega (arith, ready.room, length-append (term_words t) (bound_words xs));
        long = ready.long;
      } in
      let d : BindingDone st x mid (length (bound_words xs)) = binding_done st v t r ts mid (length (bound_words xs)) named s ready_st f.3 in
      let z = bindings_go rest l (done ++ kept_binding x ∷ []) d.b us same (omega arith) d.ready d.left in (
        z.0,
        list_goes (suc l) done a (Opened f.0.end) (Ok z.0)
            (mark_goes a (eqb (suc l) 0) f.0 opens (Opened f.0.end) f.1 f.2 (cond-false (eqb (suc l) 0) (Err (ManyBindings f.0.place)) (Ok (Opened f.0.end)) (suc_some l)))
            (ap (λ y. y >>= λ q. binding_list bs (suc l) (done ++ q.0 ∷ []) q.1) d.goes ∙ z.1),
        z.2 ∙ append_assoc done (kept_binding x ∷ []) (map kept_binding xs),
        z.3,
      )

  pub bounds_go : {wanted : Bool} {xs : List Binding} {ts us : List Tok} → SpellsBindingList table wanted xs ts us → (p : ℕ) → Tokens bs p ts
      → (r : Bounds) × (bindings_part bs wanted p n rows ≡ Ok r) × (r.bound ≡ map kept_binding xs) × Tokens bs r.end us
  bounds_go (no_list) p there = (record { bound = []; end = p; symbols = n; rows = rows }, refl, refl, there)
  bounds_go (a_list {bs = xs} {ts = ts} {us = us} few room inner) p there =
      let f = first_token bs p (opens ∷ ts) there in
      let st : State = start for-bindings f.0.end blank n rows in
      let z = bindings_go inner 64 [] st us refl few (record { on = on_start for-bindings f.0.end blank; all = sym table_long; room = omega (arith, room); long = omega (arith, length-blank) }) f.3 in (
        z.0,
        cond-false (exceeds n rows) (Err (halt Count n rows)) (lift n rows (opening bs p) >>= λ i. binding_list bs 65 [] (start for-bindings i blank n rows)) (not_exceeding n rows counted.room counted.few)
            ∙ ap (λ y. y >>= λ i. binding_list bs 65 [] (start for-bindings i blank n rows)) (opening_goes bs st p f.0 f.1 f.2) ∙ z.1,
        z.2,
        z.3,
      )
