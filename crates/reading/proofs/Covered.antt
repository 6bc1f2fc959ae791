-- The count of symbols never falls below what it was and stays within its bounds; the rows below it stay as they were, if each had an arity of at most four.
use Rattle.std.proofs.Common.{◌≡◌, ℕ, ◌+◌, ◌<◌, ◌≤◌, Bool, true, false, cond, ◌&&◌, eqb, ltb, List, length, take, set, Some, None, Ok, Err, Option, Result, sym, refl, ap, ◌∙◌, subst, inl, inr, arith, length-set}
use Rattle.std.proofs.lemmas.List.{get_or-take, take-set-le}
use Rattle.std.proofs.lemmas.Bool.{cases_lt, ltb-true, and_parts}
use Rattle.logic.specs.declared.row.Kind.{Kind}
use Rattle.logic.specs.declared.row.SymbolRow.{SymbolRow}
use Rattle.logic.specs.Limits as language
use Rattle.logic.specs.Symbols.{row_at, no_row, same_kind}
use Rattle.logic.specs.Directory.{place_of_name}
use Rattle.tokens.specs.declared.fault.Fault.{Fault}
use Rattle.tokens.specs.declared.fault.Fault.TheVariants.{Unknown, OtherKind, OtherArity, ManySymbols, Count}
use Rattle.tokens.specs.Tokens.{lex}
use Rattle.tokens.specs.Forms.{symbol_form}
use Rattle.reading.specs.declared.purpose.Purpose.{Purpose}
use Rattle.reading.specs.States.{State, Halt, halt, lift, from, enters, exceeds}
use Rattle.reading.specs.Entering.{Met, Headed, head, known, meet, new_row, settle, with_arity, room_for_word}
use Rattle.reading.specs.Terms.{headed_state, with_rows}
use Rattle.reading.specs.Clauses.{clause, clause_from}
use Rattle.reading.specs.Fixed.{Fixed}
use Rattle.reading.proofs.Keeping.{Safe, bind_safe, Any}
use Rattle.reading.proofs.Whole.{cond_safe, clause_safe}

module _ (n : ℕ) (old : List SymbolRow) where
  -- m symbols in these rows, where n were counted in the old ones
  abbrev pub Covers : ℕ → List SymbolRow → Type 0
  Covers m rows =
      (n ≤ m) × (length rows ≡ length old) × ((n ≤ length old) × (n ≤ language.symbols) → (m ≤ length old) × (m ≤ language.symbols)) × (Fixed n old → take n rows ≡ take n old)

  abbrev pub HaltCovers : Halt → Type 0
  HaltCovers h = Covers h.symbols h.rows

  abbrev pub StateCovers : State → Type 0
  StateCovers st = Covers st.symbols st.rows

  pub covers_itself : Covers n old
  covers_itself = (omega arith, refl, λ within. within, λ fixed. refl)

  pub lift_covers : {A : Type 0} (m : ℕ) (rows : List SymbolRow) (r : Result A Fault) → Covers m rows → Safe HaltCovers Any (lift m rows r)
  lift_covers m rows (Ok a) g = tt
  lift_covers m rows (Err f) g = g

  abbrev MetCovers : Met → Type 0
  MetCovers m = Covers m.symbols m.rows

  -- a new row stands behind those that are counted
  entered : (m : ℕ) (rows : List SymbolRow) (row : SymbolRow) → m < language.symbols → m < length rows → Covers m rows → Covers (m + 1) (set rows m row)
  entered m rows row few short g =
      (omega (arith, g.0), length-set rows m row ∙ g.1, λ within. (omega (arith, g.1), omega arith), λ fixed. take-set-le n rows m row g.0 ∙ g.3 fixed)

  known_covers : (p : Purpose) (k : Kind) (name : List ℕ) (at m : ℕ) (rows : List SymbolRow) (r : Option ℕ) → Covers m rows → Safe HaltCovers MetCovers (known p k name at m rows r)
  known_covers p k name at m rows None g =
      cond_safe HaltCovers MetCovers (enters p) (cond (ltb m language.symbols && ltb m (length rows)) (Ok (record { symbol = m; symbols = m + 1; rows = set rows m (new_row name k) })) (Err (halt (ManySymbols at) m rows))) (Err (halt (Unknown at) m rows))
      (by (ltb m language.symbols && ltb m (length rows)) refl) g
    where
      by : (q : Bool) → (ltb m language.symbols && ltb m (length rows)) ≡ q → Safe {A = Met} HaltCovers MetCovers (cond q (Ok (record { symbol = m; symbols = m + 1; rows = set rows m (new_row name k) })) (Err (halt (ManySymbols at) m rows)))
      by true e =
          let room = and_parts (ltb m language.symbols) (ltb m (length rows)) e in
          entered m rows (new_row name k) (ltb-true m language.symbols room.0) (ltb-true m (length rows) room.1) g
      by false e = g
  known_covers p k name at m rows (Some s) g =
      cond_safe HaltCovers MetCovers (same_kind (row_at rows s).kind k) (Ok (record { symbol = s; symbols = m; rows = rows })) (Err (halt (OtherKind at) m rows)) g g

  abbrev HeadedCovers : Headed → Type 0
  HeadedCovers h = Covers h.symbols h.rows

  head_covers : (bs : List ℕ) (k : Kind) (p : Purpose) (pos count m : ℕ) (rows : List SymbolRow) → Covers m rows → Safe HaltCovers HeadedCovers (head bs k p pos count m rows)
  head_covers bs k p pos count m rows g =
      bind_safe HaltCovers Any HeadedCovers (lift m rows (lex bs pos)) _ (lift_covers m rows (lex bs pos) g) (λ l _.
      bind_safe HaltCovers Any HeadedCovers (lift m rows (symbol_form l.tok l.place)) _ (lift_covers m rows (symbol_form l.tok l.place) g) (λ name _.
      bind_safe HaltCovers Any HeadedCovers (lift m rows (room_for_word {A = Unit {0}} p count l.place (Ok tt))) _ (lift_covers m rows (room_for_word {A = Unit {0}} p count l.place (Ok tt)) g) (λ u _.
      bind_safe HaltCovers MetCovers HeadedCovers (meet p k name l.place m rows) _ (known_covers p k name l.place m rows (place_of_name (take m rows) name) g) (λ i w. w))))

  abbrev HeadLeaves : State → Headed → Type 0
  HeadLeaves st h = Unit {0} × ((w : ℕ) → StateCovers (headed_state st h w))

  heads : (bs : List ℕ) (k : Kind) (st : State) → StateCovers st → Safe HaltCovers (HeadLeaves st) (head bs k st.purpose st.pos st.count st.symbols st.rows)
  heads bs k st g = onward (head bs k st.purpose st.pos st.count st.symbols st.rows) (head_covers bs k st.purpose st.pos st.count st.symbols st.rows g)
    where
      onward : (r : Result Headed Halt) → Safe HaltCovers HeadedCovers r → Safe HaltCovers (HeadLeaves st) r
      onward (Ok h) w = (tt, λ v. w)
      onward (Err h) w = w

  -- an arity above four is not one of a row below n, where those are fixed
  written_behind : (rows : List SymbolRow) (s : ℕ) (row : SymbolRow) → language.arguments < (row_at rows s).arity → Fixed n old → take n rows ≡ take n old → take n (set rows s row) ≡ take n old
  written_behind rows s row wide fixed same = elim (cases_lt s n) [
    | inl lt ↦
        let here : row_at rows s ≡ row_at old s = sym (get_or-take n rows s no_row lt) ∙ ap (λ (rs : List SymbolRow). row_at rs s) same ∙ get_or-take n old s no_row lt in
        absurd (omega (arith, wide, subst (λ (r : SymbolRow). r.arity ≤ language.arguments) (sym here) (fixed s lt)))
    | inr ge ↦ take-set-le n rows s row ge ∙ same
  ]

  settles : (st : State) (s given at : ℕ) → Unit {0} → StateCovers st → Safe HaltCovers (λ rows. StateCovers (with_rows st rows)) (from st (settle st.rows s given at))
  settles st s given at u g = by (ltb language.arguments (row_at st.rows s).arity) refl
    where
      held : (q : Bool) → Safe {A = List SymbolRow} HaltCovers (λ rows. StateCovers (with_rows st rows)) (from st (cond q (Ok st.rows) (Err (OtherArity at))))
      held true = g
      held false = g

      by : (q : Bool) → ltb language.arguments (row_at st.rows s).arity ≡ q → Safe {A = List SymbolRow} HaltCovers (λ rows. StateCovers (with_rows st rows)) (from st (cond q (Ok (set st.rows s (with_arity (row_at st.rows s) given))) (cond (eqb (row_at st.rows s).arity given) (Ok st.rows) (Err (OtherArity at)))))
      by true e =
          (g.0, length-set st.rows s (with_arity (row_at st.rows s) given) ∙ g.1, g.2, λ fixed. written_behind st.rows s (with_arity (row_at st.rows s) given) (ltb-true language.arguments (row_at st.rows s).arity e) fixed (g.3 fixed))
      by false e = held (eqb (row_at st.rows s).arity given)

  pub clause_covers : (bs : List ℕ) (p : Purpose) (pos : ℕ) (out : List ℕ) (m : ℕ) (rows : List SymbolRow) → Covers m rows → Safe HaltCovers StateCovers (clause_from bs p pos out m rows)
  clause_covers bs p pos out m rows g =
      cond_safe HaltCovers StateCovers (exceeds m rows) (Err (halt Count m rows)) (clause bs (record { purpose = p; pos = pos; count = 0; out = out; symbols = m; rows = rows })) g
      (clause_safe StateCovers HaltCovers Any (λ st f h. h) (λ st e h. h) (λ st e w h. h) heads settles bs (record { purpose = p; pos = pos; count = 0; out = out; symbols = m; rows = rows }) g)
