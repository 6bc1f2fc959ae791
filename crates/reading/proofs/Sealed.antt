-- Where names are not entered, the count of symbols stays as it was; so do their rows, if each counted row has an arity of at most four.
use Rattle.std.proofs.Common.{◌≡◌, ℕ, ◌+◌, ◌<◌, ◌≤◌, Bool, true, false, cond, ◌&&◌, eqb, ltb, List, [], length, take, set, Some, None, Ok, Err, Option, Result, sym, refl, subst, arith, length-take}
use Rattle.std.proofs.lemmas.Bool.{ltb-true}
use Rattle.logic.specs.declared.row.Kind.{Kind}
use Rattle.logic.specs.declared.row.SymbolRow.{SymbolRow}
use Rattle.logic.specs.Limits as language
use Rattle.logic.specs.Symbols.{row_at, same_kind}
use Rattle.logic.specs.Directory.{FirstPlace, has_name, place_of_name}
use Rattle.logic.proofs.Firsts.{first_place}
use Rattle.tokens.specs.declared.fault.Fault.{Fault}
use Rattle.tokens.specs.declared.fault.Fault.TheVariants.{Unknown, OtherKind, OtherArity, ManySymbols, Count}
use Rattle.tokens.specs.Tokens.{lex}
use Rattle.tokens.specs.Forms.{symbol_form}
use Rattle.reading.specs.declared.purpose.Purpose.{Purpose}
use Rattle.reading.specs.declared.purpose.Purpose.TheVariants.{Binding}
use Rattle.reading.specs.Limits as limits
use Rattle.reading.specs.States.{State, Halt, halt, ◌>>=◌, lift, from, enters, exceeds}
use Rattle.reading.specs.Entering.{Met, Headed, head, known, meet, new_row, settle, with_arity, room_for_word}
use Rattle.reading.specs.Terms.{headed_state, with_rows, term}
use Rattle.reading.specs.Clauses.{opening, clause, clause_from}
use Rattle.reading.specs.Fixed.{Fixed}
use Rattle.reading.specs.Bindings.{Bounds, blank, binding_list, bindings_at}
use Rattle.reading.proofs.Keeping.{Safe, bind_safe, Any, Holds, term_safe}
use Rattle.reading.proofs.Whole.{cond_safe, clause_safe, bindings_safe}

module _ (n : ℕ) (R : List SymbolRow → Type 0) where
  -- the symbols of a refusal
  abbrev pub Halted : Halt → Type 0
  Halted h = (h.symbols ≡ n) × R h.rows

  pub lift_sealed : {A : Type 0} (m : ℕ) (rows : List SymbolRow) (r : Result A Fault) → m ≡ n → R rows → Safe Halted Any (lift m rows r)
  lift_sealed m rows (Ok a) e h = tt
  lift_sealed m rows (Err f) e h = (e, h)

  abbrev MetWell : Met → Type 0
  MetWell m = (m.symbol < n) × (m.symbols ≡ n) × R m.rows

  known_safe : (p : Purpose) (k : Kind) (name : List ℕ) (at : ℕ) (rows : List SymbolRow) (r : Option ℕ) → enters p ≡ false → FirstPlace (λ row. has_name row name ≡ true) (take n rows) r → R rows → Safe Halted MetWell (known p k name at n rows r)
  known_safe p k name at rows None sealed first h = by (enters p) sealed
    where
      by : (q : Bool) → q ≡ false → Safe Halted MetWell (cond q (cond (ltb n language.symbols && ltb n (length rows)) (Ok (record { symbol = n; symbols = n + 1; rows = set rows n (new_row name k) })) (Err (halt (ManySymbols at) n rows))) (Err (halt (Unknown at) n rows)))
      by true e = let z : ◌≡◌ {A = ℕ} 0 1 = cc in absurd (omega arith)
      by false e = (refl, h)
  known_safe p k name at rows (Some s) sealed first h =
      cond_safe Halted MetWell (same_kind (row_at rows s).kind k) (Ok (record { symbol = s; symbols = n; rows = rows })) (Err (halt (OtherKind at) n rows))
      (omega (arith, first.0, length-take n rows), refl, h) (refl, h)

  meet_safe : (p : Purpose) (k : Kind) (name : List ℕ) (at : ℕ) (rows : List SymbolRow) → enters p ≡ false → R rows → Safe Halted MetWell (meet p k name at n rows)
  meet_safe p k name at rows sealed h =
      known_safe p k name at rows (place_of_name (take n rows) name) sealed
      (first_place (λ row. has_name row name) (λ row. has_name row name ≡ true) (λ row. (λ e. e, λ e. e)) (take n rows)) h

  abbrev HeadedWell : Headed → Type 0
  HeadedWell h = (h.symbol < n) × (h.symbols ≡ n) × R h.rows

  head_safe : (bs : List ℕ) (k : Kind) (p : Purpose) (pos count : ℕ) (rows : List SymbolRow) → enters p ≡ false → R rows → Safe Halted HeadedWell (head bs k p pos count n rows)
  head_safe bs k p pos count rows sealed r =
      bind_safe Halted Any HeadedWell (lift n rows (lex bs pos)) _ (lift_sealed n rows (lex bs pos) refl r) (λ l _.
      bind_safe Halted Any HeadedWell (lift n rows (symbol_form l.tok l.place)) _ (lift_sealed n rows (symbol_form l.tok l.place) refl r) (λ name _.
      bind_safe Halted Any HeadedWell (lift n rows (room_for_word {A = Unit {0}} p count l.place (Ok tt))) _ (lift_sealed n rows (room_for_word {A = Unit {0}} p count l.place (Ok tt)) refl r) (λ u _.
      bind_safe Halted MetWell HeadedWell (meet p k name l.place n rows) _ (meet_safe p k name l.place rows sealed r) (λ m w. w))))

  -- no name is entered, and the symbols are as they were
  abbrev pub Sealed : State → Type 0
  Sealed st = (enters st.purpose ≡ false) × (st.symbols ≡ n) × R st.rows

  abbrev HeadedSealed : State → Headed → Type 0
  HeadedSealed st h = (h.symbol < n) × ((w : ℕ) → Sealed (headed_state st h w))

  heads : (bs : List ℕ) (k : Kind) (st : State) → Sealed st → Safe Halted (HeadedSealed st) (head bs k st.purpose st.pos st.count st.symbols st.rows)
  heads bs k st g =
      subst (λ m. Safe Halted (HeadedSealed st) (head bs k st.purpose st.pos st.count m st.rows)) (sym g.1)
      (onward (head bs k st.purpose st.pos st.count n st.rows) (head_safe bs k st.purpose st.pos st.count st.rows g.0 g.2))
    where
      onward : (r : Result Headed Halt) → Safe Halted HeadedWell r → Safe Halted (HeadedSealed st) r
      onward (Ok h) w = (w.0, λ v. (g.0, w.1, w.2))
      onward (Err h) w = w

  module _ (settle-keeps : (rows : List SymbolRow) (s given at : ℕ) → s < n → R rows → Holds R (settle rows s given at)) where
    settles : (st : State) (s given at : ℕ) → s < n → Sealed st → Safe Halted (λ rows. Sealed (with_rows st rows)) (from st (settle st.rows s given at))
    settles st s given at lt g = by (settle st.rows s given at) (settle-keeps st.rows s given at lt g.2)
      where
        by : (r : Result (List SymbolRow) Fault) → Holds R r → Safe Halted (λ rows. Sealed (with_rows st rows)) (from st r)
        by (Ok rows) h = (g.0, g.1, h)
        by (Err f) h = (g.1, g.2)

    pub term_sealed : (bs : List ℕ) (room : ℕ) (st : State) → Sealed st → Safe Halted Sealed (term bs room st)
    term_sealed bs room st g = term_safe Sealed Halted (λ s. s < n) (λ st f g. (g.1, g.2)) (λ st e g. g) (λ st e w f g. g) heads settles bs room st g

    pub clause_sealed : (bs : List ℕ) (p : Purpose) (pos : ℕ) (out : List ℕ) (rows : List SymbolRow) → enters p ≡ false → R rows → Safe Halted Sealed (clause_from bs p pos out n rows)
    clause_sealed bs p pos out rows sealed r =
        cond_safe Halted Sealed (exceeds n rows) (Err (halt Count n rows)) (clause bs (record { purpose = p; pos = pos; count = 0; out = out; symbols = n; rows = rows })) (refl, r)
        (clause_safe Sealed Halted (λ s. s < n) (λ st f g. (g.1, g.2)) (λ st e g. g) (λ st e w g. g) heads settles bs (record { purpose = p; pos = pos; count = 0; out = out; symbols = n; rows = rows }) (sealed, refl, r))

    -- the symbols behind a list of bindings
    abbrev pub BoundSealed : Bounds → Type 0
    BoundSealed b = (b.symbols ≡ n) × R b.rows

    pub bindings_sealed : (bs : List ℕ) (pos : ℕ) (rows : List SymbolRow) → R rows → Safe Halted BoundSealed (bindings_at bs pos n rows)
    bindings_sealed bs pos rows r =
        cond_safe Halted BoundSealed (exceeds n rows) (Err (halt Count n rows)) (lift n rows (opening bs pos) >>= λ i. binding_list bs (limits.bindings + 1) [] (record { purpose = Binding; pos = i; count = 0; out = blank; symbols = n; rows = rows })) (refl, r)
        (bind_safe Halted Any BoundSealed (lift n rows (opening bs pos)) _ (lift_sealed n rows (opening bs pos) refl r) (λ i _.
        bindings_safe Sealed Halted (λ s. s < n) (λ st f g. (g.1, g.2)) (λ st e g. g) (λ st e w g. g) heads settles bs BoundSealed (λ b e st g. (g.1, g.2)) (limits.bindings + 1) [] (record { purpose = Binding; pos = i; count = 0; out = blank; symbols = n; rows = rows }) (refl, refl, r)))

-- whatever the rows are
pub settle_any : (n : ℕ) (rows : List SymbolRow) (s given at : ℕ) → s < n → Unit {0} → Holds Any (settle rows s given at)
settle_any n rows s given at lt u = by (settle rows s given at)
  where
    by : (r : Result (List SymbolRow) Fault) → Holds Any r
    by (Ok rows) = tt
    by (Err f) = tt

-- fixed arities are not written again
pub settle_same : (n : ℕ) (old : List SymbolRow) → Fixed n old → (rows : List SymbolRow) (s given at : ℕ) → s < n → rows ≡ old → Holds (λ now. now ≡ old) (settle rows s given at)
settle_same n old fixed rows s given at lt e = by (ltb language.arguments (row_at rows s).arity) refl
  where
    held : (q : Bool) → Holds {A = List SymbolRow} (λ now. now ≡ old) (cond q (Ok rows) (Err (OtherArity at)))
    held true = e
    held false = tt

    by : (q : Bool) → ltb language.arguments (row_at rows s).arity ≡ q → Holds {A = List SymbolRow} (λ now. now ≡ old) (cond q (Ok (set rows s (with_arity (row_at rows s) given))) (cond (eqb (row_at rows s).arity given) (Ok rows) (Err (OtherArity at))))
    by true wide =
        let least = subst (λ rs. (row_at rs s).arity ≤ language.arguments) (sym e) (fixed s lt) in
        absurd (omega (arith, ltb-true language.arguments (row_at rows s).arity wide, least))
    by false wide = held (eqb (row_at rows s).arity given)
