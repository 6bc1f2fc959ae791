-- A binding's term leaves the words before it as they were, and there are never more than the limit.
use Rattle.std.proofs.Common.{◌≡◌, ℕ, ◌+◌, ◌<◌, ◌≤◌, Bool, true, false, cond, List, take, set, Ok, Err, Result, sym, refl, ◌∙◌, subst, arith}
use Rattle.std.proofs.lemmas.List.{take-set-le}
use Rattle.std.proofs.lemmas.Bool.{leb-false}
use Rattle.logic.specs.declared.row.Kind.{Kind}
use Rattle.logic.specs.declared.row.SymbolRow.{SymbolRow}
use Rattle.tokens.specs.declared.fault.Fault.{Fault}
use Rattle.tokens.specs.declared.fault.Fault.TheVariants.{ManyWords}
use Rattle.tokens.specs.Tokens.{lex}
use Rattle.tokens.specs.Forms.{symbol_form}
use Rattle.reading.specs.declared.purpose.Purpose.{Purpose}
use Rattle.reading.specs.declared.purpose.Purpose.TheVariants.{Rule, Step, Binding}
use Rattle.reading.specs.Limits as limits
use Rattle.reading.specs.States.{State, Halt, halt, lift, from, full}
use Rattle.reading.specs.Entering.{Headed, head, settle, meet, room_for_word}
use Rattle.reading.specs.Terms.{headed_state, with_rows, term}
use Rattle.reading.proofs.Keeping.{Safe, bind_safe, Any, term_safe}

any_safe : {A : Type 0} (r : Result A Halt) → Safe Any Any r
any_safe (Ok a) = tt
any_safe (Err h) = tt

pub not_full : (p : Purpose) (n : ℕ) → p ≡ Binding → full p n ≡ false → n < limits.binding_words
not_full Rule n e f = let z : ◌≡◌ {A = ℕ} 0 1 = cc in absurd (omega arith)
not_full Step n e f = let z : ◌≡◌ {A = ℕ} 0 1 = cc in absurd (omega arith)
not_full Binding n e f = leb-false limits.binding_words n f

-- a word is written only where there is room for it
pub room_safe : (H : Halt → Type 0) (p : Purpose) (count at n : ℕ) (rows : List SymbolRow) → ((f : Fault) → H (halt f n rows)) → Safe {A = Unit {0}} H (λ _. full p count ≡ false) (lift n rows (room_for_word p count at (Ok tt)))
room_safe H p count at n rows h = by (full p count) refl
  where
    by : (q : Bool) → full p count ≡ q → Safe {A = Unit {0}} H (λ _. full p count ≡ false) (lift n rows (cond q (Err (ManyWords at)) (Ok tt)))
    by true e = h (ManyWords at)
    by false e = e

-- nor is a symbol met elsewhere
pub head_free : (bs : List ℕ) (k : Kind) (p : Purpose) (pos count n : ℕ) (rows : List SymbolRow) → Safe Any (λ _. full p count ≡ false) (head bs k p pos count n rows)
head_free bs k p pos count n rows =
    bind_safe Any Any Room (lift n rows (lex bs pos)) _ (any_safe (lift n rows (lex bs pos))) (λ l _.
    bind_safe Any Any Room (lift n rows (symbol_form l.tok l.place)) _ (any_safe (lift n rows (symbol_form l.tok l.place))) (λ name _.
    bind_safe Any (λ _. full p count ≡ false) Room (lift n rows (room_for_word {A = Unit {0}} p count l.place (Ok tt))) _ (room_safe Any p count l.place n rows (λ f. tt)) (λ u free.
    bind_safe Any Any Room (meet p k name l.place n rows) _ (any_safe (meet p k name l.place n rows)) (λ m _. free))))
  where
    Room : Headed → Type 0
    Room h = full p count ≡ false

module _ (c : ℕ) (old : List ℕ) where
  -- the first c words are the old ones
  abbrev pub WordsKept : State → Type 0
  WordsKept st = (st.purpose ≡ Binding) × (c ≤ st.count) × (st.count ≤ limits.binding_words) × (take c st.out ≡ take c old)

  one_more : (st : State) (w : ℕ) → full st.purpose st.count ≡ false → WordsKept st → (c ≤ st.count + 1) × (st.count + 1 ≤ limits.binding_words) × (take c (set st.out st.count w) ≡ take c old)
  one_more st w f g = let lt = not_full st.purpose st.count g.0 f in (omega arith, omega arith, take-set-le c st.out st.count w g.1 ∙ g.3)

  abbrev HeadedKept : State → Headed → Type 0
  HeadedKept st h = Unit {0} × ((w : ℕ) → WordsKept (headed_state st h w))

  heads : (bs : List ℕ) (k : Kind) (st : State) → WordsKept st → Safe Any (HeadedKept st) (head bs k st.purpose st.pos st.count st.symbols st.rows)
  heads bs k st g = onward (head bs k st.purpose st.pos st.count st.symbols st.rows) (head_free bs k st.purpose st.pos st.count st.symbols st.rows)
    where
      onward : (r : Result Headed Halt) → Safe Any (λ _. full st.purpose st.count ≡ false) r → Safe Any (HeadedKept st) r
      onward (Ok h) free = (tt, λ w. let more = one_more st w free g in (g.0, more.0, more.1, more.2))
      onward (Err h) free = tt

  settles : (st : State) (s given at : ℕ) → Unit {0} → WordsKept st → Safe Any (λ rows. WordsKept (with_rows st rows)) (from st (settle st.rows s given at))
  settles st s given at u g = by (settle st.rows s given at)
    where
      by : (r : Result (List SymbolRow) Fault) → Safe Any (λ rows. WordsKept (with_rows st rows)) (from st r)
      by (Ok rows) = g
      by (Err f) = tt

  term_words_kept : (bs : List ℕ) (room : ℕ) (st : State) → WordsKept st → Safe Any WordsKept (term bs room st)
  term_words_kept bs room st g =
      term_safe WordsKept Any Any (λ s f h. tt) (λ s e h. h) (λ s e w f h. let more = one_more s w f h in (h.0, more.0, more.1, more.2)) heads settles bs room st g

  -- what the reader of a term leaves
  pub term_kept : (bs : List ℕ) (room : ℕ) (st s : State) → WordsKept st → Ok s ≡ term bs room st → WordsKept s
  term_kept bs room st s g e = subst (Safe Any WordsKept) (sym e) (term_words_kept bs room st g)
