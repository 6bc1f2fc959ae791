-- What each step of the reading of a term keeps, the whole reading keeps.
use Rattle.std.proofs.Common.{◌≡◌, ℕ, zero, suc, ◌+◌, ◌-◌, Bool, true, false, eqb, List, Ok, Err, Result, refl}
use Rattle.logic.specs.Limits as limits
use Rattle.logic.specs.Words.{symbol_word}
use Rattle.logic.specs.declared.row.Kind.{Kind}
use Rattle.logic.specs.declared.row.Kind.TheVariants.{Function}
use Rattle.tokens.specs.declared.fault.Fault.{Fault}
use Rattle.tokens.specs.Tokens.{Tok, Lexed, opens, closes, equals, number, variable, word, lex}
use Rattle.tokens.specs.Forms.{variable_form}
use Rattle.reading.specs.Slots.{Slot}
use Rattle.reading.specs.Slots.{Closed, Variable, Opened}
use Rattle.reading.specs.States.{State, Halt, halt, ◌>>=◌, ◌then◌, from, moved, written, full}
use Rattle.reading.specs.Entering.{head, settle}
use Rattle.reading.specs.Terms.{fitting, slot, slot_at, turn, headed_state, with_rows, args, body, nest, application, term_turn, term}

-- what holds of an answer, and of a refusal
abbrev pub Safe : {A : Type 0} → (Halt → Type 0) → (A → Type 0) → Result A Halt → Type 0
Safe H G (Ok a) = G a
Safe H G (Err h) = H h

-- nothing is asked
abbrev pub Any : {A : Type 0} → A → Type 0
Any a = Unit {0}

pub bind_safe : {A B : Type 0} (H : Halt → Type 0) (F : A → Type 0) (G : B → Type 0) (r : Result A Halt) (k : A → Result B Halt) → Safe H F r → ((a : A) → F a → Safe H G (k a)) → Safe H G (r >>= k)
bind_safe H F G (Ok a) k s f = f a s
bind_safe H F G (Err h) k s f = s

-- what holds of an answer of a reading that meets no symbol
abbrev pub Holds : {A : Type 0} → (A → Type 0) → Result A Fault → Type 0
Holds G (Ok a) = G a
Holds G (Err f) = Unit {0}

-- a variable is taken only where there is room for its word
abbrev pub Free : Bool → Slot → Type 0
Free words (Closed e) = Unit {0}
Free words (Variable i e) = words ≡ false
Free words (Opened e) = Unit {0}

slot_at_free : (deep words more : Bool) (at end : ℕ) (t : Tok) → Holds (Free words) (slot_at deep words more at end t)
slot_at_free true words more at end opens = tt
slot_at_free false words true at end opens = tt
slot_at_free false words false at end opens = tt
slot_at_free deep words more at end closes = tt
slot_at_free deep words more at end equals = tt
slot_at_free deep words more at end (number r) = tt
slot_at_free deep words more at end (variable r) = by deep words more (variable_form r at)
  where
    by : (d w m : Bool) (v : Result ℕ Fault) → Holds (Free w) (v then λ i. fitting d w m at (Ok (Variable i end)))
    by d w m (Err f) = tt
    by true w m (Ok i) = tt
    by false true m (Ok i) = tt
    by false false true (Ok i) = tt
    by false false false (Ok i) = refl
slot_at_free deep words more at end (word r) = tt

pub slot_free : (bs : List ℕ) (deep words more : Bool) (p : ℕ) → Holds (Free words) (slot bs deep words more p)
slot_free bs deep words more p = by (lex bs p)
  where
    by : (r : Result Lexed Fault) → Holds (Free words) (r then λ l. slot_at deep words more l.place l.end l.tok)
    by (Ok l) = slot_at_free deep words more l.place l.end l.tok
    by (Err f) = tt

module _
    (G : State → Type 0) (H : Halt → Type 0) (P : ℕ → Type 0)
    (halts : (st : State) (f : Fault) → G st → H (halt f st.symbols st.rows))
    (moves : (st : State) (e : ℕ) → G st → G (moved st e))
    (writes : (st : State) (e w : ℕ) → full st.purpose st.count ≡ false → G st → G (written st e w))
    (heads : (bs : List ℕ) (k : Kind) (st : State) → G st → Safe H (λ h. P h.symbol × ((w : ℕ) → G (headed_state st h w))) (head bs k st.purpose st.pos st.count st.symbols st.rows))
    (settles : (st : State) (s given at : ℕ) → P s → G st → Safe H (λ rows. G (with_rows st rows)) (from st (settle st.rows s given at)))
  where
    pub from_safe : {A : Type 0} (F : A → Type 0) (st : State) (r : Result A Fault) → G st → Holds F r → Safe H F (from st r)
    from_safe F st (Ok a) g h = h
    from_safe F st (Err f) g h = halts st f g

    abbrev PairGood : ℕ × State → Type 0
    PairGood p = G p.1

    module _ (bs : List ℕ) where
      args_safe : (nested : State → Result State Halt) → ((st : State) → G st → Safe H G (nested st)) → (deep : Bool) (left given : ℕ) (st : State) → G st → Safe H PairGood (args bs nested deep left given st)
      unfolding args
      args_safe nested ns deep zero given st g = g
      args_safe nested ns deep (suc left) given st g =
          bind_safe H (Free (full st.purpose st.count)) PairGood (from st (slot bs deep (full st.purpose st.count) (eqb left 0) st.pos)) _
          (from_safe (Free (full st.purpose st.count)) st (slot bs deep (full st.purpose st.count) (eqb left 0) st.pos) g (slot_free bs deep (full st.purpose st.count) (eqb left 0) st.pos))
          (by (args bs nested deep left (given + 1)) (args_safe nested ns deep left (given + 1)))
        where
          by : (rest : State → Result (ℕ × State) Halt) → ((c : State) → G c → Safe H PairGood (rest c)) → (s : Slot) → Free (full st.purpose st.count) s → Safe H PairGood (turn nested rest given st s)
          by rest more (Closed e) f = moves st e g
          by rest more (Variable i e) f = more (written st e i) (writes st e i f g)
          by rest more (Opened e) f = bind_safe H G PairGood (nested (moved st e)) rest (ns (moved st e) (moves st e g)) more

      body_safe : (nested : State → Result State Halt) → ((st : State) → G st → Safe H G (nested st)) → (deep : Bool) (base : ℕ) (k : Kind) (st : State) → G st → Safe H G (body bs nested deep base k st)
      body_safe nested ns deep base k st g =
          bind_safe H (λ h. P h.symbol × ((w : ℕ) → G (headed_state st h w))) G (head bs k st.purpose st.pos st.count st.symbols st.rows) _ (heads bs k st g) (λ h q.
          bind_safe H PairGood G (args bs nested deep (limits.arguments + 1) 0 (headed_state st h (base + h.symbol))) _ (args_safe nested ns deep (limits.arguments + 1) 0 (headed_state st h (base + h.symbol)) (q.1 (base + h.symbol))) (λ p r.
          bind_safe H (λ rows. G (with_rows p.1 rows)) G (from p.1 (settle p.1.rows h.symbol p.0 h.place)) _ (settles p.1 h.symbol p.0 h.place q.0 r) (λ rows s. s)))

      nest_safe : (room : ℕ) (st : State) → G st → Safe H G (nest bs room st)
      unfolding nest
      nest_safe zero st g = g
      nest_safe (suc room) st g = body_safe (nest bs room) (nest_safe room) (eqb room 0) (symbol_word 0) Function st g

      pub application_safe : (room base : ℕ) (k : Kind) (st : State) → G st → Safe H G (application bs room base k st)
      unfolding application
      application_safe room base k st g = body_safe (nest bs room) (nest_safe room) (eqb room 0) base k st g

      pub term_safe : (room : ℕ) (st : State) → G st → Safe H G (term bs room st)
      term_safe room st g =
          bind_safe H (Free (full st.purpose st.count)) G (from st (slot bs (eqb room 0) (full st.purpose st.count) false st.pos)) (term_turn bs room st)
          (from_safe (Free (full st.purpose st.count)) st (slot bs (eqb room 0) (full st.purpose st.count) false st.pos) g (slot_free bs (eqb room 0) (full st.purpose st.count) false st.pos))
          by
        where
          by : (s : Slot) → Free (full st.purpose st.count) s → Safe H G (term_turn bs room st s)
          by (Closed e) f = halts st _ g
          by (Variable i e) f = writes st e i f g
          by (Opened e) f = application_safe (room - 1) (symbol_word 0) Function (moved st e) (moves st e g)
