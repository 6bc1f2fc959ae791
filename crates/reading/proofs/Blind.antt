-- What bindings are read as does not depend on what lay in the store for their words.
use Rattle.std.proofs.Common.{◌≡◌, ℕ, zero, suc, ◌+◌, ◌-◌, ◌<◌, ◌≤◌, Bool, false, eqb, List, [], ◌∷◌, ◌++◌, length, set, Ok, Err, Result, sym, refl, ap, ◌∙◌, subst, ap₂, arith, length-set}
use lib.ListN.{length-replicate}
use Rattle.std.specs.List.{between}
use Rattle.std.proofs.lemmas.List.Edits.{between_none, between_more}
use Rattle.std.proofs.lemmas.List.{take-set, get_or-set_same}
use Rattle.logic.specs.Limits as language
use Rattle.logic.specs.Words.{symbol_word}
use Rattle.logic.specs.declared.row.SymbolRow.{SymbolRow}
use Rattle.logic.specs.declared.row.Kind.{Kind}
use Rattle.logic.specs.declared.row.Kind.TheVariants.{Function}
use Rattle.tokens.specs.declared.fault.Fault.{Fault}
use Rattle.reading.specs.declared.purpose.Purpose.TheVariants.{Binding}
use Rattle.reading.specs.Marks.{Mark}
use Rattle.reading.specs.Marks.{Closed as Ended, Opened as Begun}
use Rattle.reading.specs.Slots.{Slot}
use Rattle.reading.specs.Slots.{Closed, Variable, Opened}
use Rattle.reading.specs.Limits as limits
use Rattle.reading.specs.States.{State, Halt, ◌>>=◌, from, moved, written, full}
use Rattle.reading.specs.Entering.{Headed, head, settle}
use Rattle.reading.specs.Terms.{slot, turn, headed_state, with_rows, args, body, nest, application, term_turn, term}
use Rattle.reading.specs.Clauses.{closing}
use Rattle.reading.specs.Bindings.{Bound, Bounds, blank, variable_at, binding_mark, binding_turn, binding, binding_list}
use Rattle.reading.proofs.Keeping.{Safe, Any, Holds, Free, slot_free}
use Rattle.reading.proofs.Kept.{not_full, head_free}
use Rattle.reading.proofs.Pushed.{bound, between_same}

-- both answers, or one refusal
abbrev pub Both : {A : Type 0} → (A → A → Type 0) → Result A Halt → Result A Halt → Type 0
Both F (Ok a) (Ok b) = F a b
Both F (Ok a) (Err h) = ⊥
Both F (Err h) (Ok b) = ⊥
Both F (Err h) (Err k) = h ≡ k

bind_both : {A B : Type 0} (F : A → A → Type 0) (G : B → B → Type 0) (r s : Result A Halt) (k l : A → Result B Halt) → Both F r s → ((a b : A) → F a b → Both G (k a) (l b)) → Both G (r >>= k) (s >>= l)
bind_both F G (Ok a) (Ok b) k l p f = f a b p
bind_both F G (Ok a) (Err h) k l p f = absurd p
bind_both F G (Err h) (Ok b) k l p f = absurd p
bind_both F G (Err h) (Err i) k l p f = p

bind_one : {A B : Type 0} (F : A → Type 0) (G : B → B → Type 0) (r : Result A Halt) (k l : A → Result B Halt) → Safe Any F r → ((a : A) → F a → Both G (k a) (l a)) → Both G (r >>= k) (r >>= l)
bind_one F G (Ok a) k l s f = f a s
bind_one F G (Err h) k l s f = refl

any_from : {A : Type 0} (F : A → Type 0) (st : State) (r : Result A Fault) → Holds F r → Safe Any F (from st r)
any_from F st (Ok a) h = h
any_from F st (Err f) h = tt

any_holds : {A : Type 0} (r : Result A Fault) → Holds Any r
any_holds (Ok a) = tt
any_holds (Err f) = tt

same_result : {A : Type 0} (r s : Result A Halt) → Both (λ a b. a ≡ b) r s → r ≡ s
same_result (Ok a) (Ok b) e = ap Ok e
same_result (Ok a) (Err h) e = absurd e
same_result (Err h) (Ok b) e = absurd e
same_result (Err h) (Err k) e = ap Err e

-- another store
abbrev swap : State → List ℕ → State
swap st o = record { purpose = st.purpose; pos = st.pos; count = st.count; out = o; symbols = st.symbols; rows = st.rows }

between_push : (xs : List ℕ) (c n w : ℕ) → c ≤ n → n < length xs → between c (n + 1) (set xs n w) ≡ between c n xs ++ w ∷ []
between_push xs c n w le lt =
    let long : n < length (set xs n w) = simp length-set lt in
    between_more (set xs n w) c n 0 le long
    ∙ ap₂ (λ ys y. ys ++ y ∷ []) (between_same (set xs n w) xs c n n (take-set xs n w) (omega arith)) (get_or-set_same xs n w 0 lt)

pub length-blank : length blank ≡ limits.binding_words
unfolding blank
length-blank = length-replicate {A = ℕ} limits.binding_words 0

module _ (c : ℕ) where
  -- the words from c on are the same
  abbrev Agree : State → List ℕ → Type 0
  Agree a o =
      (a.purpose ≡ Binding) × (c ≤ a.count) × (a.count ≤ limits.binding_words) × (length a.out ≡ limits.binding_words)
      × (length o ≡ limits.binding_words) × (between c a.count a.out ≡ between c a.count o)

  abbrev Alike : State → State → Type 0
  Alike a b = (o : List ℕ) × (b ≡ swap a o) × Agree a o

  abbrev AlikeGroup : ℕ × State → ℕ × State → Type 0
  AlikeGroup p q = (p.0 ≡ q.0) × (Alike p.1 q.1)

  bind_alike : {B : Type 0} (G : B → B → Type 0) (r s : Result State Halt) (k l : State → Result B Halt) → Both Alike r s → ((a : State) (o : List ℕ) → Agree a o → Both G (k a) (l (swap a o))) → Both G (r >>= k) (s >>= l)
  bind_alike G r s k l p f = bind_both Alike G r s k l p (λ a b q. subst (λ x. Both G (k a) (l x)) (sym q.1) (f a q.0 q.2))

  more : (a : State) (o : List ℕ) (w : ℕ) → full a.purpose a.count ≡ false → Agree a o → (c ≤ a.count + 1) × (a.count + 1 ≤ limits.binding_words) × (length (set a.out a.count w) ≡ limits.binding_words) × (length (set o a.count w) ≡ limits.binding_words) × (between c (a.count + 1) (set a.out a.count w) ≡ between c (a.count + 1) (set o a.count w))
  more a o w f g =
      let lt = not_full a.purpose a.count g.0 f in (
        omega arith,
        omega arith,
        simp length-set g.3,
        simp length-set g.4,
        between_push a.out c a.count w g.1 (omega arith) ∙ ap (λ xs. xs ++ w ∷ []) g.5 ∙ sym (between_push o c a.count w g.1 (omega arith)),
      )

  module _ (bs : List ℕ) where
    abbrev Blind : (State → Result State Halt) → Type 0
    Blind f = (a : State) (o : List ℕ) → Agree a o → Both Alike (f a) (f (swap a o))

    args_both : (nested : State → Result State Halt) → Blind nested → (deep : Bool) (left given : ℕ) (a : State) (o : List ℕ) → Agree a o → Both AlikeGroup (args bs nested deep left given a) (args bs nested deep left given (swap a o))
    unfolding args
    args_both nested ns deep zero given a o g = (refl, (o, refl, g))
    args_both nested ns deep (suc left) given a o g =
        bind_one (Free (full a.purpose a.count)) AlikeGroup (from a (slot bs deep (full a.purpose a.count) (eqb left 0) a.pos)) _ _
        (any_from (Free (full a.purpose a.count)) a (slot bs deep (full a.purpose a.count) (eqb left 0) a.pos) (slot_free bs deep (full a.purpose a.count) (eqb left 0) a.pos))
        (by (args bs nested deep left (given + 1)) (args_both nested ns deep left (given + 1)))
      where
        by : (rest : State → Result (ℕ × State) Halt) → ((b : State) (p : List ℕ) → Agree b p → Both AlikeGroup (rest b) (rest (swap b p))) → (s : Slot) → Free (full a.purpose a.count) s → Both AlikeGroup (turn nested rest given a s) (turn nested rest given (swap a o) s)
        by rest on (Closed e) f = (refl, (o, refl, g))
        by rest on (Variable i e) f = let m = more a o i f g in on (written a e i) (set o a.count i) (g.0, m.0, m.1, m.2, m.3, m.4)
        by rest on (Opened e) f = bind_alike AlikeGroup (nested (moved a e)) (nested (moved (swap a o) e)) rest rest (ns (moved a e) o g) on

    -- the closing bracket behind the arguments
    abbrev closed_by : Headed → ℕ × State → Result State Halt
    closed_by h p = from p.1 (settle p.1.rows h.symbol p.0 h.place) >>= λ rows. Ok (with_rows p.1 rows)

    close_both : (h : Headed) (p q : ℕ × State) → AlikeGroup p q → Both Alike (closed_by h p) (closed_by h q)
    close_both h p q r =
        subst (λ i. Both Alike (closed_by h p) (closed_by h (i, q.1))) r.0
        (subst (λ b. Both Alike (closed_by h p) (closed_by h (p.0, b))) (sym r.1.1)
        (bind_one Any Alike (from p.1 (settle p.1.rows h.symbol p.0 h.place)) _ _ (any_from Any p.1 (settle p.1.rows h.symbol p.0 h.place) (any_holds (settle p.1.rows h.symbol p.0 h.place))) (λ rows _. (r.1.0, refl, r.1.2))))

    body_both : (nested : State → Result State Halt) → Blind nested → (deep : Bool) (base : ℕ) (k : Kind) → Blind (body bs nested deep base k)
    body_both nested ns deep base k a o g =
        bind_one (λ _. full a.purpose a.count ≡ false) Alike (head bs k a.purpose a.pos a.count a.symbols a.rows) _ _ (head_free bs k a.purpose a.pos a.count a.symbols a.rows) (λ h free.
        let m = more a o (base + h.symbol) free g in
        bind_both AlikeGroup Alike (args bs nested deep (language.arguments + 1) 0 (headed_state a h (base + h.symbol))) (args bs nested deep (language.arguments + 1) 0 (headed_state (swap a o) h (base + h.symbol))) (closed_by h) (closed_by h)
        (args_both nested ns deep (language.arguments + 1) 0 (headed_state a h (base + h.symbol)) (set o a.count (base + h.symbol)) (g.0, m.0, m.1, m.2, m.3, m.4))
        (close_both h))

    nest_both : (room : ℕ) → Blind (nest bs room)
    unfolding nest
    nest_both zero a o g = (o, refl, g)
    nest_both (suc room) a o g = body_both (nest bs room) (nest_both room) (eqb room 0) (symbol_word 0) Function a o g

    application_both : (room base : ℕ) (k : Kind) → Blind (application bs room base k)
    unfolding application
    application_both room base k a o g = body_both (nest bs room) (nest_both room) (eqb room 0) base k a o g

    term_both : (room : ℕ) → Blind (term bs room)
    term_both room a o g =
        bind_one (Free (full a.purpose a.count)) Alike (from a (slot bs (eqb room 0) (full a.purpose a.count) false a.pos)) (term_turn bs room a) (term_turn bs room (swap a o))
        (any_from (Free (full a.purpose a.count)) a (slot bs (eqb room 0) (full a.purpose a.count) false a.pos) (slot_free bs (eqb room 0) (full a.purpose a.count) false a.pos))
        by
      where
        by : (s : Slot) → Free (full a.purpose a.count) s → Both Alike (term_turn bs room a s) (term_turn bs room (swap a o) s)
        by (Closed e) f = refl
        by (Variable i e) f = let m = more a o i f g in (set o a.count i, refl, (g.0, m.0, m.1, m.2, m.3, m.4))
        by (Opened e) f = application_both (room - 1) (symbol_word 0) Function (moved a e) o g

-- a state and another store, each as long as there may be words
abbrev Ready : State → List ℕ → Type 0
Ready a o = (a.purpose ≡ Binding) × (a.count ≤ limits.binding_words) × (length a.out ≡ limits.binding_words) × (length o ≡ limits.binding_words)

abbrev AlikeBound : Bound × State → Bound × State → Type 0
AlikeBound p q = (p.0 ≡ q.0) × ((o : List ℕ) × (q.1 ≡ swap p.1 o) × Ready p.1 o)

abbrev Same : Bounds → Bounds → Type 0
Same x y = x ≡ y

module _ (bs : List ℕ) where
  binding_both : (a : State) (o : List ℕ) → Ready a o → Both AlikeBound (binding bs a) (binding bs (swap a o))
  unfolding binding
  binding_both a o r =
      bind_one Any AlikeBound (from a (variable_at bs a.pos)) _ _ (any_from Any a (variable_at bs a.pos) (any_holds (variable_at bs a.pos))) (λ v _.
      bind_alike a.count AlikeBound (term bs language.depth (moved a v.end)) (term bs language.depth (moved (swap a o) v.end)) _ _
      (term_both a.count bs language.depth (moved a v.end) o (r.0, omega arith, r.1, r.2, r.3, between_none a.out a.count ∙ sym (between_none o a.count)))
      (λ t p g.
      bind_one Any AlikeBound (from t (closing bs t.pos)) _ _ (any_from Any t (closing bs t.pos) (any_holds (closing bs t.pos))) (λ e _. (ap (bound v.variable) g.5, (p, refl, (g.0, g.2, g.3, g.4))))))

  list_both : (left : ℕ) (done : List Bound) (a : State) (o : List ℕ) → Ready a o → Both Same (binding_list bs left done a) (binding_list bs left done (swap a o))
  unfolding binding_list
  list_both zero done a o r = refl
  list_both (suc left) done a o r =
      bind_one Any Same (from a (binding_mark bs (eqb left 0) a.pos)) _ _ (any_from Any a (binding_mark bs (eqb left 0) a.pos) (any_holds (binding_mark bs (eqb left 0) a.pos))) (λ m _. by (binding_list bs left) (list_both left) m)
    where
      by : (rest : List Bound → State → Result Bounds Halt) → ((d : List Bound) (b : State) (p : List ℕ) → Ready b p → Both Same (rest d b) (rest d (swap b p))) → (m : Mark) → Both Same (binding_turn (binding bs) rest done a m) (binding_turn (binding bs) rest done (swap a o) m)
      by rest on (Ended e) = refl
      by rest on (Begun e) =
          bind_both AlikeBound Same (binding bs (moved a e)) (binding bs (moved (swap a o) e)) _ _ (binding_both (moved a e) o r) (λ p q z.
          subst (λ b. Both Same (rest (done ++ p.0 ∷ []) p.1) (rest (done ++ b ∷ []) q.1)) z.0
          (subst (λ s. Both Same (rest (done ++ p.0 ∷ []) p.1) (rest (done ++ p.0 ∷ []) s)) (sym z.1.1) (on (done ++ p.0 ∷ []) p.1 z.1.0 z.1.2)))

  -- what bindings are read as, whatever lay in their store
  pub bindings_blind : (left pos n : ℕ) (rows : List SymbolRow) (terms : List ℕ) → length terms ≡ limits.binding_words → binding_list bs left [] (record { purpose = Binding; pos = pos; count = 0; out = terms; symbols = n; rows = rows }) ≡ binding_list bs left [] (record { purpose = Binding; pos = pos; count = 0; out = blank; symbols = n; rows = rows })
  bindings_blind left pos n rows terms long =
      same_result (binding_list bs left [] (record { purpose = Binding; pos = pos; count = 0; out = terms; symbols = n; rows = rows })) (binding_list bs left [] (record { purpose = Binding; pos = pos; count = 0; out = blank; symbols = n; rows = rows }))
      (list_both left [] (record { purpose = Binding; pos = pos; count = 0; out = terms; symbols = n; rows = rows }) blank (refl, omega arith, long, length-blank))
