-- What each step of the reading of a clause keeps, the whole reading keeps.
use Rattle.std.proofs.Common.{ℕ, zero, suc, ◌+◌, Bool, true, false, cond, eqb, List, Ok, Err, codes, Result}
use Rattle.logic.specs.Limits as limits
use Rattle.logic.specs.Words.{symbol_word, equality_word, negation}
use Rattle.logic.specs.declared.row.Kind.{Kind}
use Rattle.logic.specs.declared.row.Kind.TheVariants.{Predicate}
use Rattle.tokens.specs.declared.fault.Fault.{Fault}
use Rattle.tokens.specs.Tokens.{lex}
use Rattle.reading.specs.Marks.{Mark}
use Rattle.reading.specs.Marks.{Closed, Opened}
use Rattle.reading.specs.States.{State, Halt, halt, from, moved, written}
use Rattle.reading.specs.Entering.{head, settle}
use Rattle.reading.specs.Terms.{headed_state, with_rows, application, term}
use Rattle.reading.specs.Clauses.{opening, closing, wording, literal_mark, is_equals, is_not, mark_turn, sides, atom, negated, literal, literal_list, clause}
use Rattle.reading.specs.Bindings.{Bound, Bounds, variable_at, binding_mark, binding_turn, binding, binding_list}
use Rattle.reading.proofs.Keeping.{Safe, bind_safe, Any, application_safe, term_safe}

pub cond_safe : {A : Type 0} (H : Halt → Type 0) (G : A → Type 0) (q : Bool) (a b : Result A Halt) → Safe H G a → Safe H G b → Safe H G (cond q a b)
cond_safe H G true a b s t = s
cond_safe H G false a b s t = t

module _
    (G : State → Type 0) (H : Halt → Type 0) (P : ℕ → Type 0)
    (halts : (st : State) (f : Fault) → G st → H (halt f st.symbols st.rows))
    (moves : (st : State) (e : ℕ) → G st → G (moved st e))
    (writes : (st : State) (e w : ℕ) → G st → G (written st e w))
    (heads : (bs : List ℕ) (k : Kind) (st : State) → G st → Safe H (λ h. P h.symbol × ((w : ℕ) → G (headed_state st h w))) (head bs k st.purpose st.pos st.count st.symbols st.rows))
    (settles : (st : State) (s given at : ℕ) → P s → G st → Safe H (λ rows. G (with_rows st rows)) (from st (settle st.rows s given at)))
    (bs : List ℕ)
  where
    from_any : {A : Type 0} (st : State) (r : Result A Fault) → G st → Safe H Any (from st r)
    from_any st (Ok a) g = tt
    from_any st (Err f) g = halts st f g

    in_application : (room base : ℕ) (k : Kind) (st : State) → G st → Safe H G (application bs room base k st)
    in_application = application_safe G H P halts moves (λ st e w f g. writes st e w g) heads settles bs

    in_term : (room : ℕ) (st : State) → G st → Safe H G (term bs room st)
    in_term = term_safe G H P halts moves (λ st e w f g. writes st e w g) heads settles bs

    in_sides : (st : State) → G st → Safe H G (sides bs st)
    unfolding sides
    in_sides st g =
        bind_safe H G G (term bs limits.depth st) _ (in_term limits.depth st g) (λ l gl.
        bind_safe H G G (term bs limits.depth l) _ (in_term limits.depth l gl) (λ r gr.
        bind_safe H Any G (from r (closing bs r.pos)) _ (from_any r (closing bs r.pos) gr) (λ e _. moves r e gr)))

    in_atom : (sign : ℕ) (st : State) → G st → Safe H G (atom bs sign st)
    in_atom sign st g =
        bind_safe H Any G (from st (lex bs st.pos)) _ (from_any st (lex bs st.pos) g) (λ l _.
        cond_safe H G (is_equals l.tok) (sides bs (written st l.end (sign + equality_word))) (application bs limits.depth (sign + symbol_word 0) Predicate st)
        (in_sides (written st l.end (sign + equality_word)) (writes st l.end (sign + equality_word) g))
        (in_application limits.depth (sign + symbol_word 0) Predicate st g))

    in_negated : (st : State) → G st → Safe H G (negated bs st)
    unfolding negated
    in_negated st g =
        bind_safe H Any G (from st (opening bs st.pos)) _ (from_any st (opening bs st.pos) g) (λ e _.
        bind_safe H G G (atom bs negation (moved st e)) _ (in_atom negation (moved st e) (moves st e g)) (λ s gs.
        bind_safe H Any G (from s (closing bs s.pos)) _ (from_any s (closing bs s.pos) gs) (λ f _. moves s f gs)))

    in_literal : (st : State) → G st → Safe H G (literal bs st)
    unfolding literal
    in_literal st g =
        bind_safe H Any G (from st (lex bs st.pos)) _ (from_any st (lex bs st.pos) g) (λ l _.
        cond_safe H G (is_not l.tok) (negated bs (moved st l.end)) (atom bs 0 st)
        (in_negated (moved st l.end) (moves st l.end g)) (in_atom 0 st g))

    in_literals : (left : ℕ) (st : State) → G st → Safe H G (literal_list bs left st)
    unfolding literal_list
    in_literals zero st g = g
    in_literals (suc left) st g =
        bind_safe H Any G (from st (literal_mark bs (eqb left 0) st.pos)) _ (from_any st (literal_mark bs (eqb left 0) st.pos) g)
        (λ m _. by (literal_list bs left) (in_literals left) m)
      where
        by : (rest : State → Result State Halt) → ((s : State) → G s → Safe H G (rest s)) → (m : Mark) → Safe H G (mark_turn (literal bs) rest st m)
        by rest more (Closed e) = moves st e g
        by rest more (Opened e) = bind_safe H G G (literal bs (moved st e)) rest (in_literal (moved st e) (moves st e g)) more

    pub clause_safe : (st : State) → G st → Safe H G (clause bs st)
    clause_safe st g =
        bind_safe H Any G (from st (opening bs st.pos)) _ (from_any st (opening bs st.pos) g) (λ i _.
        bind_safe H Any G (from st (wording (codes "or") bs i)) _ (from_any st (wording (codes "or") bs i) g) (λ e _.
        in_literals (limits.literals + 1) (moved st e) (moves st e g)))

    in_binding : (st : State) → G st → Safe H (λ p. G p.1) (binding bs st)
    unfolding binding
    in_binding st g =
        bind_safe H Any (λ p. G p.1) (from st (variable_at bs st.pos)) _ (from_any st (variable_at bs st.pos) g) (λ v _.
        bind_safe H G (λ p. G p.1) (term bs limits.depth (moved st v.end)) _ (in_term limits.depth (moved st v.end) (moves st v.end g)) (λ t gt.
        bind_safe H Any (λ p. G p.1) (from t (closing bs t.pos)) _ (from_any t (closing bs t.pos) gt) (λ e _. moves t e gt)))

    -- what holds of the symbols of every such state, holds of those behind a list of bindings
    pub bindings_safe : (F : Bounds → Type 0) → ((bound : List Bound) (e : ℕ) (st : State) → G st → F (record { bound = bound; end = e; symbols = st.symbols; rows = st.rows })) → (left : ℕ) (done : List Bound) (st : State) → G st → Safe H F (binding_list bs left done st)
    unfolding binding_list
    bindings_safe F ends zero done st g = ends done st.pos st g
    bindings_safe F ends (suc left) done st g =
        bind_safe H Any F (from st (binding_mark bs (eqb left 0) st.pos)) _ (from_any st (binding_mark bs (eqb left 0) st.pos) g)
        (λ m _. by (binding_list bs left) (bindings_safe F ends left) m)
      where
        by : (rest : List Bound → State → Result Bounds Halt) → ((d : List Bound) (s : State) → G s → Safe H F (rest d s)) → (m : Mark) → Safe H F (binding_turn (binding bs) rest done st m)
        by rest more (Closed e) = ends done e st g
        by rest more (Opened e) = bind_safe H (λ p. G p.1) F (binding bs (moved st e)) _ (in_binding (moved st e) (moves st e g)) (λ p gp. more _ p.1 gp)
