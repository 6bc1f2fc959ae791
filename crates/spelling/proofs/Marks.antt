-- What brackets and fixed words say of their tokens.
use Rattle.std.proofs.Common.{◌≡◌, ℕ, Bool, true, false, List, ◌∷◌, Ok, codes, sym, refl, ap, subst}
use Rattle.std.specs.Str.{bytes_eq}
use Rattle.std.proofs.lemmas.Slice.Eq.{bytes_eq-Decides}
use Rattle.tokens.specs.declared.fault.Fault.{Fault}
use Rattle.tokens.specs.declared.fault.Fault.TheVariants.{Due, ManyLiterals}
use Rattle.tokens.specs.Tokens.{Tok, opens, closes, equals, number, variable, word, Lexed, lex}
use Rattle.reading.specs.Marks.{Mark}
use Rattle.reading.specs.Marks.{Closed, Opened}
use Rattle.reading.specs.States.{State, from}
use Rattle.reading.specs.Clauses.{opened, opening, closed, closing, worded, wording, marked, literal_mark, is_equals, is_not}
use Rattle.spelling.proofs.Answers.{ok_same, then_ok, lift_ok, cond_ok, pick_ok}
use Rattle.spelling.proofs.Streams.{Tokens, behind}

-- the first token from p on is t, and e is the place behind it
pub record TokenRead (bs : List ℕ) (p : ℕ) (t : Tok) (e : ℕ) : Type 0 where
  pub lexed : Lexed
  pub read : lex bs p ≡ Ok lexed
  pub is : lexed.tok ≡ t
  pub on : e ≡ lexed.end

pub token_there : (bs : List ℕ) (p : ℕ) (t : Tok) (e : ℕ) (us : List Tok) → TokenRead bs p t e → Tokens bs e us → Tokens bs p (t ∷ us)
token_there bs p t e us r h = behind bs p r.lexed t e us r.read r.is r.on h

abbrev AnswersFor : Tok → ℕ → ℕ → Tok → Type 0
AnswersFor t end e s = (s ≡ t) × (e ≡ end)

pub opened_is : (at end : ℕ) (t : Tok) (e : ℕ) → opened at end t ≡ Ok e → AnswersFor opens end e t
opened_is at end opens e h = (refl, sym (ok_same h))
opened_is at end closes e h = cc
opened_is at end equals e h = cc
opened_is at end (number r) e h = cc
opened_is at end (variable r) e h = cc
opened_is at end (word r) e h = cc

closed_is : (at end : ℕ) (t : Tok) (e : ℕ) → closed at end t ≡ Ok e → AnswersFor closes end e t
closed_is at end opens e h = cc
closed_is at end closes e h = (refl, sym (ok_same h))
closed_is at end equals e h = cc
closed_is at end (number r) e h = cc
closed_is at end (variable r) e h = cc
closed_is at end (word r) e h = cc

worded_is : (w : List ℕ) (at end : ℕ) (t : Tok) (e : ℕ) → worded w at end t ≡ Ok e → AnswersFor (word w) end e t
worded_is w at end opens e h = cc
worded_is w at end closes e h = cc
worded_is w at end equals e h = cc
worded_is w at end (number r) e h = cc
worded_is w at end (variable r) e h = cc
worded_is w at end (word r) e h =
    let a = pick_ok (bytes_eq r w) (Ok end) (Due at) e h in
    (ap word ((bytes_eq-Decides r w).0 a.0), sym (ok_same a.1))

pub opening_read : (bs : List ℕ) (st : State) (p e : ℕ) → from st (opening bs p) ≡ Ok e → TokenRead bs p opens e
opening_read bs st p e h =
    let c = then_ok (lex bs p) _ e (lift_ok st.symbols st.rows (opening bs p) e h) in
    let a = opened_is c.0.place c.0.end c.0.tok e c.2 in
    record { lexed = c.0; read = c.1; is = a.0; on = a.1 }

pub closing_read : (bs : List ℕ) (st : State) (p e : ℕ) → from st (closing bs p) ≡ Ok e → TokenRead bs p closes e
closing_read bs st p e h =
    let c = then_ok (lex bs p) _ e (lift_ok st.symbols st.rows (closing bs p) e h) in
    let a = closed_is c.0.place c.0.end c.0.tok e c.2 in
    record { lexed = c.0; read = c.1; is = a.0; on = a.1 }

pub wording_read : (bs : List ℕ) (st : State) (w : List ℕ) (p e : ℕ) → from st (wording w bs p) ≡ Ok e → TokenRead bs p (word w) e
wording_read bs st w p e h =
    let c = then_ok (lex bs p) _ e (lift_ok st.symbols st.rows (wording w bs p) e h) in
    let a = worded_is w c.0.place c.0.end c.0.tok e c.2 in
    record { lexed = c.0; read = c.1; is = a.0; on = a.1 }

-- what a mark says of its token
abbrev pub MarkIs : Bool → ℕ → Tok → Mark → Type 0
MarkIs none end t (Closed e) = (t ≡ closes) × (e ≡ end)
MarkIs none end t (Opened e) = (t ≡ opens) × (e ≡ end) × (none ≡ false)

pub marked_is : (f : Fault) (none : Bool) (at end : ℕ) (t : Tok) (m : Mark) → marked f none at end t ≡ Ok m → MarkIs none end t m
marked_is f none at end opens m h =
    let a = cond_ok none f (Ok (Opened end)) m h in
    subst (MarkIs none end opens) (ok_same a.1) (refl, refl, a.0)
marked_is f none at end closes m h = subst (MarkIs none end closes) (ok_same h) (refl, refl)
marked_is f none at end equals m h = cc
marked_is f none at end (number r) m h = cc
marked_is f none at end (variable r) m h = cc
marked_is f none at end (word r) m h = cc

pub record MarkRead (bs : List ℕ) (none : Bool) (p : ℕ) (m : Mark) : Type 0 where
  pub lexed : Lexed
  pub read : lex bs p ≡ Ok lexed
  pub is : MarkIs none lexed.end lexed.tok m

pub literal_mark_read : (bs : List ℕ) (st : State) (none : Bool) (m : Mark) → from st (literal_mark bs none st.pos) ≡ Ok m → MarkRead bs none st.pos m
literal_mark_read bs st none m h =
    let c = then_ok (lex bs st.pos) _ m (lift_ok st.symbols st.rows (literal_mark bs none st.pos) m h) in
    record { lexed = c.0; read = c.1; is = marked_is (ManyLiterals c.0.place) none c.0.place c.0.end c.0.tok m c.2 }

pub equals_is : (t : Tok) → is_equals t ≡ true → t ≡ equals
equals_is opens e = cc
equals_is closes e = cc
equals_is equals e = refl
equals_is (number r) e = cc
equals_is (variable r) e = cc
equals_is (word r) e = cc

pub not_is : (t : Tok) → is_not t ≡ true → t ≡ word (codes "not")
not_is opens e = cc
not_is closes e = cc
not_is equals e = cc
not_is (number r) e = cc
not_is (variable r) e = cc
not_is (word r) e = ap word ((bytes_eq-Decides r (codes "not")).0 e)
