-- One turn of the reading of lists: of a clause's literals.
use Rattle.std.proofs.Common.{◌≡◌, ℕ, suc, ◌+◌, ◌-◌, ◌≤◌, Bool, cond, eqb, List, Option, None, Some, Ok, Err, Result, refl, ap, ◌∙◌, arith}
use Rattle.std.proofs.lemmas.Bool.Decides.{nat_tests}
use Rattle.tokens.specs.declared.fault.Fault.{Fault}
use Rattle.tokens.specs.declared.fault.Fault.TheVariants.{ManyLiterals}
use Rattle.tokens.specs.Tokens.{Tok, opens, closes, equals, number, variable, word, Lexed, lex}
use Rattle.reading.specs.Marks.{Mark, Closed, Opened}
use Rattle.reading.specs.Cursors.{bracket, bracket_at}
use Rattle.reading.specs.States.{State, Halt, ◌>>=◌, ◌then◌, from}
use Rattle.reading.specs.Clauses.{marked, literal_mark, mark_turn, literal, literal_list}

-- a bracket as a mark, where no more may come if `none` holds
abbrev pub listed : (ℕ → Fault) → Bool → Option ℕ × ℕ → Result Mark Fault
listed many none (None, e) = Ok (Closed e)
listed many none (Some at, e) = cond none (Err (many at)) (Ok (Opened e))

-- a mark is a bracket that is met
pub marks_are_brackets : (many : ℕ → Fault) (none : Bool) (bs : List ℕ) (p : ℕ) → (lex bs p then λ l. marked (many l.place) none l.place l.end l.tok) ≡ (bracket_at bs p then listed many none)
marks_are_brackets many none bs p = by (lex bs p)
  where
    at : (place end : ℕ) (t : Tok) → marked (many place) none place end t ≡ (bracket place end t then listed many none)
    at place end opens = refl
    at place end closes = refl
    at place end equals = refl
    at place end (number r) = refl
    at place end (variable r) = refl
    at place end (word r) = refl

    by : (r : Result Lexed Fault) → (r then λ l. marked (many l.place) none l.place l.end l.tok) ≡ ((r then λ l. bracket l.place l.end l.tok) then listed many none)
    by (Ok l) = at l.place l.end l.tok
    by (Err f) = refl

module _ (bs : List ℕ) where
  pub literals_suc : (n : ℕ) (st : State) → literal_list bs (suc n) st ≡ (from st (literal_mark bs (eqb n 0) st.pos) >>= mark_turn (literal bs) (literal_list bs n) st)
  unfolding literal_list
  literals_suc n st = refl

  -- what the next bracket leads to, where so many literals are given
  abbrev pub literals_from : ℕ → State → Result State Halt
  literals_from given st = from st (bracket_at bs st.pos then listed ManyLiterals (eqb given 32)) >>= mark_turn (literal bs) (literal_list bs (33 - (given + 1))) st

  pub literals_turn : (given : ℕ) (st : State) → given ≤ 32 → literal_list bs (33 - given) st ≡ literals_from given st
  literals_turn given st few =
      let e : 33 - given ≡ suc (32 - given) = omega arith in
      let f : eqb (32 - given) 0 ≡ eqb given 32 = grind (arith, nat_tests) in
      let g : 32 - given ≡ 33 - (given + 1) = omega arith in
      ap (λ n. literal_list bs n st) e ∙ literals_suc (32 - given) st
      ∙ ap (λ r. from st r >>= mark_turn (literal bs) (literal_list bs (32 - given)) st) (marks_are_brackets ManyLiterals (eqb (32 - given) 0) bs st.pos)
      ∙ ap (λ b. from st (bracket_at bs st.pos then listed ManyLiterals b) >>= mark_turn (literal bs) (literal_list bs (32 - given)) st) f
      ∙ ap (λ n. from st (bracket_at bs st.pos then listed ManyLiterals (eqb given 32)) >>= mark_turn (literal bs) (literal_list bs n) st) g
