-- What is read as numbers, positions, keywords and bindings is spelled.
use Rattle.std.proofs.Common.{◌≡◌, ℕ, zero, suc, ◌-◌, ◌≤◌, Bool, true, false, cond, eqb, ltb, List, [], ◌∷◌, ◌++◌, length, get_or, Some, None, Ok, Err, Option, sym, refl, ap, ◌∙◌, subst, append_assoc, append-nil, arith}
use Rattle.std.proofs.lemmas.Bool.{true≢false, ltb-false}
use Rattle.logic.specs.Limits as limits
use Rattle.logic.specs.Names.{letter}
use Rattle.tokens.specs.declared.fault.Fault.TheVariants.{Long, Form, ManyNumbers}
use Rattle.tokens.specs.Tokens.{Tok, opens, closes, equals, number, variable, word, Lexed, lex}
use Rattle.tokens.specs.Forms.{number_form, keyword_form, largest_number}
use Rattle.reading.specs.States.{◌then◌}
use Rattle.reading.specs.Clauses.{opening}
use Rattle.lines.specs.Turns.{Turn}
use Rattle.lines.specs.Turns.{Closed, Given}
use Rattle.lines.specs.Numbers.{Numbered}
use Rattle.lines.specs.Justifications.{Few}
use Rattle.lines.specs.declared.shape.Shape.{Shape}
use Rattle.lines.specs.Limits as lines
use Rattle.lines.specs.Numbers.{number_at}
use Rattle.lines.specs.Positions.{given_at, turned, position_mark, position_turn, position_list, position_part}
use Rattle.lines.specs.Justifications.{Table, few_at, asked, Named, shaped, keyword_at}
use Rattle.spelling.specs.Grammar.{Numeral}
use Rattle.spelling.specs.StepGrammar.{KeywordName, due, SpellsNumbers, no_numbers, more_numbers, SpellsPosition, no_position, a_position}
use Rattle.spelling.proofs.Answers.{ok_same, then_ok, cond_ok, pick_ok}
use Rattle.spelling.proofs.Streams.{Tokens, behind}
use Rattle.spelling.proofs.Marks.{TokenRead, token_there, opened_is}
use Rattle.spelling.proofs.RulesRead.{number_is, NumberRead, number_read}
use Rattle.spelling.proofs.TermsGrow.{some}

-- ── Positions ──

abbrev TurnIs : Bool → ℕ → Tok → Turn → Type 0
TurnIs none end t (Closed e) = (t ≡ closes) × (e ≡ end)
TurnIs none end t (Given n e) = (r : List ℕ) × (t ≡ number r) × Numeral r r largest_number n × (none ≡ false) × (e ≡ end)

given_is : (none : Bool) (at end : ℕ) (t : Tok) (x : Turn) → given_at none at end t ≡ Ok x → TurnIs none end t x
given_is none at end t x e =
    let n = then_ok (number_form t at) (λ m. cond none (Err (ManyNumbers at)) (Ok (Given m end))) x e in
    let i = number_is t at n.0 n.1 in
    let c = cond_ok none (ManyNumbers at) (Ok (Given n.0 end)) x n.2 in
    subst (TurnIs none end t) (ok_same c.1) (i.0, i.1, i.2, c.0, refl)

turn_is : (none : Bool) (at end : ℕ) (t : Tok) (x : Turn) → turned none at end t ≡ Ok x → TurnIs none end t x
turn_is none at end opens x e = given_is none at end opens x e
turn_is none at end closes x e = subst (TurnIs none end closes) (ok_same e) (refl, refl)
turn_is none at end equals x e = given_is none at end equals x e
turn_is none at end (number r) x e = given_is none at end (number r) x e
turn_is none at end (variable r) x e = given_is none at end (variable r) x e
turn_is none at end (word r) x e = given_is none at end (word r) x e

-- numbers that were read behind those already done
pub record NumbersRead (bs : List ℕ) (l : ℕ) (done : List ℕ) (p : ℕ) (q : List ℕ × ℕ) (us : List Tok) : Type 0 where
  pub numbers : List ℕ
  pub toks : List Tok
  pub all : q.0 ≡ done ++ numbers
  pub few : length numbers ≤ l
  pub spelled : SpellsNumbers numbers toks (closes ∷ us)
  pub there : Tokens bs p toks

module _ (bs : List ℕ) where
  pub list_suc : (l : ℕ) (done : List ℕ) (p : ℕ) → position_list bs (suc l) done p ≡ (position_mark bs (eqb l 0) p then position_turn (position_list bs l) done)
  unfolding position_list
  list_suc l done p = refl

  abbrev Rest : ℕ → List ℕ → (List ℕ × ℕ) → List Tok → Type 0
  Rest l done q us = eqb l 0 ≡ false → (n e : ℕ) → position_list bs l (done ++ n ∷ []) e ≡ Ok q → NumbersRead bs (l - 1) (done ++ n ∷ []) e q us

  list_by : (l : ℕ) (done : List ℕ) (p : ℕ) (q : List ℕ × ℕ) (us : List Tok) → Tokens bs q.1 us → Rest l done q us → position_list bs (suc l) done p ≡ Ok q
      → NumbersRead bs l done p q us
  list_by l done p q us toks rest e =
      let m = then_ok (position_mark bs (eqb l 0) p) (position_turn (position_list bs l) done) q (sym (list_suc l done p) ∙ e) in
      let x = then_ok (lex bs p) _ m.0 m.1 in
      by x.0 x.1 m.0 (turn_is (eqb l 0) x.0.place x.0.end x.0.tok m.0 x.2) m.2
    where
      by : (x : Lexed) → lex bs p ≡ Ok x → (t : Turn) → TurnIs (eqb l 0) x.end x.tok t → position_turn (position_list bs l) done t ≡ Ok q → NumbersRead bs l done p q us
      by x r (Closed e) i k =
          let same : (done, e) ≡ q = ok_same k in
          record {
            numbers = [];
            toks = closes ∷ us;
            all = sym (ap (λ (y : List ℕ × ℕ). y.0) same) ∙ sym (append-nil done);
            few = omega arith;
            spelled = no_numbers;
            there = behind bs p x closes e us r i.0 i.1 (subst (λ (y : List ℕ × ℕ). Tokens bs y.1 us) (sym same) toks);
          }
      by x r (Given n e) i k =
          let h = some l i.3 in
          let z = rest i.3 n e k in
          record {
            numbers = n ∷ z.numbers;
            toks = number i.0 ∷ z.toks;
            all = z.all ∙ append_assoc done (n ∷ []) z.numbers;
            few = omega (arith, z.few);
            spelled = more_numbers i.2 z.spelled;
            there = behind bs p x (number i.0) e z.toks r i.1 i.4 z.there;
          }

  numbers_read : (l : ℕ) (done : List ℕ) (p : ℕ) (q : List ℕ × ℕ) (us : List Tok) → Tokens bs q.1 us → position_list bs (suc l) done p ≡ Ok q → NumbersRead bs l done p q us
  numbers_read zero done p q us toks e = list_by zero done p q us toks (λ f. absurd (true≢false f)) e
  numbers_read (suc l) done p q us toks e =
      let one_less : l ≡ suc l - 1 = omega arith in
      list_by (suc l) done p q us toks (λ f n x k. subst (λ (m : ℕ). NumbersRead bs m (done ++ n ∷ []) x q us) one_less (numbers_read l (done ++ n ∷ []) x q us toks k)) e

  pub position_read : (wanted : Bool) (p : ℕ) (q : List ℕ × ℕ) (us : List Tok) → Tokens bs q.1 us → position_part bs wanted p ≡ Ok q
      → (ts : List Tok) × SpellsPosition wanted q.0 ts us × Tokens bs p ts
  position_read false p q us toks e =
      let same : ([], p) ≡ q = ok_same e in
      (us, subst (λ (x : List ℕ × ℕ). SpellsPosition false x.0 us us) same no_position, subst (λ (x : List ℕ × ℕ). Tokens bs x.1 us) (sym same) toks)
  position_read true p q us toks e =
      let o = then_ok (opening bs p) _ q e in
      let x = then_ok (lex bs p) _ o.0 o.1 in
      let i = opened_is x.0.place x.0.end x.0.tok o.0 x.2 in
      let r = numbers_read lines.position_numbers [] o.0 q us toks o.2 in (
        opens ∷ r.toks,
        subst (λ ns. SpellsPosition true ns (opens ∷ r.toks) us) (sym r.all) (a_position r.few r.spelled),
        behind bs p x.0 opens o.0 r.toks x.1 i.0 i.1 r.there,
      )

  -- ── A few numbers ──

  module _ (p : ℕ) (us : List Tok) where
    -- by the two tests on the number wanted
    abbrev FewRead : Bool → Bool → Few → Type 0
    FewRead a b f =
        (ts : List Tok) × (length (cond a [] (cond b (get_or f.numbers 0 0 ∷ []) (get_or f.numbers 0 0 ∷ get_or f.numbers 1 0 ∷ []))) ≡ cond a 0 (cond b 1 2))
        × SpellsNumbers (cond a [] (cond b (get_or f.numbers 0 0 ∷ []) (get_or f.numbers 0 0 ∷ get_or f.numbers 1 0 ∷ []))) ts us × Tokens bs p ts

    few_one : (a : Numbered) (f : Few) → NumberRead bs p a → Tokens bs f.end us → ◌≡◌ {A = Few} (record { numbers = a.number ∷ 0 ∷ []; end = a.end }) f → FewRead false true f
    few_one a f r toks same =
        subst (FewRead false true) same
        (number r.run ∷ us, refl, more_numbers r.numeral no_numbers, token_there bs p (number r.run) a.end us r.read (subst (λ (x : Few). Tokens bs x.end us) (sym same) toks))

    few_two : (a b : Numbered) (f : Few) → NumberRead bs p a → NumberRead bs a.end b → Tokens bs f.end us
        → ◌≡◌ {A = Few} (record { numbers = a.number ∷ b.number ∷ []; end = b.end }) f → FewRead false false f
    few_two a b f r q toks same =
        subst (FewRead false false) same (
          number r.run ∷ number q.run ∷ us,
          refl,
          more_numbers r.numeral (more_numbers q.numeral no_numbers),
          token_there bs p (number r.run) a.end (number q.run ∷ us) r.read
              (token_there bs a.end (number q.run) b.end us q.read (subst (λ (x : Few). Tokens bs x.end us) (sym same) toks)),
        )

    few_some : (b : Bool) (a : Numbered) (f : Few) → NumberRead bs p a → Tokens bs f.end us
        → cond b (Ok (record { numbers = a.number ∷ 0 ∷ []; end = a.end })) (number_at bs a.end then λ c. Ok (record { numbers = a.number ∷ c.number ∷ []; end = c.end })) ≡ Ok f
        → FewRead false b f
    few_some true a f r toks e = few_one a f r toks (ok_same e)
    few_some false a f r toks e =
        let c = then_ok (number_at bs a.end) _ f e in
        few_two a c.0 f r (number_read bs a.end c.0 c.1) toks (ok_same c.2)

    few_by : (a b : Bool) (f : Few) → Tokens bs f.end us
        → cond a (Ok (record { numbers = 0 ∷ 0 ∷ []; end = p })) (number_at bs p then λ x. cond b (Ok (record { numbers = x.number ∷ 0 ∷ []; end = x.end })) (number_at bs x.end then λ c. Ok (record { numbers = x.number ∷ c.number ∷ []; end = c.end }))) ≡ Ok f
        → FewRead a b f
    few_by true b f toks e =
        let same : record { numbers = 0 ∷ 0 ∷ []; end = p } ≡ f = ok_same e in
        (us, refl, no_numbers, subst (λ (x : Few). Tokens bs x.end us) (sym same) toks)
    few_by false b f toks e =
        let x = then_ok (number_at bs p) _ f e in
        few_some b x.0 f (number_read bs p x.0 x.1) toks x.2

    pub few_read : (wanted : ℕ) (f : Few) → Tokens bs f.end us → few_at bs wanted p ≡ Ok f
        → (ts : List Tok) × (length (asked wanted f.numbers) ≡ due wanted) × SpellsNumbers (asked wanted f.numbers) ts us × Tokens bs p ts
    few_read wanted f toks e = few_by (eqb wanted 0) (eqb wanted 1) f toks e

-- ── Keywords ──

keyword_is : (t : Tok) (at : ℕ) (r : List ℕ) → keyword_form t at ≡ Ok r → (t ≡ word r) × KeywordName r
keyword_is opens at r e = cc
keyword_is closes at r e = cc
keyword_is equals at r e = cc
keyword_is (number q) at r e = cc
keyword_is (variable q) at r e = cc
keyword_is (word q) at r e =
    let b = cond_ok (ltb limits.name_bytes (length q)) (Long at) _ r e in
    let c = pick_ok (letter (get_or q 0 0)) (Ok q) (Form at) r b.1 in
    let same : q ≡ r = ok_same c.1 in
    (ap word same, subst KeywordName same (record { short = ltb-false limits.name_bytes (length q) b.0; lettered = c.0 }))

pub record KeywordRead (bs : List ℕ) (shapes : Table) (p : ℕ) (k : Named) : Type 0 where
  pub read : TokenRead bs p (word k.run) k.end
  pub form : KeywordName k.run
  pub shaped_as : shapes k.run ≡ Some k.shape

pub keyword_read : (bs : List ℕ) (shapes : Table) (p : ℕ) (k : Named) → keyword_at bs shapes p ≡ Ok k → KeywordRead bs shapes p k
keyword_read bs shapes p k e =
    let l = then_ok (lex bs p) _ k e in
    let r = then_ok (keyword_form l.0.tok l.0.place) _ k l.2 in
    let i = keyword_is l.0.tok l.0.place r.0 r.1 in
    by l.0 l.1 r.0 i.0 i.1 (shapes r.0) refl r.2
  where
    by : (l : Lexed) → lex bs p ≡ Ok l → (r : List ℕ) → l.tok ≡ word r → KeywordName r → (o : Option Shape) → shapes r ≡ o → shaped r l.place l.end o ≡ Ok k
        → KeywordRead bs shapes p k
    by l x r t n None h f = cc
    by l x r t n (Some s) h f =
        subst (KeywordRead bs shapes p) (ok_same f) (record { read = record { lexed = l; read = x; is = t; on = refl }; form = n; shaped_as = h })
