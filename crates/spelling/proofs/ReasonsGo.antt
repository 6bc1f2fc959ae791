-- Numbers, positions and keywords that are spelled are read.
use Rattle.std.proofs.Common.{◌≡◌, ℕ, zero, suc, ◌+◌, ◌≤◌, Bool, true, false, cond, eqb, ltb, List, [], ◌∷◌, ◌++◌, length, get_or, Some, Ok, Err, Result, sym, refl, ap, ◌∙◌, subst, append_assoc, append-nil, arith}
use Rattle.std.proofs.lemmas.Bool.{cond-true, cond-false, le-ltb}
use Rattle.logic.specs.Limits as limits
use Rattle.logic.specs.Names.{letter}
use Rattle.tokens.specs.declared.fault.Fault.{Fault}
use Rattle.tokens.specs.declared.fault.Fault.TheVariants.{Long, Form, ManyNumbers}
use Rattle.tokens.specs.Tokens.{Tok, opens, closes, number, word, Lexed, lex}
use Rattle.tokens.specs.Forms.{number_form, keyword_form, largest_number}
use Rattle.reading.specs.States.{◌then◌}
use Rattle.reading.specs.Clauses.{opening, opened}
use Rattle.lines.specs.Turns.{Turn}
use Rattle.lines.specs.Turns.{Closed, Given}
use Rattle.lines.specs.Justifications.{Few}
use Rattle.lines.specs.declared.shape.Shape.{Shape}
use Rattle.lines.specs.Limits as lines
use Rattle.lines.specs.Numbers.{number_at}
use Rattle.lines.specs.Positions.{turned, position_mark, position_turn, position_list, position_part}
use Rattle.lines.specs.Justifications.{Table, few_at, asked, shaped, keyword_at}
use Rattle.spelling.specs.Grammar.{Numeral}
use Rattle.spelling.specs.StepGrammar.{KeywordName, due, SpellsNumbers, no_numbers, more_numbers, SpellsPosition, no_position, a_position}
use Rattle.spelling.proofs.Streams.{Tokens}
use Rattle.spelling.proofs.HeadsGo.{numeral_goes}
use Rattle.spelling.proofs.TermsGo.{first_token, suc_some}
use Rattle.spelling.proofs.ReasonsRead.{list_suc}

module _ (bs : List ℕ) where
  -- a number that stands at p
  pub number_goes : (p : ℕ) (l : Lexed) (r : List ℕ) (n : ℕ) → lex bs p ≡ Ok l → l.tok ≡ number r → Numeral r r largest_number n
      → number_at bs p ≡ Ok (record { number = n; place = l.place; end = l.end })
  number_goes p l r n e t m =
      ap (λ z. z then λ x. number_form x.tok x.place then λ y. Ok (record { number = y; place = x.place; end = x.end })) e
      ∙ ap (λ z. number_form z l.place then λ y. Ok (record { number = y; place = l.place; end = l.end })) t
      ∙ ap (λ z. z then λ y. Ok (record { number = y; place = l.place; end = l.end })) (numeral_goes r r largest_number n l.place m)

  -- ── Positions ──

  mark_goes : (none : Bool) (p : ℕ) (l : Lexed) (t : Tok) (x : Turn) → lex bs p ≡ Ok l → l.tok ≡ t → turned none l.place l.end t ≡ Ok x → position_mark bs none p ≡ Ok x
  mark_goes none p l t x e k f =
      ap (λ z. z then λ y. turned none y.place y.end y.tok) e ∙ ap (λ z. turned none l.place l.end z) k ∙ f

  list_goes : (l : ℕ) (done : List ℕ) (p : ℕ) (x : Turn) (r : Result (List ℕ × ℕ) Fault) → position_mark bs (eqb l 0) p ≡ Ok x → position_turn (position_list bs l) done x ≡ r
      → position_list bs (suc l) done p ≡ r
  list_goes l done p x r e f = list_suc bs l done p ∙ ap (λ z. z then position_turn (position_list bs l) done) e ∙ f

  numbers_go : {ns : List ℕ} {ts vs : List Tok} → SpellsNumbers ns ts vs → (l : ℕ) (done : List ℕ) (p : ℕ) (us : List Tok) → vs ≡ closes ∷ us → length ns ≤ l → Tokens bs p ts
      → (e : ℕ) × (position_list bs (suc l) done p ≡ Ok (done ++ ns, e)) × Tokens bs e us
  numbers_go (no_numbers) l done p us same few there =
      let f = first_token bs p (closes ∷ us) (subst (Tokens bs p) same there) in (
        f.0.end,
        list_goes l done p (Closed f.0.end) (Ok (done ++ [], f.0.end)) (mark_goes (eqb l 0) p f.0 closes (Closed f.0.end) f.1 f.2 refl)
            (ap (λ xs. Ok (xs, f.0.end)) (sym (append-nil done))),
        f.3,
      )
  numbers_go (more_numbers {n = n} {ns = ns} {r = r} {ts = ts} m rest) zero done p us same few there = absurd (omega arith)
  numbers_go (more_numbers {n = n} {ns = ns} {r = r} {ts = ts} m rest) (suc l) done p us same few there =
      let f = first_token bs p (number r ∷ ts) there in
      let z = numbers_go rest l (done ++ n ∷ []) f.0.end us same (omega arith) f.3 in
      let here : turned (eqb (suc l) 0) f.0.place f.0.end (number r) ≡ Ok (Given n f.0.end) =
      ap (λ x. x then λ y. cond (eqb (suc l) 0) (Err (ManyNumbers f.0.place)) (Ok (Given y f.0.end))) (numeral_goes r r largest_number n f.0.place m)
      ∙ cond-false (eqb (suc l) 0) (Err (ManyNumbers f.0.place)) (Ok (Given n f.0.end)) (suc_some l) in (
        z.0,
        list_goes (suc l) done p (Given n f.0.end) (Ok (done ++ (n ∷ ns), z.0)) (mark_goes (eqb (suc l) 0) p f.0 (number r) (Given n f.0.end) f.1 f.2 here)
            (z.1 ∙ ap (λ xs. Ok (xs, z.0)) (append_assoc done (n ∷ []) ns)),
        z.2,
      )

  pub position_goes : {wanted : Bool} {ns : List ℕ} {ts us : List Tok} → SpellsPosition wanted ns ts us → (p : ℕ) → Tokens bs p ts
      → (e : ℕ) × (position_part bs wanted p ≡ Ok (ns, e)) × Tokens bs e us
  position_goes (no_position) p there = (p, refl, there)
  position_goes (a_position {ns = ns} {ts = ts} {us = us} few inner) p there =
      let f = first_token bs p (opens ∷ ts) there in
      let z = numbers_go inner lines.position_numbers [] f.0.end us refl few f.3 in
      let o : opening bs p ≡ Ok f.0.end = ap (λ y. y then λ x. opened x.place x.end x.tok) f.1 ∙ ap (λ x. opened f.0.place f.0.end x) f.2 in
      (z.0, ap (λ y. y then λ i. position_list bs (lines.position_numbers + 1) [] i) o ∙ z.1, z.2)

  -- ── A few numbers ──

  abbrev GoesFew : ℕ → ℕ → List ℕ → List Tok → Type 0
  GoesFew wanted p ns us = (f : Few) × (few_at bs wanted p ≡ Ok f) × (asked wanted f.numbers ≡ ns) × Tokens bs f.end us

  abbrev answered : Bool → Bool → ℕ → Result Few Fault
  answered a b p =
      cond a (Ok (record { numbers = 0 ∷ 0 ∷ []; end = p }))
      (number_at bs p then λ x. cond b (Ok (record { numbers = x.number ∷ 0 ∷ []; end = x.end })) (number_at bs x.end then λ c. Ok (record { numbers = x.number ∷ c.number ∷ []; end = c.end })))

  abbrev picked : Bool → Bool → List ℕ → List ℕ
  picked a b ns = cond a [] (cond b (get_or ns 0 0 ∷ []) (get_or ns 0 0 ∷ get_or ns 1 0 ∷ []))

  few_by : (a b : Bool) {ns : List ℕ} {ts us : List Tok} → SpellsNumbers ns ts us → (p : ℕ) → length ns ≡ cond a 0 (cond b 1 2) → Tokens bs p ts
      → (f : Few) × (answered a b p ≡ Ok f) × (picked a b f.numbers ≡ ns) × Tokens bs f.end us
  few_by true b (no_numbers) p long there = (record { numbers = 0 ∷ 0 ∷ []; end = p }, refl, refl, there)
  few_by true b (more_numbers m rest) p long there = absurd (omega arith)
  few_by false b (no_numbers) p long there = absurd (some_due b long)
    where
      some_due : (b : Bool) → ◌≡◌ {A = ℕ} 0 (cond b 1 2) → ⊥
      some_due true e = omega arith
      some_due false e = omega arith
  few_by false true (more_numbers {n = n} {r = r} {ts = ts} m (no_numbers)) p long there =
      let f = first_token bs p (number r ∷ ts) there in (
        record { numbers = n ∷ 0 ∷ []; end = f.0.end },
        ap (λ z. z then λ x. Ok (record { numbers = x.number ∷ 0 ∷ []; end = x.end })) (number_goes p f.0 r n f.1 f.2 m),
        refl,
        f.3,
      )
  few_by false true (more_numbers m (more_numbers k rest)) p long there = absurd (omega arith)
  few_by false false (more_numbers m (no_numbers)) p long there = absurd (omega arith)
  few_by false false (more_numbers {n = n} {r = r} {ts = ts} m (more_numbers {n = k} {r = q} {ts = us} j (no_numbers))) p long there =
      let f = first_token bs p (number r ∷ number q ∷ us) there in
      let g = first_token bs f.0.end (number q ∷ us) f.3 in (
        record { numbers = n ∷ k ∷ []; end = g.0.end },
        ap (λ z. z then λ x. number_at bs x.end then λ c. Ok (record { numbers = x.number ∷ c.number ∷ []; end = c.end })) (number_goes p f.0 r n f.1 f.2 m)
            ∙ ap (λ z. z then λ c. Ok (record { numbers = n ∷ c.number ∷ []; end = c.end })) (number_goes f.0.end g.0 q k g.1 g.2 j),
        refl,
        g.3,
      )
  few_by false false (more_numbers m (more_numbers j (more_numbers k rest))) p long there = absurd (omega arith)

  pub few_goes : (wanted : ℕ) {ns : List ℕ} {ts us : List Tok} → SpellsNumbers ns ts us → (p : ℕ) → length ns ≡ due wanted → Tokens bs p ts → GoesFew wanted p ns us
  few_goes wanted s p long there = few_by (eqb wanted 0) (eqb wanted 1) s p long there

  -- ── Keywords ──

  pub keyword_goes : (shapes : Table) (p : ℕ) (l : Lexed) (r : List ℕ) (s : Shape) → lex bs p ≡ Ok l → l.tok ≡ word r → KeywordName r → shapes r ≡ Some s
      → keyword_at bs shapes p ≡ Ok (record { run = r; shape = s; end = l.end })
  keyword_goes shapes p l r s e t k h =
      let form : keyword_form (word r) l.place ≡ Ok r =
      cond-false (ltb limits.name_bytes (length r)) (Err (Long l.place)) _ (le-ltb limits.name_bytes (length r) k.short)
      ∙ cond-true (letter (get_or r 0 0)) (Ok r) (Err (Form l.place)) k.lettered in
      ap (λ z. z then λ x. keyword_form x.tok x.place then λ run. shaped run x.place x.end (shapes run)) e
      ∙ ap (λ z. keyword_form z l.place then λ run. shaped run l.place l.end (shapes run)) t
      ∙ ap (λ z. z then λ run. shaped run l.place l.end (shapes run)) form
      ∙ ap (shaped r l.place l.end) h
