-- Step lines are read exactly as they are spelled.
use Rattle.std.proofs.Common.{◌≡◌, ℕ, ◌-◌, false, cond, List, [], ◌∷◌, map, length, take, Ok, Err, codes, Result, sym, refl, ap, ◌∙◌, subst, arith}
use Rattle.std.proofs.lemmas.Bool.{cond-false}
use Rattle.std.specs.List.{prefix_len}
use Rattle.logic.specs.Syntax.{Clause}
use Rattle.logic.specs.Words.{clause_words}
use Rattle.logic.specs.declared.row.SymbolRow.{SymbolRow}
use Rattle.tokens.specs.declared.byte.Class.TheVariants.{Space}
use Rattle.tokens.specs.declared.fault.Fault.TheVariants.{Count}
use Rattle.tokens.specs.Bytes.{within}
use Rattle.tokens.specs.Tokens.{Tok, opens, closes, number, word, Lexed, lex}
use Rattle.reading.specs.declared.purpose.Purpose.TheVariants.{Step}
use Rattle.reading.specs.States.{State, Halt, halt, ◌>>=◌, ◌then◌, lift, from, exceeds}
use Rattle.reading.specs.Clauses.{opening, closing, wording, clause, clause_from}
use Rattle.reading.specs.Bindings.{Bound, Bounds}
use Rattle.lines.specs.Numbers.{Numbered}
use Rattle.lines.specs.Justifications.{Few}
use Rattle.lines.specs.Numbers.{step_number, line_end}
use Rattle.lines.specs.Positions.{position_part}
use Rattle.lines.specs.Justifications.{Table, few_at, asked, Named, keyword_at, Citation, cited_at, bindings_part, Justified, justification_at}
use Rattle.lines.specs.Steps.{Stepped, step_text, step_line}
use Rattle.spelling.specs.Appearance.{clause_symbols, Appear}
use Rattle.spelling.specs.Grammar.{SpellsClause}
use Rattle.spelling.specs.Spelling.{Counted, stored}
use Rattle.spelling.specs.StepGrammar.{Reason, SpellsReason, a_reason, SpellsStep, a_step}
use Rattle.spelling.specs.StepSpelling.{SpellsStepLine, kept_binding, step_read, StepsAreReadAsSpelled, SpelledStepsAreLawful}
use Rattle.spelling.proofs.Streams.{Tokens}
use Rattle.spelling.proofs.Spacing.{tokens_spaced, spaced_tokens}
use Rattle.spelling.proofs.Exact.{bracket_place}
use Rattle.spelling.proofs.LawfulSpelled.{lawful_clause}
use Rattle.spelling.proofs.RulesRead.{start}
use Rattle.spelling.proofs.RulesGo.{pour_stored, step_goes, end_goes, not_exceeding}
use Rattle.spelling.proofs.TermsGo.{first_token}
use Rattle.spelling.proofs.ClausesGo.{Done, clause_done, opening_goes, closing_goes, wording_goes}
use Rattle.spelling.proofs.ClausesRead.{ClauseRead, clause_read}
use Rattle.spelling.proofs.SealedTables.{clause_stays, rows_sealed}
use Rattle.spelling.proofs.ReasonsGo.{position_goes, few_goes, keyword_goes}
use Rattle.spelling.proofs.StepsGo.{table_long, sealed_final, on_start, bounds_go}
use Rattle.spelling.proofs.StepLinesRead.{bounds_sealed, stepped, stepped_same, kept_reason, StepRead, step_read as Read-step}

-- ── A justification ──

cited_goes : (bs : List ℕ) (shapes : Table) (p : ℕ) (k : Named) (i a : Few) → keyword_at bs shapes p ≡ Ok k → few_at bs k.shape.premises k.end ≡ Ok i
    → few_at bs k.shape.literals i.end ≡ Ok a → cited_at bs shapes p ≡ Ok (record { keyword = k; premises = i; literals = a })
unfolding cited_at
cited_goes bs shapes p k i a e f g =
    ap (λ z. z then λ x. few_at bs x.shape.premises x.end then λ y. few_at bs x.shape.literals y.end then λ w. Ok (record { keyword = x; premises = y; literals = w })) e
    ∙ ap (λ z. z then λ y. few_at bs k.shape.literals y.end then λ w. Ok (record { keyword = k; premises = y; literals = w })) f
    ∙ ap (λ z. z then λ w. Ok (record { keyword = k; premises = i; literals = w })) g

reason_goes : (bs : List ℕ) (shapes : Table) (p n : ℕ) (rows : List SymbolRow) (o : ℕ) (c : Citation) (q : List ℕ × ℕ) (b : Bounds) (e : ℕ)
    → lift n rows (opening bs p) ≡ Ok o → cited_at bs shapes o ≡ Ok c → position_part bs c.keyword.shape.position c.literals.end ≡ Ok q
    → bindings_part bs c.keyword.shape.bindings q.1 n rows ≡ Ok b → lift b.symbols b.rows (closing bs b.end) ≡ Ok e
    → justification_at bs shapes p n rows
    ≡ Ok (record {
      keyword = record { run = c.keyword.run; shape = c.keyword.shape; end = e };
      premises = asked c.keyword.shape.premises c.premises.numbers;
      literals = asked c.keyword.shape.literals c.literals.numbers;
      position = q.0;
      bound = b.bound;
      symbols = b.symbols;
      rows = b.rows;
    })
unfolding justification_at
reason_goes bs shapes p n rows o c q b e f g h i k =
    let last : Citation → List ℕ × ℕ → Bounds → ℕ → Result Justified Halt = λ c q b e. Ok (record { keyword = record { run = c.keyword.run; shape = c.keyword.shape; end = e }; premises = asked c.keyword.shape.premises c.premises.numbers; literals = asked c.keyword.shape.literals c.literals.numbers; position = q.0; bound = b.bound; symbols = b.symbols; rows = b.rows }) in
    ap (λ z. z >>= λ o. lift n rows (cited_at bs shapes o) >>= λ c. lift n rows (position_part bs c.keyword.shape.position c.literals.end) >>= λ q. bindings_part bs c.keyword.shape.bindings q.1 n rows >>= λ b. lift b.symbols b.rows (closing bs b.end) >>= last c q b) f
    ∙ ap (λ z. lift n rows z >>= λ c. lift n rows (position_part bs c.keyword.shape.position c.literals.end) >>= λ q. bindings_part bs c.keyword.shape.bindings q.1 n rows >>= λ b. lift b.symbols b.rows (closing bs b.end) >>= last c q b) g
    ∙ ap (λ z. lift n rows z >>= λ q. bindings_part bs c.keyword.shape.bindings q.1 n rows >>= λ b. lift b.symbols b.rows (closing bs b.end) >>= last c q b) h
    ∙ ap (λ z. z >>= λ b. lift b.symbols b.rows (closing bs b.end) >>= last c q b) i
    ∙ ap (λ z. z >>= last c q b) k

module _ (bs : List ℕ) (shapes : Table) (n : ℕ) (rows : List SymbolRow) (counted : Counted n rows) where
  abbrev kept : Reason → ℕ → Justified
  kept r e = kept_reason bs shapes n rows counted.settled counted.room r e

  reason_done : {r : Reason} {ts us : List Tok} → SpellsReason (take n rows) shapes r ts us → (p : ℕ) → Tokens bs p ts
      → (e : ℕ) × (justification_at bs shapes p n rows ≡ Ok (kept r e)) × Tokens bs e us
  reason_done (a_reason {r = r} {ts₁ = ts₁} {us = us} name shaped_as many premises few literals position bindings) p there =
      let o = first_token bs p (opens ∷ word r.keyword ∷ ts₁) there in
      let w = first_token bs o.0.end (word r.keyword ∷ ts₁) o.3 in
      let i = few_goes bs r.shape.premises premises w.0.end many w.3 in
      let a = few_goes bs r.shape.literals literals i.0.end few i.3 in
      let q = position_goes bs position a.0.end a.3 in
      let b = bounds_go bs n rows counted bindings q.0 q.2 in
      let x = first_token bs b.0.end (closes ∷ us) b.3 in
      let at = bounds_sealed bs n rows counted.settled r.shape.bindings q.0 b.0 b.1 in (
        x.0.end,
        reason_goes bs shapes p n rows o.0.end (record { keyword = record { run = r.keyword; shape = r.shape; end = w.0.end }; premises = i.0; literals = a.0 }) (r.position, q.0)
            b.0 x.0.end (opening_goes bs (start Step p [] n rows) p o.0 o.1 o.2)
            (cited_goes bs shapes o.0.end (record { run = r.keyword; shape = r.shape; end = w.0.end }) i.0 a.0
            (keyword_goes bs shapes o.0.end w.0 r.keyword r.shape w.1 w.2 name shaped_as) i.1 a.1) q.1 b.1
            (closing_goes bs (start Step p [] b.0.symbols b.0.rows) b.0.end x.0 x.1 x.2)
            ∙ ap Ok
            (justified_parts (record { run = r.keyword; shape = r.shape; end = x.0.end }) (asked r.shape.premises i.0.numbers) r.premises (asked r.shape.literals a.0.numbers)
            r.literals r.position b.0.bound (map kept_binding r.bindings) b.0.symbols n b.0.rows rows i.2 a.2 b.2 at.0 at.1),
        x.3,
      )
    where
      justified_parts : (k : Named) (ps ps' ls ls' q : List ℕ) (b b' : List Bound) (m m' : ℕ) (rs rs' : List SymbolRow) → ps ≡ ps' → ls ≡ ls' → b ≡ b' → m ≡ m' → rs ≡ rs'
          → ◌≡◌ {A = Justified} (record { keyword = k; premises = ps; literals = ls; position = q; bound = b; symbols = m; rows = rs })
          (record { keyword = k; premises = ps'; literals = ls'; position = q; bound = b'; symbols = m'; rows = rs' })
      justified_parts k ps ps' ls ls' q b b' m m' rs rs' c d e f g = cc

  -- ── The line ──

  text_goes : (out : List ℕ) (o w c : ℕ) (m : Numbered) (j : Justified) (st : State) → lift n rows (opening bs 0) ≡ Ok o → lift n rows (wording (codes "step") bs o) ≡ Ok w
      → step_number bs w ≡ Ok m → justification_at bs shapes m.end n rows ≡ Ok j → clause_from bs Step j.keyword.end out j.symbols j.rows ≡ Ok st
      → from st (closing bs st.pos) ≡ Ok c → line_end bs c ≡ Ok tt
      → step_text bs shapes out n rows ≡ Ok (stepped (o - 1) m.number j st.count st.out st.symbols st.rows)
  unfolding step_text
  text_goes out o w c m j st f g h i k q d =
      let last : ℕ → Numbered → Justified → State → Unit → Result Stepped Halt = λ o m j st u. Ok (stepped (o - 1) m.number j st.count st.out st.symbols st.rows) in
      let rest : ℕ → Numbered → Justified → State → Result Stepped Halt = λ o m j st. from st (closing bs st.pos) >>= λ c. from st (line_end bs c) >>= last o m j st in
      ap (λ z. z >>= λ o. lift n rows (wording (codes "step") bs o) >>= λ w. lift n rows (step_number bs w) >>= λ m. justification_at bs shapes m.end n rows >>= λ j. clause_from bs Step j.keyword.end out j.symbols j.rows >>= rest o m j) f
      ∙ ap (λ z. z >>= λ w. lift n rows (step_number bs w) >>= λ m. justification_at bs shapes m.end n rows >>= λ j. clause_from bs Step j.keyword.end out j.symbols j.rows >>= rest o m j) g
      ∙ ap (λ z. lift n rows z >>= λ m. justification_at bs shapes m.end n rows >>= λ j. clause_from bs Step j.keyword.end out j.symbols j.rows >>= rest o m j) h
      ∙ ap (λ z. z >>= λ j. clause_from bs Step j.keyword.end out j.symbols j.rows >>= rest o m j) i
      ∙ ap (λ z. z >>= rest o m j) k
      ∙ ap (λ z. z >>= λ c. from st (line_end bs c) >>= last o m j st) q
      ∙ ap (λ z. from st z >>= last o m j st) d

  record StepDone (out : List ℕ) (step : ℕ) (reason : Reason) (c : Clause) : Type 0 where
    opened : Lexed
    first : lex bs 0 ≡ Ok opened
    is : opened.tok ≡ opens
    goes : step_text bs shapes out n rows ≡ Ok (stepped (opened.end - 1) step (kept reason 0) (length (clause_words c)) (stored out (clause_words c)) n rows)

  -- the rows behind the clause
  clause_rows : (p : ℕ) (out : List ℕ) (c : Clause) (d : Done bs Step n (take n rows) (sealed_final bs n rows counted) (clause bs) (start Step p out n rows) (clause_words c) (closes ∷ []) (length (take n rows)))
      → (d.b.symbols ≡ n) × (d.b.rows ≡ rows)
  clause_rows p out c d =
      let a : State = start Step p out n rows in
      let r : ClauseRead bs a d.b (closes ∷ []) = clause_read bs a d.b (closes ∷ []) counted.room d.goes d.went.left in
      let m_is : d.b.symbols ≡ n = d.went.symbols ∙ table_long bs n rows counted in
      (m_is, rows_sealed n rows d.b.symbols d.b.rows counted.settled r.grows m_is)

  step_done : {step : ℕ} {reason : Reason} {c : Clause} {ts : List Tok} → SpellsStep (take n rows) shapes step reason c ts → (out : List ℕ) → Tokens bs 0 ts → StepDone out step reason c
  step_done (a_step {n = step} {reason = reason} {c = c} {r = r} {ts = ts} {us = us} m some because inner) out there =
      let o = first_token bs 0 (opens ∷ word (codes "step") ∷ number r ∷ ts) there in
      let w = first_token bs o.0.end (word (codes "step") ∷ number r ∷ ts) o.3 in
      let q = first_token bs w.0.end (number r ∷ ts) w.3 in
      let j = reason_done because q.0.end q.3 in
      let a : State = start Step j.0 out n rows in
      let d = clause_done bs Step n (take n rows) (sealed_final bs n rows counted) inner a (length (take n rows)) (on_start bs n rows counted Step j.0 out)
      (subst (λ (k : ℕ). Appear false k (clause_symbols c) (length (take n rows))) (table_long bs n rows counted) (clause_stays false (take n rows) inner)) (omega arith) (λ k h l. refl) j.2 in
      let x = first_token bs d.b.pos (closes ∷ []) d.went.left in
      let at = clause_rows j.0 out c d in
      record {
        opened = o.0;
        first = o.1;
        is = o.2;
        goes =
            text_goes out o.0.end w.0.end x.0.end (record { number = step; place = q.0.place; end = q.0.end }) (kept reason j.0) d.b
            (opening_goes bs a 0 o.0 o.1 o.2) (wording_goes bs a (codes "step") o.0.end w.0 w.1 w.2) (step_goes bs w.0.end q.0 r step q.1 q.2 m some) j.1
            (cond-false (exceeds n rows) (Err (halt Count n rows)) (clause bs a) (not_exceeding n rows counted.room counted.few) ∙ d.goes)
            (closing_goes bs d.b d.b.pos x.0 x.1 x.2) (end_goes bs x.0.end x.3)
            ∙ ap Ok
            (stepped_same (o.0.end - 1) (o.0.end - 1) step (kept reason j.0) (kept reason j.0) d.b.count (length (clause_words c)) d.b.out (stored out (clause_words c)) d.b.symbols n
            d.b.rows rows refl refl (omega (arith, d.went.wrote.counted)) (d.went.wrote.poured ∙ pour_stored out (clause_words c)) at.0 at.1);
      }

  -- the check of the count is passed
  checked : (out : List ℕ) → step_line bs shapes out n rows ≡ step_text bs shapes out n rows
  checked out = ap (λ z. lift n rows (cond z (Err Count) (Ok tt)) >>= λ u. step_text bs shapes out n rows) (not_exceeding n rows counted.room counted.few)

  read_is_spelled : (out : List ℕ) (l : Stepped) → step_line bs shapes out n rows ≡ Ok l
      → (step : ℕ) × (reason : Reason) × (c : Clause) × SpellsStepLine bs shapes n rows step reason c × (l ≡ step_read bs out n rows step reason c)
  read_is_spelled out l e = go (Read-step bs shapes n rows counted.settled counted.room out l (sym (checked out) ∙ e))
    where
      go : StepRead bs shapes n rows counted.settled counted.room out l
          → (step : ℕ) × (reason : Reason) × (c : Clause) × SpellsStepLine bs shapes n rows step reason c × (l ≡ step_read bs out n rows step reason c)
      go q = (
        l.number,
        q.reason,
        q.read,
        record { tokens = q.toks; spaced = tokens_spaced bs 0 q.toks q.there; spelled = q.spelled },
        q.same
            ∙ stepped_same (q.opened.end - 1) (prefix_len (within Space) bs) l.number (kept q.reason 0) (kept q.reason 0) (length (clause_words q.read)) (length (clause_words q.read))
            _ (stored out (clause_words q.read)) n n rows rows (bracket_place bs q.opened q.first q.is) refl refl (pour_stored out (clause_words q.read)) refl refl,
      )

  spelled_is_read : (out : List ℕ) (l : Stepped) (step : ℕ) (reason : Reason) (c : Clause) → SpellsStepLine bs shapes n rows step reason c → l ≡ step_read bs out n rows step reason c
      → step_line bs shapes out n rows ≡ Ok l
  spelled_is_read out l step reason c s e = go (step_done s.spelled out (spaced_tokens bs s.spaced 0 refl))
    where
      go : StepDone out step reason c → step_line bs shapes out n rows ≡ Ok l
      go d =
          checked out ∙ d.goes
          ∙ ap (λ p. Ok (stepped p step (kept reason 0) (length (clause_words c)) (stored out (clause_words c)) n rows)) (bracket_place bs d.opened d.first d.is)
          ∙ ap Ok (sym e)

pub steps_are_read_as_spelled : StepsAreReadAsSpelled
steps_are_read_as_spelled line shapes out n rows counted r =
    (read_is_spelled line shapes n rows counted out r, spelled_is_read line shapes n rows counted out r)

clause_of : {table : List SymbolRow} {shapes : Table} {step : ℕ} {reason : Reason} {c : Clause} {ts : List Tok} → SpellsStep table shapes step reason c ts
    → (us : List Tok) × (vs : List Tok) × SpellsClause table c us vs
clause_of (a_step {us = us} m some because inner) = (us, closes ∷ [], inner)

pub spelled_steps_are_lawful : SpelledStepsAreLawful
spelled_steps_are_lawful line shapes n rows counted step reason c s =
    let f = sealed_final line n rows counted in
    lawful_clause (take n rows) f.settled f.few (clause_of s.spelled).2
