-- What is read as a step line is spelled.
use Rattle.std.proofs.Common.{◌≡◌, ℕ, ◌-◌, ◌<◌, ◌≤◌, Bool, true, false, List, [], ◌∷◌, map, length, take, Ok, codes, sym, refl, ap, ◌∙◌, subst, arith}
use Rattle.logic.specs.Syntax.{Clause}
use Rattle.logic.specs.Words.{clause_words}
use Rattle.logic.specs.declared.row.SymbolRow.{SymbolRow}
use Rattle.tokens.specs.declared.fault.Fault.TheVariants.{Count}
use Rattle.tokens.specs.Tokens.{Tok, opens, closes, number, word, Lexed, lex}
use Rattle.reading.specs.declared.purpose.Purpose.TheVariants.{Step}
use Rattle.reading.specs.States.{State, halt, lift, from, exceeds}
use Rattle.reading.specs.Clauses.{opening, closing, wording, clause, clause_from}
use Rattle.reading.specs.Bindings.{Bound, Bounds}
use Rattle.reading.proofs.Keeping.{Safe}
use Rattle.reading.proofs.Sealed.{Halted, BoundSealed, bindings_sealed, settle_same}
use Rattle.lines.specs.Numbers.{Numbered}
use Rattle.lines.specs.Numbers.{step_number, line_end}
use Rattle.lines.specs.Positions.{position_part}
use Rattle.lines.specs.Justifications.{Table, few_at, asked, Named, keyword_at, Citation, cited_at, bindings_part, Justified, justification_at}
use Rattle.lines.specs.Steps.{Stepped, step_text}
use Rattle.spelling.specs.Appearance.{clause_symbols}
use Rattle.spelling.specs.StepGrammar.{Reason, SpellsReason, a_reason, SpellsStep, a_step}
use Rattle.spelling.specs.StepSpelling.{kept_binding}
use Rattle.spelling.proofs.Answers.{ok_same, bind_ok, then_ok, lift_ok, cond_ok}
use Rattle.spelling.proofs.Streams.{Tokens, pour}
use Rattle.spelling.proofs.Marks.{TokenRead, token_there, opening_read, closing_read, wording_read}
use Rattle.spelling.proofs.ClausesRead.{ClauseRead, clause_read}
use Rattle.spelling.proofs.RulesRead.{Settled, start, NumberRead, step_number_read, end_read}
use Rattle.spelling.proofs.ReasonsRead.{position_read, few_read, keyword_read}
use Rattle.spelling.proofs.StepsRead.{At, at_fits, at_short, at_after, BoundsRead, bounds_read}

cited_ok : (bs : List ℕ) (shapes : Table) (p : ℕ) (c : Citation) → cited_at bs shapes p ≡ Ok c
    → (keyword_at bs shapes p ≡ Ok c.keyword) × (few_at bs c.keyword.shape.premises c.keyword.end ≡ Ok c.premises)
    × (few_at bs c.keyword.shape.literals c.premises.end ≡ Ok c.literals)
unfolding cited_at
cited_ok bs shapes p c e =
    let k = then_ok (keyword_at bs shapes p) _ c e in
    let i = then_ok (few_at bs k.0.shape.premises k.0.end) _ c k.2 in
    let a = then_ok (few_at bs k.0.shape.literals i.0.end) _ c i.2 in
    subst (λ (x : Citation). (keyword_at bs shapes p ≡ Ok x.keyword) × (few_at bs x.keyword.shape.premises x.keyword.end ≡ Ok x.premises) × (few_at bs x.keyword.shape.literals x.premises.end ≡ Ok x.literals))
    (ok_same a.2) (k.1, i.1, a.1)

pub justified_same : (k : Named) (ps ls q : List ℕ) (b b' : List Bound) (m m' : ℕ) (rs rs' : List SymbolRow) → b ≡ b' → m ≡ m' → rs ≡ rs'
    → ◌≡◌ {A = Justified} (record { keyword = k; premises = ps; literals = ls; position = q; bound = b; symbols = m; rows = rs })
    (record { keyword = k; premises = ps; literals = ls; position = q; bound = b'; symbols = m'; rows = rs' })
justified_same k ps ls q b b' m m' rs rs' e f g = cc

abbrev pub stepped : ℕ → ℕ → Justified → ℕ → List ℕ → ℕ → List SymbolRow → Stepped
stepped p q j w o m rs =
    record {
      place = p;
      number = q;
      keyword = j.keyword.run;
      shape = j.keyword.shape;
      premises = j.premises;
      literals = j.literals;
      position = j.position;
      bound = j.bound;
      words = w;
      out = o;
      symbols = m;
      rows = rs;
    }

pub stepped_same : (p p' q : ℕ) (j j' : Justified) (w w' : ℕ) (o o' : List ℕ) (m m' : ℕ) (rs rs' : List SymbolRow) → p ≡ p' → j ≡ j' → w ≡ w' → o ≡ o' → m ≡ m' → rs ≡ rs'
    → stepped p q j w o m rs ≡ stepped p' q j' w' o' m' rs'
stepped_same p p' q j j' w w' o o' m m' rs rs' a b c d e f =
    ap (λ x. stepped x q j w o m rs) a ∙ ap (λ x. stepped p' q x w o m rs) b ∙ ap (λ x. stepped p' q j' x o m rs) c ∙ ap (λ x. stepped p' q j' w' x m rs) d
    ∙ ap (λ x. stepped p' q j' w' o' x rs) e ∙ ap (stepped p' q j' w' o' m') f

-- the symbols behind bindings, whatever follows
pub bounds_sealed : (bs : List ℕ) (n : ℕ) (rows : List SymbolRow) → Settled n rows → (wanted : Bool) (p : ℕ) (r : Bounds)
    → bindings_part bs wanted p n rows ≡ Ok r → (r.symbols ≡ n) × (r.rows ≡ rows)
bounds_sealed bs n rows settled false p r e =
    let same : record { bound = []; end = p; symbols = n; rows = rows } ≡ r = ok_same e in
    (sym (ap (λ (x : Bounds). x.symbols) same), sym (ap (λ (x : Bounds). x.rows) same))
bounds_sealed bs n rows settled true p r e =
    subst (Safe (Halted n (λ rs. rs ≡ rows)) (BoundSealed n (λ rs. rs ≡ rows) (settle_same n rows settled))) e
    (bindings_sealed n (λ rs. rs ≡ rows) (settle_same n rows settled) bs p rows refl)

module _ (bs : List ℕ) (shapes : Table) (n : ℕ) (rows : List SymbolRow) (settled : Settled n rows) (short : n ≤ length rows) where
  abbrev table : List SymbolRow
  table = take n rows

  record ReasonSteps (p : ℕ) (j : Justified) : Type 0 where
    start_at : ℕ
    opened : TokenRead bs p opens start_at
    cited : Citation
    keyword_is : keyword_at bs shapes start_at ≡ Ok cited.keyword
    premises_are : few_at bs cited.keyword.shape.premises cited.keyword.end ≡ Ok cited.premises
    literals_are : few_at bs cited.keyword.shape.literals cited.premises.end ≡ Ok cited.literals
    position : List ℕ × ℕ
    position_is : position_part bs cited.keyword.shape.position cited.literals.end ≡ Ok position
    bounds : Bounds
    bounds_are : bindings_part bs cited.keyword.shape.bindings position.1 n rows ≡ Ok bounds
    end : ℕ
    closed : TokenRead bs bounds.end closes end
    same :
        record {
          keyword = record { run = cited.keyword.run; shape = cited.keyword.shape; end = end };
          premises = asked cited.keyword.shape.premises cited.premises.numbers;
          literals = asked cited.keyword.shape.literals cited.literals.numbers;
          position = position.0;
          bound = bounds.bound;
          symbols = bounds.symbols;
          rows = bounds.rows;
        }
        ≡ j

  reason_steps : (p : ℕ) (j : Justified) → justification_at bs shapes p n rows ≡ Ok j → ReasonSteps p j
  unfolding justification_at
  reason_steps p j e =
      let o = bind_ok (lift n rows (opening bs p)) _ j e in
      let c = bind_ok (lift n rows (cited_at bs shapes o.0)) _ j o.2 in
      let q = bind_ok (lift n rows (position_part bs c.0.keyword.shape.position c.0.literals.end)) _ j c.2 in
      let b = bind_ok (bindings_part bs c.0.keyword.shape.bindings q.0.1 n rows) _ j q.2 in
      let x = bind_ok (lift b.0.symbols b.0.rows (closing bs b.0.end)) _ j b.2 in
      let parts = cited_ok bs shapes o.0 c.0 (lift_ok n rows (cited_at bs shapes o.0) c.0 c.1) in
      record {
        start_at = o.0;
        opened = opening_read bs (start Step p [] n rows) p o.0 o.1;
        cited = c.0;
        keyword_is = parts.0;
        premises_are = parts.1;
        literals_are = parts.2;
        position = q.0;
        position_is = lift_ok n rows (position_part bs c.0.keyword.shape.position c.0.literals.end) q.0 q.1;
        bounds = b.0;
        bounds_are = b.1;
        end = x.0;
        closed = closing_read bs (start Step p [] b.0.symbols b.0.rows) b.0.end x.0 x.1;
        same = ok_same x.2;
      }

  -- a justification as it is kept
  abbrev pub kept_reason : Reason → ℕ → Justified
  kept_reason r end =
      record {
        keyword = record { run = r.keyword; shape = r.shape; end = end };
        premises = r.premises;
        literals = r.literals;
        position = r.position;
        bound = map kept_binding r.bindings;
        symbols = n;
        rows = rows;
      }

  record ReasonRead (p : ℕ) (j : Justified) (us : List Tok) : Type 0 where
    reason : Reason
    toks : List Tok
    spelled : SpellsReason table shapes reason toks us
    there : Tokens bs p toks
    is : j ≡ kept_reason reason j.keyword.end

  -- where the symbols stand behind the justification
  reason_at : (p : ℕ) (j : Justified) (us : List Tok) → ReasonSteps p j → Tokens bs j.keyword.end us → ReasonRead p j us
  reason_at p j us s toks =
      let close = token_there bs s.bounds.end closes s.end us s.closed (subst (λ (x : Justified). Tokens bs x.keyword.end us) (sym s.same) toks) in
      let b : BoundsRead bs n rows settled short s.cited.keyword.shape.bindings s.position.1 s.bounds (closes ∷ us) =
      bounds_read bs n rows settled short s.cited.keyword.shape.bindings s.position.1 s.bounds (closes ∷ us) s.bounds_are close in
      let q = position_read bs s.cited.keyword.shape.position s.cited.literals.end s.position b.toks b.there s.position_is in
      let a = few_read bs s.cited.premises.end q.0 s.cited.keyword.shape.literals s.cited.literals q.2 s.literals_are in
      let i = few_read bs s.cited.keyword.end a.0 s.cited.keyword.shape.premises s.cited.premises a.3 s.premises_are in
      let k = keyword_read bs shapes s.start_at s.cited.keyword s.keyword_is in
      subst (λ (x : Justified). ReasonRead p x us) s.same
      (record {
        reason =
            record {
              keyword = s.cited.keyword.run;
              shape = s.cited.keyword.shape;
              premises = asked s.cited.keyword.shape.premises s.cited.premises.numbers;
              literals = asked s.cited.keyword.shape.literals s.cited.literals.numbers;
              position = s.position.0;
              bindings = b.bindings;
            };
        toks = opens ∷ word s.cited.keyword.run ∷ i.0;
        spelled = a_reason k.form k.shaped_as i.1 i.2 a.1 a.2 q.1 b.spelled;
        there =
            token_there bs p opens s.start_at (word s.cited.keyword.run ∷ i.0) s.opened
            (token_there bs s.start_at (word s.cited.keyword.run) s.cited.keyword.end i.0 k.read i.3);
        is =
            justified_same (record { run = s.cited.keyword.run; shape = s.cited.keyword.shape; end = s.end }) (asked s.cited.keyword.shape.premises s.cited.premises.numbers)
            (asked s.cited.keyword.shape.literals s.cited.literals.numbers) s.position.0 s.bounds.bound (map kept_binding b.bindings) s.bounds.symbols n s.bounds.rows rows
            b.all b.symbols b.rows_are;
      })

  reason_read : (p : ℕ) (j : Justified) (us : List Tok) → justification_at bs shapes p n rows ≡ Ok j → Tokens bs j.keyword.end us → ReasonRead p j us
  reason_read p j us e toks = reason_at p j us (reason_steps p j e) toks

  -- the symbols behind a justification, whatever follows
  reason_symbols : (p : ℕ) (j : Justified) → justification_at bs shapes p n rows ≡ Ok j → (j.symbols ≡ n) × (j.rows ≡ rows)
  reason_symbols p j e = go (reason_steps p j e)
    where
      go : ReasonSteps p j → (j.symbols ≡ n) × (j.rows ≡ rows)
      go s =
          let b = bounds_sealed bs n rows settled s.cited.keyword.shape.bindings s.position.1 s.bounds s.bounds_are in
          (sym (ap (λ (x : Justified). x.symbols) s.same) ∙ b.0, sym (ap (λ (x : Justified). x.rows) s.same) ∙ b.1)

  -- ── The line ──

  pub record StepRead (out : List ℕ) (l : Stepped) : Type 0 where
    pub reason : Reason
    pub read : Clause
    pub toks : List Tok
    pub there : Tokens bs 0 toks
    pub spelled : SpellsStep table shapes l.number reason read toks
    pub opened : Lexed
    pub first : lex bs 0 ≡ Ok opened
    pub is : opened.tok ≡ opens
    pub same :
        l
        ≡ record {
          place = opened.end - 1;
          number = l.number;
          keyword = reason.keyword;
          shape = reason.shape;
          premises = reason.premises;
          literals = reason.literals;
          position = reason.position;
          bound = map kept_binding reason.bindings;
          words = length (clause_words read);
          out = pour out 0 (clause_words read);
          symbols = n;
          rows = rows;
        }

  step_by : (out : List ℕ) (l : Stepped) (o w c : ℕ) (m : Numbered) (j : Justified) (st : State) → TokenRead bs 0 opens o → TokenRead bs o (word (codes "step")) w
      → NumberRead bs w m × (0 < m.number) → justification_at bs shapes m.end n rows ≡ Ok j → (j.symbols ≡ n) × (j.rows ≡ rows)
      → ClauseRead bs (start Step j.keyword.end out j.symbols j.rows) st (closes ∷ []) → TokenRead bs st.pos closes c → Tokens bs c []
      → record {
        place = o - 1;
        number = m.number;
        keyword = j.keyword.run;
        shape = j.keyword.shape;
        premises = j.premises;
        literals = j.literals;
        position = j.position;
        bound = j.bound;
        words = st.count;
        out = st.out;
        symbols = st.symbols;
        rows = st.rows;
      }
      ≡ l → StepRead out l
  step_by out l o w c m j st opened worded num j-is j-at r close done same =
      let a : State = start Step j.keyword.end out j.symbols j.rows in
      let at : At bs n rows settled short st = at_after bs n rows settled short a st (clause_symbols r.read) j-at refl r.appear r.grows in
      let z : ReasonRead m.end j r.toks = reason_read m.end j r.toks j-is r.there in
      subst (StepRead out) same
      (record {
        reason = z.reason;
        read = r.read;
        toks = opens ∷ word (codes "step") ∷ number num.0.run ∷ z.toks;
        there =
            token_there bs 0 opens o (word (codes "step") ∷ number num.0.run ∷ z.toks) opened
            (token_there bs o (word (codes "step")) w (number num.0.run ∷ z.toks) worded
            (token_there bs w (number num.0.run) m.end z.toks num.0.read z.there));
        spelled = a_step num.0.numeral num.1 z.spelled (r.spelled table (at_fits bs n rows settled short st at));
        opened = opened.lexed;
        first = opened.read;
        is = opened.is;
        same =
            stepped_same (o - 1) (opened.lexed.end - 1) m.number j (kept_reason z.reason j.keyword.end) st.count (length (clause_words r.read)) st.out
            (pour out 0 (clause_words r.read)) st.symbols n st.rows rows (ap (λ x. x - 1) opened.on) z.is (omega (arith, r.wrote.counted)) r.wrote.poured at.0 at.1;
      })

  pub step_read : (out : List ℕ) (l : Stepped) → step_text bs shapes out n rows ≡ Ok l → StepRead out l
  unfolding step_text
  step_read out l e =
      let o = bind_ok (lift n rows (opening bs 0)) _ l e in
      let w = bind_ok (lift n rows (wording (codes "step") bs o.0)) _ l o.2 in
      let m = bind_ok (lift n rows (step_number bs w.0)) _ l w.2 in
      let j = bind_ok (justification_at bs shapes m.0.end n rows) _ l m.2 in
      let st = bind_ok (clause_from bs Step j.0.keyword.end out j.0.symbols j.0.rows) _ l j.2 in
      let c = bind_ok (from st.0 (closing bs st.0.pos)) _ l st.2 in
      let f = bind_ok (from st.0 (line_end bs c.0)) _ l c.2 in
      let close = closing_read bs st.0 st.0.pos c.0 c.1 in
      let done = end_read bs c.0 (lift_ok st.0.symbols st.0.rows (line_end bs c.0) f.0 f.1) in
      let at = reason_symbols m.0.end j.0 j.1 in
      let a : State = start Step j.0.keyword.end out j.0.symbols j.0.rows in
      step_by out l o.0 w.0 c.0 m.0 j.0 st.0 (opening_read bs (start Step 0 out n rows) 0 o.0 o.1)
      (wording_read bs (start Step 0 out n rows) (codes "step") o.0 w.0 w.1) (step_number_read bs w.0 m.0 (lift_ok n rows (step_number bs w.0) m.0 m.1)) j.1 at
      (clause_read bs a st.0 (closes ∷ []) (at_short bs n rows settled short a at)
      (cond_ok (exceeds j.0.symbols j.0.rows) (halt Count j.0.symbols j.0.rows) (clause bs a) st.0 st.1).1
      (token_there bs st.0.pos closes c.0 [] close done)) close done (ok_same f.2)
