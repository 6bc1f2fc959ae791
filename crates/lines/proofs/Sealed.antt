-- A step line leaves the count of symbols as it was; their rows too, where the arities are fixed.
use Rattle.std.proofs.Common.{◌≡◌, ℕ, ◌<◌, List, [], Ok, Err, codes, Result, sym, refl, subst}
use Rattle.logic.specs.declared.row.SymbolRow.{SymbolRow}
use Rattle.tokens.specs.declared.fault.Fault.{Fault}
use Rattle.reading.specs.declared.purpose.Purpose.TheVariants.{Step}
use Rattle.reading.specs.States.{lift, from}
use Rattle.reading.specs.Entering.{settle}
use Rattle.reading.specs.Clauses.{opening, closing, wording, clause_from}
use Rattle.reading.specs.Fixed.{Fixed}
use Rattle.reading.specs.Bindings.{bindings_at}
use Rattle.reading.proofs.Keeping.{Safe, bind_safe, Any, Holds}
use Rattle.reading.proofs.Whole.{cond_safe}
use Rattle.reading.proofs.Sealed.{Halted, lift_sealed, Sealed, clause_sealed, BoundSealed, bindings_sealed, settle_any, settle_same}
use Rattle.lines.specs.declared.justification.Justification.{Justification}
use Rattle.lines.specs.declared.step.StepLine.{StepLine}
use Rattle.lines.specs.Numbers.{step_number, line_end}
use Rattle.lines.specs.Positions.{position_part}
use Rattle.lines.specs.Justifications.{Table, Justified, cited_at, bindings_part, justification_at}
use Rattle.lines.specs.Steps.{Stepped, after_step, step_text}

module _ (n : ℕ) (R : List SymbolRow → Type 0) (keeps : (rows : List SymbolRow) (s given at : ℕ) → s < n → R rows → Holds R (settle rows s given at)) (bs : List ℕ) (table : Table) where
  abbrev JustifiedSealed : Justified → Type 0
  JustifiedSealed j = (j.symbols ≡ n) × R j.rows

  abbrev SteppedSealed : Stepped → Type 0
  SteppedSealed s = (s.symbols ≡ n) × R s.rows

  justification_sealed : (p : ℕ) (rows : List SymbolRow) → R rows → Safe (Halted n R) JustifiedSealed (justification_at bs table p n rows)
  unfolding justification_at
  justification_sealed p rows r =
      bind_safe (Halted n R) Any JustifiedSealed (lift n rows (opening bs p)) _ (lift_sealed n R n rows (opening bs p) refl r) (λ o _.
      bind_safe (Halted n R) Any JustifiedSealed (lift n rows (cited_at bs table o)) _ (lift_sealed n R n rows (cited_at bs table o) refl r) (λ c _.
      bind_safe (Halted n R) Any JustifiedSealed (lift n rows (position_part bs c.keyword.shape.position c.literals.end)) _ (lift_sealed n R n rows (position_part bs c.keyword.shape.position c.literals.end) refl r) (λ q _.
      bind_safe (Halted n R) (BoundSealed n R keeps) JustifiedSealed (bindings_part bs c.keyword.shape.bindings q.1 n rows) _
      (cond_safe (Halted n R) (BoundSealed n R keeps) c.keyword.shape.bindings (bindings_at bs q.1 n rows) (Ok (record { bound = []; end = q.1; symbols = n; rows = rows })) (bindings_sealed n R keeps bs q.1 rows r) (refl, r))
      (λ b w.
      bind_safe (Halted n R) Any JustifiedSealed (lift b.symbols b.rows (closing bs b.end)) _ (lift_sealed n R b.symbols b.rows (closing bs b.end) w.0 w.1) (λ e _. w)))))

  step_sealed : (out : List ℕ) (rows : List SymbolRow) → R rows → Safe (Halted n R) SteppedSealed (step_text bs table out n rows)
  unfolding step_text
  step_sealed out rows r =
      bind_safe (Halted n R) Any SteppedSealed (lift n rows (opening bs 0)) _ (lift_sealed n R n rows (opening bs 0) refl r) (λ o _.
      bind_safe (Halted n R) Any SteppedSealed (lift n rows (wording (codes "step") bs o)) _ (lift_sealed n R n rows (wording (codes "step") bs o) refl r) (λ w _.
      bind_safe (Halted n R) Any SteppedSealed (lift n rows (step_number bs w)) _ (lift_sealed n R n rows (step_number bs w) refl r) (λ m _.
      bind_safe (Halted n R) JustifiedSealed SteppedSealed (justification_at bs table m.end n rows) _ (justification_sealed m.end rows r) (λ j k.
      bind_safe (Halted n R) (Sealed n R) SteppedSealed (clause_from bs Step j.keyword.end out j.symbols j.rows) _
      (subst (λ i. Safe (Halted n R) (Sealed n R) (clause_from bs Step j.keyword.end out i j.rows)) (sym k.0) (clause_sealed n R keeps bs Step j.keyword.end out j.rows refl k.1))
      (λ st g.
      bind_safe (Halted n R) Any SteppedSealed (from st (closing bs st.pos)) _ (lift_sealed n R st.symbols st.rows (closing bs st.pos) g.1 g.2) (λ c _.
      bind_safe (Halted n R) Any SteppedSealed (from st (line_end bs c)) _ (lift_sealed n R st.symbols st.rows (line_end bs c) g.1 g.2) (λ e _. (g.1, g.2))))))))

  after_sealed : (a : Result StepLine Fault) (j : Justification) (out : List ℕ) (m : ℕ) (rows : List SymbolRow) → Safe (Halted n R) SteppedSealed (after_step a j out m rows) → (m ≡ n) × R rows
  after_sealed (Ok l) j out m rows s = s
  after_sealed (Err f) j out m rows s = s

  step_after : (out : List ℕ) (rows : List SymbolRow) (a : Result StepLine Fault) (j : Justification) (last : List ℕ) (m : ℕ) (then-rows : List SymbolRow) → R rows → after_step a j last m then-rows ≡ step_text bs table out n rows → (m ≡ n) × R then-rows
  step_after out rows a j last m then-rows r e =
      after_sealed a j last m then-rows (subst (Safe (Halted n R) SteppedSealed) (sym e) (step_sealed out rows r))

module _ (bs : List ℕ) (table : Table) (out : List ℕ) (n : ℕ) (rows : List SymbolRow) (a : Result StepLine Fault) (j : Justification) (last : List ℕ) (m : ℕ) (then-rows : List SymbolRow) where
  pub step_counted : after_step a j last m then-rows ≡ step_text bs table out n rows → m ≡ n
  step_counted e = (step_after n Any (settle_any n) bs table out rows a j last m then-rows tt e).0

  pub step_kept : after_step a j last m then-rows ≡ step_text bs table out n rows → Fixed n rows → then-rows ≡ rows
  step_kept e fixed = (step_after n (λ now. now ≡ rows) (settle_same n rows fixed) bs table out rows a j last m then-rows refl e).1
