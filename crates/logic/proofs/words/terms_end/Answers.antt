use Rattle.std.proofs.Common.{◌≡◌, ◌+◌, drop, inl, inr, arith}
use Rattle.logic.specs.Walks.{arities, passed}
use Rattle.logic.proofs.Passed.{passed_behind, passed_rest}
use Rattle.logic.proofs.Walked.{behind_terms, behind_literals}
use Rattle.logic.proofs.words.terms_end.Goals as goal

pub returns-in-Some : goal.returns-in-Some
returns-in-Some c =
    let l = c.in-Some.ensures.lookup in
    let e = passed_rest (arities c.args.rows.now) c.args.words.now c.in-Some.rest.now c.args.from c.args.n c.words_of.result l.0.2 c.words_of.ensures.is in
    record {
      place = e;
      within = (omega arith, λ h. omega (arith, l.0.3));
      terms = behind_terms c.args.rows.now c.args.words.now c.args.from c.args.n _ e;
      literals = behind_literals c.args.rows.now c.args.words.now c.args.from c.args.n _ e;
    }

pub returns-in-None : goal.returns-in-None
returns-in-None c =
    let e : c.args.from ≡ c.args.from + passed (arities c.args.rows.now) c.args.n (drop c.args.from c.args.words.now) =
    omega (arith, passed_behind (arities c.args.rows.now) c.args.words.now c.args.from c.args.n (elim c.in-None.ensures.lookup.0 [ inl h ↦ omega arith | inr h ↦ omega arith ])) in
    record {
      place = e;
      within = (omega arith, λ h. h);
      terms = behind_terms c.args.rows.now c.args.words.now c.args.from c.args.n c.args.from e;
      literals = behind_literals c.args.rows.now c.args.words.now c.args.from c.args.n c.args.from e;
    }
