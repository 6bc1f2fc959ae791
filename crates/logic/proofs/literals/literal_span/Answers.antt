use Rattle.std.proofs.Common.{None, arith}
use Rattle.logic.proofs.Walked.{goes_on, span_none, span_some, span_literal}
use Rattle.logic.proofs.literals.literal_span.Goals as goal

pub returns-then-start-words : goal.returns-then-start-words
returns-then-start-words c =
    let e = span_some c.args.rows.now c.args.words.now c.in_ok-before.before c.args.a c.terms_end-start.result c.terms_end-end.result (omega arith)
    c.terms_end-start.ensures.place c.terms_end-end.ensures.place (omega arith) in
    let g = goes_on c.args.rows.now c.args.words.now c.terms_end-start.result c.terms_end-end.result (omega arith) c.terms_end-end.ensures.place in
    record {
      is = e;
      within = (g, c.terms_end-end.ensures.within.1 (omega arith));
      literal = span_literal c.args.rows.now c.args.words.now c.args.a _ e;
    }

pub returns-else-start-words : goal.returns-else-start-words
returns-else-start-words c =
    let e = span_none c.args.rows.now c.args.words.now c.in_ok-before.before c.args.a c.terms_end-start.result (omega arith) c.terms_end-start.ensures.place (omega arith) in
    record { is = e; within = tt; literal = span_literal c.args.rows.now c.args.words.now c.args.a None e }
