use Rattle.std.proofs.Common.{vec_items, arith}
use Rattle.mirtsjol.proofs.Spelled.{answers_what_is_spelled}
use Rattle.mirtsjol.proofs.session.Session.tell.Goals as goal

pub returns-clause-spelled : goal.returns-clause-spelled
returns-clause-spelled c =
    let s = c.args.self.now in
    answers_what_is_spelled c.args.line.now (vec_items s.words) s.symbols (vec_items s.rows) (record { room = omega (arith, s.within); few = s.few; settled = s.fixed })
