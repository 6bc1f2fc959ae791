use Rattle.std.proofs.Common.{refl}
use Rattle.mirtsjol.proofs.session.Session.new.Goals as goal

-- the search finds it too; it stands here so that a session that has something else is refused at once, by the part that fails
pub returns : goal.returns
returns c = (refl, c.in_ok-rows.ensures.len, c.in_ok-words.ensures.len)
