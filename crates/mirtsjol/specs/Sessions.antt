-- A session: the stores, and how many symbols are counted.
use Rattle.std.specs.Prelude.{ℕ, List, vec_items}
use Rattle.mirtsjol.specs.declared.session.Session.{Session}
use Rattle.mirtsjol.specs.Verdicts.{Judged, line_judged}

-- words of the store
abbrev pub word_room : ℕ
word_room = 1048576

-- the answer that a line has in a session
abbrev pub judged_in : Session → List ℕ → Judged
judged_in s bs = line_judged bs (vec_items s.words) s.symbols (vec_items s.rows)
