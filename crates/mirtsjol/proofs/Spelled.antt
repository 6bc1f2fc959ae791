-- What a session answers is what the line spells.
use Rattle.std.proofs.Common.{◌≡◌, ℕ, ◌≤◌, Bool, true, false, cond, ltb, List, length, take, Ok, Err, Result, sym, refl, ap, ◌∙◌, subst, arith}
use Rattle.std.proofs.lemmas.Bool.{ltb-false, le-ltb}
use Rattle.logic.specs.Words.{clause_words}
use Rattle.logic.specs.declared.row.SymbolRow.{SymbolRow}
use Rattle.reading.specs.States.{Halt}
use Rattle.lines.specs.Rules.{Ruled, rule_line}
use Rattle.spelling.specs.Spelling.{Counted, rule_read}
use Rattle.spelling.proofs.Exact.{read_is_spelled, spelled_is_read, words_stored}
use Rattle.mirtsjol.specs.Refusals.{no_room}
use Rattle.mirtsjol.specs.Verdicts.{Judged, Verdict, reads, refuses, judged}
use Rattle.mirtsjol.specs.Spelled.{SpellsWords, AnswersWhatIsSpelled}

-- the verdict on a line that was read, where q says whether its words find no room
abbrev taken : ℕ → Ruled → Bool → Verdict
taken n l q =
    (cond {A = Judged} q (record { verdict = refuses no_room l.place; symbols = n; rows = l.rows }) (record { verdict = reads (take l.words l.out); symbols = l.symbols; rows = l.rows })
    ).verdict

module _ (line out : List ℕ) (n : ℕ) (rows : List SymbolRow) (counted : Counted n rows) where
  from_taken : (l : Ruled) → rule_line line out n rows ≡ Ok l → (ws : List ℕ) (q : Bool) → ltb (length out) l.words ≡ q → taken n l q ≡ reads ws
      → SpellsWords line (length out) n rows ws
  from_taken l e ws true t v = cc
  from_taken l e ws false t v =
      let s = read_is_spelled line out n rows counted l e in
      let ours : List ℕ = clause_words s.1 in
      let long : l.words ≡ length ours = ap (λ (r : Ruled). r.words) s.4 in
      let few : length ours ≤ length out = omega (arith, long, ltb-false (length out) l.words t) in
      let same : take l.words l.out ≡ ws = cc in
      let are : ours ≡ ws = sym (words_stored out ours few) ∙ sym (ap (λ (r : Ruled). take r.words r.out) s.4) ∙ same in
      record { number = s.0; clause = s.1; table = s.2; spelled = s.3; words = are; fit = subst (λ (xs : List ℕ). length xs ≤ length out) are few }

  from_answer : (r : Result Ruled Halt) → rule_line line out n rows ≡ r → (ws : List ℕ) → (judged n (length out) r).verdict ≡ reads ws → SpellsWords line (length out) n rows ws
  from_answer (Err h) e ws v = cc
  from_answer (Ok l) e ws v = from_taken l e ws (ltb (length out) l.words) refl v

  to_answer : (ws : List ℕ) → SpellsWords line (length out) n rows ws → (judged n (length out) (rule_line line out n rows)).verdict ≡ reads ws
  to_answer ws w =
      let ours : List ℕ = clause_words w.clause in
      let l : Ruled = rule_read line out rows w.number w.clause w.table in
      let e : rule_line line out n rows ≡ Ok l = spelled_is_read line out n rows counted l w.number w.clause w.table w.spelled refl in
      let few : length ours ≤ length out = subst (λ (xs : List ℕ). length xs ≤ length out) (sym w.words) w.fit in
      ap (λ (r : Result Ruled Halt). (judged n (length out) r).verdict) e
      ∙ ap (taken n l) (le-ltb (length out) (length ours) few)
      ∙ ap reads (words_stored out ours few ∙ w.words)

  pub answers_what_is_spelled : AnswersWhatIsSpelled line out n rows
  answers_what_is_spelled ws = (from_answer (rule_line line out n rows) refl ws, to_answer ws)
