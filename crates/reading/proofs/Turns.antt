-- Steps of the reading of an application.
use Rattle.std.proofs.Common.{◌≡◌, ℕ, suc, ◌+◌, ◌-◌, ◌<◌, ◌≤◌, Bool, eqb, List, Some, Ok, Result, sym, refl, ap, ◌∙◌, arith}
use Rattle.std.proofs.lemmas.Bool.Decides.{nat_tests}
use Rattle.logic.specs.declared.row.Kind.TheVariants.{Function}
use Rattle.reading.specs.Slots.{Slot}
use Rattle.reading.specs.declared.term.Argument.{Argument}
use Rattle.reading.specs.declared.term.Argument.TheVariants.{Variable, Term}
use Rattle.reading.specs.States.{State, Halt, ◌>>=◌, from, full, moved}
use Rattle.reading.specs.Readers.{slotted, finished}
use Rattle.reading.specs.Terms.{slot, turn, args, nest, application}

module _ (bs : List ℕ) where
  nest_suc : (n : ℕ) (st : State) → nest bs (suc n) st ≡ application bs n 256 Function st
  unfolding nest application
  nest_suc n st = refl

  pub nest_application : (room : ℕ) (st : State) → 0 < room → nest bs room st ≡ application bs (room - 1) 256 Function st
  nest_application room st h =
      let e : room ≡ suc (room - 1) = omega arith in
      ap (λ n. nest bs n st) e ∙ nest_suc (room - 1) st

  module _ (nested : State → Result State Halt) (deep : Bool) (given : ℕ) (st : State) where
    abbrev slot_now : Bool → Result Slot Halt
    slot_now more = from st (slot bs deep (full st.purpose st.count) more st.pos)

    pub args_suc : (n : ℕ) → args bs nested deep (suc n) given st ≡ (slot_now (eqb n 0) >>= turn nested (args bs nested deep n (given + 1)) given st)
    unfolding args
    args_suc n = refl

    -- what the next slot leads to, where so many arguments are given
    abbrev pub args_from : Result (ℕ × State) Halt
    args_from = slot_now (eqb given 4) >>= turn nested (args bs nested deep (5 - (given + 1)) (given + 1)) given st

    pub args_turn : given ≤ 4 → args bs nested deep (5 - given) given st ≡ args_from
    args_turn few =
        let e : 5 - given ≡ suc (4 - given) = omega arith in
        let f : eqb (4 - given) 0 ≡ eqb given 4 = grind (arith, nat_tests) in
        let g : 4 - given ≡ 5 - (given + 1) = omega arith in
        ap (λ n. args bs nested deep n given st) e ∙ args_suc (4 - given)
        ∙ ap (λ b. slot_now b >>= turn nested (args bs nested deep (4 - given) (given + 1)) given st) f
        ∙ ap (λ n. slot_now (eqb given 4) >>= turn nested (args bs nested deep n (given + 1)) given st) g

-- one argument and those after it
pub args_goes : (bs : List ℕ) (room given : ℕ) (st : State) (a : Argument) (e : ℕ) → 0 < room → slotted (Ok (Some a)) e ≡ slot bs (eqb room 0) (full st.purpose st.count) (eqb given 4) st.pos → args_from bs (nest bs room) (eqb room 0) given st ≡ (finished bs room a (moved st e) >>= args bs (nest bs room) (eqb room 0) (5 - (given + 1)) (given + 1))
args_goes bs room given st a e deep s = ap (λ r. from st r >>= turn (nest bs room) (args bs (nest bs room) (eqb room 0) (5 - (given + 1)) (given + 1)) given st) (sym s) ∙ by a
  where
    by : (b : Argument) → (from st (slotted (Ok (Some b)) e) >>= turn (nest bs room) (args bs (nest bs room) (eqb room 0) (5 - (given + 1)) (given + 1)) given st) ≡ (finished bs room b (moved st e) >>= args bs (nest bs room) (eqb room 0) (5 - (given + 1)) (given + 1))
    by (Variable i) = refl
    by Term = ap (λ r. r >>= args bs (nest bs room) (eqb room 0) (5 - (given + 1)) (given + 1)) (nest_application bs room (moved st e) deep)
