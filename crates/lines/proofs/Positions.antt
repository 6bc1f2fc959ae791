-- One turn of the reading of a position.
use Rattle.std.proofs.Common.{◌≡◌, ℕ, suc, ◌+◌, ◌-◌, ◌≤◌, eqb, List, Result, refl, ap, ◌∙◌, arith}
use Rattle.std.proofs.lemmas.Bool.Decides.{nat_tests}
use Rattle.tokens.specs.declared.fault.Fault.{Fault}
use Rattle.reading.specs.States.{◌then◌}
use Rattle.lines.specs.Limits as limits
use Rattle.lines.specs.Positions.{position_mark, position_turn, position_list}

module _ (bs : List ℕ) where
  position_suc : (n : ℕ) (done : List ℕ) (p : ℕ) → position_list bs (suc n) done p ≡ (position_mark bs (eqb n 0) p then position_turn (position_list bs n) done)
  unfolding position_list
  position_suc n done p = refl

  -- what the next token leads to, where these numbers are read
  abbrev pub position_from : ℕ → List ℕ → ℕ → Result (List ℕ × ℕ) Fault
  position_from given done p = position_mark bs (eqb given limits.position_numbers) p then position_turn (position_list bs (limits.position_numbers + 1 - (given + 1))) done

  pub position_turns : (given : ℕ) (done : List ℕ) (p : ℕ) → given ≤ limits.position_numbers → position_list bs (limits.position_numbers + 1 - given) done p ≡ position_from given done p
  position_turns given done p few =
      let e : limits.position_numbers + 1 - given ≡ suc (limits.position_numbers - given) = omega arith in
      let f : eqb (limits.position_numbers - given) 0 ≡ eqb given limits.position_numbers = grind (arith, nat_tests) in
      let g : limits.position_numbers - given ≡ limits.position_numbers + 1 - (given + 1) = omega arith in
      ap (λ n. position_list bs n done p) e ∙ position_suc (limits.position_numbers - given) done p
      ∙ ap (λ b. position_mark bs b p then position_turn (position_list bs (limits.position_numbers - given)) done) f
      ∙ ap (λ n. position_mark bs (eqb given limits.position_numbers) p then position_turn (position_list bs n) done) g
