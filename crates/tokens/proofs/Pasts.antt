-- The place past a run of a class.
use Rattle.std.proofs.Common.{◌≡◌, ℕ, ◌<◌, ◌≤◌, true, List, length, get_or, drop, arith, length-drop, length-take}
use Rattle.std.specs.List.{between}
use Rattle.std.proofs.lemmas.List.Sums.{prefix_len-drop_yes, prefix_len-le-length}
use Rattle.tokens.specs.declared.byte.Class.{Class}
use Rattle.tokens.specs.Bytes.{within, past}

module _ (s : Class) (bs : List ℕ) (p : ℕ) where
  pub past_within : p ≤ length bs → past s bs p ≤ length bs
  past_within h = omega (arith, prefix_len-le-length (within s) (drop p bs), length-drop p bs)

  pub past_on : p < length bs → within s (get_or bs p 0) ≡ true → p < past s bs p
  past_on h e = omega (arith, prefix_len-drop_yes (within s) bs p 0 h e)

  pub part_some : p < length bs → within s (get_or bs p 0) ≡ true → 0 < length (between p (past s bs p) bs)
  part_some h e = simp (length-take, length-drop) (omega (arith, past_on h e, past_within (omega arith)))
