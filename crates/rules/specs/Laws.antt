-- Each of the six inference rules keeps the law of the bench.
use Rattle.std.specs.Prelude.{◌≡◌, ℕ, Bool, true, false, ◌&&◌, ◌||◌, nat_le, List, [], ◌∷◌, length, slice_index_or}
use Rattle.std.proofs.Common.{refl, subst, inl, inr, arith}
use Rattle.std.proofs.lemmas.Bool.{and_parts, leb-true}
use Rattle.logic.specs.Syntax.{Clause}
use Rattle.inference.specs.Answers.{fault, Demand, ◌otherwise◌, answer}
use Rattle.inference.specs.Law.{Follows}
use Rattle.bench.specs.Faults.{RuleNumber}
use Rattle.bench.specs.Meanings.{premise, literal_number, Sound}
use Rattle.inference.specs.Instantiate.{instantiate_demands}
use Rattle.inference.specs.Resolve.{resolve_demands}
use Rattle.inference.specs.Paramod.{paramod_demands}
use Rattle.inference.specs.Flip.{flip_demands}
use Rattle.inference.specs.Propositional.{propositional_demands}
use Rattle.inference.specs.Reflexive.{reflexive_demands}
use Rattle.rules.specs.Six.{instantiate_rule, resolve_rule, paramod_rule, flip_rule, propositional_rule, reflexive_rule}
use Rattle.inference.proofs.InstantiateSound.{instantiate_is_sound}
use Rattle.inference.proofs.ResolveSound.{resolve_is_sound}
use Rattle.inference.proofs.ParamodSound.{paramod_is_sound}
use Rattle.inference.proofs.FlipSound.{flip_is_sound}
use Rattle.inference.proofs.PropositionalSound.{propositional_is_sound}
use Rattle.inference.proofs.ReflexiveSound.{reflexive_is_sound}

-- ── The numbers of faults ──

-- the number is one of inference rules
abbrev is_rule_number : ℕ → Bool
is_rule_number f = (nat_le 21 f && nat_le f 27) || (nat_le 50 f && nat_le f 99)

-- each demand has a number of inference rules
abbrev all_numbered : List Demand → Bool
all_numbered [] = true
all_numbered ((b otherwise f) ∷ ds) = is_rule_number f && all_numbered ds

rule_number : (f : ℕ) → is_rule_number f ≡ true → RuleNumber f
rule_number f = by (nat_le 21 f && nat_le f 27) refl
  where
    by : (b : Bool) → (nat_le 21 f && nat_le f 27) ≡ b → (b || (nat_le 50 f && nat_le f 99)) ≡ true → RuleNumber f
    by true low e = let p = and_parts (nat_le 21 f) (nat_le f 27) low in inl (leb-true 21 f p.0, leb-true f 27 p.1)
    by false low e = let p = and_parts (nat_le 50 f) (nat_le f 99) e in inr (leb-true 50 f p.0, leb-true f 99 p.1)

numbered_by : (ds : List Demand) → all_numbered ds ≡ true → (f : ℕ) → answer ds ≡ fault f → RuleNumber f
numbered_by [] n f e = absurd cc
numbered_by ((true otherwise g) ∷ ds) n f e = numbered_by ds (and_parts (is_rule_number g) (all_numbered ds) n).1 f e
numbered_by ((false otherwise g) ∷ ds) n f e = let q : g ≡ f = cc in subst RuleNumber q (rule_number g (and_parts (is_rule_number g) (all_numbered ds) n).0)

-- ── As many premises as the rule takes ──

none_given : (ps : List Clause) (c : Clause) → length ps ≡ 0 → Follows [] c → Follows ps c
none_given [] c e h = h
none_given (p ∷ ps) c e h = absurd (omega arith)

one_given : (ps : List Clause) (c : Clause) → length ps ≡ 1 → Follows (slice_index_or ps 0 [] ∷ []) c → Follows ps c
one_given [] c e h = absurd (omega arith)
one_given (p ∷ []) c e h = h
one_given (p ∷ q ∷ ps) c e h = absurd (omega arith)

two_given : (ps : List Clause) (c : Clause) → length ps ≡ 2 → Follows (slice_index_or ps 0 [] ∷ slice_index_or ps 1 [] ∷ []) c → Follows ps c
two_given [] c e h = absurd (omega arith)
two_given (p ∷ []) c e h = absurd (omega arith)
two_given (p ∷ q ∷ []) c e h = h
two_given (p ∷ q ∷ r ∷ ps) c e h = absurd (omega arith)

-- ── The six ──

pub instantiate_keeps : Sound instantiate_rule
instantiate_keeps =
    record {
      premises = omega arith;
      literals = omega arith;
      numbered = λ s. numbered_by (instantiate_demands (premise s 0) s.bindings s.conclusion) refl;
      law = λ s n e. one_given s.premises s.conclusion n (instantiate_is_sound (premise s 0) s.bindings s.conclusion e);
    }

pub resolve_keeps : Sound resolve_rule
resolve_keeps =
    record {
      premises = omega arith;
      literals = omega arith;
      numbered = λ s. numbered_by (resolve_demands (premise s 0) (premise s 1) (literal_number s 0) (literal_number s 1) s.conclusion) refl;
      law = λ s n e. two_given s.premises s.conclusion n (resolve_is_sound (premise s 0) (premise s 1) (literal_number s 0) (literal_number s 1) s.conclusion e);
    }

pub paramod_keeps : Sound paramod_rule
paramod_keeps =
    record {
      premises = omega arith;
      literals = omega arith;
      numbered = λ s. numbered_by (paramod_demands (premise s 0) (premise s 1) (literal_number s 0) (literal_number s 1) s.position s.conclusion) refl;
      law = λ s n e. two_given s.premises s.conclusion n (paramod_is_sound (premise s 0) (premise s 1) (literal_number s 0) (literal_number s 1) s.position s.conclusion e);
    }

pub flip_keeps : Sound flip_rule
flip_keeps =
    record {
      premises = omega arith;
      literals = omega arith;
      numbered = λ s. numbered_by (flip_demands (premise s 0) (literal_number s 0) s.conclusion) refl;
      law = λ s n e. one_given s.premises s.conclusion n (flip_is_sound (premise s 0) (literal_number s 0) s.conclusion e);
    }

pub propositional_keeps : Sound propositional_rule
propositional_keeps =
    record {
      premises = omega arith;
      literals = omega arith;
      numbered = λ s. numbered_by (propositional_demands (premise s 0) s.conclusion) refl;
      law = λ s n e. one_given s.premises s.conclusion n (propositional_is_sound (premise s 0) s.conclusion e);
    }

pub reflexive_keeps : Sound reflexive_rule
reflexive_keeps =
    record {
      premises = omega arith;
      literals = omega arith;
      numbered = λ s. numbered_by (reflexive_demands s.conclusion) refl;
      law = λ s n e. none_given s.premises s.conclusion n (reflexive_is_sound s.conclusion e);
    }
