-- What resolve allows follows: under a valuation the two literals are not both true, so another literal is.
use Rattle.std.proofs.Common.{◌≡◌, ℕ, not, T, [], ◌∷◌, ◌++◌, sym, subst}
use Rattle.std.proofs.Math.Facts.{and_yes}
use mathlib.Core.Bool.{beq}
use Rattle.logic.specs.Syntax.{Literal, Clause}
use Rattle.logic.specs.Literals.{literal}
use Rattle.logic.specs.Structures.{Structure, Valuation, atom_truth, clause_truth, literal_truth}
use Rattle.inference.specs.Same.{same_atom}
use Rattle.inference.specs.Law.{Follows}
use Rattle.inference.specs.Literals.{has, without}
use Rattle.inference.specs.Resolve.{opposed, resolve_demands}
use Rattle.inference.specs.Soundness.{ResolveIsSound}
use Rattle.inference.proofs.Bools.{opposite, resolved}
use Rattle.inference.proofs.Same.{atom_is, clause_is}
use Rattle.inference.proofs.Truth.{truth_append}
use Rattle.inference.proofs.Demands.{met, literal_apart}

opposed_truth : (S : Structure) (v : Valuation) (l m : Literal) → T (opposed l m) → literal_truth S v l ≡ not (literal_truth S v m)
opposed_truth S v l m h =
    let e : l.atom ≡ m.atom = atom_is l.atom m.atom (and_yes (same_atom l.atom m.atom) (not (beq l.negated m.negated)) h).0 in
    let o : T (not (beq l.negated m.negated)) = (and_yes (same_atom l.atom m.atom) (not (beq l.negated m.negated)) h).1 in
    rw e (opposite l.negated m.negated (atom_truth S v m.atom) o)

pub resolvent_follows : (i j : Clause) (a b : ℕ) → T (has i a) → T (has j b) → T (opposed (literal i a) (literal j b))
    → Follows (i ∷ j ∷ []) (without i a ++ without j b)
resolvent_follows i j a b ha hb o S h v e =
    subst T (sym (truth_append S v (without i a) (without j b)))
    (resolved (literal_truth S v (literal i a)) (literal_truth S v (literal j b)) (clause_truth S v (without i a)) (clause_truth S v (without j b))
    (opposed_truth S v (literal i a) (literal j b) o)
    (subst T (literal_apart S v i a ha) (h.0 v e))
    (subst T (literal_apart S v j b hb) (h.1.0 v e)))

pub resolve_is_sound : ResolveIsSound
resolve_is_sound i j a b c ok =
    let d = met (resolve_demands i j a b c) ok in
    subst (Follows (i ∷ j ∷ [])) (clause_is (without i a ++ without j b) c d.1.1.1.0)
    (resolvent_follows i j a b d.0 d.1.0 d.1.1.0)
