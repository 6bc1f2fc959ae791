-- Resolve allows exactly i without a, followed by j without b, where these literals are opposed.
use Rattle.std.proofs.Common.{◌≡◌, ℕ, Bool, not, T, sym, subst}
use Rattle.std.proofs.Math.Facts.{and_yes, yes_and}
use mathlib.Core.Bool.{beq}
use Rattle.logic.specs.Syntax.{Literal, Clause}
use Rattle.logic.specs.Literals.{literal}
use Rattle.inference.specs.Same.{same_atom}
use Rattle.inference.specs.Answers.{allowed}
use Rattle.inference.specs.Resolve.{opposed, resolve, resolve_demands}
use Rattle.inference.specs.Conclusions.{Opposed, resolvent, Resolves}
use Rattle.inference.specs.Exactness.{ResolveIsExact}
use Rattle.inference.proofs.Bools.{other_sign, sign_other}
use Rattle.inference.proofs.Same.{atom_is, atom_same, clause_is, clause_same}
use Rattle.inference.proofs.Demands.{met, allowed_where_met, has_it, it_has}

pub opposed_is : (l m : Literal) → T (opposed l m) → Opposed l m
opposed_is l m h =
    let x : Bool = same_atom l.atom m.atom in
    let y : Bool = not (beq l.negated m.negated) in
    record {
      atom = atom_is l.atom m.atom (and_yes x y h).0;
      signs = other_sign l.negated m.negated (and_yes x y h).1;
    }

pub is_opposed : (l m : Literal) → Opposed l m → T (opposed l m)
is_opposed l m h =
    yes_and (same_atom l.atom m.atom) (not (beq l.negated m.negated)) (atom_same l.atom m.atom h.atom)
    (subst (λ (x : Bool). T (not (beq x m.negated))) (sym h.signs) (sign_other m.negated))

resolves : (i j : Clause) (a b : ℕ) (c : Clause) → resolve i j a b c ≡ allowed → Resolves i j a b c
resolves i j a b c ok =
    let d = met (resolve_demands i j a b c) ok in
    record {
      first = has_it i a d.0;
      second = has_it j b d.1.0;
      opposite = opposed_is (literal i a) (literal j b) d.1.1.0;
      conclusion = sym (clause_is (resolvent i j a b) c d.1.1.1.0);
    }

allows : (i j : Clause) (a b : ℕ) (c : Clause) → Resolves i j a b c → resolve i j a b c ≡ allowed
allows i j a b c h =
    allowed_where_met (resolve_demands i j a b c) (
      it_has i a h.first,
      (
        it_has j b h.second,
        (
          is_opposed (literal i a) (literal j b) h.opposite,
          (clause_same (resolvent i j a b) c (sym h.conclusion), tt),
        ),
      ),
    )

pub resolve_is_exact : ResolveIsExact
resolve_is_exact i j a b c = (resolves i j a b c, allows i j a b c)
