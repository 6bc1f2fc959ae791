-- Marking each variable that has come, to find one that comes twice.
use Rattle.std.proofs.Common.{◌≡◌, ℕ, ◌+◌, ◌<◌, ◌≤◌, Bool, true, false, List, length, get_or, set, replicate, Decides, sym, refl, ap, ◌∙◌, inl, inr, arith, length-set}
use lib.ListN.{get_or-replicate}
use Rattle.std.proofs.lemmas.List.{get_or-set_same, get_or-set_other}
use Rattle.std.proofs.lemmas.Bool.{cases_eq, false≢true}
use Rattle.logic.specs.Limits as language
use Rattle.rules.specs.Images.{Repeats}

-- of the first i variables none has come twice, and exactly they are marked
pub record Seen (vs : List ℕ) (seen : List Bool) (i : ℕ) : Type 0 where
  pub long : length seen ≡ language.variables
  pub marked : (j : ℕ) → j < i → get_or vs j 0 < language.variables → get_or seen (get_or vs j 0) false ≡ true
  pub come : (v : ℕ) → v < language.variables → get_or seen v false ≡ true → (j : ℕ) × (j < i) × (get_or vs j 0 ≡ v)
  pub once : (j k : ℕ) → j < k → k < i → get_or vs j 0 ≡ get_or vs k 0 → get_or vs k 0 < language.variables → ⊥

-- no variable has come, and none is marked
pub seen_none : (vs : List ℕ) → Seen vs (replicate language.variables false) 0
seen_none vs =
    record {
      long = refl;
      marked = λ j h. absurd (omega arith);
      come = λ v l e. absurd (false≢true (sym (get_or-replicate language.variables v false false l) ∙ e));
      once = λ j k h l. absurd (omega arith);
    }

module _ (vs : List ℕ) (seen : List Bool) (i : ℕ) (s : Seen vs seen i) where
  -- a variable that is marked comes again
  pub seen_again : i < length vs → get_or vs i 0 < language.variables → get_or seen (get_or vs i 0) false ≡ true → Decides true (Repeats vs)
  seen_again h b t =
      let f = s.come (get_or vs i 0) b t in (
        λ _. record { first = f.0; second = i; order = f.1; there = h; same = f.2; variable = b },
        λ _. refl,
      )

  -- one that is not is marked
  pub seen_more : get_or vs i 0 < language.variables → get_or seen (get_or vs i 0) false ≡ false → Seen vs (set seen (get_or vs i 0) true) (i + 1)
  seen_more b t =
      record {
        long = length-set seen (get_or vs i 0) true ∙ s.long;
        marked = marks;
        come = comes;
        once = ones;
      }
    where
      here : get_or (set seen (get_or vs i 0) true) (get_or vs i 0) false ≡ true
      here = get_or-set_same seen (get_or vs i 0) true false (omega (arith, s.long))

      marks : (j : ℕ) → j < i + 1 → get_or vs j 0 < language.variables → get_or (set seen (get_or vs i 0) true) (get_or vs j 0) false ≡ true
      marks j h l = elim (cases_eq (get_or vs j 0) (get_or vs i 0)) [
        | inl q ↦ ap (λ v. get_or (set seen (get_or vs i 0) true) v false) q ∙ here
        | inr n ↦
            get_or-set_other seen (get_or vs i 0) (get_or vs j 0) true false n
            ∙ s.marked j (before j h n) l
      ]
        where
          before : (j : ℕ) → j < i + 1 → (get_or vs j 0 ≡ get_or vs i 0 → ⊥) → j < i
          before j h n = elim (cases_eq j i) [ inl q ↦ absurd (n (ap (λ k. get_or vs k 0) q)) | inr m ↦ omega arith ]

      comes : (v : ℕ) → v < language.variables → get_or (set seen (get_or vs i 0) true) v false ≡ true → (j : ℕ) × (j < i + 1) × (get_or vs j 0 ≡ v)
      comes v l e = elim (cases_eq v (get_or vs i 0)) [
        | inl q ↦ (i, omega arith, sym q)
        | inr n ↦
            let f = s.come v l (sym (get_or-set_other seen (get_or vs i 0) v true false n) ∙ e) in
            (f.0, omega (arith, f.1), f.2)
      ]

      ones : (j k : ℕ) → j < k → k < i + 1 → get_or vs j 0 ≡ get_or vs k 0 → get_or vs k 0 < language.variables → ⊥
      ones j k h l e m = elim (cases_eq k i) [
        | inl q ↦
            let f : get_or vs j 0 ≡ get_or vs i 0 = e ∙ ap (λ n. get_or vs n 0) q in
            false≢true (sym t ∙ ap (λ v. get_or seen v false) (sym f) ∙ s.marked j (omega arith) (omega arith))
        | inr n ↦ s.once j k h (omega arith) e m
      ]

  -- what is no variable is passed over
  pub seen_other : language.variables ≤ get_or vs i 0 → Seen vs seen (i + 1)
  seen_other b =
      record {
        long = s.long;
        marked = λ j h l. elim (cases_eq j i) [
          | inl q ↦ absurd (omega (arith, ap (λ n. get_or vs n 0) q))
          | inr n ↦ s.marked j (omega arith) l
        ];
        come = λ v l e. let f = s.come v l e in (f.0, omega (arith, f.1), f.2);
        once = λ j k h l e m. elim (cases_eq k i) [
          | inl q ↦ omega (arith, ap (λ n. get_or vs n 0) q)
          | inr n ↦ s.once j k h (omega arith) e m
        ];
      }

  -- none has come twice
  pub seen_all : length vs ≤ i → Decides false (Repeats vs)
  seen_all h = (
    λ e. absurd (false≢true e),
    λ r. absurd (s.once r.first r.second r.order (omega (arith, r.there)) r.same r.variable),
  )
