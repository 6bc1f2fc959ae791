-- What instantiate answers, from the tests on words.
use Rattle.std.proofs.Common.{◌≡◌, ℕ, ◌<◌, List, [], ◌∷◌, map, length, get_or, take, Result, sym, ap, ◌∙◌, inl, inr, arith}
use Rattle.std.specs.List.{AllByRecursion, flat_map}
use Rattle.std.proofs.ByRecursion.{All-get_or, All-from_get_or}
use Rattle.std.proofs.lemmas.Bool.{cases_lt}
use Rattle.logic.specs.Limits as language
use Rattle.logic.specs.declared.row.SymbolRow.{SymbolRow}
use Rattle.inference.specs.Instantiate.{Binding}
use Rattle.logic.specs.Words.{term_words, clause_words}
use Rattle.bench.specs.Bindings.{LawfulBinding}
use Rattle.reading.specs.declared.bindings.Bindings.{Bindings}
use Rattle.reading.specs.Bindings.{held, held_at}
use Rattle.bench.specs.Bindings.{kept_binding}
use Rattle.bench.specs.declared.question.Question.{Question}
use Rattle.inference.specs.Answers.{fault}
use Rattle.bench.specs.Meanings.{Asked, premise}
use Rattle.bench.specs.Questions.{Shows}
use Rattle.bench.proofs.Shown.{premise_lawful}
use Rattle.inference.specs.Instantiate.{instance_of, substitution, instantiate}
use Rattle.inference.specs.Conclusions.{Unbound, BoundOnce}
use Rattle.rules.specs.Images.{Room, Repeats, ReplacesWords}
use Rattle.inference.proofs.Same.{clause_is, clause_same}
use Rattle.inference.proofs.InstantiateExact.{each_goes, other_stays, has_instance, instance_has}
use Rattle.inference.proofs.Order.{instantiate_answers}
use Rattle.bench.specs.declared.fault.RuleFault.{RuleFault}
use Rattle.bench.specs.Faults.{answered}
use Rattle.rules.specs.Pieces.{Allows}
use Rattle.rules.proofs.Concluded.{allows_like, answered_last}
use Rattle.rules.proofs.Located.{allowed_by_words}
use Rattle.rules.proofs.HeldBindings.{no_binding, counted, few, variable_nth, words_nth, repeats_not_once, once_unless_repeats}
use Rattle.rules.proofs.InstanceWords.{word_image, variable_image, head_image, clause_images, formed_instance, lawful_substitution}

-- kept bindings of variables that are bound once replace words as the bindings on trees do
module _ (rows : List SymbolRow) (b : Bindings) (bs : List Binding) (room : Room b) (e : held b ≡ map kept_binding bs) (g : AllByRecursion (LawfulBinding rows) bs)
    (once : BoundOnce bs) where
  -- a bound variable becomes the words of its term
  bound_words : (k : ℕ) → k < b.count → get_or b.variables k 0 < language.variables
      → word_image (substitution bs) (get_or b.variables k 0) ≡ (held_at b k).words
  bound_words k h l =
      let n : k < length bs = omega (arith, counted b bs room e) in
      variable_image (substitution bs) (get_or b.variables k 0) l
      ∙ ap (λ i. term_words (substitution bs i)) (variable_nth b bs room e k n)
      ∙ ap term_words (All-get_or (λ (c : Binding). substitution bs c.variable ≡ c.term) bs k no_binding n (each_goes bs once))
      ∙ sym (words_nth b bs room e k n)

  -- any other word stays
  other_words : (w : ℕ) → ((k : ℕ) → k < b.count → get_or b.variables k 0 ≡ w → w < language.variables → ⊥) → word_image (substitution bs) w ≡ w ∷ []
  other_words w h = elim (cases_lt w language.variables) [
    | inl l ↦
        let free : Unbound bs w =
        All-from_get_or (λ (c : Binding). c.variable ≡ w → ⊥) bs no_binding
        (λ k n q. h k (omega (arith, counted b bs room e)) (variable_nth b bs room e k n ∙ q) l) in
        variable_image (substitution bs) w l ∙ ap term_words (other_stays bs w free)
    | inr l ↦ head_image (substitution bs) w l
  ]

  -- both together
  replaces_words : ReplacesWords b (word_image (substitution bs))
  replaces_words = record { few = few b bs room e; bound = bound_words; others = other_words }

-- ── The answers ──

module _ (s : Asked) (q : Question) (h : Shows s q) (room : Room q.bindings.now) (vs : List ℕ)
    (f : vs ≡ take q.bindings.now.count q.bindings.now.variables) where
  -- a variable stands twice
  pub exit_26 : Repeats vs → fault 26 ≡ instantiate (premise s 0) s.bindings s.conclusion
  exit_26 r =
      sym ((instantiate_answers (premise s 0) s.bindings s.conclusion).otherwise (repeats_not_once q.bindings.now s.bindings room h.bindings vs f r))

  -- none does
  module _ (n : Repeats vs → ⊥) where
    once : BoundOnce s.bindings
    once = once_unless_repeats q.bindings.now s.bindings room h.bindings vs f q.rows.now h.terms n

    -- the conclusion is compared with the words of the premise, replaced as the bindings say
    pub exit_compared : (r : Result (Unit {0}) RuleFault)
        → ((σ : ℕ → List ℕ) → ReplacesWords q.bindings.now σ → Allows r (q.conclusion.now ≡ flat_map σ q.first.now))
        → answered r ≡ instantiate (premise s 0) s.bindings s.conclusion
    exit_compared r k =
        let σ = substitution s.bindings in
        let rows = q.rows.now in
        let lawful = (premise_lawful s q h 0).0 in
        let i = instance_of σ (premise s 0) in
        let x : clause_words i ≡ flat_map (word_image σ) q.first.now =
        clause_images σ rows (premise s 0) lawful ∙ sym (ap (flat_map (word_image σ)) h.first) in
        let is : Allows r (s.conclusion ≡ i) =
        allowed_by_words rows q.conclusion.now s.conclusion i h.lawful
        (formed_instance σ rows (lawful_substitution rows s.bindings h.terms) (premise s 0) lawful) h.conclusion _ x r
        (k (word_image σ) (replaces_words rows q.bindings.now s.bindings room h.bindings h.terms once)) in
        answered_last (instantiate (premise s 0) s.bindings s.conclusion) ((instantiate_answers (premise s 0) s.bindings s.conclusion).then once) r
        (allows_like (λ e. has_instance (premise s 0) s.bindings s.conclusion once (clause_same i s.conclusion (sym e)))
        (λ e. sym (clause_is i s.conclusion (instance_has (premise s 0) s.bindings s.conclusion e))) r is)
