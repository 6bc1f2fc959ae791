-- A line spells one step at most.
use lib.ListN.{length-replicate}
use Rattle.std.proofs.Common.{◌≡◌, ℕ, ◌+◌, ◌<◌, ◌≤◌, Bool, List, [], ◌∷◌, map, length, take, replicate, sym, refl, ap, ◌∙◌, arith}
use Rattle.std.specs.List.{AllByRecursion}
use Rattle.logic.specs.Syntax.{Clause}
use Rattle.logic.specs.Words.{term_words, clause_words}
use Rattle.logic.specs.Lawful.{LawfulTerm}
use Rattle.logic.specs.Symbols.{row_at}
use Rattle.logic.specs.declared.row.SymbolRow.{SymbolRow}
use Rattle.logic.proofs.Spelt.{words_injective, term_words_injective}
use Rattle.tokens.specs.Tokens.{Tok}
use Rattle.reading.specs.Bindings.{Bound}
use Rattle.lines.specs.declared.shape.Shape.{Shape}
use Rattle.lines.specs.Justifications.{Table}
use Rattle.lines.specs.Steps.{Stepped}
use Rattle.spelling.specs.Spelling.{Counted}
use Rattle.spelling.specs.StepGrammar.{Binding, Reason, SpellsBindings, no_bindings, more_bindings, SpellsBindingList, no_list, a_list, SpellsReason, a_reason, SpellsStep, a_step}
use Rattle.spelling.specs.StepSpelling.{SpellsStepLine, kept_binding, step_read, StepsAreSpelledOneWay}
use Rattle.spelling.proofs.Answers.{ok_same}
use Rattle.spelling.proofs.Exact.{words_same}
use Rattle.spelling.proofs.LawfulSpelled.{lawful_term}
use Rattle.spelling.proofs.StepsGo.{sealed_final}
use Rattle.spelling.proofs.StepExact.{steps_are_read_as_spelled, spelled_steps_are_lawful}

-- ── Bindings by their words ──

abbrev LawfulBindings : List SymbolRow → List Binding → Type 0
LawfulBindings table xs = AllByRecursion (λ (b : Binding). LawfulTerm table b.term) xs

bindings_same : (table : List SymbolRow) (xs ys : List Binding) → LawfulBindings table xs → LawfulBindings table ys → map kept_binding xs ≡ map kept_binding ys → xs ≡ ys
bindings_same table [] [] f g e = refl
bindings_same table [] (y ∷ ys) f g e = cc
bindings_same table (x ∷ xs) [] f g e = cc
bindings_same table (x ∷ xs) (y ∷ ys) f g e =
    let head : kept_binding x ≡ kept_binding y = cc in
    let rest : map kept_binding xs ≡ map kept_binding ys = cc in
    let named : x.variable ≡ y.variable = ap (λ (b : Bound). b.variable) head in
    let worded : term_words x.term ≡ term_words y.term = ap (λ (b : Bound). b.words) head in
    let same : x.term ≡ y.term = term_words_injective table x.term y.term f.0 g.0 worded in
    joined x y xs ys named same (bindings_same table xs ys f.1 g.1 rest)
  where
    joined : (x y : Binding) (xs ys : List Binding) → x.variable ≡ y.variable → x.term ≡ y.term → xs ≡ ys → x ∷ xs ≡ y ∷ ys
    joined x y xs ys a b c = ap (λ v. record { variable = v; term = x.term } ∷ xs) a ∙ ap (λ t. record { variable = y.variable; term = t } ∷ xs) b ∙ ap (λ zs. y ∷ zs) c

module _ (table : List SymbolRow) (settled : (k : ℕ) → k < length table → (row_at table k).arity ≤ 4) (few : length table ≤ 256) where
  lawful_bindings : {xs : List Binding} {ts us : List Tok} → SpellsBindings table xs ts us → LawfulBindings table xs
  lawful_bindings (no_bindings) = tt
  lawful_bindings (more_bindings v t rest) = ((lawful_term table settled few t).0, lawful_bindings rest)

  lawful_list : {wanted : Bool} {xs : List Binding} {ts us : List Tok} → SpellsBindingList table wanted xs ts us → LawfulBindings table xs
  lawful_list (no_list) = tt
  lawful_list (a_list f w inner) = lawful_bindings inner

  lawful_reason : {shapes : Table} {r : Reason} {ts us : List Tok} → SpellsReason table shapes r ts us → LawfulBindings table r.bindings
  lawful_reason (a_reason _ _ _ _ _ _ _ bindings) = lawful_list bindings

  lawful_step : {shapes : Table} {n : ℕ} {r : Reason} {c : Clause} {ts : List Tok} → SpellsStep table shapes n r c ts → LawfulBindings table r.bindings
  lawful_step (a_step m some because inner) = lawful_reason because

reason_same : (k k' : List ℕ) (s s' : Shape) (p p' l l' q q' : List ℕ) (b b' : List Binding) → k ≡ k' → s ≡ s' → p ≡ p' → l ≡ l' → q ≡ q' → b ≡ b'
    → ◌≡◌ {A = Reason} (record { keyword = k; shape = s; premises = p; literals = l; position = q; bindings = b })
    (record { keyword = k'; shape = s'; premises = p'; literals = l'; position = q'; bindings = b' })
reason_same k k' s s' p p' l l' q q' b b' e f g h i j = cc

module _ (line : List ℕ) (shapes : Table) (n : ℕ) (rows : List SymbolRow) (counted : Counted n rows) (step step' : ℕ) (r r' : Reason) (c c' : Clause)
    (s : SpellsStepLine line shapes n rows step r c) (s' : SpellsStepLine line shapes n rows step' r' c') where
  one_reading : (k : ℕ) → step_read line (replicate k 0) n rows step r c ≡ step_read line (replicate k 0) n rows step' r' c'
  one_reading k =
      ok_same
      (sym ((steps_are_read_as_spelled line shapes (replicate k 0) n rows counted (step_read line (replicate k 0) n rows step r c)).1 step r c s refl)
      ∙ (steps_are_read_as_spelled line shapes (replicate k 0) n rows counted (step_read line (replicate k 0) n rows step' r' c')).1 step' r' c' s' refl)

  one_list : clause_words c ≡ clause_words c'
  one_list =
      let k : ℕ = length (clause_words c) + length (clause_words c') in
      let out : List ℕ = replicate k 0 in
      let room : length out ≡ k = length-replicate k 0 in
      words_same out (clause_words c) (clause_words c') (omega arith) (omega arith) (ap (λ (x : Stepped). x.words) (one_reading k)) (ap (λ (x : Stepped). x.out) (one_reading k))

  one_clause : c ≡ c'
  one_clause =
      words_injective (take n rows) c c' (spelled_steps_are_lawful line shapes n rows counted step r c s).0 (spelled_steps_are_lawful line shapes n rows counted step' r' c' s').0 one_list

  one_reason : r ≡ r'
  one_reason =
      let f = sealed_final line n rows counted in
      let e = one_reading 0 in
      reason_same r.keyword r'.keyword r.shape r'.shape r.premises r'.premises r.literals r'.literals r.position r'.position r.bindings r'.bindings
      (ap (λ (x : Stepped). x.keyword) e) (ap (λ (x : Stepped). x.shape) e) (ap (λ (x : Stepped). x.premises) e) (ap (λ (x : Stepped). x.literals) e) (ap (λ (x : Stepped). x.position) e)
      (bindings_same (take n rows) r.bindings r'.bindings (lawful_step (take n rows) f.settled f.few s.spelled) (lawful_step (take n rows) f.settled f.few s'.spelled)
      (ap (λ (x : Stepped). x.bound) e))

pub steps_are_spelled_one_way : StepsAreSpelledOneWay
steps_are_spelled_one_way line shapes n rows counted step step' r r' c c' s s' = (
  ap (λ (x : Stepped). x.number) (one_reading line shapes n rows counted step step' r r' c c' s s' 0),
  one_reason line shapes n rows counted step step' r r' c c' s s',
  one_clause line shapes n rows counted step step' r r' c c' s s',
)
