-- What the rule paramod finds on words.
use Rattle.std.proofs.Common.{◌≡◌, ℕ, suc, ◌-◌, Bool, true, false, List, [], ◌++◌, length, take, drop, Some, Ok, Err, Result, Decides, Option, sym, refl, ap, ◌∙◌, subst, ap₂, append_assoc, append-nil, le_refl, arith}
use Rattle.std.specs.List.{between}
use Rattle.std.specs.Option.{ok_or}
use Rattle.std.proofs.lemmas.List.{take_at, drop_at}
use Rattle.std.proofs.lemmas.Slice.{between_to_end}
use Rattle.std.proofs.ByRecursion.{All-append, All-take, All-drop, All-set}
use Rattle.std.proofs.lemmas.Bool.Decides.{Decides-like, not_from_Decides}
use Rattle.logic.specs.declared.row.SymbolRow.{SymbolRow}
use Rattle.logic.specs.declared.words.Span.{Span}
use Rattle.logic.specs.Syntax.{Term, Literal, Clause}
use Rattle.logic.specs.Words.{equality_word, term_words, literal_words, clause_words}
use Rattle.logic.specs.Lawful.{LawfulTerm, LawfulAtom}
use Rattle.logic.specs.Literals.{literal}
use Rattle.logic.proofs.Spelt.{Formed, FormedAtom, formed, term_words_injective}
use Rattle.logic.proofs.Spanned.{words_append}
use Rattle.bench.specs.declared.question.Question.{Question}
use Rattle.bench.specs.declared.fault.RuleFault.{RuleFault}
use Rattle.bench.specs.declared.fault.RuleFault.TheVariants.{NoTerm}
use Rattle.bench.specs.Faults.{answered}
use Rattle.inference.specs.Answers.{fault}
use Rattle.bench.specs.Meanings.{Asked, premise, literal_number}
use Rattle.bench.specs.Questions.{Shows}
use Rattle.bench.proofs.Shown.{premise_lawful}
use Rattle.inference.specs.Literals.{without, with_literal}
use Rattle.inference.specs.Positions.{at_position, put}
use Rattle.inference.specs.Conclusions.{IsEquality, replacement}
use Rattle.inference.specs.Paramod.{paramod}
use Rattle.rules.specs.Sides.{Headed, Parted}
use Rattle.rules.specs.Places.{Found, Led}
use Rattle.rules.specs.declared.literal.Parts.{Parts}
use Rattle.rules.specs.Numbered.{Around}
use Rattle.rules.specs.Pieces.{Allows}
use Rattle.rules.proofs.Concluded.{answered_last, some_found, none_found}
use Rattle.rules.proofs.Located.{allowed_by_words, without_words}
use Rattle.rules.proofs.Numbered as numbered
use Rattle.rules.proofs.Numbered.{Finds}
use Rattle.inference.proofs.Order.{paramod_answers}
use Rattle.rules.proofs.Parted.{as_equation, sides_lawful, equality_decides, sides_behind}
use Rattle.rules.proofs.Replaced.{set_words, formed_put}

-- words in parts: up to the literal's place, and from there on
module _ (ws : List ℕ) (p : Parts) (e : ws ≡ p.before.now ++ (p.literal.now ++ p.behind.now)) where
  up_to_literal : take (length p.before.now) ws ≡ p.before.now
  up_to_literal = ap (take (length p.before.now)) e ∙ take_at p.before.now (p.literal.now ++ p.behind.now) (length p.before.now) refl

  from_literal : (c : Clause) (a : ℕ) → Around c a p → drop (length p.before.now) ws ≡ literal_words (literal c a) ++ clause_words (drop a c)
  from_literal c a r =
      ap (drop (length p.before.now)) e
      ∙ drop_at p.before.now (p.literal.now ++ p.behind.now) (length p.before.now) refl
      ∙ ap₂ ◌++◌ r.here r.behind

-- the pieces of a paramodulant, one after another
regroup : (r s t v o : List ℕ) → (r ++ s) ++ ((t ++ v) ++ o) ≡ r ++ (s ++ (t ++ (v ++ (o ++ []))))
regroup r s t v o = simp (append_assoc, append-nil)

-- what is asked, and the words that show it
module _ (q : Question) (s : Asked) (shown : Shows s q) where
  abbrev rows : List SymbolRow
  rows = q.rows.now

  abbrev wi : List ℕ
  wi = q.first.now

  abbrev wj : List ℕ
  wj = q.second.now

  abbrev wc : List ℕ
  wc = q.conclusion.now

  abbrev i : Clause
  i = premise s 0

  abbrev j : Clause
  j = premise s 1

  abbrev a : ℕ
  a = literal_number s 0

  abbrev b : ℕ
  b = literal_number s 1

  abbrev p : List ℕ
  p = s.position

  abbrev c : Clause
  c = s.conclusion

  module _ (ip : Parts) (fi : Finds q 0 wi (Ok ip)) where
    -- the words of the equality, and where they stand
    abbrev lit : List ℕ
    lit = ip.literal.now

    abbrev la : Literal
    la = literal i a

    stands_i : Around i a ip
    stands_i = numbered.stands q s shown 0 wi shown.first ip fi

    lawful_a : LawfulAtom rows la.atom
    lawful_a = numbered.lawful q s shown 0 wi shown.first ip fi

    spelt : lit ≡ literal_words la ++ []
    spelt = stands_i.here ∙ sym (append-nil (literal_words la))

    pub no_second : (g : RuleFault) → Finds q 1 wj (Err g) → answered (Err g) ≡ paramod i j a b p c
    no_second g f = numbered.not_found q s shown 1 wj shown.second g f (paramod i j a b p c) ((paramod_answers i j a b p c).then stands_i.has)

    module _ (jp : Parts) (fj : Finds q 1 wj (Ok jp)) where
      abbrev lb : Literal
      lb = literal j b

      abbrev rest : List ℕ
      rest = clause_words (drop b j)

      stands_j : Around j b jp
      stands_j = numbered.stands q s shown 1 wj shown.second jp fj

      lawful_b : LawfulAtom rows lb.atom
      lawful_b = numbered.lawful q s shown 1 wj shown.second jp fj

      pub no_equality : Decides false (Headed equality_word lit) → fault 23 ≡ paramod i j a b p c
      no_equality d =
          sym ((((paramod_answers i j a b p c).then stands_i.has).then stands_j.has).otherwise
          (not_from_Decides false (equality_decides rows lit [] la lawful_a spelt false d) refl))

      module _ (d : Decides true (Headed equality_word lit)) (whole : wj ≡ jp.before.now ++ (jp.literal.now ++ jp.behind.now)) where
        abbrev pub from : ℕ
        from = length jp.before.now

        eq : IsEquality la
        eq = (equality_decides rows lit [] la lawful_a spelt true d).0 refl

        -- what a search for the term found in the words
        abbrev pub Seeks : Option Span → Type 0
        Seeks r =
            (l : Literal) (more : List ℕ) → LawfulAtom rows l.atom → drop from wj ≡ literal_words l ++ more
            → Led rows l q.position.now wj from more r

        led : (r : Option Span) → Seeks r → Led rows lb p wj from rest r
        led r f =
            subst (λ (o : List ℕ). Led rows lb o wj from rest r) shown.position
            (f lb rest lawful_b (from_literal wj jp whole j b stands_j))

        pub no_term : (r : Option Span) → Seeks r → (g : RuleFault) → Err g ≡ ok_or r NoTerm → answered (Err g) ≡ paramod i j a b p c
        no_term r f g e =
            let n = none_found NoTerm r g e in
            ap (λ h. answered (Err h)) n.1
            ∙ sym (((((paramod_answers i j a b p c).then stands_i.has).then stands_j.has).then eq).otherwise
            (subst (λ (o : Option Span). Led rows lb p wj from rest o) n.0 (led r f)))

        pub found_there : (r : Option Span) → Seeks r → (up : Span) → Ok up ≡ ok_or r NoTerm → Found rows lb p wj from rest up
        found_there r f up e = subst (λ (o : Option Span). Led rows lb p wj from rest o) (some_found NoTerm r up e) (led r f)

        module _ (right : ℕ) (sides : (t : Term) (more : List ℕ) → LawfulTerm rows t → drop 1 lit ≡ term_words t ++ more → Parted lit right (term_words t) more)
            (up : Span) (found : Found rows lb p wj from rest up) where
          both_lawful : LawfulTerm rows eq.s × LawfulTerm rows eq.t
          both_lawful = sides_lawful rows la (as_equation la eq) lawful_a

          parts : Parted lit right (term_words eq.s) (term_words eq.t)
          parts =
              sides eq.s (term_words eq.t) both_lawful.0
              (sides_behind rows lit [] la lawful_a spelt (as_equation la eq) ∙ ap (λ xs. term_words eq.s ++ xs) (append-nil (term_words eq.t)))

          -- the term's words are compared with those of the left side
          is_side : (r : Bool) → Decides r (between up.start up.end wj ≡ between 1 right lit) → Decides r (at_position lb p ≡ Some eq.s)
          is_side r k =
              Decides-like r
              (λ e. found.there ∙ ap Some (term_words_injective rows found.term eq.s found.lawful both_lawful.0 (sym found.here ∙ e ∙ parts.left)))
              (λ e. let f : found.term ≡ eq.s = cc (found.there, e) in found.here ∙ ap term_words f ∙ sym parts.left)
              k

          pub other_term : Decides false (between up.start up.end wj ≡ between 1 right lit) → fault 25 ≡ paramod i j a b p c
          other_term k =
              sym ((((((paramod_answers i j a b p c).then stands_i.has).then stands_j.has).then eq).then (found.term, found.there)).otherwise
              (not_from_Decides false (is_side false k) refl))

          -- ── The conclusion ──

          abbrev new : List ℕ
          new = between right (length lit) lit

          abbrev words : List ℕ
          words = ip.before.now ++ (ip.behind.now ++ (take up.start wj ++ (new ++ (between up.end (length wj) wj ++ []))))

          abbrev described : Clause
          described = replacement i j a b p eq.t

          new_is : new ≡ term_words eq.t
          new_is = between_to_end lit right (length lit) (le_refl (length lit)) ∙ parts.right

          right_words : clause_words (with_literal j b (put lb p eq.t)) ≡ (take up.start wj ++ new) ++ between up.end (length wj) wj
          right_words =
              let z : suc (b - 1) ≡ b = omega (arith, stands_j.has.0) in
              set_words j (b - 1) (put lb p eq.t) (omega (arith, stands_j.has.0, stands_j.has.1))
              ∙ ap₂ (λ xs n. xs ++ (literal_words (put lb p eq.t) ++ clause_words (drop n j))) (sym (up_to_literal wj jp whole ∙ stands_j.before)) z
              ∙ sym (found.replaced eq.t)
              ∙ ap₂ (λ xs ys. take up.start wj ++ (xs ++ ys)) (sym new_is) (sym (between_to_end wj up.end (length wj) (le_refl (length wj))))
              ∙ sym (append_assoc (take up.start wj) new (between up.end (length wj) wj))

          words_are : clause_words described ≡ words
          words_are =
              words_append (without i a) (with_literal j b (put lb p eq.t)) ∙ ap₂ ◌++◌ (without_words i a ip stands_i) right_words
              ∙ regroup ip.before.now ip.behind.now (take up.start wj) new (between up.end (length wj) wj)

          described_formed : Formed rows described
          described_formed =
              let P : Literal → Type 0 = λ l. FormedAtom rows l.atom in
              let fi : Formed rows i = formed rows i (premise_lawful s q shown 0).0 in
              All-append P (without i a) (with_literal j b (put lb p eq.t))
              (All-append P (take (a - 1) i) (drop a i) (All-take P (a - 1) i fi) (All-drop P a i fi))
              (All-set P j (b - 1) (put lb p eq.t) (formed_put rows eq.t both_lawful.1 lb p lawful_b) (formed rows j (premise_lawful s q shown 1).0))

          -- the conclusion is compared
          pub concluded : Decides true (between up.start up.end wj ≡ between 1 right lit) → (r : Result (Unit {0}) RuleFault) → Allows r (wc ≡ words)
              → answered r ≡ paramod i j a b p c
          concluded k r h =
              answered_last (paramod i j a b p c)
              ((((((paramod_answers i j a b p c).then stands_i.has).then stands_j.has).then eq).then (found.term, found.there)).then ((is_side true k).0 refl)) r
              (allowed_by_words rows wc c described shown.lawful described_formed shown.conclusion words words_are r h)
