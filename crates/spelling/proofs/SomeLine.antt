-- Every lawful clause over symbols that can be spelled is that of some line.
use Rattle.std.proofs.Common.{◌≡◌, ℕ, zero, suc, ◌+◌, ◌^◌, ◌<◌, ◌≤◌, Bool, true, false, eqb, ltb, List, [], ◌∷◌, ◌++◌, length, get_or, take, codes, decimal as numeral, refl, ap, ◌∙◌, subst, arith}
use Rattle.std.proofs.lemmas.Bool.{cond-true, eq-eqb, lt-ltb, and_from}
use Rattle.std.proofs.lemmas.List.{length-take-le}
use Rattle.std.proofs.lemmas.Fmt.{length-decimal-le, decimal_nonempty}
use Rattle.std.specs.List.{AllByRecursion}
use Rattle.logic.specs.Names.{letter, digit, name_byte}
use Rattle.logic.specs.Syntax.{Term, Terms, Atom, Clause, var, app, []ₜ, ◌∷ₜ◌, predicate, equal}
use Rattle.logic.specs.Lawful.{count, deep, deeps, LawfulTerm, LawfulTerms, LawfulAtom, Lawful}
use Rattle.logic.specs.Symbols.{row_at, name_of, Symbol}
use Rattle.logic.specs.declared.row.SymbolRow.{SymbolRow}
use Rattle.logic.specs.declared.row.Kind.{Kind}
use Rattle.tokens.specs.declared.byte.Class.TheVariants.{Digit}
use Rattle.tokens.specs.Bytes.{past}
use Rattle.tokens.specs.Tokens.{Tok, opens, closes, equals, number, variable, word, variable_run, class}
use Rattle.tokens.specs.Forms.{largest_number}
use Rattle.spelling.specs.Appearance.{clause_symbols, Appear}
use Rattle.spelling.specs.Spacing.{Spaced, end, space, opening, closing, equality, run}
use Rattle.spelling.specs.Grammar.{Names, SpellsTerm, SpellsTerms, SpellsAtom, SpellsLiteral, SpellsLiterals, SpellsRule, a_variable, an_application, no_terms, more_terms, an_atom, an_equation, positive, negative, no_literals, more_literals, a_clause, a_rule}
use Rattle.spelling.specs.Spelling.{Nameable, LawfulClausesAreSpelled}
use Rattle.spelling.proofs.Decimals.{numeral_of, numeral_bytes, numeral_first, numeral_leading}
use Rattle.spelling.proofs.SealedTables.{clause_stays}

-- ── The text of tokens: each with a space behind it ──

-- the bytes of a run that has the class
abbrev RunOf : Tok → List ℕ → Type 0
RunOf t r = (class r ≡ t) × (0 < length r) × AllByRecursion (λ b. name_byte b ≡ true) r

abbrev Textual : Tok → Type 0
Textual opens = Unit {0}
Textual closes = Unit {0}
Textual equals = Unit {0}
Textual (number r) = RunOf (number r) r
Textual (variable r) = RunOf (variable r) r
Textual (word r) = RunOf (word r) r

spelled_run : (t : Tok) (r bs : List ℕ) (ts : List Tok) → RunOf t r → Spaced bs ts → Spaced (r ++ (32 ∷ bs)) (t ∷ ts)
spelled_run t r bs ts q h = subst (λ x. Spaced (r ++ (32 ∷ bs)) (x ∷ ts)) q.0 (run r q.1 q.2 refl (space h))

text : (ts : List Tok) → AllByRecursion Textual ts → (bs : List ℕ) × Spaced bs ts
text [] a = ([], end)
text (opens ∷ ts) a = let r = text ts a.1 in (40 ∷ r.0, opening r.1)
text (closes ∷ ts) a = let r = text ts a.1 in (41 ∷ r.0, closing r.1)
text (equals ∷ ts) a = let r = text ts a.1 in (61 ∷ r.0, equality r.1)
text (number q ∷ ts) a = let r = text ts a.1 in (q ++ (32 ∷ r.0), spelled_run (number q) q r.0 ts a.0 r.1)
text (variable q ∷ ts) a = let r = text ts a.1 in (q ++ (32 ∷ r.0), spelled_run (variable q) q r.0 ts a.0 r.1)
text (word q ∷ ts) a = let r = text ts a.1 in (q ++ (32 ∷ r.0), spelled_run (word q) q r.0 ts a.0 r.1)

-- ── Numbers and variables ──

small_64 : (n : ℕ) → n ≤ largest_number → n < 2 ^ 64
small_64 n h = omega arith

number_text : (n : ℕ) → n < 2 ^ 64 → RunOf (number (numeral n)) (numeral n)
number_text n h = (cond-true (digit (get_or (numeral n) 0 0)) (number (numeral n)) _ (numeral_first n h), decimal_nonempty n h, numeral_bytes n h)

variable_text : (i : ℕ) → i < 2 ^ 64 → RunOf (variable (118 ∷ numeral i)) (118 ∷ numeral i)
variable_text i h =
    let some = decimal_nonempty i h in
    let long : past Digit (118 ∷ numeral i) 1 ≡ length (118 ∷ numeral i) = ap (λ k. 1 + k) (numeral_leading i h) ∙ omega arith in
    let is : variable_run (118 ∷ numeral i) ≡ true =
    and_from (ltb 1 (length (118 ∷ numeral i))) (eqb (past Digit (118 ∷ numeral i) 1) (length (118 ∷ numeral i))) (lt-ltb 1 (length (118 ∷ numeral i)) (omega arith)) (eq-eqb _ _ long) in
    (cond-true (variable_run (118 ∷ numeral i)) (variable (118 ∷ numeral i)) (word (118 ∷ numeral i)) is, omega arith, (refl, numeral_bytes i h))

-- ── The tokens of a tree ──

module _ (table : List SymbolRow) (nameable : Nameable table) where
  abbrev name : ℕ → List ℕ
  name s = name_of (row_at table s)

  named : (s : ℕ) (k : Kind) (a : ℕ) → Symbol table s k a → Names table (name s) s k a
  named s k a q = record { form = nameable.form s q.1; first = nameable.own s q.1; kind = q.2; arity = q.3 }

  word_text : (s : ℕ) → s < length table → Textual (word (name s))
  word_text s h = (nameable.class_is s h, some (name s) (nameable.form s h).lettered, nameable.bytes s h)
    where
      some : (r : List ℕ) → letter (get_or r 0 0) ≡ true → 0 < length r
      some [] e = cc
      some (b ∷ r) e = omega arith

  -- a term before what follows it
  abbrev TermTokens : ℕ → Term → List Tok → Type 0
  TermTokens room t us = (ts : List Tok) × SpellsTerm table room t ts us × (AllByRecursion Textual us → AllByRecursion Textual ts)

  abbrev TermsTokens : ℕ → Terms → List Tok → Type 0
  TermsTokens room qs us = (ts : List Tok) × SpellsTerms table room qs ts us × (AllByRecursion Textual us → AllByRecursion Textual ts)

  mutual
    term_tokens : (room : ℕ) (t : Term) (us : List Tok) → LawfulTerm table t → deep t ≤ room → TermTokens room t us
    term_tokens room (var i) us l d =
        let small : i < 2 ^ 64 = omega arith in
        let short : length (118 ∷ numeral i) ≤ 16 = omega (arith, length-decimal-le 3 i (omega arith) (omega arith) small) in
        (variable (118 ∷ numeral i) ∷ us, a_variable (omega arith) (numeral_of (118 ∷ numeral i) i 63 small (omega arith) short), λ a. (variable_text i small, a))
    term_tokens zero (app s qs) us l d = absurd (omega arith)
    term_tokens (suc room) (app s qs) us l d =
        let r = terms_tokens room qs (closes ∷ us) l.1 (omega arith) in
        (opens ∷ word (name s) ∷ r.0, an_application (named s _ (count qs) l.0) r.1, λ a. (tt, (word_text s l.0.1, r.2 (tt, a))))

    terms_tokens : (room : ℕ) (qs : Terms) (us : List Tok) → LawfulTerms table qs → deeps qs ≤ room → TermsTokens room qs us
    terms_tokens room []ₜ us l d = (us, no_terms, λ a. a)
    terms_tokens room (t ∷ₜ qs) us l d =
        let r = terms_tokens room qs us l.1 (omega arith) in
        let q = term_tokens room t r.0 l.0 (omega arith) in
        (q.0, more_terms q.1 r.1, λ a. q.2 (r.2 a))

  atom_tokens : (a : Atom) (us : List Tok) → LawfulAtom table a → (ts : List Tok) × SpellsAtom table a ts us × (AllByRecursion Textual us → AllByRecursion Textual ts)
  atom_tokens (predicate p qs) us l =
      let r = terms_tokens 32 qs (closes ∷ us) l.1 l.2 in
      (word (name p) ∷ r.0, an_atom (named p _ (count qs) l.0) r.1, λ a. (word_text p l.0.1, r.2 (tt, a)))
  atom_tokens (equal s t) us l =
      let r = term_tokens 32 t (closes ∷ us) l.1 l.3 in
      let q = term_tokens 32 s r.0 l.0 l.2 in
      (equals ∷ q.0, an_equation q.1 r.1, λ a. (tt, q.2 (r.2 (tt, a))))

  not_text : Textual (word (codes "not"))
  not_text = (refl, omega arith, (refl, (refl, (refl, tt))))

  literal_tokens : (n : Bool) (a : Atom) (us : List Tok) → LawfulAtom table a
      → (ts : List Tok) × SpellsLiteral table (record { negated = n; atom = a }) ts us × (AllByRecursion Textual us → AllByRecursion Textual ts)
  literal_tokens false a us l = let r = atom_tokens a us l in (opens ∷ r.0, positive r.1, λ q. (tt, r.2 q))
  literal_tokens true a us l =
      let r = atom_tokens a (closes ∷ us) l in
      (opens ∷ word (codes "not") ∷ opens ∷ r.0, negative r.1, λ q. (tt, (not_text, (tt, r.2 (tt, q)))))

  literals_tokens : (c : Clause) (us : List Tok) → AllByRecursion (λ l. LawfulAtom table l.atom) c → (ts : List Tok) × SpellsLiterals table c ts us × (AllByRecursion Textual us → AllByRecursion Textual ts)
  literals_tokens [] us l = (us, no_literals, λ a. a)
  literals_tokens (x ∷ c) us l =
      let r = literals_tokens c us l.1 in
      let q = literal_tokens x.negated x.atom r.0 l.0 in
      (q.0, more_literals q.1 r.1, λ a. q.2 (r.2 a))

  rule_tokens : (c : Clause) → Lawful table c → (step : ℕ) → 0 < step → step ≤ largest_number → (ts : List Tok) × SpellsRule table step c ts × AllByRecursion Textual ts
  rule_tokens c l step some small =
      let r = literals_tokens c (closes ∷ closes ∷ []) l.0 in
      let fits = small_64 step small in
      let short : length (numeral step) ≤ 16 = omega (arith, length-decimal-le 6 step (omega arith) (omega arith) fits) in (
        opens ∷ word (codes "rule") ∷ number (numeral step) ∷ opens ∷ word (codes "or") ∷ r.0,
        a_rule (numeral_of (numeral step) step largest_number fits small short) some (a_clause l.1 r.1),
        (tt, ((refl, omega arith, (refl, (refl, (refl, (refl, tt))))), (number_text step fits, (tt, ((refl, omega arith, (refl, (refl, tt))), r.2 (tt, (tt, tt))))))),
      )

take_twice : (n : ℕ) (xs : List SymbolRow) → take n (take n xs) ≡ take n xs
take_twice zero xs = refl
take_twice (suc n) [] = refl
take_twice (suc n) (x ∷ xs) = ap (λ ys. x ∷ ys) (take_twice n xs)

stays : {table : List SymbolRow} {step : ℕ} {c : Clause} {ts : List Tok} → SpellsRule table step c ts → Appear true (length table) (clause_symbols c) (length table)
stays {table} (a_rule m some inner) = clause_stays true table inner

pub lawful_clauses_are_spelled : LawfulClausesAreSpelled
lawful_clauses_are_spelled n rows counted nameable c lawful step some small =
    let r = rule_tokens (take n rows) nameable c lawful step some small in
    let t = text r.0 r.2 in
    let long : length (take n rows) ≡ n = length-take-le n rows counted.room in (
      t.0,
      record {
        tokens = r.0;
        spaced = t.1;
        spelled = r.1;
        appear = subst (λ (k : ℕ). Appear true k (clause_symbols c) (length (take n rows))) long (stays r.1);
        extends =
            record {
              kept = take_twice n rows;
              plain = λ k h j. absurd (omega (arith, long));
              settled = λ k h j. absurd (omega (arith, long));
              few = omega (arith, long, counted.few);
              room = omega (arith, long, counted.room);
            };
      },
    )
