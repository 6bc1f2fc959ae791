-- What is read as a clause is one of the grammar, and its words are written.
use Rattle.std.proofs.Common.{◌≡◌, ℕ, zero, suc, ◌+◌, ◌-◌, ◌≤◌, Bool, true, false, cond, eqb, List, [], ◌∷◌, ◌++◌, length, Ok, codes, sym, refl, ◌∙◌, subst, arith}
use Rattle.std.proofs.lemmas.Bool.{true≢false}
use Rattle.logic.specs.Syntax.{Atom, Literal, Clause, predicate, equal}
use Rattle.logic.specs.Words.{term_words, terms_words, atom_words, literal_words, clause_words}
use Rattle.logic.specs.declared.row.SymbolRow.{SymbolRow}
use Rattle.logic.specs.declared.row.Kind.TheVariants.{Predicate}
use Rattle.tokens.specs.Tokens.{Tok, opens, closes, equals, word, Lexed, lex}
use Rattle.reading.specs.Marks.{Mark}
use Rattle.reading.specs.Marks.{Closed, Opened}
use Rattle.reading.specs.States.{State, from, moved, written, enters}
use Rattle.reading.specs.Terms.{application, term}
use Rattle.reading.specs.Clauses.{opening, closing, wording, literal_mark, is_equals, is_not, mark_turn, sides, atom, negated, literal, literal_list, clause}
use Rattle.reading.proofs.Lists.{literals_suc}
use Rattle.spelling.specs.Appearance.{term_symbols, atom_symbols, clause_symbols, none_more}
use Rattle.spelling.specs.Grammar.{SpellsAtom, SpellsLiteral, SpellsLiterals, SpellsClause, an_atom, an_equation, positive, negative, no_literals, more_literals, a_clause}
use Rattle.spelling.proofs.Answers.{ok_same, bind_ok, lift_ok}
use Rattle.spelling.proofs.Tables.{stays, grows_then, fits_before}
use Rattle.spelling.proofs.Streams.{Tokens, behind, Wrote, wrote_join, wrote_none, wrote_one}
use Rattle.spelling.proofs.Appearing.{appear_join}
use Rattle.spelling.proofs.Marks.{TokenRead, token_there, opening_read, closing_read, wording_read, MarkRead, literal_mark_read, equals_is, not_is}
use Rattle.spelling.proofs.TermsGrow.{some, Short, Grown, Fitting, Appears, appears_on}
use Rattle.spelling.proofs.TermsRead.{TermRead, BodyRead, term_read, term_keeps, application_read, application_keeps}

grown_then : (a b c : State) → Grown a b → Grown b c → Grown a c
grown_then a b c f g = grows_then a.symbols a.rows b.symbols b.rows c.symbols c.rows f g

fitting_before : (a b : State) (table : List SymbolRow) → Grown a b → Fitting b table → Fitting a table
fitting_before a b table g f = fits_before a.symbols a.rows b.symbols b.rows table g f

appears_then : (a b c : State) (ss ts : List ℕ) → b.purpose ≡ a.purpose → Appears a ss b → Appears b ts c → Appears a (ss ++ ts) c
appears_then a b c ss ts e f g =
    appear_join (enters a.purpose) a.symbols ss b.symbols ts c.symbols f (appears_on a b ts b.symbols c.symbols e g)

-- the same but for the place
wrote_moved : (a b : State) (p : ℕ) (ws : List ℕ) → Wrote a b ws → Wrote a (moved b p) ws
wrote_moved a b p ws w = record { counted = w.counted; poured = w.poured; purpose = w.purpose }

wrote_from : (a b : State) (p : ℕ) (ws : List ℕ) → Wrote (moved a p) b ws → Wrote a b ws
wrote_from a b p ws w = record { counted = w.counted; poured = w.poured; purpose = w.purpose }

module _ (bs : List ℕ) where
  -- ── The sides of an equation ──

  record SidesSteps (a b : State) : Type 0 where
    left : State
    right : State
    end : ℕ
    left_is : term bs 32 a ≡ Ok left
    right_is : term bs 32 left ≡ Ok right
    closed : TokenRead bs right.pos closes end
    same : moved right end ≡ b

  sides_steps : (a b : State) → sides bs a ≡ Ok b → SidesSteps a b
  unfolding sides
  sides_steps a b e =
      let l = bind_ok (term bs 32 a) _ b e in
      let r = bind_ok (term bs 32 l.0) _ b l.2 in
      let c = bind_ok (from r.0 (closing bs r.0.pos)) _ b r.2 in
      record { left = l.0; right = r.0; end = c.0; left_is = l.1; right_is = r.1; closed = closing_read bs r.0 r.0.pos c.0 c.1; same = ok_same c.2 }

  sides_grow : (a b : State) → Short a → (s : SidesSteps a b) → Grown a s.left × Grown s.left s.right
  sides_grow a b short s =
      let g = term_keeps bs 32 a s.left short s.left_is in
      (g, term_keeps bs 32 s.left s.right (g.within short) s.right_is)

  sides_keep : (a b : State) → Short a → sides bs a ≡ Ok b → Grown a b
  sides_keep a b short e =
      let s = sides_steps a b e in
      let g = sides_grow a b short s in
      subst (Grown a) s.same (grown_then a s.left s.right g.0 g.1)

  -- ── Atoms ──

  pub record AtomRead (sign : ℕ) (a b : State) (us : List Tok) : Type 0 where
    pub atom : Atom
    pub toks : List Tok
    pub spelled : (table : List SymbolRow) → Fitting b table → SpellsAtom table atom toks us
    pub appear : Appears a (atom_symbols atom) b
    pub there : Tokens bs a.pos toks
    pub wrote : Wrote a b (atom_words sign atom)

  equation_by : (sign : ℕ) (a b : State) (us : List Tok) (p : ℕ) → TokenRead bs a.pos equals p → Short a
      → (s : SidesSteps (written a p (sign + 512)) b) → Tokens bs b.pos us → AtomRead sign a b us
  equation_by sign a b us p q short s toks =
      let st : State = written a p (sign + 512) in
      let g = sides_grow st b short s in
      let close = token_there bs s.right.pos closes s.end us s.closed (subst (λ (x : State). Tokens bs x.pos us) (sym s.same) toks) in
      let r : TermRead bs 32 s.left s.right (closes ∷ us) = term_read bs 32 s.left s.right (closes ∷ us) (g.0.within short) s.right_is close in
      let l : TermRead bs 32 st s.left r.toks = term_read bs 32 st s.left r.toks short s.left_is r.there in
      let w = wrote_join st s.left s.right (term_words l.term) (term_words r.term) l.wrote r.wrote in
      subst (λ (x : State). AtomRead sign a x us) s.same
      (record {
        atom = equal l.term r.term;
        toks = equals ∷ l.toks;
        spelled = λ table f. an_equation (l.spelled table (fitting_before s.left s.right table g.1 f)) (r.spelled table f);
        appear = appears_then st s.left s.right (term_symbols l.term) (term_symbols r.term) l.wrote.purpose l.appear r.appear;
        there = token_there bs a.pos equals p l.toks q l.there;
        wrote =
            wrote_moved a s.right s.end ((sign + 512) ∷ (term_words l.term ++ term_words r.term))
            (wrote_join a st s.right ((sign + 512) ∷ []) (term_words l.term ++ term_words r.term) (wrote_one a st (sign + 512) refl refl refl) w);
      })

  predicate_by : (sign : ℕ) (a b : State) (us : List Tok) → BodyRead bs 32 (sign + 256) Predicate a b us → AtomRead sign a b us
  predicate_by sign a b us r =
      record {
        atom = predicate r.symbol r.terms;
        toks = word r.run ∷ r.toks;
        spelled = λ table f. an_atom (r.names table f) (r.inner table f);
        appear = r.appear;
        there = r.there;
        wrote = let e : sign + 256 + r.symbol ≡ sign + (256 + r.symbol) = omega arith in subst (λ (x : ℕ). Wrote a b (x ∷ terms_words r.terms)) e r.wrote;
      }

  pub atom_read : (sign : ℕ) (a b : State) (us : List Tok) → Short a → atom bs sign a ≡ Ok b → Tokens bs b.pos us → AtomRead sign a b us
  atom_read sign a b us short e toks =
      let c = bind_ok (from a (lex bs a.pos)) _ b e in
      by c.0 (lift_ok a.symbols a.rows (lex bs a.pos) c.0 c.1) (is_equals c.0.tok) refl c.2
    where
      by : (l : Lexed) → lex bs a.pos ≡ Ok l → (q : Bool) → is_equals l.tok ≡ q
          → cond q (sides bs (written a l.end (sign + 512))) (application bs 32 (sign + 256) Predicate a) ≡ Ok b → AtomRead sign a b us
      by l r true h k =
          equation_by sign a b us l.end (record { lexed = l; read = r; is = equals_is l.tok h; on = refl }) short
          (sides_steps (written a l.end (sign + 512)) b k) toks
      by l r false h k = predicate_by sign a b us (application_read bs 32 (sign + 256) Predicate a b us short k toks)

  pub atom_keeps : (sign : ℕ) (a b : State) → Short a → atom bs sign a ≡ Ok b → Grown a b
  atom_keeps sign a b short e =
      let c = bind_ok (from a (lex bs a.pos)) _ b e in
      by c.0 (is_equals c.0.tok) c.2
    where
      by : (l : Lexed) (q : Bool) → cond q (sides bs (written a l.end (sign + 512))) (application bs 32 (sign + 256) Predicate a) ≡ Ok b → Grown a b
      by l true k = sides_keep (written a l.end (sign + 512)) b short k
      by l false k = application_keeps bs 32 (sign + 256) Predicate a b short k

  -- ── Literals ──

  record NegatedSteps (a b : State) : Type 0 where
    start : ℕ
    last : State
    end : ℕ
    opened : TokenRead bs a.pos opens start
    atom_is : atom bs 1024 (moved a start) ≡ Ok last
    closed : TokenRead bs last.pos closes end
    same : moved last end ≡ b

  negated_steps : (a b : State) → negated bs a ≡ Ok b → NegatedSteps a b
  unfolding negated
  negated_steps a b e =
      let o = bind_ok (from a (opening bs a.pos)) _ b e in
      let l = bind_ok (atom bs 1024 (moved a o.0)) _ b o.2 in
      let c = bind_ok (from l.0 (closing bs l.0.pos)) _ b l.2 in
      record {
        start = o.0;
        last = l.0;
        end = c.0;
        opened = opening_read bs a a.pos o.0 o.1;
        atom_is = l.1;
        closed = closing_read bs l.0 l.0.pos c.0 c.1;
        same = ok_same c.2;
      }

  -- a literal behind its opening bracket
  pub record LiteralRead (a b : State) (us : List Tok) : Type 0 where
    pub literal : Literal
    pub toks : List Tok
    pub spelled : (table : List SymbolRow) → Fitting b table → SpellsLiteral table literal (opens ∷ toks) us
    pub appear : Appears a (atom_symbols literal.atom) b
    pub there : Tokens bs a.pos toks
    pub wrote : Wrote a b (literal_words literal)

  negative_by : (a b : State) (us : List Tok) (p : ℕ) → TokenRead bs a.pos (word (codes "not")) p → Short a → NegatedSteps (moved a p) b → Tokens bs b.pos us
      → LiteralRead a b us
  negative_by a b us p q short s toks =
      let close = token_there bs s.last.pos closes s.end us s.closed (subst (λ (x : State). Tokens bs x.pos us) (sym s.same) toks) in
      let r : AtomRead 1024 (moved a s.start) s.last (closes ∷ us) = atom_read 1024 (moved a s.start) s.last (closes ∷ us) short s.atom_is close in
      subst (λ (x : State). LiteralRead a x us) s.same
      (record {
        literal = record { negated = true; atom = r.atom };
        toks = word (codes "not") ∷ opens ∷ r.toks;
        spelled = λ table f. negative (r.spelled table f);
        appear = r.appear;
        there = token_there bs a.pos (word (codes "not")) p (opens ∷ r.toks) q (token_there bs p opens s.start r.toks s.opened r.there);
        wrote = wrote_moved a s.last s.end (atom_words 1024 r.atom) (wrote_from a s.last s.start (atom_words 1024 r.atom) r.wrote);
      })

  positive_by : (a b : State) (us : List Tok) → AtomRead 0 a b us → LiteralRead a b us
  positive_by a b us r =
      record {
        literal = record { negated = false; atom = r.atom };
        toks = r.toks;
        spelled = λ table f. positive (r.spelled table f);
        appear = r.appear;
        there = r.there;
        wrote = r.wrote;
      }

  pub literal_read : (a b : State) (us : List Tok) → Short a → literal bs a ≡ Ok b → Tokens bs b.pos us → LiteralRead a b us
  unfolding literal
  literal_read a b us short e toks =
      let c = bind_ok (from a (lex bs a.pos)) _ b e in
      by c.0 (lift_ok a.symbols a.rows (lex bs a.pos) c.0 c.1) (is_not c.0.tok) refl c.2
    where
      by : (l : Lexed) → lex bs a.pos ≡ Ok l → (q : Bool) → is_not l.tok ≡ q → cond q (negated bs (moved a l.end)) (atom bs 0 a) ≡ Ok b → LiteralRead a b us
      by l r true h k =
          negative_by a b us l.end (record { lexed = l; read = r; is = not_is l.tok h; on = refl }) short (negated_steps (moved a l.end) b k) toks
      by l r false h k = positive_by a b us (atom_read 0 a b us short k toks)

  pub literal_keeps : (a b : State) → Short a → literal bs a ≡ Ok b → Grown a b
  unfolding literal
  literal_keeps a b short e =
      let c = bind_ok (from a (lex bs a.pos)) _ b e in
      by c.0 (is_not c.0.tok) c.2
    where
      by : (l : Lexed) (q : Bool) → cond q (negated bs (moved a l.end)) (atom bs 0 a) ≡ Ok b → Grown a b
      by l true k =
          let s = negated_steps (moved a l.end) b k in
          subst (Grown a) s.same (atom_keeps 1024 (moved a s.start) s.last short s.atom_is)
      by l false k = atom_keeps 0 a b short k

  -- ── Clauses ──

  pub record LiteralsRead (l : ℕ) (a b : State) (us : List Tok) : Type 0 where
    pub literals : Clause
    pub toks : List Tok
    pub spelled : (table : List SymbolRow) → Fitting b table → SpellsLiterals table literals toks (closes ∷ us)
    pub appear : Appears a (clause_symbols literals) b
    pub there : Tokens bs a.pos toks
    pub wrote : Wrote a b (clause_words literals)
    pub few : length literals ≤ l
    pub grows : Grown a b

  abbrev RestLiterals : ℕ → State → List Tok → Type 0
  RestLiterals l b us = eqb l 0 ≡ false → (c : State) → Short c → literal_list bs l c ≡ Ok b → LiteralsRead (l - 1) c b us

  literals_by : (l : ℕ) (a b : State) (us : List Tok) → Short a → Tokens bs b.pos us → RestLiterals l b us → literal_list bs (suc l) a ≡ Ok b → LiteralsRead l a b us
  literals_by l a b us short toks rest e =
      let c = bind_ok (from a (literal_mark bs (eqb l 0) a.pos)) _ b (sym (literals_suc bs l a) ∙ e) in
      by c.0 (literal_mark_read bs a (eqb l 0) c.0 c.1) c.2
    where
      joined : (c : State) (e : ℕ) (q : MarkRead bs (eqb l 0) a.pos (Opened e)) → Grown a c → (r : LiteralsRead (l - 1) c b us) → LiteralRead (moved a e) c r.toks
          → LiteralsRead l a b us
      joined c e q g r n =
          record {
            literals = n.literal ∷ r.literals;
            toks = opens ∷ n.toks;
            spelled = λ table f. more_literals (n.spelled table (fitting_before c b table r.grows f)) (r.spelled table f);
            appear = appears_then a c b (atom_symbols n.literal.atom) (clause_symbols r.literals) n.wrote.purpose n.appear r.appear;
            there = behind bs a.pos q.lexed opens e n.toks q.read q.is.0 q.is.1 n.there;
            wrote = wrote_join a c b (literal_words n.literal) (clause_words r.literals) (wrote_from a c e (literal_words n.literal) n.wrote) r.wrote;
            few = let h = some l q.is.2 in omega (arith, r.few);
            grows = grown_then a c b g r.grows;
          }

      by : (m : Mark) → MarkRead bs (eqb l 0) a.pos m → mark_turn (literal bs) (literal_list bs l) a m ≡ Ok b → LiteralsRead l a b us
      by (Closed e) q k =
          let same : moved a e ≡ b = ok_same k in
          record {
            literals = [];
            toks = closes ∷ us;
            spelled = λ table f. no_literals;
            appear = subst (Appears a []) same none_more;
            there = behind bs a.pos q.lexed closes e us q.read q.is.0 q.is.1 (subst (λ (x : State). Tokens bs x.pos us) (sym same) toks);
            wrote = subst (λ (x : State). Wrote a x []) same (wrote_none a (moved a e) refl refl refl);
            few = omega arith;
            grows = subst (Grown a) same (stays a.symbols a.rows);
          }
      by (Opened e) q k =
          let c = bind_ok (literal bs (moved a e)) _ b k in
          let g = literal_keeps (moved a e) c.0 short c.1 in
          let r = rest q.is.2 c.0 (g.within short) c.2 in
          joined c.0 e q g r (literal_read (moved a e) c.0 r.toks short c.1 r.there)

  pub literals_read : (l : ℕ) (a b : State) (us : List Tok) → Short a → Tokens bs b.pos us → literal_list bs (suc l) a ≡ Ok b → LiteralsRead l a b us
  literals_read zero a b us short toks e = literals_by zero a b us short toks (λ q. absurd (true≢false q)) e
  literals_read (suc l) a b us short toks e =
      let one_less : l ≡ suc l - 1 = omega arith in
      literals_by (suc l) a b us short toks (λ q c sh k. subst (λ (n : ℕ). LiteralsRead n c b us) one_less (literals_read l c b us sh toks k)) e

  pub record ClauseRead (a b : State) (us : List Tok) : Type 0 where
    pub read : Clause
    pub toks : List Tok
    pub spelled : (table : List SymbolRow) → Fitting b table → SpellsClause table read toks us
    pub appear : Appears a (clause_symbols read) b
    pub there : Tokens bs a.pos toks
    pub wrote : Wrote a b (clause_words read)
    pub grows : Grown a b

  pub clause_read : (a b : State) (us : List Tok) → Short a → clause bs a ≡ Ok b → Tokens bs b.pos us → ClauseRead a b us
  clause_read a b us short e toks =
      let o = bind_ok (from a (opening bs a.pos)) _ b e in
      let w = bind_ok (from a (wording (codes "or") bs o.0)) _ b o.2 in
      let r = literals_read 32 (moved a w.0) b us short toks w.2 in
      record {
        read = r.literals;
        toks = opens ∷ word (codes "or") ∷ r.toks;
        spelled = λ table f. a_clause r.few (r.spelled table f);
        appear = r.appear;
        there =
            token_there bs a.pos opens o.0 (word (codes "or") ∷ r.toks) (opening_read bs a a.pos o.0 o.1)
            (token_there bs o.0 (word (codes "or")) w.0 r.toks (wording_read bs a (codes "or") o.0 w.0 w.1) r.there);
        wrote = wrote_from a b w.0 (clause_words r.literals) r.wrote;
        grows = r.grows;
      }
