-- The tokens that reading finds from place to place are those that the line has with some spacing.
use Rattle.std.proofs.Common.{◌≡◌, ℕ, suc, ◌+◌, ◌-◌, ◌<◌, ◌≤◌, Bool, true, false, cond, eqb, leb, List, [], ◌∷◌, ◌++◌, length, get_or, take, drop, Ok, Err, Result, sym, refl, ap, ◌∙◌, subst, add-one, one-add, arith, length-drop, drop_of_length-le, drop-cons}
use lib.Seq.{take-append_seam, drop-append_seam}
use Rattle.std.proofs.lemmas.List.{drop-drop, take-append-drop, get_or-drop}
use Rattle.std.proofs.lemmas.Bool.{eqb-true, leb-false, leb-true, le-leb, lt-leb, cond-true, cond-false}
use Rattle.std.specs.List.{prefix_len, AllByRecursion, between}
use Rattle.logic.specs.Names.{name_byte}
use Rattle.tokens.specs.declared.byte.Class.{Class}
use Rattle.tokens.specs.declared.byte.Class.TheVariants.{Space, Run}
use Rattle.tokens.specs.declared.fault.Fault.{Fault}
use Rattle.tokens.specs.declared.fault.Fault.TheVariants.{NoToken, Early}
use Rattle.tokens.specs.Bytes.{within, past}
use Rattle.tokens.specs.Tokens.{Tok, opens, closes, equals, class, Lexed, one_byte, token_at, lex}
use Rattle.tokens.proofs.Pasts.{part_some}
use Rattle.spelling.specs.Spacing.{RunEnds, Spaced, end, space, opening, closing, equality, run}
use Rattle.spelling.proofs.Answers.{ok_same}
use Rattle.spelling.proofs.Streams.{Tokens, stop, token}

-- ── Spaces in front ──

-- how many bytes of a class stand in front, one byte more
more_in_front : (c : Class) (x : ℕ) (xs : List ℕ) → within c x ≡ true → prefix_len (within c) (x ∷ xs) ≡ suc (prefix_len (within c) xs)
more_in_front c x xs e = ap (λ b. cond b (1 + prefix_len (within c) xs) 0) e ∙ one-add _

none_in_front : (c : Class) (x : ℕ) (xs : List ℕ) → within c x ≡ false → prefix_len (within c) (x ∷ xs) ≡ 0
none_in_front c x xs e = ap (λ b. cond b (1 + prefix_len (within c) xs) 0) e

spaces : (xs : List ℕ) (ts : List Tok) → Spaced (drop (prefix_len (within Space) xs) xs) ts → Spaced xs ts
spaces [] ts h = h
spaces (x ∷ xs) ts h = go (within Space x) refl (spaces xs ts)
  where
    go : (b : Bool) → within Space x ≡ b → (Spaced (drop (prefix_len (within Space) xs) xs) ts → Spaced xs ts) → Spaced (x ∷ xs) ts
    go true e inner =
        let is : x ≡ 32 = eqb-true x 32 e in
        subst (λ y. Spaced (y ∷ xs) ts) (sym is) (space (inner (subst (λ n. Spaced (drop n (x ∷ xs)) ts) (more_in_front Space x xs e) h)))
    go false e inner = subst (λ n. Spaced (drop n (x ∷ xs)) ts) (none_in_front Space x xs e) h

-- ── A longest run in front ──

abbrev Longest : List ℕ → ℕ → Type 0
Longest xs n = AllByRecursion (λ b. name_byte b ≡ true) (take n xs) × RunEnds (drop n xs)

runs : (xs : List ℕ) → Longest xs (prefix_len (within Run) xs)
runs [] = (tt, tt)
runs (x ∷ xs) = go (within Run x) refl (runs xs)
  where
    go : (b : Bool) → within Run x ≡ b → Longest xs (prefix_len (within Run) xs) → Longest (x ∷ xs) (prefix_len (within Run) (x ∷ xs))
    go true e inner = subst (Longest (x ∷ xs)) (sym (more_in_front Run x xs e)) ((e, inner.0), inner.1)
    go false e inner = subst (Longest (x ∷ xs)) (sym (none_in_front Run x xs e)) (tt, e)

-- ── What reading finds stands in the line ──

module _ (bs : List ℕ) (s : ℕ) (ts : List Tok) where
  abbrev Stands : Lexed → Type 0
  Stands l = Spaced (drop l.end bs) ts → Spaced (drop s bs) (l.tok ∷ ts)

  one_stands : (b : ℕ) (t : Tok) (l : Lexed) → s < length bs → get_or bs s 0 ≡ b → (Spaced (drop (suc s) bs) ts → Spaced (b ∷ drop (suc s) bs) (t ∷ ts))
      → one_byte t s ≡ Ok l → Stands l
  one_stands b t l lt is make k =
      subst Stands (ok_same k)
      (λ h.
      subst (λ xs. Spaced xs (t ∷ ts)) (sym (drop-cons bs s 0 lt))
      (subst (λ y. Spaced (y ∷ drop (suc s) bs) (t ∷ ts)) (sym is) (make (subst (λ n. Spaced (drop n bs) ts) (add-one s) h))))

  abbrev run_token : Result Lexed Fault
  run_token = Ok (record { tok = class (between s (past Run bs s) bs); place = s; end = past Run bs s })

  run_stands : (l : Lexed) → s < length bs → within Run (get_or bs s 0) ≡ true → run_token ≡ Ok l → Stands l
  run_stands l lt is k =
      let n : ℕ = prefix_len (within Run) (drop s bs) in
      let same : past Run bs s - s ≡ n = omega arith in
      let long = subst (Longest (drop s bs)) (sym same) (runs (drop s bs)) in
      let rest : drop (past Run bs s - s) (drop s bs) ≡ drop (past Run bs s) bs = ap (λ m. drop m (drop s bs)) same ∙ drop-drop n s bs in
      subst Stands (ok_same k)
      (λ h.
      subst (λ xs. Spaced xs (class (between s (past Run bs s) bs) ∷ ts)) (take-append-drop (past Run bs s - s) (drop s bs))
      (run (between s (past Run bs s) bs) (part_some Run bs s lt is) long.0 long.1 (subst (λ xs. Spaced xs ts) (sym rest) h)))

  abbrev pub by_run : Bool → Result Lexed Fault
  by_run q = cond q run_token (Err (NoToken s))

  abbrev pub by_equals : Bool → Result Lexed Fault
  by_equals q = cond q (one_byte equals s) (by_run (within Run (get_or bs s 0)))

  abbrev pub by_close : Bool → Result Lexed Fault
  by_close q = cond q (one_byte closes s) (by_equals (eqb (get_or bs s 0) 61))

  abbrev pub by_open : Bool → Result Lexed Fault
  by_open q = cond q (one_byte opens s) (by_close (eqb (get_or bs s 0) 41))

  abbrev pub by_end : Bool → Result Lexed Fault
  by_end q = cond q (Err (Early (length bs))) (by_open (eqb (get_or bs s 0) 40))

  at_stands : (l : Lexed) → token_at bs s ≡ Ok l → Stands l
  at_stands l = from_end (leb (length bs) s) refl
    where
      from_run : (q : Bool) → s < length bs → within Run (get_or bs s 0) ≡ q → by_run q ≡ Ok l → Stands l
      from_run true lt is k = run_stands l lt is k
      from_run false lt is k = cc

      from_equals : (q : Bool) → s < length bs → eqb (get_or bs s 0) 61 ≡ q → by_equals q ≡ Ok l → Stands l
      from_equals true lt is k = one_stands 61 equals l lt (eqb-true _ _ is) equality k
      from_equals false lt is k = from_run (within Run (get_or bs s 0)) lt refl k

      from_close : (q : Bool) → s < length bs → eqb (get_or bs s 0) 41 ≡ q → by_close q ≡ Ok l → Stands l
      from_close true lt is k = one_stands 41 closes l lt (eqb-true _ _ is) closing k
      from_close false lt is k = from_equals (eqb (get_or bs s 0) 61) lt refl k

      from_open : (q : Bool) → s < length bs → eqb (get_or bs s 0) 40 ≡ q → by_open q ≡ Ok l → Stands l
      from_open true lt is k = one_stands 40 opens l lt (eqb-true _ _ is) opening k
      from_open false lt is k = from_close (eqb (get_or bs s 0) 41) lt refl k

      from_end : (q : Bool) → leb (length bs) s ≡ q → by_end q ≡ Ok l → Stands l
      from_end true e k = cc
      from_end false e k = from_open (eqb (get_or bs s 0) 40) (leb-false _ _ e) refl k

  -- where no token is found for want of bytes, there are none
  at_end : (x : ℕ) → token_at bs s ≡ Err (Early x) → length bs ≤ s
  at_end x = from_end (leb (length bs) s) refl
    where
      never : (r : Result Lexed Fault) → ((y : ℕ) → r ≡ Err (Early y) → ⊥) → r ≡ Err (Early x) → length bs ≤ s
      never r n e = absurd (n x e)

      no_run : (q : Bool) → by_run q ≡ Err (Early x) → ⊥
      no_run true e = cc
      no_run false e = cc

      no_equals : (q : Bool) → by_equals q ≡ Err (Early x) → ⊥
      no_equals true e = cc
      no_equals false e = no_run (within Run (get_or bs s 0)) e

      no_close : (q : Bool) → by_close q ≡ Err (Early x) → ⊥
      no_close true e = cc
      no_close false e = no_equals (eqb (get_or bs s 0) 61) e

      no_open : (q : Bool) → by_open q ≡ Err (Early x) → ⊥
      no_open true e = cc
      no_open false e = no_close (eqb (get_or bs s 0) 41) e

      from_end : (q : Bool) → leb (length bs) s ≡ q → by_end q ≡ Err (Early x) → length bs ≤ s
      from_end true e k = leb-true _ _ e
      from_end false e k = absurd (no_open (eqb (get_or bs s 0) 40) k)

pub tokens_spaced : (bs : List ℕ) (p : ℕ) (ts : List Tok) → Tokens bs p ts → Spaced (drop p bs) ts
unfolding lex
tokens_spaced bs p [] (stop {x = x} e) =
    let n : ℕ = prefix_len (within Space) (drop p bs) in
    let late : length bs ≤ past Space bs p = at_end bs (past Space bs p) [] x e in
    spaces (drop p bs) [] (subst (λ xs. Spaced xs []) (sym (drop-drop n p bs ∙ drop_of_length-le bs late)) end)
tokens_spaced bs p (t ∷ ts) (token l e r) =
    spaces (drop p bs) (l.tok ∷ ts)
    (subst (λ xs. Spaced xs (l.tok ∷ ts)) (sym (drop-drop (prefix_len (within Space) (drop p bs)) p bs)) (at_stands bs (past Space bs p) ts l e (tokens_spaced bs l.end ts r)))

-- ── What stands in the line is found ──

module _ (bs : List ℕ) where
  -- the byte at a place, and those behind it
  byte_at : (p x : ℕ) (xs : List ℕ) → drop p bs ≡ x ∷ xs → (p < length bs) × (get_or bs p 0 ≡ x) × (drop (p + 1) bs ≡ xs)
  byte_at p x xs e =
      let zero_on : p ≡ p + 0 = omega arith in (
        omega (arith, ap length e, length-drop p bs),
        ap (λ n. get_or bs n 0) zero_on ∙ sym (get_or-drop p bs 0 0) ∙ ap (λ ys. get_or ys 0 0) e,
        ap (λ n. drop n bs) (omega arith) ∙ sym (drop-drop 1 p bs) ∙ ap (drop 1) e,
      )

  -- no space in front: the token begins here
  here : (p x : ℕ) (xs : List ℕ) → drop p bs ≡ x ∷ xs → eqb x 32 ≡ false → lex bs p ≡ token_at bs p
  unfolding lex
  here p x xs e f =
      let same : past Space bs p ≡ p = omega (arith, ap (prefix_len (within Space)) e ∙ none_in_front Space x xs f) in
      ap (token_at bs) same

  inside : (p x : ℕ) (xs : List ℕ) → drop p bs ≡ x ∷ xs → leb (length bs) p ≡ false
  inside p x xs e = lt-leb (length bs) p (byte_at p x xs e).0

  same_tokens : (p q : ℕ) (ts : List Tok) → lex bs p ≡ lex bs q → Tokens bs q ts → Tokens bs p ts
  same_tokens p q [] e (stop f) = stop (e ∙ f)
  same_tokens p q (t ∷ ts) e (token l f r) = token l (e ∙ f) r

  space_skipped : (p : ℕ) (xs : List ℕ) → drop p bs ≡ 32 ∷ xs → lex bs p ≡ lex bs (p + 1)
  unfolding lex
  space_skipped p xs e =
      let b = byte_at p 32 xs e in
      let f : prefix_len (within Space) (drop p bs) ≡ suc (prefix_len (within Space) xs) = ap (prefix_len (within Space)) e ∙ more_in_front Space 32 xs refl in
      let g : prefix_len (within Space) (drop (p + 1) bs) ≡ prefix_len (within Space) xs = ap (prefix_len (within Space)) b.2 in
      let same : past Space bs p ≡ past Space bs (p + 1) = omega arith in
      ap (token_at bs) same

  one_found : (p x : ℕ) (xs : List ℕ) (t : Tok) (ts : List Tok) → drop p bs ≡ x ∷ xs → lex bs p ≡ one_byte t p → Tokens bs (p + 1) ts → Tokens bs p (t ∷ ts)
  one_found p x xs t ts e f r = token (record { tok = t; place = p; end = p + 1 }) f r

  -- the bytes of a run are none of the others
  other_than : (b x : ℕ) → name_byte x ≡ false → name_byte b ≡ true → eqb b x ≡ false
  other_than b x f e = by (eqb b x) refl
    where
      by : (q : Bool) → eqb b x ≡ q → q ≡ false
      by true h = let same : b ≡ x = eqb-true b x h in let z : true ≡ false = sym e ∙ ap name_byte same ∙ f in z
      by false h = refl

  leading_run : (r rest : List ℕ) → AllByRecursion (λ b. name_byte b ≡ true) r → RunEnds rest → prefix_len (within Run) (r ++ rest) ≡ length r
  leading_run [] [] a ends = refl
  leading_run [] (x ∷ rest) a ends = none_in_front Run x rest ends
  leading_run (b ∷ r) rest a ends = more_in_front Run b (r ++ rest) a.0 ∙ ap suc (leading_run r rest a.1 ends)

  run_found : (p b : ℕ) (r rest : List ℕ) (ts : List Tok) → drop p bs ≡ (b ∷ r) ++ rest → AllByRecursion (λ b. name_byte b ≡ true) (b ∷ r) → RunEnds rest
      → Tokens bs (p + length (b ∷ r)) ts → Tokens bs p (class (b ∷ r) ∷ ts)
  run_found p b r rest ts e a ends there =
      let at = byte_at p b (r ++ rest) e in
      let is_b : get_or bs p 0 ≡ b = at.1 in
      let long : past Run bs p ≡ p + length (b ∷ r) = ap (λ n. p + n) (ap (prefix_len (within Run)) e ∙ leading_run (b ∷ r) rest a ends) in
      let many : p + length (b ∷ r) - p ≡ length (b ∷ r) = omega arith in
      let whole : between p (past Run bs p) bs ≡ b ∷ r =
      ap (λ n. take (n - p) (drop p bs)) long ∙ ap (λ n. take n (drop p bs)) many ∙ ap (take (length (b ∷ r))) e ∙ take-append_seam (b ∷ r) rest in
      let found : lex bs p ≡ Ok (record { tok = class (between p (past Run bs p) bs); place = p; end = past Run bs p }) =
      here p b (r ++ rest) e (other_than b 32 refl a.0)
      ∙ cond-false (leb (length bs) p) (Err (Early (length bs))) (by_open bs p ts (eqb (get_or bs p 0) 40)) (inside p b (r ++ rest) e)
      ∙ cond-false (eqb (get_or bs p 0) 40) (one_byte opens p) (by_close bs p ts (eqb (get_or bs p 0) 41)) (ap (λ y. eqb y 40) is_b ∙ other_than b 40 refl a.0)
      ∙ cond-false (eqb (get_or bs p 0) 41) (one_byte closes p) (by_equals bs p ts (eqb (get_or bs p 0) 61)) (ap (λ y. eqb y 41) is_b ∙ other_than b 41 refl a.0)
      ∙ cond-false (eqb (get_or bs p 0) 61) (one_byte equals p) (by_run bs p ts (within Run (get_or bs p 0))) (ap (λ y. eqb y 61) is_b ∙ other_than b 61 refl a.0)
      ∙ cond-true (within Run (get_or bs p 0)) (run_token bs p ts) (Err (NoToken p)) (ap name_byte is_b ∙ a.0) in
      subst (λ t. Tokens bs p (t ∷ ts)) (ap class whole)
      (token (record { tok = class (between p (past Run bs p) bs); place = p; end = past Run bs p }) found (subst (λ n. Tokens bs n ts) (sym long) there))

  ended_here : (p : ℕ) → drop p bs ≡ [] → lex bs p ≡ Err (Early (length bs))
  unfolding lex
  ended_here p e =
      let late : length bs ≤ p = omega (arith, length-drop p bs, ap length e) in
      let same : past Space bs p ≡ p = omega (arith, ap (prefix_len (within Space)) e) in
      ap (token_at bs) same ∙ cond-true (leb (length bs) p) (Err (Early (length bs))) (by_open bs p [] (eqb (get_or bs p 0) 40)) (le-leb (length bs) p late)

  pub spaced_tokens : {xs : List ℕ} {ts : List Tok} → Spaced xs ts → (p : ℕ) → drop p bs ≡ xs → Tokens bs p ts
  spaced_tokens (end) p e = stop (ended_here p e)
  spaced_tokens (space {bs = xs} {ts = ts} h) p e = same_tokens p (p + 1) ts (space_skipped p xs e) (spaced_tokens h (p + 1) (byte_at p 32 xs e).2)
  spaced_tokens (opening {bs = xs} {ts = ts} h) p e =
      one_found p 40 xs opens ts e
      (here p 40 xs e refl ∙ cond-false (leb (length bs) p) (Err (Early (length bs))) (by_open bs p ts (eqb (get_or bs p 0) 40)) (inside p 40 xs e)
      ∙ ap (by_open bs p ts) (ap (λ y. eqb y 40) (byte_at p 40 xs e).1))
      (spaced_tokens h (p + 1) (byte_at p 40 xs e).2)
  spaced_tokens (closing {bs = xs} {ts = ts} h) p e =
      one_found p 41 xs closes ts e
      (here p 41 xs e refl ∙ cond-false (leb (length bs) p) (Err (Early (length bs))) (by_open bs p ts (eqb (get_or bs p 0) 40)) (inside p 41 xs e)
      ∙ ap (by_open bs p ts) (ap (λ y. eqb y 40) (byte_at p 41 xs e).1) ∙ ap (by_close bs p ts) (ap (λ y. eqb y 41) (byte_at p 41 xs e).1))
      (spaced_tokens h (p + 1) (byte_at p 41 xs e).2)
  spaced_tokens (equality {bs = xs} {ts = ts} h) p e =
      one_found p 61 xs equals ts e
      (here p 61 xs e refl ∙ cond-false (leb (length bs) p) (Err (Early (length bs))) (by_open bs p ts (eqb (get_or bs p 0) 40)) (inside p 61 xs e)
      ∙ ap (by_open bs p ts) (ap (λ y. eqb y 40) (byte_at p 61 xs e).1) ∙ ap (by_close bs p ts) (ap (λ y. eqb y 41) (byte_at p 61 xs e).1)
      ∙ ap (by_equals bs p ts) (ap (λ y. eqb y 61) (byte_at p 61 xs e).1))
      (spaced_tokens h (p + 1) (byte_at p 61 xs e).2)
  spaced_tokens (run {bs = xs} {ts = ts} [] some a ends h) p e = absurd (omega arith)
  spaced_tokens (run {bs = xs} {ts = ts} (b ∷ r) some a ends h) p e =
      run_found p b r xs ts e a ends
      (spaced_tokens h (p + length (b ∷ r))
      (ap (λ n. drop n bs) (omega arith) ∙ sym (drop-drop (length (b ∷ r)) p bs) ∙ ap (drop (length (b ∷ r))) e ∙ drop-append_seam (b ∷ r) xs))
