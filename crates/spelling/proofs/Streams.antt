-- The tokens of a line from a place on, and the words that are written.
use Rattle.std.proofs.Common.{◌≡◌, ℕ, ◌+◌, List, [], ◌∷◌, ◌++◌, length, set, Ok, Err, sym, ap, ◌∙◌, subst, arith, length-append}
use Rattle.tokens.specs.declared.fault.Fault.TheVariants.{Early}
use Rattle.tokens.specs.Tokens.{Tok, Lexed, lex}
use Rattle.logic.specs.declared.row.SymbolRow.{SymbolRow}
use Rattle.reading.specs.States.{State}
use Rattle.reading.specs.Terms.{with_rows}

pub data Tokens (bs : List ℕ) : ℕ → List Tok → Type 0 where
  stop : {p x : ℕ} → lex bs p ≡ Err (Early x) → Tokens bs p []
  token : {p : ℕ} {ts : List Tok} (l : Lexed) → lex bs p ≡ Ok l → Tokens bs l.end ts → Tokens bs p (l.tok ∷ ts)

-- a token that was found, and those behind it
pub behind : (bs : List ℕ) (p : ℕ) (l : Lexed) (t : Tok) (end : ℕ) (us : List Tok) → lex bs p ≡ Ok l → l.tok ≡ t → end ≡ l.end
    → Tokens bs end us → Tokens bs p (t ∷ us)
behind bs p l t end us e k q h = subst (λ x. Tokens bs p (x ∷ us)) k (token l e (subst (λ x. Tokens bs x us) q h))

-- the store after these words were written from n on; past its end nothing is
abbrev pub pour : List ℕ → ℕ → List ℕ → List ℕ
pour out n [] = out
pour out n (w ∷ ws) = pour (set out n w) (n + 1) ws

-- the words were written between two states
pub record Wrote (a b : State) (ws : List ℕ) : Type 0 where
  pub counted : b.count ≡ a.count + length ws
  pub poured : b.out ≡ pour a.out a.count ws
  pub purpose : b.purpose ≡ a.purpose

pour-append : (out : List ℕ) (n : ℕ) (ws vs : List ℕ) → pour out n (ws ++ vs) ≡ pour (pour out n ws) (n + length ws) vs
pour-append out n [] vs = let e : n ≡ n + 0 = omega arith in ap (λ m. pour out m vs) e
pour-append out n (w ∷ ws) vs =
    let e : n + 1 + length ws ≡ n + length (w ∷ ws) = omega arith in
    pour-append (set out n w) (n + 1) ws vs ∙ ap (λ m. pour (pour (set out n w) (n + 1) ws) m vs) e

pub wrote_join : (a b c : State) (ws vs : List ℕ) → Wrote a b ws → Wrote b c vs → Wrote a c (ws ++ vs)
wrote_join a b c ws vs f g =
    record {
      counted = omega (arith, f.counted, g.counted, length-append ws vs);
      poured = g.poured ∙ (λ i. pour (f.poured i) (f.counted i) vs) ∙ sym (pour-append a.out a.count ws vs);
      purpose = g.purpose ∙ f.purpose;
    }

-- states that differ in place or symbols alone
pub wrote_none : (a b : State) → b.count ≡ a.count → b.out ≡ a.out → b.purpose ≡ a.purpose → Wrote a b []
wrote_none a b e f g = record { counted = omega arith; poured = f; purpose = g }

pub wrote_one : (a b : State) (w : ℕ) → b.count ≡ a.count + 1 → b.out ≡ set a.out a.count w → b.purpose ≡ a.purpose → Wrote a b (w ∷ [])
wrote_one a b w e f g = record { counted = omega arith; poured = f; purpose = g }

-- other rows make no difference
pub wrote_rows : (a b : State) (rows : List SymbolRow) (ws : List ℕ) → Wrote a b ws → Wrote a (with_rows b rows) ws
wrote_rows a b rows ws w = record { counted = w.counted; poured = w.poured; purpose = w.purpose }
