-- Runs in form are read, a name of the table is met as its symbol, and its arity is settled.
use Rattle.std.proofs.Common.{◌≡◌, ℕ, ◌+◌, ◌<◌, ◌≤◌, true, cond, ◌&&◌, eqb, ltb, leb, ◌⊎◌, List, ◌∷◌, length, get_or, take, set, Some, None, Ok, Err, sym, refl, ap, ◌∙◌, subst, ap₂, inl, inr, arith, length-set}
use Rattle.std.proofs.lemmas.Bool.{cond-true, cond-false, cases_eq, cases_lt, lt-ltb, le-ltb, le-leb, eq-eqb, and_from}
use Rattle.logic.specs.Limits as limits
use Rattle.logic.specs.Names.{letter}
use Rattle.logic.specs.declared.row.SymbolRow.{SymbolRow}
use Rattle.logic.specs.declared.row.Kind.{Kind}
use Rattle.logic.specs.declared.row.Kind.TheVariants.{Function, Predicate}
use Rattle.logic.specs.Symbols.{row_at, name_of, same_kind}
use Rattle.logic.specs.Directory.{place_of_name}
use Rattle.tokens.specs.declared.fault.Fault.TheVariants.{Due, Long, Form, OtherKind, OtherArity, Unknown, ManySymbols}
use Rattle.tokens.specs.Tokens.{word}
use Rattle.tokens.specs.Forms.{decimal, value, in_form, reserved, name_in_form, symbol_form}
use Rattle.reading.specs.declared.purpose.Purpose.{Purpose}
use Rattle.reading.specs.States.{halt, enters}
use Rattle.reading.specs.Entering.{new_row, with_arity, known, meet, settle}
use Rattle.spelling.specs.Appearance.{PlainRow, Appear, known as is_Known, next}
use Rattle.spelling.specs.Grammar.{Numeral, SymbolName, Names}
use Rattle.spelling.proofs.Tables.{RowGrows, same_kinded, Fits, among, not_among, within_table, others_stay, set_here}

-- ── Forms ──

pub numeral_goes : (run figures : List ℕ) (most n at : ℕ) → Numeral run figures most n → in_form run figures most at ≡ Ok n
numeral_goes run figures most n at m =
    cond-false (ltb limits.name_bytes (length run)) (Err (Long at)) _ (le-ltb limits.name_bytes (length run) m.short)
    ∙ cond-true (decimal figures && leb (value figures) most) (Ok (value figures)) (Err (Form at))
    (and_from (decimal figures) (leb (value figures) most) m.plain (le-leb (value figures) most (subst (λ (x : ℕ). x ≤ most) (sym m.worth) m.small)))
    ∙ ap Ok m.worth

pub name_goes : (r : List ℕ) (at : ℕ) → SymbolName r → symbol_form (word r) at ≡ Ok r
name_goes r at s =
    cond-false (reserved r) (Err (Due at)) (name_in_form r at) s.free
    ∙ cond-false (ltb limits.name_bytes (length r)) (Err (Long at)) _ (le-ltb limits.name_bytes (length r) s.short)
    ∙ cond-true (letter (get_or r 0 0)) (Ok r) (Err (Form at)) s.lettered

kind_same : (k : Kind) → same_kind k k ≡ true
kind_same Function = refl
kind_same Predicate = refl

-- ── A table that is to come ──

-- rows that are settled and few, and plain from the first new one on
pub record Final (first : ℕ) (table : List SymbolRow) : Type 0 where
  pub settled : (k : ℕ) → k < length table → (row_at table k).arity ≤ 4
  pub few : length table ≤ 256
  pub plain : (k : ℕ) → first ≤ k → k < length table → PlainRow (row_at table k)

module _ (first : ℕ) (table : List SymbolRow) (final : Final first table) where
  -- the symbols that are met, as they go into the table
  pub record MetToward (p : Purpose) (n : ℕ) (rows : List SymbolRow) (k : Kind) (name : List ℕ) (at s : ℕ) (ss : List ℕ) (m : ℕ) : Type 0 where
    pub symbols : ℕ
    pub after : List SymbolRow
    pub goes : meet p k name at n rows ≡ Ok (record { symbol = s; symbols = symbols; rows = after })
    pub fits : Fits symbols after table
    pub appear : Appear (enters p) symbols ss m
    pub long : length after ≡ length rows
    pub more : n ≤ symbols
    pub below : s < symbols

  meet_old : (p : Purpose) (n : ℕ) (rows : List SymbolRow) (k : Kind) (name : List ℕ) (at s : ℕ) (ss : List ℕ) (m a : ℕ) → n ≤ length rows → Fits n rows table
      → Names table name s k a → s < n → Appear (enters p) n ss m → MetToward p n rows k name at s ss m
  meet_old p n rows k name at s ss m a short f names lt rest =
      let found : place_of_name (take n rows) name ≡ Some s = among name n rows table short f s names.first lt in
      let kind : (row_at rows s).kind ≡ k = sym (same_kinded (row_at rows s) (row_at table s) (f.kept s lt)) ∙ names.kind in
      record {
        symbols = n;
        after = rows;
        goes =
            ap (known p k name at n rows) found
            ∙ cond-true (same_kind (row_at rows s).kind k) (Ok (record { symbol = s; symbols = n; rows = rows })) (Err (halt (OtherKind at) n rows))
            (ap (λ (x : Kind). same_kind x k) kind ∙ kind_same k);
        fits = f;
        appear = rest;
        long = refl;
        more = omega arith;
        below = lt;
      }

  -- the new row becomes the table's
  new_becomes : (n : ℕ) (k : Kind) (name : List ℕ) → first ≤ n → n < length table → name_of (row_at table n) ≡ name → (row_at table n).kind ≡ k
      → RowGrows (new_row name k) (row_at table n)
  new_becomes n k name ge lt named kind =
      record {
        shape = ap (λ (r : SymbolRow). with_arity r 0) (final.plain n ge lt) ∙ ap₂ (λ (x : List ℕ) (y : Kind). with_arity (new_row x y) 0) named kind;
        fixed = λ h. absurd (omega arith);
      }

  fits_new : (n : ℕ) (rows : List SymbolRow) (k : Kind) (name : List ℕ) → first ≤ n → n < length table → n < length rows → Fits n rows table
      → name_of (row_at table n) ≡ name → (row_at table n).kind ≡ k → Fits (n + 1) (set rows n (new_row name k)) table
  fits_new n rows k name ge lt room f named kind =
      record {
        enough = omega arith;
        settled = f.settled;
        kept = λ j h. elim (cases_eq j n) [
          | inl e ↦ subst (λ (x : ℕ). RowGrows (row_at (set rows n (new_row name k)) x) (row_at table x)) (sym e)
              (subst (λ (r : SymbolRow). RowGrows r (row_at table n)) (sym (set_here rows n (new_row name k) room)) (new_becomes n k name ge lt named kind))
          | inr d ↦ subst (λ (r : SymbolRow). RowGrows r (row_at table j)) (sym (others_stay rows n (new_row name k) j d)) (f.kept j (omega arith))
        ];
      }

  meet_new : (p : Purpose) (n : ℕ) (rows : List SymbolRow) (k : Kind) (name : List ℕ) (at : ℕ) (ss : List ℕ) (m a : ℕ) → first ≤ n → n ≤ length rows
      → length table ≤ length rows → Fits n rows table → Names table name n k a → enters p ≡ true → Appear (enters p) (n + 1) ss m → MetToward p n rows k name at n ss m
  meet_new p n rows k name at ss m a ge short room f names may rest =
      let found : place_of_name (take n rows) name ≡ None = not_among name n rows table short f n names.first (omega arith) in
      let in_table = within_table name table n names.first in
      record {
        symbols = n + 1;
        after = set rows n (new_row name k);
        goes =
            ap (known p k name at n rows) found
            ∙ cond-true (enters p) _ (Err (halt (Unknown at) n rows)) may
            ∙ cond-true (ltb n limits.symbols && ltb n (length rows)) (Ok (record { symbol = n; symbols = n + 1; rows = set rows n (new_row name k) })) (Err (halt (ManySymbols at) n rows))
            (and_from (ltb n limits.symbols) (ltb n (length rows)) (lt-ltb n limits.symbols (omega (arith, in_table.0, final.few))) (lt-ltb n (length rows) (omega (arith, in_table.0))));
        fits = fits_new n rows k name ge in_table.0 (omega (arith, in_table.0)) f in_table.1 names.kind;
        appear = rest;
        long = length-set rows n (new_row name k);
        more = omega arith;
        below = omega arith;
      }

  pub meet_goes : (p : Purpose) (n : ℕ) (rows : List SymbolRow) (k : Kind) (name : List ℕ) (at s : ℕ) (ss : List ℕ) (m a : ℕ) → first ≤ n → n ≤ length rows
      → length table ≤ length rows → Fits n rows table → Names table name s k a → Appear (enters p) n (s ∷ ss) m → MetToward p n rows k name at s ss m
  meet_goes p n rows k name at s ss m a ge short room f names (is_Known lt rest) = meet_old p n rows k name at s ss m a short f names lt rest
  meet_goes p n rows k name at s ss m a ge short room f names (next may rest) = meet_new p n rows k name at ss m a ge short room f names may rest

  -- ── The arity ──

  pub record SettledToward (n s given at : ℕ) (rows : List SymbolRow) : Type 0 where
    pub after : List SymbolRow
    pub goes : settle rows s given at ≡ Ok after
    pub fits : Fits n after table
    pub long : length after ≡ length rows

  pub settle_goes : (n s given at : ℕ) (rows : List SymbolRow) → s < n → n ≤ length rows → Fits n rows table → (row_at table s).arity ≡ given → SettledToward n s given at rows
  settle_goes n s given at rows lt short f a = by (cases_lt limits.arguments (row_at rows s).arity)
    where
      g : RowGrows (row_at rows s) (row_at table s)
      g = f.kept s lt

      becomes : row_at table s ≡ with_arity (row_at rows s) given
      becomes = ap (with_arity (row_at table s)) a ∙ ap (λ (r : SymbolRow). with_arity r given) g.shape

      by : (limits.arguments < (row_at rows s).arity) ⊎ ((row_at rows s).arity ≤ limits.arguments) → SettledToward n s given at rows
      by (inl open-still) =
          let new : SymbolRow = with_arity (row_at rows s) given in
          record {
            after = set rows s new;
            goes = cond-true (ltb limits.arguments (row_at rows s).arity) (Ok (set rows s new)) _ (lt-ltb limits.arguments (row_at rows s).arity open-still);
            fits =
                record {
                  enough = f.enough;
                  settled = f.settled;
                  kept = λ j h. elim (cases_eq j s) [
                    | inl e ↦ subst (λ (x : ℕ). RowGrows (row_at (set rows s new) x) (row_at table x)) (sym e)
                        (subst (λ (r : SymbolRow). RowGrows r (row_at table s)) (sym (set_here rows s new (omega arith)))
                        (record { shape = ap (λ (r : SymbolRow). with_arity r 0) becomes; fixed = λ q. becomes }))
                    | inr d ↦ subst (λ (r : SymbolRow). RowGrows r (row_at table j)) (sym (others_stay rows s new j d)) (f.kept j h)
                  ];
                };
            long = length-set rows s new;
          }
      by (inr fixed) =
          let same : (row_at rows s).arity ≡ given = sym (ap (λ (r : SymbolRow). r.arity) (g.fixed fixed)) ∙ a in
          record {
            after = rows;
            goes =
                cond-false (ltb limits.arguments (row_at rows s).arity) _ (cond (eqb (row_at rows s).arity given) (Ok rows) (Err (OtherArity at))) (le-ltb limits.arguments (row_at rows s).arity fixed)
                ∙ cond-true (eqb (row_at rows s).arity given) (Ok rows) (Err (OtherArity at)) (eq-eqb (row_at rows s).arity given same);
            fits = f;
            long = refl;
          }
