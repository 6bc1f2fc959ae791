-- How the symbol table grows while a line is read, and the tables that it may grow into.
use Rattle.std.proofs.Common.{◌≡◌, ℕ, ◌+◌, ◌-◌, ◌<◌, ◌≤◌, Bool, true, ◌≢◌, List, length, get_or, take, set, replicate, Some, None, Decides, Option, sym, refl, ap, ◌∙◌, subst, ap₂, inl, inr, arith, length-set}
use lib.Seq.{take-append_seam}
use Rattle.std.proofs.lemmas.List.{get_or-set_same, get_or-set_other, get_or-take, get_or_default, length-take-le}
use Rattle.std.proofs.lemmas.Slice.Eq.{bytes_eq-Decides}
use Rattle.std.proofs.lemmas.Bool.{cases_lt, cases_eq, false_from_ne_true}
use Rattle.logic.specs.declared.row.SymbolRow.{SymbolRow}
use Rattle.logic.specs.declared.row.Kind.{Kind}
use Rattle.logic.specs.Symbols.{row_at, name_of, no_row}
use Rattle.logic.specs.Directory.{FirstPlace, has_name, place_of_name}
use Rattle.logic.proofs.Firsts.{first_none, first_some, first_place}
use Rattle.reading.specs.Entering.{new_row, with_arity}
use Rattle.spelling.specs.Appearance.{PlainRow}

-- ── One row ──

-- a row becomes another: only an arity that was open may change
pub record RowGrows (r r' : SymbolRow) : Type 0 where
  pub shape : with_arity r' 0 ≡ with_arity r 0
  pub fixed : r.arity ≤ 4 → r' ≡ r

pub same_named : (r r' : SymbolRow) → RowGrows r r' → name_of r' ≡ name_of r
same_named r r' g = ap name_of g.shape

pub same_kinded : (r r' : SymbolRow) → RowGrows r r' → r'.kind ≡ r.kind
same_kinded r r' g = ap (λ (x : SymbolRow). x.kind) g.shape

pub row_stays : (r : SymbolRow) → RowGrows r r
row_stays r = record { shape = refl; fixed = λ h. refl }

pub row_then : (a b c : SymbolRow) → RowGrows a b → RowGrows b c → RowGrows a c
row_then a b c f g =
    record {
      shape = g.shape ∙ f.shape;
      fixed = λ h. g.fixed (subst (λ (r : SymbolRow). r.arity ≤ 4) (sym (f.fixed h)) h) ∙ f.fixed h;
    }

-- the name of a new row
pub new_name : (name : List ℕ) (k : Kind) → name_of (new_row name k) ≡ name
new_name name k = take-append_seam name (replicate (16 - length name) 0)

-- a row that is a new row but for its arity is plain
pub plain_from : (name : List ℕ) (k : Kind) (r : SymbolRow) → with_arity r 0 ≡ with_arity (new_row name k) 0 → PlainRow r
plain_from name k r e =
    let named : name_of r ≡ name = ap name_of e ∙ new_name name k in
    let kinded : r.kind ≡ k = ap (λ (x : SymbolRow). x.kind) e in
    ap (λ (x : SymbolRow). with_arity x r.arity) e ∙ ap₂ (λ (x : List ℕ) (y : Kind). with_arity (new_row x y) r.arity) (sym named) (sym kinded)

-- ── The table ──

-- from n symbols in these rows to m in those: the rows of the n grow, the new ones are settled, the others stay
pub record Grows (n : ℕ) (rows : List SymbolRow) (m : ℕ) (rows' : List SymbolRow) : Type 0 where
  pub more : n ≤ m
  pub long : length rows' ≡ length rows
  pub kept : (k : ℕ) → k < n → RowGrows (row_at rows k) (row_at rows' k)
  pub fresh : (k : ℕ) → n ≤ k → k < m → (row_at rows' k).arity ≤ 4
  pub beyond : (k : ℕ) → m ≤ k → row_at rows' k ≡ row_at rows k
  pub within : n ≤ length rows → m ≤ length rows'
  pub few : n ≤ 256 → m ≤ 256
  pub plain : (k : ℕ) → n ≤ k → k < m → PlainRow (row_at rows' k)

pub stays : (n : ℕ) (rows : List SymbolRow) → Grows n rows n rows
stays n rows =
    record {
      more = omega arith;
      long = refl;
      kept = λ k h. row_stays (row_at rows k);
      fresh = λ k h l. absurd (omega arith);
      beyond = λ k h. refl;
      within = λ h. h;
      few = λ h. h;
      plain = λ k h l. absurd (omega arith);
    }

pub grows_then : (n : ℕ) (r : List SymbolRow) (m : ℕ) (s : List SymbolRow) (l : ℕ) (t : List SymbolRow) → Grows n r m s → Grows m s l t → Grows n r l t
grows_then n r m s l t f g =
    record {
      more = omega (arith, f.more, g.more);
      long = g.long ∙ f.long;
      kept = λ k h. row_then (row_at r k) (row_at s k) (row_at t k) (f.kept k h) (g.kept k (omega (arith, f.more)));
      fresh = λ k h q.
          elim (cases_lt k m) [
            | inl lt ↦ subst (λ (x : SymbolRow). x.arity ≤ 4) (sym ((g.kept k lt).fixed (f.fresh k h lt))) (f.fresh k h lt)
            | inr ge ↦ g.fresh k ge q
          ];
      beyond = λ k h. g.beyond k h ∙ f.beyond k (omega (arith, g.more));
      within = λ h. g.within (f.within h);
      few = λ h. g.few (f.few h);
      plain = λ k h q.
          elim (cases_lt k m) [
            | inl lt ↦ subst PlainRow (sym ((g.kept k lt).fixed (f.fresh k h lt))) (f.plain k h lt)
            | inr ge ↦ g.plain k ge q
          ];
    }

-- ── A table that these rows may still become ──

-- the table has at least n rows, all settled, and the n rows grow into its first
pub record Fits (n : ℕ) (rows table : List SymbolRow) : Type 0 where
  pub enough : n ≤ length table
  pub settled : (k : ℕ) → k < length table → (row_at table k).arity ≤ 4
  pub kept : (k : ℕ) → k < n → RowGrows (row_at rows k) (row_at table k)

pub fits_before : (n : ℕ) (r : List SymbolRow) (m : ℕ) (s table : List SymbolRow) → Grows n r m s → Fits m s table → Fits n r table
fits_before n r m s table g f =
    record {
      enough = omega (arith, g.more, f.enough);
      settled = f.settled;
      kept = λ k h. row_then (row_at r k) (row_at s k) (row_at table k) (g.kept k h) (f.kept k (omega (arith, g.more)));
    }

-- ── Names ──

pub name_decides : (name : List ℕ) (row : SymbolRow) → Decides (has_name row name) (name_of row ≡ name)
name_decides name row = bytes_eq-Decides (name_of row) name

module _ (name : List ℕ) where
  abbrev Named : SymbolRow → Type 0
  Named row = name_of row ≡ name

  -- what the search says of a list of rows
  sought : (rows : List SymbolRow) (r : Option ℕ) → place_of_name rows name ≡ r → FirstPlace Named rows r
  sought rows r e = subst (FirstPlace Named rows) e (first_place (λ row. has_name row name) Named (name_decides name) rows)

  -- the row at s has the name, and none before it
  pub found_at : (rows : List SymbolRow) (s : ℕ) → s < length rows → Named (row_at rows s) → ((k : ℕ) → k < s → Named (row_at rows k) → ⊥)
      → place_of_name rows name ≡ Some s
  found_at rows s lt here before =
      first_some (λ row. has_name row name) rows s no_row lt ((name_decides name (row_at rows s)).1 here)
      (λ k d h.
      false_from_ne_true (has_name (get_or rows k d) name)
      (λ t. before k h (ap name_of (get_or_default rows k no_row d (omega arith)) ∙ (name_decides name (get_or rows k d)).0 t)))

  pub found_none : (rows : List SymbolRow) → ((k : ℕ) → k < length rows → Named (row_at rows k) → ⊥) → place_of_name rows name ≡ None
  found_none rows before =
      first_none (λ row. has_name row name) rows
      (λ k d h.
      false_from_ne_true (has_name (get_or rows k d) name)
      (λ t. before k h (ap name_of (get_or_default rows k no_row d h) ∙ (name_decides name (get_or rows k d)).0 t)))

  module _ (n : ℕ) (rows table : List SymbolRow) (short : n ≤ length rows) (f : Fits n rows table) where
    same_name : (k : ℕ) → k < n → name_of (row_at table k) ≡ name_of (row_at (take n rows) k)
    same_name k h = same_named (row_at rows k) (row_at table k) (f.kept k h) ∙ ap name_of (sym (get_or-take n rows k no_row h))

    -- a name among the first n stands at the same place of the table
    pub known_in : (s : ℕ) → place_of_name (take n rows) name ≡ Some s → (s < n) × (place_of_name table name ≡ Some s)
    known_in s e =
        let p = sought (take n rows) (Some s) e in
        let lt : s < n = omega (arith, p.0, length-take-le n rows short) in
        (lt, found_at table s (omega (arith, f.enough)) (same_name s lt ∙ p.1 no_row) (λ k h t. p.2 k no_row h (sym (same_name k (omega arith)) ∙ t)))

    -- a name that is not among them, and that the table has next, stands there
    pub next_in : place_of_name (take n rows) name ≡ None → n < length table → Named (row_at table n) → place_of_name table name ≡ Some n
    next_in e lt here =
        let p = sought (take n rows) None e in
        found_at table n lt here (λ k h t. p k no_row (omega (arith, length-take-le n rows short)) (sym (same_name k h) ∙ t))

    -- the other way: a name of the table is found among the first n, or not at all
    pub among : (s : ℕ) → place_of_name table name ≡ Some s → s < n → place_of_name (take n rows) name ≡ Some s
    among s e lt =
        let p = sought table (Some s) e in
        found_at (take n rows) s (omega (arith, length-take-le n rows short)) (sym (same_name s lt) ∙ p.1 no_row)
        (λ k h t. p.2 k no_row h (same_name k (omega arith) ∙ t))

    pub not_among : (s : ℕ) → place_of_name table name ≡ Some s → n ≤ s → place_of_name (take n rows) name ≡ None
    not_among s e ge =
        let p = sought table (Some s) e in
        found_none (take n rows) (λ k h t. let lt : k < n = omega (arith, length-take-le n rows short) in p.2 k no_row (omega arith) (same_name k lt ∙ t))

  pub within_table : (table : List SymbolRow) (s : ℕ) → place_of_name table name ≡ Some s → (s < length table) × (name_of (row_at table s) ≡ name)
  within_table table s e = let p = sought table (Some s) e in (p.0, p.1 no_row)

pub found_below : (name : List ℕ) (n : ℕ) (rows : List SymbolRow) (s : ℕ) → n ≤ length rows → place_of_name (take n rows) name ≡ Some s → s < n
found_below name n rows s short e = omega (arith, (within_table name (take n rows) s e).0, length-take-le n rows short)

-- ── A symbol is met ──

-- a known symbol leaves the table; a new one is the next row, its arity open
pub data MetAs (may : Bool) (n : ℕ) (rows : List SymbolRow) (name : List ℕ) (k : Kind) : ℕ → ℕ → List SymbolRow → Type 0 where
  old : {s : ℕ} → s < n → place_of_name (take n rows) name ≡ Some s → (row_at rows s).kind ≡ k → MetAs may n rows name k s n rows
  new :
      may ≡ true → place_of_name (take n rows) name ≡ None → n < length rows → n < 256
      → MetAs may n rows name k n (n + 1) (set rows n (new_row name k))

-- the rows but one
pub others_stay : (rows : List SymbolRow) (s : ℕ) (r : SymbolRow) (k : ℕ) → k ≢ s → row_at (set rows s r) k ≡ row_at rows k
others_stay rows s r k h = get_or-set_other rows s k r no_row h

pub set_here : (rows : List SymbolRow) (s : ℕ) (r : SymbolRow) → s < length rows → row_at (set rows s r) s ≡ r
set_here rows s r h = get_or-set_same rows s r no_row h

-- ── An application as a whole: a symbol is met, arguments are read, the arity is settled ──

module _ (may : Bool) (n : ℕ) (rows : List SymbolRow) (name : List ℕ) (k : Kind) where
  pub application_grows : (s m l : ℕ) (rows₁ rows₂ rows₃ : List SymbolRow) → MetAs may n rows name k s m rows₁ → Grows m rows₁ l rows₂
      → length rows₃ ≡ length rows₂ → RowGrows (row_at rows₂ s) (row_at rows₃ s) → (row_at rows₃ s).arity ≤ 4
      → ((j : ℕ) → j ≢ s → row_at rows₃ j ≡ row_at rows₂ j) → Grows n rows l rows₃
  application_grows s m l rows₁ rows₂ rows₃ met g long here settled others = go s m rows₁ met g here settled others
    where
      still : (s : ℕ) → RowGrows (row_at rows₂ s) (row_at rows₃ s) → ((j : ℕ) → j ≢ s → row_at rows₃ j ≡ row_at rows₂ j) → (j : ℕ) → RowGrows (row_at rows₂ j) (row_at rows₃ j)
      still s here others j = elim (cases_eq j s) [
        | inl e ↦ subst (λ (x : ℕ). RowGrows (row_at rows₂ x) (row_at rows₃ x)) (sym e) here
        | inr d ↦ subst (RowGrows (row_at rows₂ j)) (sym (others j d)) (row_stays (row_at rows₂ j))
      ]

      go : (s m : ℕ) (rows₁ : List SymbolRow) → MetAs may n rows name k s m rows₁ → Grows m rows₁ l rows₂ → RowGrows (row_at rows₂ s) (row_at rows₃ s)
          → (row_at rows₃ s).arity ≤ 4 → ((j : ℕ) → j ≢ s → row_at rows₃ j ≡ row_at rows₂ j) → Grows n rows l rows₃
      go s m rows₁ (old lt at is) g here settled others =
          record {
            more = g.more;
            long = long ∙ g.long;
            kept = λ j h. row_then (row_at rows j) (row_at rows₂ j) (row_at rows₃ j) (g.kept j h) (still s here others j);
            fresh = λ j h q. let d : j ≢ s = λ e. omega arith in subst (λ (x : SymbolRow). x.arity ≤ 4) (sym (others j d)) (g.fresh j h q);
            beyond = λ j h. let d : j ≢ s = λ e. omega (arith, g.more) in others j d ∙ g.beyond j h;
            within = λ h. omega (arith, g.within h, long);
            few = g.few;
            plain = λ j h q. let d : j ≢ s = λ e. omega arith in subst PlainRow (sym (others j d)) (g.plain j h q);
          }
      go s m rows₁ (new allowed none lt few) g here settled others =
          record {
            more = omega (arith, g.more);
            long = long ∙ g.long ∙ length-set rows n (new_row name k);
            kept = λ j h.
                let d : j ≢ n = λ e. omega arith in
                row_then (row_at rows j) (row_at rows₂ j) (row_at rows₃ j)
                (subst (λ (x : SymbolRow). RowGrows x (row_at rows₂ j)) (others_stay rows n (new_row name k) j d) (g.kept j (omega arith)))
                (still n here others j);
            fresh = λ j h q. elim (cases_eq j n) [
              | inl e ↦ subst (λ (x : ℕ). (row_at rows₃ x).arity ≤ 4) (sym e) settled
              | inr d ↦ let ge : n + 1 ≤ j = omega arith in subst (λ (x : SymbolRow). x.arity ≤ 4) (sym (others j d)) (g.fresh j ge q)
            ];
            beyond = λ j h. let d : j ≢ n = λ e. omega (arith, g.more) in others j d ∙ g.beyond j h ∙ others_stay rows n (new_row name k) j d;
            within = λ h. omega (arith, g.within (omega (arith, length-set rows n (new_row name k))), long);
            few = λ h. g.few (omega arith);
            plain = λ j h q. elim (cases_eq j n) [
              | inl e ↦ subst (λ (x : ℕ). PlainRow (row_at rows₃ x)) (sym e)
                  (plain_from name k (row_at rows₃ n) (here.shape ∙ (g.kept n (omega arith)).shape ∙ ap (λ (x : SymbolRow). with_arity x 0) (set_here rows n (new_row name k) lt)))
              | inr d ↦ let ge : n + 1 ≤ j = omega arith in subst PlainRow (sym (others j d)) (g.plain j ge q)
            ];
          }

-- ── The arity is settled ──

-- the rows that settling the arity of symbol s leaves
pub record SettledAs (s given : ℕ) (rows rows' : List SymbolRow) : Type 0 where
  pub long : length rows' ≡ length rows
  pub here : RowGrows (row_at rows s) (row_at rows' s)
  pub arity : (row_at rows' s).arity ≡ given
  pub others : (j : ℕ) → j ≢ s → row_at rows' j ≡ row_at rows j

pub settled_grows : (s given : ℕ) (rows rows' : List SymbolRow) → SettledAs s given rows rows' → (j : ℕ) → RowGrows (row_at rows j) (row_at rows' j)
settled_grows s given rows rows' a j = elim (cases_eq j s) [
  | inl e ↦ subst (λ (x : ℕ). RowGrows (row_at rows x) (row_at rows' x)) (sym e) a.here
  | inr d ↦ subst (RowGrows (row_at rows j)) (sym (a.others j d)) (row_stays (row_at rows j))
]

pub fits_settled : (n s given : ℕ) (rows rows' table : List SymbolRow) → SettledAs s given rows rows' → Fits n rows' table → Fits n rows table
fits_settled n s given rows rows' table a f =
    record {
      enough = f.enough;
      settled = f.settled;
      kept = λ k h. row_then (row_at rows k) (row_at rows' k) (row_at table k) (settled_grows s given rows rows' a k) (f.kept k h);
    }
