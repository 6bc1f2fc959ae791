-- A name that was met stands for its symbol in each table that the rows may become.
use Rattle.std.proofs.Common.{◌≡◌, ℕ, ◌+◌, ◌<◌, ◌≤◌, Bool, ◌≢◌, List, ◌∷◌, length, set, Some, ap, ◌∙◌, subst, arith}
use Rattle.logic.specs.Symbols.{row_at, name_of}
use Rattle.logic.specs.Directory.{place_of_name}
use Rattle.logic.specs.declared.row.SymbolRow.{SymbolRow}
use Rattle.logic.specs.declared.row.Kind.{Kind}
use Rattle.reading.specs.Entering.{new_row}
use Rattle.spelling.specs.Appearance.{Appear, known, next}
use Rattle.spelling.proofs.Tables.{RowGrows, same_named, same_kinded, new_name, Fits, known_in, next_in, MetAs, old, new, SettledAs, set_here, others_stay}

-- the rows before a symbol was entered fit where those after do
pub fits_entered : (n : ℕ) (rows table : List SymbolRow) (r : SymbolRow) → Fits (n + 1) (set rows n r) table → Fits n rows table
fits_entered n rows table r f =
    record {
      enough = omega (arith, f.enough);
      settled = f.settled;
      kept = λ k h. let d : k ≢ n = λ e. omega arith in subst (λ (x : SymbolRow). RowGrows x (row_at table k)) (others_stay rows n r k d) (f.kept k (omega arith));
    }

pub named_in : (may : Bool) (n : ℕ) (rows : List SymbolRow) (name : List ℕ) (k : Kind) (s m : ℕ) (rows' table : List SymbolRow) → n ≤ length rows
    → MetAs may n rows name k s m rows' → Fits m rows' table → (place_of_name table name ≡ Some s) × ((row_at table s).kind ≡ k)
named_in may n rows name k s m rows' table short (old lt at is) f =
    ((known_in name n rows table short f s at).1, same_kinded (row_at rows s) (row_at table s) (f.kept s lt) ∙ is)
named_in may n rows name k s m rows' table short (new allowed none lt few) f =
    let here : row_at (set rows n (new_row name k)) n ≡ new_row name k = set_here rows n (new_row name k) lt in
    let g = f.kept n (omega arith) in (
      next_in name n rows table short (fits_entered n rows table (new_row name k) f) none (omega (arith, f.enough)) (same_named (row_at (set rows n (new_row name k)) n) (row_at table n) g ∙ ap name_of here ∙ new_name name k),
      same_kinded (row_at (set rows n (new_row name k)) n) (row_at table n) g ∙ ap (λ (r : SymbolRow). r.kind) here,
    )

-- the symbol has the arity that was settled
pub arity_in : (l s given : ℕ) (rows rows' table : List SymbolRow) → SettledAs s given rows rows' → given ≤ 4 → s < l → Fits l rows' table
    → (row_at table s).arity ≡ given
arity_in l s given rows rows' table a few lt f =
    ap (λ (r : SymbolRow). r.arity) ((f.kept s lt).fixed (omega (arith, a.arity))) ∙ a.arity

-- and it appears
pub met_appears : (may : Bool) (n : ℕ) (rows : List SymbolRow) (name : List ℕ) (k : Kind) (s m : ℕ) (rows' : List SymbolRow) (ss : List ℕ) (l : ℕ)
    → MetAs may n rows name k s m rows' → Appear may m ss l → Appear may n (s ∷ ss) l
met_appears may n rows name k s m rows' ss l (old lt at is) g = known lt g
met_appears may n rows name k s m rows' ss l (new allowed none lt few) g = next allowed g
