-- Agreement at the kept cells: where none is kept, where all are, and of the same cells.
use mathlib.Core.Path.{◌≡◌, refl, ap₂, sym, ◌∙◌}
use mathlib.Core.Bool.{Bool, true, false, cond, not, ◌&&◌, ◌||◌}
use Prim.Native.Nat.{ℕ, suc, ◌+◌}
use lib.Dec.{eqb}
use Rattle.signature.specs.Lists.{memb}
use Rattle.signature.specs.Value.{Value, con, Values, vnil, vcons}
use Rattle.signature.proofs.Booleans.{and_left, and_right, or_left, or_right}
use Rattle.signature.proofs.Tests.{true≢false, eqb_self}
use Rattle.row.specs.Row.{Row, named, free, Rows, rnil, rcons}
use Rattle.row.specs.RowFits.{row_fits, rows_fit, place_count}
use Rattle.views.specs.View.{agrees, all_agree, edge, edges}

pub none_kept : (kept : ℕ → Bool) (i : ℕ) (r : Row) (v : Value) → kept i ≡ false → agrees kept i r v ≡ true
none_kept kept i (named xs c rs) (con d vs) e = rw e
none_kept kept i (free xs cs) (con d vs) e = rw e

module _ (f g : ℕ → Bool) (h : (i : ℕ) → f i ≡ g i) where
  mutual
    pub same_kept : (i : ℕ) (r : Row) (v : Value) → agrees f i r v ≡ agrees g i r v
    same_kept i (named xs c rs) (con d vs) = ap₂ (λ (a b : Bool). not a || (eqb c d && b)) (h i) (all_same (suc i) rs vs)
    same_kept i (free xs cs) (con d vs) = rw (h i)

    all_same : (i : ℕ) (rs : Rows) (vs : Values) → all_agree f i rs vs ≡ all_agree g i rs vs
    all_same i rnil vnil = refl
    all_same i rnil (vcons v vs) = refl
    all_same i (rcons r rs) vnil = refl
    all_same i (rcons r rs) (vcons v vs) = ap₂ ◌&&◌ (same_kept i r v) (all_same (i + place_count r) rs vs)

-- a cell that is kept, since else it would be the first that is not
named_whole : (b : Bool) (i c d : ℕ) (a f : Bool) (es : ℕ → Bool) → ((e : ℕ) → cond b (es e) (eqb i e) ≡ false) → (not b || (eqb c d && a)) ≡ true → (((e : ℕ) → es e ≡ false) → a ≡ true → f ≡ true) → (eqb c d && f) ≡ true
named_whole true i c d a f es n h q = rw (and_left (eqb c d) a h, q n (and_right (eqb c d) a h))
named_whole false i c d a f es n h q = true≢false (sym (eqb_self i) ∙ n i)

free_whole : (b : Bool) (i : ℕ) (m : Bool) → ((e : ℕ) → cond b false (eqb i e) ≡ false) → (not b || m) ≡ true → m ≡ true
free_whole true i m n h = h
free_whole false i m n h = true≢false (sym (eqb_self i) ∙ n i)

module _ (kept : ℕ → Bool) where
  mutual
    pub whole : (i : ℕ) (r : Row) (v : Value) → ((c : ℕ) → edge kept c i r ≡ false) → agrees kept i r v ≡ true → row_fits r v ≡ true
    whole i (named xs c rs) (con d vs) n h = named_whole (kept i) i c d (all_agree kept (suc i) rs vs) (rows_fit rs vs) (λ e. edges kept e (suc i) rs) n h (λ z y. all_whole (suc i) rs vs z y)
    whole i (free xs cs) (con d vs) n h = free_whole (kept i) i (memb d cs) n h

    all_whole : (i : ℕ) (rs : Rows) (vs : Values) → ((c : ℕ) → edges kept c i rs ≡ false) → all_agree kept i rs vs ≡ true → rows_fit rs vs ≡ true
    all_whole i rnil vnil n h = refl
    all_whole i rnil (vcons v vs) n h = true≢false (sym h)
    all_whole i (rcons r rs) vnil n h = true≢false (sym h)
    all_whole i (rcons r rs) (vcons v vs) n h = rw (
      whole i r v (λ c. or_left (edge kept c i r) (edges kept c (i + place_count r) rs) (n c)) (and_left (agrees kept i r v) _ h),
      all_whole (i + place_count r) rs vs (λ c. or_right (edge kept c i r) (edges kept c (i + place_count r) rs) (n c)) (and_right (agrees kept i r v) _ h),
    )
