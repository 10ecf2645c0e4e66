-- Cells that are not of a row, and the heads that may stand where a row is left.
use mathlib.Core.Path.{◌≡◌, refl, ap, sym, subst, ◌∙◌}
use mathlib.Core.Logic.{◌⊎◌, inl, inr}
use mathlib.Core.List.{List}
use mathlib.Core.Bool.{Bool, true, false, not, ◌&&◌}
use Prim.Native.Nat.{ℕ, suc, ◌+◌, ◌≤◌, ◌<◌}
use native.Mathlib.Omega.{arith}
use lib.Dec.{eqb}
use Rattle.signature.specs.Lawful.{OfKind, of_kind, OfKinds, of_kinds_cons}
use Rattle.signature.specs.Lists.{memb}
use Rattle.signature.specs.Signature.{Signature, heads, arguments}
use Rattle.signature.specs.Value.{Value, con, Values, vnil, vcons}
use Rattle.signature.proofs.Booleans.{and_left, and_right, not_true}
use Rattle.signature.proofs.Heads.{has_kind, args_same}
use Rattle.signature.proofs.Members.{memb_keep}
use Rattle.signature.proofs.Tests.{true≢false, eqb_eq, eqb_no}
use Rattle.row.specs.Row.{Row, named, free, Rows, rnil, rcons}
use Rattle.row.specs.RowFits.{row_fits, rows_fit, place_count, places_count}
use Rattle.views.specs.View.{with_cell, agrees, all_agree, others, view, views}

-- c is none of the n cells from i on
abbrev pub Misses : ℕ → ℕ → ℕ → Type 0
Misses c i n = (j : ℕ) → i ≤ j → j < i + n → eqb j c ≡ false

pub misses : (c i n : ℕ) → (c < i) ⊎ (i + n ≤ c) → Misses c i n
misses c i n (inl h) j l m = eqb_no j c (λ z. absurd (omega (arith, z)))
misses c i n (inr h) j l m = eqb_no j c (λ z. absurd (omega (arith, z)))

pub some_place : (r : Row) → 1 ≤ place_count r
some_place (named xs c rs) = omega arith
some_place (free xs cs) = omega arith

-- the kinds of the arguments of a value under the head that a row names
pub same_kinds : (sig : Signature) (k c d : ℕ) {vs : Values} → eqb c d ≡ true → OfKind sig k (con d vs) → OfKinds sig (arguments sig c) vs
same_kinds sig k c d {vs} e (of_kind {ks = ks} a h) = subst (λ (l : List ℕ). OfKinds sig l vs) (sym (ap (arguments sig) (eqb_eq c d e) ∙ args_same sig k d ks a)) h

pub head_there : (sig : Signature) (k d : ℕ) {vs : Values} → OfKind sig k (con d vs) → memb d (heads sig k) ≡ true
head_there sig k d (of_kind {ks = ks} a h) = has_kind sig k d ks a

pub other_there : (sig : Signature) (k d : ℕ) (cs : List ℕ) → memb d (heads sig k) ≡ true → memb d cs ≡ false → memb d (others sig k cs) ≡ true
other_there sig k d cs h n = memb_keep (λ x. not (memb x cs)) d (heads sig k) ∙ rw (h, n)

pub other_not : (sig : Signature) (k d : ℕ) (cs : List ℕ) → memb d (others sig k cs) ≡ true → memb d cs ≡ false
other_not sig k d cs h = not_true (memb d cs) (and_right (memb d (heads sig k)) (not (memb d cs)) (sym (memb_keep (λ x. not (memb x cs)) d (heads sig k)) ∙ h))

-- of a row that does not have the cell, what agrees is taken by the view and agrees with the cell too
module _ (sig : Signature) (kept : ℕ → Bool) (left : ℕ) where
  named_missed : (k i c d : ℕ) (xs : List ℕ) (rs : Rows) (vs : Values) (b : Bool) → kept i ≡ b → eqb i left ≡ false → OfKind sig k (con d vs) → agrees kept i (named xs c rs) (con d vs) ≡ true
      → (OfKinds sig (arguments sig c) vs → all_agree kept (suc i) rs vs ≡ true → (rows_fit (views sig kept left (arguments sig c) (suc i) rs) vs ≡ true) × (all_agree (with_cell kept left) (suc i) rs vs ≡ true))
      → (row_fits (view sig kept left k i (named xs c rs)) (con d vs) ≡ true) × (agrees (with_cell kept left) i (named xs c rs) (con d vs) ≡ true)
  named_missed k i c d xs rs vs true e n o a q =
      let h : (eqb c d && all_agree kept (suc i) rs vs) ≡ true = rw e at a in
      let z : eqb c d ≡ true = and_left (eqb c d) (all_agree kept (suc i) rs vs) h in
      let y = q (same_kinds sig k c d z o) (and_right (eqb c d) (all_agree kept (suc i) rs vs) h) in
      (rw (e, z) y.0, rw (n, e, z) y.1)
  named_missed k i c d xs rs vs false e n o a q = (rw (e, n) (head_there sig k d o), rw (n, e))

  free_missed : (k i d : ℕ) (xs cs : List ℕ) (vs : Values) (b : Bool) → kept i ≡ b → eqb i left ≡ false → OfKind sig k (con d vs) → agrees kept i (free xs cs) (con d vs) ≡ true
      → (row_fits (view sig kept left k i (free xs cs)) (con d vs) ≡ true) × (agrees (with_cell kept left) i (free xs cs) (con d vs) ≡ true)
  free_missed k i d xs cs vs true e n o a = let h : memb d cs ≡ true = rw e at a in (rw e h, rw (n, e) h)
  free_missed k i d xs cs vs false e n o a = (rw (e, n) (head_there sig k d o), rw (n, e))

  mutual
    pub missed : (k i : ℕ) (r : Row) (v : Value) → Misses left i (place_count r) → OfKind sig k v → agrees kept i r v ≡ true → (row_fits (view sig kept left k i r) v ≡ true) × (agrees (with_cell kept left) i r v ≡ true)
    missed k i (named xs c rs) (con d vs) m o a = named_missed k i c d xs rs vs (kept i) refl (m i (omega arith) (omega arith)) o a (λ p q. all_missed (suc i) rs vs (λ j l u. m j (omega arith) (omega arith)) p q)
    missed k i (free xs cs) (con d vs) m o a = free_missed k i d xs cs vs (kept i) refl (m i (omega arith) (omega arith)) o a

    pub all_missed : {ks : List ℕ} (i : ℕ) (rs : Rows) (vs : Values) → Misses left i (places_count rs) → OfKinds sig ks vs → all_agree kept i rs vs ≡ true → (rows_fit (views sig kept left ks i rs) vs ≡ true) × (all_agree (with_cell kept left) i rs vs ≡ true)
    all_missed i rnil vnil m o a = (refl, refl)
    all_missed i rnil (vcons v vs) m o a = true≢false (sym a)
    all_missed i (rcons r rs) vnil m o a = true≢false (sym a)
    all_missed i (rcons r rs) (vcons v vs) m (of_kinds_cons {k = k} {ks = ks} p q) a =
        let x = missed k i r v (λ j l u. m j l (omega arith)) p (and_left (agrees kept i r v) (all_agree kept (i + place_count r) rs vs) a) in
        let y = all_missed (i + place_count r) rs vs (λ j l u. m j (omega arith) (omega arith)) q (and_right (agrees kept i r v) (all_agree kept (i + place_count r) rs vs) a) in
        (rw (x.0, y.0), rw (x.1, y.1))
