-- A value that agrees leaves a row at a cell or agrees there too; and what leaves it is not taken.
use mathlib.Core.Path.{◌≡◌, refl, sym, subst, ◌∙◌}
use mathlib.Core.Logic.{◌⊎◌, inl, inr}
use mathlib.Core.List.{List, [], ◌∷◌}
use mathlib.Core.Bool.{Bool, true, false, ◌&&◌, ◌||◌}
use Prim.Native.Nat.{ℕ, suc, ◌+◌, ◌≤◌, ◌<◌}
use native.Mathlib.Omega.{arith}
use lib.Dec.{eqb, ltb}
use borrow.Author.Tests.{ltb-true, ltb-false}
use Rattle.signature.specs.Lawful.{OfKind, OfKinds, of_kinds_nil, of_kinds_cons}
use Rattle.signature.specs.Lists.{memb}
use Rattle.signature.specs.Signature.{Signature, arguments}
use Rattle.signature.specs.Value.{Value, con, Values, vnil, vcons}
use Rattle.signature.proofs.Booleans.{and_left, and_right, and_false, or_false, or_left, or_true}
use Rattle.signature.proofs.Heads.{args_same}
use Rattle.signature.proofs.Tests.{true≢false, eqb_eq, eqb_sym}
use Rattle.row.specs.Row.{Row, named, free, Rows, rnil, rcons}
use Rattle.row.specs.RowFits.{Good, good_named, Goods, goods_nil, goods_cons, row_fits, rows_fit, place_count, places_count}
use Rattle.views.specs.View.{with_cell, agrees, all_agree, edge, edges, Closed, Closeds, view, views}
use Rattle.views.proofs.Missed.{misses, some_place, same_kinds, head_there, other_there, other_not, missed, all_missed}

-- one of two parts has the cell, the other misses it
cons_cover : (left n : ℕ) (f f' g g' : Bool) → (left < n → ((f ≡ true) ⊎ (g ≡ true)) × ((f' ≡ true) × (g' ≡ true))) → (n ≤ left → ((f ≡ true) × (g ≡ true)) × ((f' ≡ true) ⊎ (g' ≡ true))) → ((f && f') ≡ true) ⊎ ((g && g') ≡ true)
cons_cover left n f f' g g' first later = go (ltb left n) refl
  where
    before : ((f ≡ true) ⊎ (g ≡ true)) × ((f' ≡ true) × (g' ≡ true)) → ((f && f') ≡ true) ⊎ ((g && g') ≡ true)
    before (inl x, y) = inl (rw (x, y.0))
    before (inr x, y) = inr (rw (x, y.1))

    behind : ((f ≡ true) × (g ≡ true)) × ((f' ≡ true) ⊎ (g' ≡ true)) → ((f && f') ≡ true) ⊎ ((g && g') ≡ true)
    behind (x, inl y) = inl (rw (x.0, y))
    behind (x, inr y) = inr (rw (x.1, y))

    go : (b : Bool) → ltb left n ≡ b → ((f && f') ≡ true) ⊎ ((g && g') ≡ true)
    go true q = before (first (ltb-true left n q))
    go false q = behind (later (ltb-false left n q))

module _ (sig : Signature) (kept : ℕ → Bool) (left : ℕ) where
  -- where no cell of the rows is kept, nor the one more
  bare : (i : ℕ) (r : Row) (v : Value) → kept i ≡ false → eqb i left ≡ false → agrees (with_cell kept left) i r v ≡ true
  bare i (named xs c rs) (con d vs) e n = rw (n, e)
  bare i (free xs cs) (con d vs) e n = rw (n, e)

  all_bare : {ks : List ℕ} (i : ℕ) (rs : Rows) → Goods sig ks rs → (vs : Values) → OfKinds sig ks vs → ((j : ℕ) → i ≤ j → j < i + places_count rs → kept j ≡ false) → left < i → all_agree (with_cell kept left) i rs vs ≡ true
  all_bare i rnil goods_nil vnil of_kinds_nil n l = refl
  all_bare i (rcons r rs) (goods_cons g gs) (vcons v vs) (of_kinds_cons p q) n l =
      let s = some_place r in
      rw (bare i r v (n i (omega arith) (omega arith)) (misses left i 1 (inl l) i (omega arith) (omega arith)), all_bare (i + place_count r) rs gs vs q (λ j a b. n j (omega arith) (omega arith)) (omega arith))
  all_bare i rnil goods_nil (vcons v vs) x17 n l = elim x17 [ ]
  all_bare i (rcons r rs) (goods_cons {k = k} {ks = ks} g gs) vnil x12 n l = elim x12 [ ]

  named_cover : (k i c d : ℕ) (xs : List ℕ) (rs : Rows) (vs : Values) (b : Bool) → kept i ≡ b → OfKind sig k (con d vs) → agrees kept i (named xs c rs) (con d vs) ≡ true
      → (OfKinds sig (arguments sig c) vs → all_agree kept (suc i) rs vs ≡ true → (rows_fit (views sig kept left (arguments sig c) (suc i) rs) vs ≡ true) ⊎ (all_agree (with_cell kept left) (suc i) rs vs ≡ true))
      → (OfKinds sig (arguments sig c) vs → kept i ≡ false → i ≡ left → all_agree (with_cell kept left) (suc i) rs vs ≡ true)
      → (row_fits (view sig kept left k i (named xs c rs)) (con d vs) ≡ true) ⊎ (agrees (with_cell kept left) i (named xs c rs) (con d vs) ≡ true)
  named_cover k i c d xs rs vs true e o a q n =
      let h : (eqb c d && all_agree kept (suc i) rs vs) ≡ true = rw e at a in
      let z : eqb c d ≡ true = and_left (eqb c d) (all_agree kept (suc i) rs vs) h in
      go z (q (same_kinds sig k c d z o) (and_right (eqb c d) (all_agree kept (suc i) rs vs) h))
    where
      go : eqb c d ≡ true → (rows_fit (views sig kept left (arguments sig c) (suc i) rs) vs ≡ true) ⊎ (all_agree (with_cell kept left) (suc i) rs vs ≡ true)
          → (row_fits (view sig kept left k i (named xs c rs)) (con d vs) ≡ true) ⊎ (agrees (with_cell kept left) i (named xs c rs) (con d vs) ≡ true)
      go z (inl y) = inl (rw (e, z) y)
      go z (inr y) = inr (rw (e, or_true (eqb i left), z) y)
  named_cover k i c d xs rs vs false e o a q n = go (eqb i left) refl (eqb c d) refl
    where
      go : (s : Bool) → eqb i left ≡ s → (u : Bool) → eqb c d ≡ u → (row_fits (view sig kept left k i (named xs c rs)) (con d vs) ≡ true) ⊎ (agrees (with_cell kept left) i (named xs c rs) (con d vs) ≡ true)
      go false z u y = inl (rw (e, z) (head_there sig k d o))
      go true z false y = inl (rw (e, z) (other_there sig k d (c ∷ []) (head_there sig k d o) (or_false (eqb d c) ∙ eqb_sym d c ∙ y)))
      go true z true y = inr (rw (z, y) (n (same_kinds sig k c d y o) e (eqb_eq i left z)))

  free_cover : (k i d : ℕ) (xs cs : List ℕ) (vs : Values) (b : Bool) → kept i ≡ b → OfKind sig k (con d vs) → agrees kept i (free xs cs) (con d vs) ≡ true
      → (row_fits (view sig kept left k i (free xs cs)) (con d vs) ≡ true) ⊎ (agrees (with_cell kept left) i (free xs cs) (con d vs) ≡ true)
  free_cover k i d xs cs vs true e o a = inl (let h : memb d cs ≡ true = rw e at a in rw e h)
  free_cover k i d xs cs vs false e o a = go (eqb i left) refl (memb d cs) refl
    where
      go : (s : Bool) → eqb i left ≡ s → (u : Bool) → memb d cs ≡ u → (row_fits (view sig kept left k i (free xs cs)) (con d vs) ≡ true) ⊎ (agrees (with_cell kept left) i (free xs cs) (con d vs) ≡ true)
      go false z u y = inl (rw (e, z) (head_there sig k d o))
      go true z false y = inl (rw (e, z) (other_there sig k d cs (head_there sig k d o) y))
      go true z true y = inr (rw (z, y))

  mutual
    pub cover : {k : ℕ} (i : ℕ) (r : Row) (v : Value) → Good sig k r → Closed kept i r → OfKind sig k v → agrees kept i r v ≡ true → (row_fits (view sig kept left k i r) v ≡ true) ⊎ (agrees (with_cell kept left) i r v ≡ true)
    cover {k} i (named xs c rs) (con d vs) (good_named {js = js} l e gs) C o a =
        let hs : Goods sig (arguments sig c) rs = subst (λ (ks : List ℕ). Goods sig ks rs) (sym (args_same sig k c js e)) gs in
        named_cover k i c d xs rs vs (kept i) refl o a (λ p q. all_cover (suc i) rs hs vs p C.1 q) (λ p n z. all_bare (suc i) rs hs vs p (λ j m u. C.0 n j (omega arith) (omega arith)) (omega (arith, z)))
    cover {k} i (free xs cs) (con d vs) g C o a = free_cover k i d xs cs vs (kept i) refl o a

    all_cover : {ks : List ℕ} (i : ℕ) (rs : Rows) → Goods sig ks rs → (vs : Values) → OfKinds sig ks vs → Closeds kept i rs → all_agree kept i rs vs ≡ true → (rows_fit (views sig kept left ks i rs) vs ≡ true) ⊎ (all_agree (with_cell kept left) i rs vs ≡ true)
    all_cover i rnil goods_nil vnil of_kinds_nil C a = inl refl
    all_cover i (rcons r rs) (goods_cons {k = k} {ks = ks} g gs) (vcons v vs) (of_kinds_cons p q) C a =
        let x = and_left (agrees kept i r v) (all_agree kept (i + place_count r) rs vs) a in
        let y = and_right (agrees kept i r v) (all_agree kept (i + place_count r) rs vs) a in
        cons_cover left (i + place_count r) (row_fits (view sig kept left k i r) v) (rows_fit (views sig kept left ks (i + place_count r) rs) vs) (agrees (with_cell kept left) i r v) (all_agree (with_cell kept left) (i + place_count r) rs vs)
        (λ l. (cover i r v g C.0 p x, all_missed sig kept left (i + place_count r) rs vs (misses left (i + place_count r) (places_count rs) (inl l)) q y))
        (λ l. (missed sig kept left k i r v (misses left i (place_count r) (inr l)) p x, all_cover (i + place_count r) rs gs vs q C.1 y))
    all_cover i rnil goods_nil (vcons v vs) x21 C a = elim x21 [ ]
    all_cover i (rcons r rs) (goods_cons {k = k} {ks = ks} g gs) vnil x16 C a = elim x16 [ ]

  -- what leaves a row at a cell to which only kept cells lead
  named_apart : (k i c d : ℕ) (xs : List ℕ) (rs : Rows) (vs : Values) (b : Bool) → kept i ≡ b → edge kept left i (named xs c rs) ≡ true → row_fits (view sig kept left k i (named xs c rs)) (con d vs) ≡ true
      → (edges kept left (suc i) rs ≡ true → rows_fit (views sig kept left (arguments sig c) (suc i) rs) vs ≡ true → rows_fit rs vs ≡ false) → (eqb c d && rows_fit rs vs) ≡ false
  named_apart k i c d xs rs vs true e g f q =
      let h : (eqb c d && rows_fit (views sig kept left (arguments sig c) (suc i) rs) vs) ≡ true = rw e at f in
      rw (q (rw e at g) (and_right (eqb c d) (rows_fit (views sig kept left (arguments sig c) (suc i) rs) vs) h)) (and_false (eqb c d))
  named_apart k i c d xs rs vs false e g f q =
      let n : eqb i left ≡ true = rw e at g in
      rw (eqb_sym c d ∙ or_left (eqb d c) false (other_not sig k d (c ∷ []) (rw (e, n) at f)))

  free_apart : (k i d : ℕ) (xs cs : List ℕ) (vs : Values) (b : Bool) → kept i ≡ b → edge kept left i (free xs cs) ≡ true → row_fits (view sig kept left k i (free xs cs)) (con d vs) ≡ true → memb d cs ≡ false
  free_apart k i d xs cs vs true e g f = let z : false ≡ true = rw e at g in true≢false (sym z)
  free_apart k i d xs cs vs false e g f =
      let n : eqb i left ≡ true = rw e at g in
      other_not sig k d cs (rw (e, n) at f)

  cons_apart : (e es f fs r rs : Bool) → (e || es) ≡ true → (f && fs) ≡ true → (e ≡ true → f ≡ true → r ≡ false) → (es ≡ true → fs ≡ true → rs ≡ false) → (r && rs) ≡ false
  cons_apart true es f fs r rs g h p q = rw (p refl (and_left f fs h))
  cons_apart false es f fs r rs g h p q = rw (q g (and_right f fs h)) (and_false r)

  mutual
    pub apart : (k i : ℕ) (r : Row) (v : Value) → edge kept left i r ≡ true → row_fits (view sig kept left k i r) v ≡ true → row_fits r v ≡ false
    apart k i (named xs c rs) (con d vs) g f = named_apart k i c d xs rs vs (kept i) refl g f (λ p q. all_apart (arguments sig c) (suc i) rs vs p q)
    apart k i (free xs cs) (con d vs) g f = free_apart k i d xs cs vs (kept i) refl g f

    all_apart : (ks : List ℕ) (i : ℕ) (rs : Rows) (vs : Values) → edges kept left i rs ≡ true → rows_fit (views sig kept left ks i rs) vs ≡ true → rows_fit rs vs ≡ false
    all_apart ks i rnil vs g f = true≢false (sym g)
    all_apart ks i (rcons r rs) vnil g f = refl
    all_apart [] i (rcons r rs) (vcons v vs) g f = true≢false (sym f)
    all_apart (k ∷ ks) i (rcons r rs) (vcons v vs) g f =
        cons_apart (edge kept left i r) (edges kept left (i + place_count r) rs) (row_fits (view sig kept left k i r) v) (rows_fit (views sig kept left ks (i + place_count r) rs) vs) (row_fits r v) (rows_fit rs vs) g f
        (λ p q. apart k i r v p q)
        (λ p q. all_apart ks (i + place_count r) rs vs p q)
