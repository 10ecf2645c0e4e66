-- The views of rows still to come: their words, which are good, and what they take.
use mathlib.Core.Path.{◌≡◌, ap, sym, subst, ◌∙◌}
use mathlib.Core.List.{List, ◌∷◌, ◌++◌, append_assoc}
use mathlib.Core.Bool.{Bool, true, ◌&&◌}
use Prim.Native.Nat.{ℕ, suc, ◌+◌}
use native.Mathlib.Omega.{arith}
use lib.Dec.{eqb}
use Rattle.signature.specs.Signature.{Signature, arguments}
use Rattle.signature.specs.Value.{con, Values, vnil, vcons}
use Rattle.signature.proofs.Booleans.{and_left, and_right}
use Rattle.signature.proofs.Heads.{args_same}
use Rattle.signature.proofs.Tests.{true≢false}
use Rattle.row.specs.Row.{Row, named, free, Rows, rcons}
use Rattle.row.specs.RowFits.{Good, good_named, good_free, Goods, goods_nil, goods_cons, row_fits, rows_fit, place_count, places_count}
use Rattle.cell.specs.Cell.{words, all_words}
use Rattle.cell.specs.Coded.{kinds_of, cells, all_cells}
use Rattle.witness.proofs.Behind.{◌behind◌}
use Rattle.views.specs.View.{view, views}
use Rattle.views.proofs.Standing.{below, below_kinds, top_code}

-- values behind values
infixr 40 ◌then◌
abbrev ◌then◌ : Values → Values → Values
vnil then ws = ws
vcons v vs then ws = vcons v (vs then ws)

module _ (sig : Signature) (kept : ℕ → Bool) (left : ℕ) where
  -- the words of the views of some rows
  abbrev pub view_words : List ℕ → ℕ → Rows → List ℕ
  view_words ks i rs = all_words (all_cells (kinds_of sig) (views sig kept left ks i rs) ks)

  words_behind : {js : List ℕ} (i : ℕ) (ks : List ℕ) {rs : Rows} (ss : Rows) → Goods sig js rs → view_words (js ++ ks) i (rs behind ss) ≡ view_words js i rs ++ view_words ks (i + places_count rs) ss
  words_behind i ks ss goods_nil = let z : i ≡ i + 0 = omega arith in ap (λ (n : ℕ). view_words ks n ss) z
  words_behind i ks ss (goods_cons {k = k} {ks = js} {r = r} {rs = rs} g gs) =
      let w : List ℕ = words (cells (kinds_of sig) (view sig kept left k i r) k) in
      let z : i + place_count r + places_count rs ≡ i + (place_count r + places_count rs) = omega arith in
      ap (λ (l : List ℕ). w ++ l) (words_behind (i + place_count r) ks ss gs ∙ ap (λ (n : ℕ). view_words js (i + place_count r) rs ++ view_words ks n ss) z)
      ∙ sym (append_assoc w (view_words js (i + place_count r) rs) (view_words ks (i + (place_count r + places_count rs)) ss))

  goods_apart : {js : List ℕ} (i : ℕ) (ks : List ℕ) {rs : Rows} (ss : Rows) → Goods sig js rs → Goods sig (js ++ ks) (views sig kept left (js ++ ks) i (rs behind ss)) → Goods sig js (views sig kept left js i rs) × Goods sig ks (views sig kept left ks (i + places_count rs) ss)
  goods_apart i ks ss goods_nil h = let z : i ≡ i + 0 = omega arith in (goods_nil, subst (λ (n : ℕ). Goods sig ks (views sig kept left ks n ss)) z h)
  goods_apart i ks ss (goods_cons {r = r} {rs = rs} g gs) (goods_cons h hs) =
      let q = goods_apart (i + place_count r) ks ss gs hs in
      let z : i + place_count r + places_count rs ≡ i + (place_count r + places_count rs) = omega arith in
      (goods_cons h q.0, subst (λ (n : ℕ). Goods sig ks (views sig kept left ks n ss)) z q.1)

  fits_behind : {js : List ℕ} (i : ℕ) (ks : List ℕ) {rs : Rows} (ss : Rows) (vs ws : Values) → Goods sig js rs → rows_fit (views sig kept left js i rs) vs ≡ true → rows_fit (views sig kept left ks (i + places_count rs) ss) ws ≡ true
      → rows_fit (views sig kept left (js ++ ks) i (rs behind ss)) (vs then ws) ≡ true
  fits_behind i ks ss vnil ws goods_nil e f = let z : i + 0 ≡ i = omega arith in rw z at f
  fits_behind i ks ss (vcons v vs) ws goods_nil e f = true≢false (sym e)
  fits_behind i ks ss vnil ws (goods_cons g gs) e f = true≢false (sym e)
  fits_behind i ks ss (vcons v vs) ws (goods_cons {k = k} {ks = js} {r = r} {rs = rs} g gs) e f =
      let z : i + (place_count r + places_count rs) ≡ i + place_count r + places_count rs = omega arith in
      let a : row_fits (view sig kept left k i r) v ≡ true = and_left (row_fits (view sig kept left k i r) v) (rows_fit (views sig kept left js (i + place_count r) rs) vs) e in
      rw (a, fits_behind (i + place_count r) ks ss vs ws gs (and_right (row_fits (view sig kept left k i r) v) (rows_fit (views sig kept left js (i + place_count r) rs) vs) e) (rw z at f))

  -- a kept cell, and the rows below it next
  module _ (k i : ℕ) (ks : List ℕ) (todo : Rows) (e : kept i ≡ true) where
    pub kept_words : (r : Row) → Goods sig (below_kinds sig r) (below r) → view_words (k ∷ ks) i (rcons r todo) ≡ top_code sig k r ++ view_words (below_kinds sig r ++ ks) (suc i) (below r behind todo)
    kept_words (named xs c rs) gs =
        let z : i + suc (places_count rs) ≡ suc i + places_count rs = omega arith in
        rw (e, z) (ap (λ (l : List ℕ). top_code sig k (named xs c rs) ++ l) (sym (words_behind (suc i) ks todo gs)))
    kept_words (free xs cs) gs = let z : i + 1 ≡ suc i = omega arith in rw (e, z)

    pub kept_goods : {r : Row} → Good sig k r → Goods sig (below_kinds sig r) (below r) → Goods sig (below_kinds sig r ++ ks) (views sig kept left (below_kinds sig r ++ ks) (suc i) (below r behind todo)) → Goods sig (k ∷ ks) (views sig kept left (k ∷ ks) i (rcons r todo))
    kept_goods (good_named {c = c} {xs = xs} {js = js} {rs = rs} l a gs) hs h =
        let z : suc i + places_count rs ≡ i + suc (places_count rs) = omega arith in
        let q = goods_apart (suc i) ks todo hs h in
        rw e (goods_cons (good_named l a (subst (λ (is : List ℕ). Goods sig is (views sig kept left (arguments sig c) (suc i) rs)) (args_same sig k c js a) q.0)) (subst (λ (n : ℕ). Goods sig ks (views sig kept left ks n todo)) z q.1))
    kept_goods (good_free a) hs h = let z : suc i ≡ i + 1 = omega arith in rw e (goods_cons (good_free a) (subst (λ (n : ℕ). Goods sig ks (views sig kept left ks n todo)) z h))

    pub kept_fits : (r : Row) (us : Values) → Goods sig (below_kinds sig r) (below r) → rows_fit (views sig kept left (k ∷ ks) i (rcons r todo)) us ≡ true → (ws : Values) × (rows_fit (views sig kept left (below_kinds sig r ++ ks) (suc i) (below r behind todo)) ws ≡ true)
    kept_fits r vnil gs h = true≢false (sym h)
    kept_fits (named xs c rs) (vcons (con d vs) us) gs h =
        let z : i + suc (places_count rs) ≡ suc i + places_count rs = omega arith in
        let f : ((eqb c d && rows_fit (views sig kept left (arguments sig c) (suc i) rs) vs) && rows_fit (views sig kept left ks (suc i + places_count rs) todo) us) ≡ true = rw (e, z) at h in
        let a = and_left (eqb c d && rows_fit (views sig kept left (arguments sig c) (suc i) rs) vs) (rows_fit (views sig kept left ks (suc i + places_count rs) todo) us) f in
        (vs then us, fits_behind (suc i) ks todo vs us gs (and_right (eqb c d) (rows_fit (views sig kept left (arguments sig c) (suc i) rs) vs) a) (and_right (eqb c d && rows_fit (views sig kept left (arguments sig c) (suc i) rs) vs) (rows_fit (views sig kept left ks (suc i + places_count rs) todo) us) f))
    kept_fits (free xs cs) (vcons v us) gs h =
        let z : i + 1 ≡ suc i = omega arith in
        let f : (row_fits (free xs cs) v && rows_fit (views sig kept left ks (suc i) todo) us) ≡ true = rw (e, z) at h in
        (us, and_right (row_fits (free xs cs) v) (rows_fit (views sig kept left ks (suc i) todo) us) f)
