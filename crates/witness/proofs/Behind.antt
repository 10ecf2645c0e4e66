-- Rows behind rows, and the values that they take.
use mathlib.Core.Path.{◌≡◌, refl, ap, sym, ◌∙◌}
use mathlib.Core.List.{List, [], ◌∷◌, ◌++◌, append_assoc}
use mathlib.Core.Bool.{true}
use Prim.Native.Nat.{ℕ, suc, ◌+◌, ◌*◌, ◌≤◌}
use native.Mathlib.Omega.{arith}
use lib.ListN.{length}
use Rattle.signature.specs.Lawful.{OfKinds, of_kinds_nil, of_kinds_cons}
use Rattle.signature.specs.Signature.{Signature}
use Rattle.signature.specs.Value.{Value, Values, vnil, vcons, code, codes, sizes, depths}
use Rattle.row.specs.Limits.{place_words}
use Rattle.row.specs.Row.{Row, Rows, named, free, rnil, rcons}
use Rattle.row.specs.RowFits.{Goods, goods_nil, goods_cons, place_count, places_count, rows_fit}
use Rattle.cell.specs.Cell.{Kinds, words, all_words}
use Rattle.cell.specs.Coded.{cells, all_cells}
use Rattle.witness.specs.Fill.{Taken}

infixr 40 ◌behind◌
abbrev pub ◌behind◌ : Rows → Rows → Rows
rnil behind ss = ss
rcons r rs behind ss = rcons r (rs behind ss)

abbrev pub count : Rows → ℕ
count rnil = 0
count (rcons r rs) = suc (count rs)

pub places_behind : (rs ss : Rows) → places_count (rs behind ss) ≡ places_count rs + places_count ss
places_behind rnil ss = omega arith
places_behind (rcons r rs) ss = omega (arith, places_behind rs ss)

pub count_behind : (rs ss : Rows) → count (rs behind ss) ≡ count rs + count ss
count_behind rnil ss = omega arith
count_behind (rcons r rs) ss = omega (arith, count_behind rs ss)

place_some : (r : Row) → 1 ≤ place_count r
place_some (named xs c rs) = omega arith
place_some (free xs cs) = omega arith

pub count_places : (rs : Rows) → count rs ≤ places_count rs
count_places rnil = omega arith
count_places (rcons r rs) = omega (arith, place_some r, count_places rs)

module _ {sig : Signature} where
  pub goods_behind : {js ks : List ℕ} {rs ss : Rows} → Goods sig js rs → Goods sig ks ss → Goods sig (js ++ ks) (rs behind ss)
  goods_behind goods_nil h = h
  goods_behind (goods_cons g gs) h = goods_cons g (goods_behind gs h)

  pub count_goods : {js : List ℕ} {rs : Rows} → Goods sig js rs → count rs ≡ length js
  count_goods goods_nil = refl
  count_goods (goods_cons g gs) = ap suc (count_goods gs)

  pub words_behind : (K : Kinds) {js : List ℕ} (ks : List ℕ) {rs : Rows} (ss : Rows) → Goods sig js rs → all_words (all_cells K (rs behind ss) (js ++ ks)) ≡ all_words (all_cells K rs js) ++ all_words (all_cells K ss ks)
  words_behind K ks ss goods_nil = refl
  words_behind K ks ss (goods_cons {k = k} {ks = js} {r = r} {rs = rs} g gs) =
      ap (λ (l : List ℕ). words (cells K r k) ++ l) (words_behind K ks ss gs) ∙ sym (append_assoc (words (cells K r k)) (all_words (all_cells K rs js)) (all_words (all_cells K ss ks)))

-- a value for each
pub data Takens (sig : Signature) : List ℕ → Rows → Values → Type 0 where
  takens_nil : Takens sig [] rnil vnil
  takens_cons : {k : ℕ} {ks : List ℕ} {r : Row} {rs : Rows} {v : Value} {vs : Values} → Taken sig k r v → Takens sig ks rs vs → Takens sig (k ∷ ks) (rcons r rs) (vcons v vs)

module _ {sig : Signature} where
  pub together : {ks : List ℕ} {rs : Rows} {vs : Values} → Takens sig ks rs vs → OfKinds sig ks vs × (rows_fit rs vs ≡ true) × (sizes vs ≤ place_words * places_count rs) × (depths vs ≤ places_count rs + place_words)
  together takens_nil = (of_kinds_nil, refl, omega arith, omega arith)
  together (takens_cons t ts) =
      let (h, f, l, d) = together ts in
      (of_kinds_cons t.kinded h, rw (t.fits, f), omega (arith, t.few), omega (arith, t.deep))

  -- the first of them, and the others
  pub split_values : {js ks : List ℕ} {rs ss : Rows} {us : Values} → Goods sig js rs → Takens sig (js ++ ks) (rs behind ss) us
      → (vs : Values) × (ws : Values) × Takens sig js rs vs × Takens sig ks ss ws × (codes us ≡ codes vs ++ codes ws)
  split_values {us = us} goods_nil h = (vnil, us, takens_nil, h, refl)
  split_values (goods_cons g gs) (takens_cons {v = v} t ts) =
      let (vs, ws, a, b, e) = split_values gs ts in
      (vcons v vs, ws, takens_cons t a, b, ap (λ (l : List ℕ). code v ++ l) e ∙ sym (append_assoc (code v) (codes vs) (codes ws)))
