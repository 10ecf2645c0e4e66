-- Values one beside the other, and rows with a value each.
use mathlib.Core.Path.{◌≡◌, refl, ap, sym, ◌∙◌}
use mathlib.Core.List.{List, [], ◌∷◌, ◌++◌, append_assoc}
use mathlib.Core.Bool.{true, ◌&&◌}
use Prim.Native.Nat.{ℕ, ◌+◌}
use native.Mathlib.Omega.{arith}
use Rattle.signature.specs.Lawful.{OfKind, OfKinds, of_kinds_nil, of_kinds_cons}
use Rattle.signature.specs.Signature.{Signature}
use Rattle.signature.specs.Value.{Value, Values, vnil, vcons, code, codes, sizes}
use Rattle.signature.proofs.Booleans.{and_left, and_right, and_assoc}
use Rattle.signature.proofs.Tests.{true≢false}
use Rattle.row.specs.Row.{Row, Rows, rnil, rcons}
use Rattle.row.specs.RowFits.{Goods, goods_nil, goods_cons, row_fits, rows_fit}
use Rattle.witness.proofs.Behind.{◌behind◌}

infixr 40 ◌beside◌
abbrev pub ◌beside◌ : Values → Values → Values
vnil beside ws = ws
vcons v vs beside ws = vcons v (vs beside ws)

pub sizes_beside : (vs ws : Values) → sizes (vs beside ws) ≡ sizes vs + sizes ws
sizes_beside vnil ws = omega arith
sizes_beside (vcons v vs) ws = omega (arith, sizes_beside vs ws)

pub codes_beside : (vs ws : Values) → codes (vs beside ws) ≡ codes vs ++ codes ws
codes_beside vnil ws = refl
codes_beside (vcons v vs) ws = ap (λ (l : List ℕ). code v ++ l) (codes_beside vs ws) ∙ sym (append_assoc (code v) (codes vs) (codes ws))

module _ {sig : Signature} where
  pub kinds_beside : {js ks : List ℕ} {vs ws : Values} → OfKinds sig js vs → OfKinds sig ks ws → OfKinds sig (js ++ ks) (vs beside ws)
  kinds_beside of_kinds_nil g = g
  kinds_beside (of_kinds_cons h hs) g = of_kinds_cons h (kinds_beside hs g)

  pub fits_beside : {js : List ℕ} {rs : Rows} {vs : Values} (ss : Rows) (ws : Values) → Goods sig js rs → OfKinds sig js vs → rows_fit (rs behind ss) (vs beside ws) ≡ (rows_fit rs vs && rows_fit ss ws)
  fits_beside ss ws goods_nil of_kinds_nil = refl
  fits_beside ss ws (goods_cons {r = r} {rs = rs} g gs) (of_kinds_cons {v = v} {vs = vs} h hs) = rw (fits_beside ss ws gs hs) (and_assoc (row_fits r v) (rows_fit rs vs) (rows_fit ss ws))

-- a value for each row, of which P holds
pub data Valued (P : ℕ → Row → Value → Type 0) : List ℕ → Rows → Values → Type 0 where
  valued_nil : Valued P [] rnil vnil
  valued_cons : {k : ℕ} {ks : List ℕ} {r : Row} {rs : Rows} {v : Value} {vs : Values} → P k r v → Valued P ks rs vs → Valued P (k ∷ ks) (rcons r rs) (vcons v vs)

module _ {P : ℕ → Row → Value → Type 0} where
  pub valued_beside : {js ks : List ℕ} {rs ss : Rows} {vs ws : Values} → Valued P js rs vs → Valued P ks ss ws → Valued P (js ++ ks) (rs behind ss) (vs beside ws)
  valued_beside valued_nil g = g
  valued_beside (valued_cons h hs) g = valued_cons h (valued_beside hs g)

  -- the first of them, and the others
  pub split_valued : {sig : Signature} {js ks : List ℕ} {rs ss : Rows} {us : Values} → Goods sig js rs → Valued P (js ++ ks) (rs behind ss) us
      → (vs : Values) × (ws : Values) × Valued P js rs vs × Valued P ks ss ws × (us ≡ vs beside ws)
  split_valued {us = us} goods_nil h = (vnil, us, valued_nil, h, refl)
  split_valued (goods_cons g gs) (valued_cons {v = v} h hs) =
      let (vs, ws, a, b, e) = split_valued gs hs in
      (vcons v vs, ws, valued_cons h a, b, ap (vcons v) e)

-- a value that a row of kind k takes
pub record Fitting (sig : Signature) (k : ℕ) (r : Row) (v : Value) : Type 0 where
  pub kinded : OfKind sig k v
  pub fits : row_fits r v ≡ true

pub each_fits : {sig : Signature} {ks : List ℕ} {vs : Values} (rs : Rows) → OfKinds sig ks vs → rows_fit rs vs ≡ true → Valued (Fitting sig) ks rs vs
each_fits rnil of_kinds_nil e = valued_nil
each_fits rnil (of_kinds_cons h hs) e = true≢false (sym e)
each_fits (rcons r rs) of_kinds_nil e = true≢false (sym e)
each_fits (rcons r rs) (of_kinds_cons {v = v} {vs = vs} h hs) e = valued_cons (record { kinded = h; fits = and_left (row_fits r v) (rows_fit rs vs) e }) (each_fits rs hs (and_right (row_fits r v) (rows_fit rs vs) e))
