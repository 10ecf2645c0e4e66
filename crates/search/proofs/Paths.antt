-- A path with one step more.
use mathlib.Core.Path.{◌≡◌, refl, ap, ap₂, ◌∙◌}
use mathlib.Core.List.{List}
use mathlib.Core.Bool.{◌&&◌}
use Prim.Native.Nat.{ℕ, zero, suc, ◌+◌, ◌*◌, ◌≤◌, ◌<◌}
use native.Mathlib.Omega.{arith}
use lib.ListN.{length, get_or, set, length-set}
use lib.Seq.{get_or-set_same, get_or-set_other}
use Rattle.signature.specs.Signature.{Signature}
use Rattle.signature.specs.Value.{Value}
use Rattle.row.specs.Row.{Row}
use Rattle.rowset.specs.Limits.{row_limit}
use Rattle.path.specs.Rows.{Before}
use Rattle.search.specs.Branch.{path_length, leaves, on_path}

abbrev pub stepped : List ℕ → ℕ → ℕ → ℕ → ℕ → List ℕ
stepped path i r opened c = set (set (set path (3 * i) r) (3 * i + 1) opened) (3 * i + 2) c

pub before_step : (path : List ℕ) (i r o c : ℕ) → Before (3 * i) path (stepped path i r o c)
before_step path i r o c j l = get_or-set_other (set (set path (3 * i) r) (3 * i + 1) o) (3 * i + 2) j c 0 (λ z. omega (arith, z)) ∙ get_or-set_other (set path (3 * i) r) (3 * i + 1) j o 0 (λ z. omega (arith, z)) ∙ get_or-set_other path (3 * i) j r 0 (λ z. omega (arith, z))

pub before_both : (m n : ℕ) (p p' p'' : List ℕ) → m ≤ n → Before m p p' → Before n p' p'' → Before m p p''
before_both m n p p' p'' l f g j h = g j (omega (arith, h)) ∙ f j h

pub long_step : (path : List ℕ) (i r o c : ℕ) → length (stepped path i r o c) ≡ length path
long_step path i r o c = length-set (set (set path (3 * i) r) (3 * i + 1) o) (3 * i + 2) c ∙ length-set (set path (3 * i) r) (3 * i + 1) o ∙ length-set path (3 * i) r

module _ (path : List ℕ) (i r o c : ℕ) (len : length path ≡ path_length) (l : i < row_limit) where
  pub row_there : get_or (stepped path i r o c) (3 * i) 0 ≡ r
  row_there = get_or-set_other (set (set path (3 * i) r) (3 * i + 1) o) (3 * i + 2) (3 * i) c 0 (λ z. omega (arith, z)) ∙ get_or-set_other (set path (3 * i) r) (3 * i + 1) (3 * i) o 0 (λ z. omega (arith, z)) ∙ get_or-set_same path (3 * i) r 0 (omega (arith, len))

  opened_there : get_or (stepped path i r o c) (3 * i + 1) 0 ≡ o
  opened_there = get_or-set_other (set (set path (3 * i) r) (3 * i + 1) o) (3 * i + 2) (3 * i + 1) c 0 (λ z. omega (arith, z)) ∙ get_or-set_same (set path (3 * i) r) (3 * i + 1) o 0 (omega (arith, len, length-set path (3 * i) r))

  cell_there : get_or (stepped path i r o c) (3 * i + 2) 0 ≡ c
  cell_there = get_or-set_same (set (set path (3 * i) r) (3 * i + 1) o) (3 * i + 2) c 0 (omega (arith, len, length-set path (3 * i) r, length-set (set path (3 * i) r) (3 * i + 1) o))

module _ (sig : Signature) (rs : List Row) where
  -- only the steps before one decide
  pub path_same : (d : ℕ) (p p' : List ℕ) → Before (3 * d) p p' → (v : Value) → on_path sig rs p' d v ≡ on_path sig rs p d v
  path_same zero p p' h v = refl
  path_same (suc d) p p' h v =
      let e₀ : get_or p' (3 * d) 0 ≡ get_or p (3 * d) 0 = h (3 * d) (omega arith) in
      let e₁ : get_or p' (3 * d + 1) 0 ≡ get_or p (3 * d + 1) 0 = h (3 * d + 1) (omega arith) in
      let e₂ : get_or p' (3 * d + 2) 0 ≡ get_or p (3 * d + 2) 0 = h (3 * d + 2) (omega arith) in
      ap₂ ◌&&◌ (path_same d p p' (λ j l. h j (omega (arith, l))) v) (ap (λ (x : ℕ). leaves sig rs x (get_or p' (3 * d + 1) 0) (get_or p' (3 * d + 2) 0) v) e₀ ∙ ap (λ (x : ℕ). leaves sig rs (get_or p (3 * d) 0) x (get_or p' (3 * d + 2) 0) v) e₁ ∙ ap (λ (x : ℕ). leaves sig rs (get_or p (3 * d) 0) (get_or p (3 * d + 1) 0) x v) e₂)

  -- a step more
  pub path_step : (path : List ℕ) (i r o c : ℕ) → length path ≡ path_length → i < row_limit → (v : Value) → on_path sig rs (stepped path i r o c) (suc i) v ≡ (on_path sig rs path i v && leaves sig rs r o c v)
  path_step path i r o c len l v =
      let p' = stepped path i r o c in
      ap₂ ◌&&◌ (path_same i path p' (before_step path i r o c) v) (ap (λ (x : ℕ). leaves sig rs x (get_or p' (3 * i + 1) 0) (get_or p' (3 * i + 2) 0) v) (row_there path i r o c len l) ∙ ap (λ (x : ℕ). leaves sig rs r x (get_or p' (3 * i + 2) 0) v) (opened_there path i r o c len l) ∙ ap (λ (x : ℕ). leaves sig rs r o x v) (cell_there path i r o c len l))
