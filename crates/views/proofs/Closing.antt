-- Below a cell that is not kept none is: where none is kept, with one more, and of the same cells.
use mathlib.Core.Path.{◌≡◌, refl, sym, ◌∙◌}
use mathlib.Core.Logic.{◌⊎◌, inl, inr}
use mathlib.Core.Bool.{Bool, true, false, cond, ◌||◌}
use Prim.Native.Nat.{ℕ, suc, ◌+◌, ◌≤◌, ◌<◌}
use native.Mathlib.Omega.{arith}
use lib.Dec.{eqb}
use Rattle.signature.proofs.Booleans.{or_left, or_right, either}
use Rattle.signature.proofs.Tests.{true≢false, eqb_eq}
use Rattle.row.specs.Row.{Row, named, free, Rows, rnil, rcons}
use Rattle.row.specs.RowFits.{place_count, places_count}
use Rattle.views.specs.View.{with_cell, edge, edges, Closed, Closeds}
use Rattle.views.proofs.Missed.{Misses, misses}

module _ (kept : ℕ → Bool) where
  mutual
    pub closed_none : (i : ℕ) (r : Row) → ((j : ℕ) → i ≤ j → j < i + place_count r → kept j ≡ false) → Closed kept i r
    closed_none i (named xs c rs) h = (λ e j l m. h j (omega arith) (omega arith), closeds_none (suc i) rs (λ j l u. h j (omega arith) (omega arith)))
    closed_none i (free xs cs) h = tt

    closeds_none : (i : ℕ) (rs : Rows) → ((j : ℕ) → i ≤ j → j < i + places_count rs → kept j ≡ false) → Closeds kept i rs
    closeds_none i rnil h = tt
    closeds_none i (rcons r rs) h = (closed_none i r (λ j l u. h j l (omega arith)), closeds_none (i + place_count r) rs (λ j l u. h j (omega arith) (omega arith)))

module _ (f g : ℕ → Bool) (h : (i : ℕ) → f i ≡ g i) where
  mutual
    pub closed_same : (i : ℕ) (r : Row) → Closed f i r → Closed g i r
    closed_same i (named xs c rs) C = (λ e j l m. sym (h j) ∙ C.0 (h i ∙ e) j l m, closeds_same (suc i) rs C.1)
    closed_same i (free xs cs) C = tt

    closeds_same : (i : ℕ) (rs : Rows) → Closeds f i rs → Closeds g i rs
    closeds_same i rnil C = tt
    closeds_same i (rcons r rs) C = (closed_same i r C.0, closeds_same (i + place_count r) rs C.1)

module _ (kept : ℕ → Bool) (c : ℕ) where
  -- a cell of another row more
  mutual
    closed_out : (i : ℕ) (r : Row) → Misses c i (place_count r) → Closed kept i r → Closed (with_cell kept c) i r
    closed_out i (named xs d rs) n C = (λ e j l m. rw (n j (omega arith) (omega arith)) (C.0 (or_right (eqb i c) (kept i) e) j l m), closeds_out (suc i) rs (λ j l u. n j (omega arith) (omega arith)) C.1)
    closed_out i (free xs cs) n C = tt

    closeds_out : (i : ℕ) (rs : Rows) → Misses c i (places_count rs) → Closeds kept i rs → Closeds (with_cell kept c) i rs
    closeds_out i rnil n C = tt
    closeds_out i (rcons r rs) n C = (closed_out i r (λ j l u. n j l (omega arith)) C.0, closeds_out (i + place_count r) rs (λ j l u. n j (omega arith) (omega arith)) C.1)

  -- which cells may be the first that are not kept
  named_range : (b : Bool) (i n : ℕ) (es : Bool) → cond b es (eqb i c) ≡ true → (es ≡ true → (suc i ≤ c) × (c < suc i + n)) → (i ≤ c) × (c < i + suc n)
  named_range true i n es h q = let z = q h in (omega (arith, z.0), omega (arith, z.1))
  named_range false i n es h q = let z : i ≡ c = eqb_eq i c h in (omega (arith, z), omega (arith, z))

  one_range : (e es : Bool) (i m n : ℕ) → (e || es) ≡ true → (e ≡ true → (i ≤ c) × (c < i + m)) → (es ≡ true → (i + m ≤ c) × (c < i + m + n)) → (i ≤ c) × (c < i + (m + n))
  one_range true es i m n h p q = let z = p refl in (z.0, omega (arith, z.1))
  one_range false es i m n h p q = let z = q h in (omega (arith, z.0), omega (arith, z.1))

  mutual
    pub edge_range : (i : ℕ) (r : Row) → edge kept c i r ≡ true → (i ≤ c) × (c < i + place_count r)
    edge_range i (named xs d rs) h = named_range (kept i) i (places_count rs) (edges kept c (suc i) rs) h (λ q. edges_range (suc i) rs q)
    edge_range i (free xs cs) h = named_range (kept i) i 0 false h (λ q. true≢false (sym q))

    pub edges_range : (i : ℕ) (rs : Rows) → edges kept c i rs ≡ true → (i ≤ c) × (c < i + places_count rs)
    edges_range i rnil h = true≢false (sym h)
    edges_range i (rcons r rs) h = one_range (edge kept c i r) (edges kept c (i + place_count r) rs) i (place_count r) (places_count rs) h (λ q. edge_range i r q) (λ q. edges_range (i + place_count r) rs q)

  -- the first that is not kept more
  mutual
    pub closed_more : (i : ℕ) (r : Row) → Closed kept i r → edge kept c i r ≡ true → Closed (with_cell kept c) i r
    closed_more i (named xs d rs) C h = named_more (kept i) refl h (λ q. closeds_more (suc i) rs C.1 q) (λ z. closeds_out (suc i) rs (misses c (suc i) (places_count rs) (inl (omega (arith, z)))) C.1)
      where
        named_more : (b : Bool) → kept i ≡ b → edge kept c i (named xs d rs) ≡ true → (edges kept c (suc i) rs ≡ true → Closeds (with_cell kept c) (suc i) rs) → (i ≡ c → Closeds (with_cell kept c) (suc i) rs) → Closed (with_cell kept c) i (named xs d rs)
        named_more true e h p q = (λ z. true≢false (sym e ∙ or_right (eqb i c) (kept i) z), p (rw e at h))
        named_more false e h p q = let n : eqb i c ≡ true = rw e at h in (λ z. true≢false (sym n ∙ or_left (eqb i c) (kept i) z), q (eqb_eq i c n))
    closed_more i (free xs cs) C h = tt

    closeds_more : (i : ℕ) (rs : Rows) → Closeds kept i rs → edges kept c i rs ≡ true → Closeds (with_cell kept c) i rs
    closeds_more i rnil C h = tt
    closeds_more i (rcons r rs) C h = go (either (edge kept c i r) (edges kept c (i + place_count r) rs) h) (λ q. closed_more i r C.0 q) (λ q. closeds_more (i + place_count r) rs C.1 q)
      where
        go : (edge kept c i r ≡ true) ⊎ (edges kept c (i + place_count r) rs ≡ true) → (edge kept c i r ≡ true → Closed (with_cell kept c) i r) → (edges kept c (i + place_count r) rs ≡ true → Closeds (with_cell kept c) (i + place_count r) rs)
            → Closed (with_cell kept c) i r × Closeds (with_cell kept c) (i + place_count r) rs
        go (inl z) p q = (p z, closeds_out (i + place_count r) rs (misses c (i + place_count r) (places_count rs) (inl (edge_range i r z).1)) C.1)
        go (inr z) p q = (closed_out i r (misses c i (place_count r) (inr (edges_range (i + place_count r) rs z).0)) C.0, q z)
