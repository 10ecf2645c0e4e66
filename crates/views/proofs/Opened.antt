-- Which cells a set of open cells keeps, and what the set of the first of them says.
use mathlib.Core.Path.{◌≡◌, refl, sym, ◌∙◌}
use mathlib.Core.Bool.{Bool, true, false, cond, ◌||◌}
use Prim.Native.Nat.{ℕ, suc, ◌+◌, ◌<◌}
use native.Mathlib.Omega.{arith}
use lib.Dec.{eqb, ltb}
use Rattle.signature.proofs.Tests.{eqb_eq, eqb_ne, eqb_no, true≢false, ltb_yes}
use Rattle.row.specs.Row.{Row, named, free, Rows, rnil, rcons}
use Rattle.row.specs.RowFits.{place_count}
use Rattle.sets.specs.Set.{bit}
use Rattle.sets.proofs.SetLaws.{bit_lt, bit_zero}
use Rattle.views.specs.View.{kept_of, with_cell, edge, edges}

pub open_bit : (s i : ℕ) → eqb (bit s i) 1 ≡ true → kept_of s i ≡ false
open_bit s i e = eqb_no (bit s i) 0 (λ z. absurd (omega (arith, z, eqb_eq (bit s i) 1 e)))

pub kept_bit : (s i : ℕ) → eqb (bit s i) 1 ≡ false → kept_of s i ≡ true
kept_bit s i e = let z : bit s i ≡ 0 = omega (arith, bit_lt s i, eqb_ne (bit s i) 1 e) in rw z

-- where the cells below n are open, none of them is kept
pub none_kept : (s n : ℕ) → ((j : ℕ) → bit s j ≡ cond (ltb j n) 1 0) → (i : ℕ) → i < n → kept_of s i ≡ false
none_kept s n h i l = rw (h i, ltb_yes i n l)

-- with one cell less open one more is kept
pub one_more : (s r c : ℕ) → ((j : ℕ) → bit r j ≡ cond (eqb j c) 0 (bit s j)) → (i : ℕ) → kept_of r i ≡ with_cell (kept_of s) c i
one_more s r c h i = rw (h i) (go (eqb i c))
  where
    go : (b : Bool) → eqb (cond b 0 (bit s i)) 0 ≡ (b || eqb (bit s i) 0)
    go true = refl
    go false = refl

-- the first cells that are not kept are not kept
module _ (kept : ℕ → Bool) (c : ℕ) where
  edge_here : (b : Bool) (i : ℕ) (es : Bool) → kept i ≡ b → cond b es (eqb i c) ≡ true → (es ≡ true → kept c ≡ false) → kept c ≡ false
  edge_here true i es e h q = q h
  edge_here false i es e h q = rw (← eqb_eq i c h) e

  edge_there : (e es : Bool) → (e || es) ≡ true → (e ≡ true → kept c ≡ false) → (es ≡ true → kept c ≡ false) → kept c ≡ false
  edge_there true es h p q = p refl
  edge_there false es h p q = q h

  mutual
    pub edge_open : (i : ℕ) (r : Row) → edge kept c i r ≡ true → kept c ≡ false
    edge_open i (named xs d rs) h = edge_here (kept i) i (edges kept c (suc i) rs) refl h (λ q. edges_open (suc i) rs q)
    edge_open i (free xs cs) h = edge_here (kept i) i false refl h (λ q. true≢false (sym q))

    edges_open : (i : ℕ) (rs : Rows) → edges kept c i rs ≡ true → kept c ≡ false
    edges_open i rnil h = true≢false (sym h)
    edges_open i (rcons r rs) h = edge_there (edge kept c i r) (edges kept c (i + place_count r) rs) h (λ q. edge_open i r q) (λ q. edges_open (i + place_count r) rs q)

-- what the set of them says of a cell, and where it is empty
module _ (r : Row) (opened : ℕ) where
  -- m has the first cells that are not kept
  abbrev Firsts : ℕ → Type 0
  Firsts m = (c : ℕ) → bit m c ≡ cond (edge (kept_of opened) c 0 r) 1 0

  one_yes : (b : Bool) → ◌≡◌ {A = ℕ} (cond b 1 0) 1 → b ≡ true
  one_yes true e = refl
  one_yes false e = absurd (omega (arith, e))

  none_yes : (b : Bool) → ◌≡◌ {A = ℕ} (cond b 1 0) 0 → b ≡ false
  none_yes true e = absurd (omega (arith, e))
  none_yes false e = refl

  pub found : (m : ℕ) → Firsts m → (c : ℕ) → bit m c ≡ 1 → edge (kept_of opened) c 0 r ≡ true
  found m F c e = one_yes (edge (kept_of opened) c 0 r) (sym (F c) ∙ e)

  pub none_found : (m : ℕ) → m ≡ 0 → Firsts m → (c : ℕ) → edge (kept_of opened) c 0 r ≡ false
  none_found m e F c = none_yes (edge (kept_of opened) c 0 r) (sym (F c) ∙ (rw e (bit_zero c)))
