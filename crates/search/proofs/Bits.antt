-- How many bits of a set are left.
use mathlib.Core.Path.{◌≡◌, refl, ◌∙◌}
use mathlib.Core.Bool.{Bool, true, false, cond}
use Prim.Native.Nat.{ℕ, zero, suc, ◌+◌, ◌≤◌, ◌<◌}
use native.Mathlib.Omega.{arith}
use lib.Dec.{eqb}
use Rattle.signature.proofs.Tests.{eqb_eq, eqb_ne, eqb_no}
use Rattle.row.specs.Row.{Row}
use Rattle.sets.specs.Set.{bit}
use Rattle.views.specs.View.{kept_of, edge}
use Rattle.views.proofs.Opened.{edge_open}

abbrev pub bits : ℕ → ℕ → ℕ
bits s zero = 0
bits s (suc n) = bit s n + bits s n

same_bits : (s s' c n : ℕ) → ((j : ℕ) → bit s' j ≡ cond (eqb j c) 0 (bit s j)) → n ≤ c → bits s' n ≡ bits s n
same_bits s s' c zero h l = refl
same_bits s s' c (suc n) h l = rw (h n, eqb_no n c (λ z. omega (arith, l, z)), same_bits s s' c n h (omega (arith, l))) refl

-- one is out
pub bits_less : (s s' c n : ℕ) → ((j : ℕ) → bit s' j ≡ cond (eqb j c) 0 (bit s j)) → c < n → 1 ≤ bit s c → suc (bits s' n) ≤ bits s n
bits_less s s' c zero h l e = absurd (omega (arith, l))
bits_less s s' c (suc n) h l e = go (eqb n c) refl (λ m. bits_less s s' c n h m e)
  where
    go : (b : Bool) → eqb n c ≡ b → (c < n → suc (bits s' n) ≤ bits s n) → suc (bit s' n + bits s' n) ≤ bit s n + bits s n
    go true q k =
        let z : n ≡ c = eqb_eq n c q in
        let x : bit s' n ≡ 0 = h n ∙ (rw q refl) in
        let y : 1 ≤ bit s n = rw z e in
        omega (arith, x, y, same_bits s s' c n h (omega (arith, z)))
    go false q k = let x : bit s' n ≡ bit s n = h n ∙ (rw q refl) in omega (arith, x, k (omega (arith, l, eqb_ne n c q)))

pub edge_bit : (opened c : ℕ) (r : Row) → edge (kept_of opened) c 0 r ≡ true → 1 ≤ bit opened c
edge_bit opened c r e = omega (arith, eqb_ne (bit opened c) 0 (edge_open (kept_of opened) c 0 r e))
