-- A level against the ends of a range, as the code compares them.
use mathlib.Core.Path.{◌≡◌, sym, ◌∙◌}
use mathlib.Core.Bool.{false}
use Prim.Native.Nat.{ℕ, ◌+◌, ◌-◌, ◌≤◌, ◌<◌}
use native.Mathlib.Decide.{dec_le}
use native.Mathlib.Omega.{arith}
use lib.Dec.{leb}
use Rattle.signature.specs.Limits.{level_base}
use Rattle.signature.proofs.Tests.{leb_yes, leb_no}
use Rattle.pattern.specs.Range.{within}

module _ (low high d : ℕ) where
  pub below_levels : d < level_base → false ≡ within low high d
  below_levels l = rw (leb_no (level_base + low) d (omega arith))

  module _ (l : level_base ≤ d) where
    pub below_low : d - level_base < low → false ≡ within low high d
    below_low h = rw (leb_no (level_base + low) d (omega arith))

    pub from_low : low ≤ d - level_base → leb (d - level_base) high ≡ within low high d
    from_low h = rw (leb_yes (level_base + low) d (omega arith)) (go (dec_le (d - level_base) high))
      where
        go : Dec (d - level_base ≤ high) → leb (d - level_base) high ≡ leb d (level_base + high)
        go (yes k) = leb_yes (d - level_base) high k ∙ sym (leb_yes d (level_base + high) (omega arith))
        go (no k) = leb_no (d - level_base) high (omega arith) ∙ sym (leb_no d (level_base + high) (omega arith))
