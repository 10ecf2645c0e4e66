-- The whole pattern.
use Rattle.std.specs.Prelude.{Option, None, Some, is_some}
use mathlib.Core.Path.{◌≡◌, sym}
use mathlib.Core.List.{List}
use mathlib.Core.Bool.{Bool, true, false, not}
use Prim.Native.Nat.{ℕ}
use Rattle.signature.proofs.Tests.{true≢false}
use Rattle.row.specs.Overlap.{ambiguous_plus}
use Rattle.builder.proofs.Whole.{whole_given}
use Rattle.builder.specs.Build.{GivenWhole, GivenPart}
use Rattle.ambiguity.specs.Ambiguity.{Judged}

module _ {t ws : List ℕ} {n m : ℕ} (g : GivenWhole t ws n m) where
  pub whole_told : (r : Option (Bool × ℕ)) → ((o : GivenPart t 0 ws true n m) → Judged true o.known.sig 0 o.pattern r) → (b : Bool) → is_some r ≡ not b → b ≡ ambiguous_plus g.known.sig 0 g.p
  unfolding whole_given
  whole_told (Some r) gave false e = sym (gave (whole_given g)).0
  whole_told (Some r) gave true e = true≢false e
  whole_told None gave true e = sym (gave (whole_given g))
  whole_told None gave false e = true≢false (sym e)
