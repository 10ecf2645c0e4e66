-- A number that is within a list's length counts elements at its start: what std's `IsPrefixLen` says of it.
use mathlib.Core.Path.{◌≡◌, sym}
use mathlib.Core.List.{List}
use Prim.Native.Nat.{ℕ, ◌≤◌}
use lib.ListN.{length, take}
use lib.Seq.{length-take-le}

pub counted : (n : ℕ) (xs : List ℕ) → n ≤ length xs → (n ≤ length xs) × (n ≡ length (take n xs))
counted n xs h = (h, sym (length-take-le n xs h))
