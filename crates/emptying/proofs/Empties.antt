-- 2, and the empty table.
use mathlib.Core.Path.{◌≡◌}
use mathlib.Core.List.{List, []}
use Prim.Native.Nat.{ℕ, ◌<◌, ◌≤◌}
use lib.ListN.{length}
use Rattle.signature.proofs.Tests.{leb_yes, leb_no}
use Rattle.table.specs.Calls.{Empty}
use Rattle.table.specs.Limits.{limits, table_length, emptied_default}
use Rattle.table.specs.Rule.{stored}

module _ (table : List ℕ) where
  pub not_emptied : length table < (table_length limits) → Empty limits table 2 table
  not_emptied h = let z = leb_no (table_length limits) (length table) h in record { number_is = rw z; table_is = rw z }

  pub emptied : table_length limits ≤ length table → (after : List ℕ) → after ≡ stored limits emptied_default [] table → Empty limits table 0 after
  emptied h after e = let z = leb_yes (table_length limits) (length table) h in record { number_is = rw z; table_is = rw (e, z) }
