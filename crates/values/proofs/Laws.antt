-- The laws of values under rows hold.
use mathlib.Core.Path.{◌≡◌, sym}
use mathlib.Core.Bool.{true}
use Prim.Native.Nat.{◌≤◌}
use native.Mathlib.Omega.{arith}
use lib.Dec.{eqb}
use Rattle.signature.specs.Value.{Value, con, Values, vnil, vcons, size, sizes}
use Rattle.signature.proofs.Booleans.{and_left, and_right}
use Rattle.signature.proofs.Tests.{true≢false}
use Rattle.row.specs.Row.{Row, named, free, Rows, rnil, rcons}
use Rattle.row.specs.RowFits.{row_fits, rows_fit, place_count, places_count}
use Rattle.values.specs.Laws.{Laws}
use Rattle.values.proofs.HeadSizes.{head_least}

mutual
  cells_words : (r : Row) (v : Value) → row_fits r v ≡ true → place_count r ≤ size v
  cells_words (named xs c rs) (con d vs) e = omega (arith, all_cells_words rs vs (and_right (eqb c d) (rows_fit rs vs) e))
  cells_words (free xs cs) (con d vs) e = omega arith

  all_cells_words : (rs : Rows) (vs : Values) → rows_fit rs vs ≡ true → places_count rs ≤ sizes vs
  all_cells_words rnil vs e = omega arith
  all_cells_words (rcons r rs) vnil e = true≢false (sym e)
  all_cells_words (rcons r rs) (vcons v vs) e = omega (arith, cells_words r v (and_left (row_fits r v) (rows_fit rs vs) e), all_cells_words rs vs (and_right (row_fits r v) (rows_fit rs vs) e))

pub laws : Laws
laws = record { cells_words = cells_words; head_least = λ t g. head_least g }
