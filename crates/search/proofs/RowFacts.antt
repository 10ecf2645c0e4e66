-- Rows of a list by their number.
use mathlib.Core.Path.{◌≡◌, refl}
use mathlib.Core.List.{List, [], ◌∷◌}
use mathlib.Core.Bool.{true, false}
use mathlib.Core.Option.{some}
use Prim.Native.Nat.{ℕ, zero, suc, ◌<◌}
use native.Mathlib.Omega.{arith}
use lib.ListN.{length, get_elem?}
use Rattle.signature.specs.Lists.{All}
use Rattle.signature.specs.Value.{Value}
use Rattle.signature.proofs.Booleans.{or_true_left, or_true_right}
use Rattle.signature.proofs.ListFacts.{all_at}
use Rattle.row.specs.Row.{Row}
use Rattle.row.specs.RowFits.{row_fits, fits_some}
use Rattle.search.specs.Branch.{row_at}

pub row_there : (rs : List Row) (r : ℕ) → r < length rs → get_elem? rs r ≡ some (row_at rs r)
row_there [] r l = absurd (omega (arith, l))
row_there (e ∷ es) zero l = refl
row_there (e ∷ es) (suc r) l = row_there es r (omega (arith, l))

-- a row that takes a value is some row that does
pub taken_some : (rs : List Row) (r : ℕ) (v : Value) → r < length rs → row_fits (row_at rs r) v ≡ true → fits_some rs v ≡ true
taken_some [] r v l e = absurd (omega (arith, l))
taken_some (x ∷ xs) zero v l e = or_true_left (row_fits x v) (fits_some xs v) e
taken_some (x ∷ xs) (suc r) v l e = or_true_right (row_fits x v) (fits_some xs v) (taken_some xs r v (omega (arith, l)) e)

-- and where none of them does, none of the list does
pub none_taken : (rs : List Row) (v : Value) → ((r : ℕ) → r < length rs → row_fits (row_at rs r) v ≡ false) → fits_some rs v ≡ false
none_taken [] v f = refl
none_taken (x ∷ xs) v f = rw (f 0 (omega arith)) (none_taken xs v (λ r l. f (suc r) (omega (arith, l))))

-- what holds of all rows holds of each
pub at_row : {P : Row → Type 0} (rs : List Row) (r : ℕ) → All P rs → r < length rs → P (row_at rs r)
at_row rs r h l = all_at h r (row_at rs r) (row_there rs r l)
