-- 12: the lowest rule that shares a booking with a pattern.
use Rattle.std.specs.Prelude.{◌≡◌, List, ◌++◌, true, false, ℕ, ◌+◌, ◌≤◌, length, Option as CodeOption, None, Some}
use Rattle.std.proofs.Math.Option.{some}
use Rattle.signature.specs.Lists.{any}
use Rattle.signature.specs.Signature.{Signature}
use Rattle.pattern.specs.Pattern.{Pattern}
use Rattle.pattern.specs.Read.{read_pattern}
use Rattle.pattern.specs.Weight.{weight}
use Rattle.row.specs.Overlap.{shares}
use Rattle.cell.specs.RowList.{from}
use Rattle.table.specs.Calls.{Shows}
use Rattle.table.specs.Limits.{limits, witness_length}
use Rattle.table.specs.Rule.{Rule, total_weight}
use Rattle.loading.specs.Lists.{list_for}
use Rattle.loading.specs.Load.{InForce}
use Rattle.sharing.specs.declared.first.Sharer.{Sharer}

-- rules in force, and the list of a pattern's rows at an index; not too heavy in all, so that there are 256 rows at most
pub record GivenSharer (t table rows : List ℕ) (at n : ℕ) : Type 0 where
  pub used : ℕ
  pub total : ℕ
  pub force : InForce t table used total rows
  pub ws : List ℕ
  pub p : Pattern
  pub read : read_pattern force.known.sig ws ≡ some p
  pub light : weight force.known.sig ws + total_weight force.known.sig force.rs ≤ limits.weight
  pub rest' : List ℕ
  pub within : at ≤ length rows
  pub last : from rows at ≡ list_for force.known.sig ws ++ rest'
  pub room : witness_length ≤ n

-- no rule shares a booking, and nothing is written; or the lowest that does, with the booking that is shown
abbrev pub SharerOf : Signature → List Rule → List ℕ → List ℕ → CodeOption Sharer → List ℕ → Type 0
SharerOf sig rs ws o None o' = (any (λ s. shares sig ws s.pattern) rs ≡ false) × (o' ≡ o)
SharerOf sig rs ws o (Some r) o' = (any (λ s. shares sig ws s.pattern) rs ≡ true) × Shows sig rs ws o (record { number = 12; sharer = r.rule; shown = r.length }) o'
