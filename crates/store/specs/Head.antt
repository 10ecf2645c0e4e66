-- The reading of one rule of a table.
use Rattle.std.specs.Prelude.{◌≡◌, List, Option, Some, None, false, ℕ, suc, ◌<◌, ◌≤◌, drop, take}
use Rattle.signature.specs.Lists.{is_some}
use Rattle.table.specs.Limits.{limits, table_length}
use Rattle.table.specs.Sound.{read_rules}

-- the words of a table from an index on
abbrev pub from : List ℕ → ℕ → List ℕ
from table at = drop at (take (table_length limits) table)

-- a rule that rises above m stands there, and others may follow it; or none does
abbrev pub HeadAt : List ℕ → ℕ → ℕ → Option (ℕ × ℕ) → Type 0
HeadAt table at m (Some (number, end)) = (at < end) × (end ≤ (table_length limits)) × ((n : ℕ) → is_some (read_rules (suc n) m (from table at)) ≡ is_some (read_rules n number (from table end)))
HeadAt table at m None = (n : ℕ) → is_some (read_rules (suc n) m (from table at)) ≡ false
