-- 3: a sound table, and the rows of its rules.
use Rattle.std.specs.Prelude.{◌≡◌, List, Result, Ok, Err, ◌++◌, map, ℕ, ◌≤◌, length}
use Rattle.std.proofs.Math.Option.{none, some}
use Rattle.signature.specs.Decoded.{Known}
use Rattle.signature.specs.Signature.{Signature}
use Rattle.table.specs.Limits.{limits, table_length}
use Rattle.table.specs.Rule.{Rule, total_weight}
use Rattle.table.specs.Sound.{sound}
use Rattle.loading.specs.Add.{lists_room}
use Rattle.loading.specs.Lists.{lists_for}
use Rattle.loading.specs.declared.add.LoadError.{LoadError}
use Rattle.loading.specs.declared.add.LoadError.TheVariants.{Unsound, NoRoom}

pub record GivenLoad (t table : List ℕ) : Type 0 where
  pub known : Known t
  pub long : table_length limits ≤ length table

-- the patterns of rules
abbrev pub patterns : List Rule → List (List ℕ)
patterns rs = map (λ r. r.pattern) rs

-- the lists of the rules' rows stand first
pub record Ready (sig : Signature) (rs : List Rule) (used total : ℕ) (rows : List ℕ) : Type 0 where
  pub rest : List ℕ
  pub code_is : rows ≡ lists_for sig (patterns rs) ++ rest
  pub used_is : used ≡ length (lists_for sig (patterns rs))
  pub total_is : total ≡ total_weight sig rs
  pub small : used ≤ lists_room total (length rs)

-- a sound table under the signature whose table is t, with the rows of its rules first in rows, as `load` and `open` leave them
pub record InForce (t table : List ℕ) (used total : ℕ) (rows : List ℕ) : Type 0 where
  pub known : Known t
  pub rs : List Rule
  pub is_sound : sound limits known.sig table ≡ some rs
  pub ready : Ready known.sig rs used total rows

-- whether the table is sound, with the lists of its rules' rows; no room tells P, and nothing of the table
abbrev pub LoadedAs : Type 0 → Signature → List ℕ → Result (ℕ × ℕ) LoadError → List ℕ → Type 0
LoadedAs P sig table (Err NoRoom) rows = P
LoadedAs P sig table (Err Unsound) rows = sound limits sig table ≡ none
LoadedAs P sig table (Ok (used, total)) rows = (rs : List Rule) × (sound limits sig table ≡ some rs) × Ready sig rs used total rows
