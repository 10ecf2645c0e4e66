-- 01, Turned down: 4, 5 and 7 to 11 of an entry.
use Rattle.std.specs.Prelude.{◌≡◌, List, cond, not, ◌&&◌, ℕ, ◌+◌, ◌≤◌, ◌<◌, leb, length, Result, Ok, Err}
use Rattle.signature.specs.Lists.{any}
use Rattle.signature.specs.Signature.{Signature}
use Rattle.pattern.specs.Weight.{weight}
use Rattle.row.specs.Admitted.{refusal_of_pattern}
use Rattle.row.specs.Overlap.{shares}
use Rattle.tree.specs.Limits.{last_number}
use Rattle.table.specs.Limits.{limits}
use Rattle.table.specs.Refusals.{entry_refusal}
use Rattle.table.specs.Rule.{Rule, held, total_weight}
use Rattle.builder.specs.Build.{words_room}
use Rattle.store.specs.Place.{FreeAt}
use Rattle.loading.specs.Load.{InForce, Ready}

-- "4. The rule number is not 1 to 999. 5. The number to enter is held.", or else a later number
abbrev pub number_refusal : ℕ → List Rule → ℕ → ℕ
number_refusal n rs later = cond (not (leb 1 n && leb n last_number)) 4 (cond (held n rs) 5 later)

-- 4 or 5, whatever comes later; or where the rule goes in. 12 alone shows a booking, so a refusal before it is told from it
abbrev pub FreeFor : ℕ → List Rule → Result ℕ ℕ → Type 0
FreeFor n rs (Err q) = (1 ≤ q) × (q ≡ 12 → ⊥) × ((later : ℕ) → number_refusal n rs later ≡ q)
FreeFor n rs (Ok at) = (1 ≤ n) × (n ≤ last_number) × FreeAt n rs at

-- rules in force, and room for the words behind their rows
pub record GivenCheck (t table ws : List ℕ) (used total : ℕ) (rows : List ℕ) (m : ℕ) : Type 0 where
  pub force : InForce t table used total rows
  pub room : used + 1 + words_room (length ws) ≤ length rows
  pub work_room : words_room (length ws) ≤ m

-- none of 4 to 11 and 18 applies, and the rule would go in there
pub record Cleared (sig : Signature) (rs : List Rule) (n : ℕ) (ws : List ℕ) (at : ℕ) : Type 0 where
  pub free : FreeAt n rs at
  pub passed : refusal_of_pattern sig ws ≡ 0
  pub few : length rs < limits.rules
  pub light : weight sig ws + total_weight sig rs ≤ limits.weight
  pub refusal_is : entry_refusal limits sig n ws rs ≡ cond (any (λ r. shares sig ws r.pattern) rs) 12 0

-- the first of 4 to 11 and 18 that applies; or none does, and the rules' rows are still there
abbrev pub CheckedAs : Signature → List Rule → ℕ → List ℕ → ℕ → ℕ → Result ℕ ℕ → List ℕ → Type 0
CheckedAs sig rs n ws used total (Err q) rows = (1 ≤ q) × (q ≡ 12 → ⊥) × (entry_refusal limits sig n ws rs ≡ q)
CheckedAs sig rs n ws used total (Ok at) rows = Cleared sig rs n ws at × Ready sig rs used total rows
