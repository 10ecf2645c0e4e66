-- The tree of the rules in force.
use Rattle.std.specs.Prelude.{◌≡◌, List, ℕ, Option, Some, None, Result, Ok, Err}
use Rattle.signature.specs.Signature.{Signature}
use Rattle.table.specs.Calls.{CompileFrom, on_sound}
use Rattle.table.specs.Limits.{limits}
use Rattle.table.specs.Rule.{default_of}
use Rattle.table.specs.Sound.{sound}
use Rattle.loading.specs.Load.{InForce}
use Rattle.signature.specs.Refusal.{number_in}
use Rattle.signature.specs.declared.refusals.Refusal.{Refusal}

-- words of the smaller working space for a tree
abbrev pub small_tree : ℕ
small_tree = 2048

-- rules in force, with their lists of rows, whatever these use and weigh
pub record InTable (t table lists : List ℕ) : Type 0 where
  pub used : ℕ
  pub total : ℕ
  pub force : InForce t table used total lists

-- the call past refusals 1 and 2
abbrev pub CompilesAs : Signature → List ℕ → List ℕ → ℕ → ℕ → List ℕ → Type 0
CompilesAs sig table space number len space' = CompileFrom (default_of table) (on_sound sig (sound limits sig table)) space number len space'

-- the tree's length; "other results 0" on a refusal
abbrev pub length_in : Result ℕ Refusal → ℕ
length_in (Ok n) = n
length_in (Err r) = 0

-- no room tells P, and nothing is written
abbrev pub TriedAs : Type 0 → Signature → List ℕ → List ℕ → Option (Result ℕ Refusal) → List ℕ → Type 0
TriedAs P sig table space None space' = P × (space' ≡ space)
TriedAs P sig table space (Some r) space' = CompilesAs sig table space (number_in r) (length_in r) space'
