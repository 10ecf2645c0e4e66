-- The entry past refusals 1 and 2.
use Rattle.std.specs.Prelude.{◌≡◌, List, ℕ, ◌≤◌, length, Option, Some, None}
use Rattle.signature.specs.Signature.{Signature}
use Rattle.table.specs.Calls.{Enter, enter_start, on_sound}
use Rattle.table.specs.Limits.{limits, witness_length}
use Rattle.table.specs.Sound.{sound}
use Rattle.loading.specs.Load.{GivenLoad}
use Rattle.entry.specs.Entry.{entry_answer, Numbered}
use Rattle.entry.specs.declared.sound.Entry.{Entry}

-- a lawful signature's table, and slices that are long enough
pub record GivenEnter (t table witness : List ℕ) : Type 0 where
  pub load : GivenLoad t table
  pub witness_long : witness_length ≤ length witness

-- under a signature by which neither 1 nor 2 applies
abbrev pub EntersAs : Signature → ℕ → ℕ → List ℕ → List ℕ → List ℕ → Entry → List ℕ → List ℕ → Type 0
EntersAs sig n plan ws before witness e after witness' = ((ss : List ℕ) → enter_start limits ss before witness ≡ on_sound sig (sound limits sig before) → Enter limits ss n plan ws before witness (entry_answer e) after witness') × Numbered e

-- no room tells P, and nothing is written
abbrev pub TriesAs : Type 0 → Signature → ℕ → ℕ → List ℕ → List ℕ → List ℕ → Option Entry → List ℕ → List ℕ → Type 0
TriesAs P sig n plan ws before witness None after witness' = P × (after ≡ before) × (witness' ≡ witness)
TriesAs P sig n plan ws before witness (Some e) after witness' = EntersAs sig n plan ws before witness e after witness'
