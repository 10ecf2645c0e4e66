-- 01, Turned down: an entry from 4 on, under rules in force.
use Rattle.std.specs.Prelude.{◌≡◌, List, ℕ, ◌+◌, ◌*◌, ◌≤◌, length, Option, None, Some}
use Rattle.signature.specs.Signature.{Signature}
use Rattle.rowset.specs.Limits.{row_limit}
use Rattle.rowset.specs.Member.{set_words}
use Rattle.table.specs.Calls.{Entered as Answer, Shows, begin, enter_table}
use Rattle.table.specs.Limits.{limits, witness_length}
use Rattle.table.specs.Refusals.{entry_refusal}
use Rattle.table.specs.Rule.{Rule}
use Rattle.table.specs.Sound.{sound}
use Rattle.builder.specs.Build.{words_room}
use Rattle.loading.specs.Load.{InForce}
use Rattle.entry.specs.Check.{Cleared}
use Rattle.entry.specs.Entry.{entry_answer, Numbered}
use Rattle.entry.specs.declared.sound.Entry.{Entry}

-- an entry that none of 4 to 11 applies to
pub record GivenSettle (t table : List ℕ) (n : ℕ) (ws : List ℕ) (at used : ℕ) (rows : List ℕ) (m l : ℕ) : Type 0 where
  pub total : ℕ
  pub force : InForce t table used total rows
  pub cleared : Cleared force.known.sig force.rs n ws at
  pub room : used + 1 + words_room (length ws) ≤ length rows
  pub work_room : words_room (length ws) ≤ m
  pub matrix_room : set_words * row_limit ≤ m
  pub witness_long : witness_length ≤ l

-- the relation Enter where the rules in force are known
pub record EntryOf (sig : Signature) (rs : List Rule) (n plan : ℕ) (ws before witness : List ℕ) (e : Answer) (after witness' : List ℕ) : Type 0 where
  pub number_is : e.number ≡ entry_refusal limits sig n ws rs
  pub table_is : after ≡ enter_table limits (begin sig rs) n plan ws before
  pub not_12 : (e.number ≡ 12 → ⊥) → (e.sharer ≡ 0) × (e.shown ≡ 0) × (witness' ≡ witness)
  pub on_12 : e.number ≡ 12 → Shows sig rs ws witness e witness'

-- an entry tried: no room tells P, and nothing is written
abbrev pub TriedAs : Type 0 → Signature → List Rule → ℕ → ℕ → List ℕ → List ℕ → List ℕ → Option Entry → List ℕ → List ℕ → Type 0
TriedAs P sig rs n plan ws before witness None after witness' = P × (after ≡ before) × (witness' ≡ witness)
TriedAs P sig rs n plan ws before witness (Some e) after witness' = EntryOf sig rs n plan ws before witness (entry_answer e) after witness' × Numbered e
