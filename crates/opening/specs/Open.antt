-- 01, Turned down: 1 to 3, where every call on a table starts.
use Rattle.std.specs.Prelude.{◌≡◌, List, Option, Some, None, Bool, true, ℕ}
use Rattle.std.proofs.Math.Option.{some}
use Rattle.signature.specs.Decoded.{Known}
use Rattle.signature.specs.Lists.{is_some}
use Rattle.signature.specs.Read.{read_signature}
use Rattle.signature.specs.Signature.{Signature}
use Rattle.table.specs.Calls.{refused, begin, start, long_table}
use Rattle.table.specs.Limits.{limits}
use Rattle.table.specs.Rule.{Rule}
use Rattle.table.specs.Sound.{sound}
use Rattle.loading.specs.Add.{TooSmall}

-- the table of a lawful signature
pub record Lawful (ss t : List ℕ) : Type 0 where
  pub known : Known t
  pub read : read_signature ss ≡ some known.sig

-- the first of 1 and 2 that applies, or 0
pub record BeginsAs (ss : List ℕ) (long : Bool) (r : ℕ) (t : List ℕ) : Type 0 where
  pub begins : r ≡ 0 → Lawful ss t × (long ≡ true)
  pub refuses : (r ≡ 0 → ⊥) → (table : List ℕ) → start limits ss long table ≡ refused r

-- whether a table is sound, by arrays of n and m words; no answer tells that they are too small for some table
abbrev pub SoundAs : ℕ → ℕ → Signature → List ℕ → Option Bool → Type 0
SoundAs n m sig table None = TooSmall n m
SoundAs n m sig table (Some b) = b ≡ is_some (sound limits sig table)

-- the rules of a sound table
pub record Ruled (t table : List ℕ) : Type 0 where
  pub known : Known t
  pub rs : List Rule
  pub is_sound : sound limits known.sig table ≡ some rs

-- the first of 1 to 3 that applies to a lent table, or 0: then its rules are in force
pub record OpenedAs (ss table : List ℕ) (r : ℕ) (t : List ℕ) : Type 0 where
  pub begun : r ≡ 0 → (g : Ruled t table) × (start limits ss (long_table limits table) table ≡ begin g.known.sig g.rs)
  pub turned_down : (r ≡ 0 → ⊥) → start limits ss (long_table limits table) table ≡ refused r
