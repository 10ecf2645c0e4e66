-- Where the text program stands: the rules that are in force, and what of the text is still to be read.
use Rattle.std.specs.Prelude.{◌≡◌, List, ℕ, ◌≤◌, length, drop}
use Rattle.std.proofs.Math.Option.{some}
use Rattle.signature.specs.Read.{read_signature}
use Rattle.signature.specs.Signature.{Signature}
use Rattle.table.specs.Limits.{limits, emptied_default}
use Rattle.table.specs.Rule.{Rule, default_of}
use Rattle.table.specs.Sound.{sound}
use Rattle.text.specs.Print.{printed, print_entered, enter_all}
use Rattle.lines.specs.Lines.{rest_text}

-- these rules are in, and the bytes t are still to be read
pub record Going (text : List ℕ) (sig : Signature) (t : List ℕ) (held : List Rule) : Type 0 where
  pub due : List Rule
  pub book : List ℕ
  pub left : rest_text t ≡ some (due, book)
  pub prints : printed text ≡ print_entered sig book (enter_all sig due held)

-- the same of the text's bytes from an index on, with the words of the signature and of the table
pub record Ready (text : List ℕ) (at : ℕ) (ss table : List ℕ) : Type 0 where
  pub sig : Signature
  pub lawful : read_signature ss ≡ some sig
  pub held : List Rule
  pub in_force : sound limits sig table ≡ some held
  pub default_is : default_of table ≡ emptied_default
  pub within : at ≤ length text
  pub going : Going text sig (drop at text) held
