-- A value that a row takes, as words.
use Rattle.std.specs.Prelude.{◌≡◌, List, ◌++◌, true, ℕ, ◌+◌, ◌*◌, ◌≤◌, length, drop}
use Rattle.signature.specs.Decoded.{Known}
use Rattle.signature.specs.Lawful.{OfKind}
use Rattle.signature.specs.Signature.{Signature}
use Rattle.signature.specs.Value.{Value, code, size, depth}
use Rattle.row.specs.Limits.{place_words}
use Rattle.row.specs.Row.{Row}
use Rattle.row.specs.RowFits.{Good, place_count, row_fits}
use Rattle.cell.specs.Coded.{kinds_of, row_code}

-- row begins with a row of some kind, and o has room for 25 words a place
pub record GivenRow (t row o : List ℕ) : Type 0 where
  pub known : Known t
  pub kind : ℕ
  pub r : Row
  pub rest : List ℕ
  pub good : Good known.sig kind r
  pub code_is : row ≡ row_code (kinds_of known.sig) r kind ++ rest
  pub room : place_words * place_count r ≤ length o

-- a value that a row of kind k takes, neither longer nor deeper than its places
pub record Taken (sig : Signature) (k : ℕ) (r : Row) (v : Value) : Type 0 where
  pub kinded : OfKind sig k v
  pub fits : row_fits r v ≡ true
  pub few : size v ≤ place_words * place_count r
  pub deep : depth v ≤ place_count r + place_words

-- the value's words in front, so many, and nothing else
pub record Filled {t row o : List ℕ} (g : GivenRow t row o) (n : ℕ) (o' : List ℕ) : Type 0 where
  pub value : Value
  pub taken : Taken g.known.sig g.kind g.r value
  pub count : n ≡ size value
  pub list : o' ≡ code value ++ drop n o
