-- The shortest value that a row takes, as words.
use Rattle.std.specs.Prelude.{◌≡◌, List, ◌++◌, true, ℕ, suc, ◌+◌, ◌≤◌, ◌<◌, length, take, replicate, Option as CodeOption, None, Some}
use Rattle.std.proofs.Math.Option.{some}
use Rattle.signature.specs.Decoded.{Known}
use Rattle.signature.specs.Lawful.{OfKind}
use Rattle.signature.specs.Limits.{booking_limit, small_size}
use Rattle.signature.specs.Lists.{memb}
use Rattle.signature.specs.Read.{least, total}
use Rattle.signature.specs.Signature.{Signature, arguments, arguments_at}
use Rattle.signature.specs.Value.{Value, code, size, depth}
use Rattle.row.specs.Limits.{place_words}
use Rattle.row.specs.Row.{Row}
use Rattle.row.specs.RowFits.{Good, row_fits}
use Rattle.cell.specs.Coded.{kinds_of, row_code}
use Rattle.overlap.specs.Least.{GivenPlace, ValueWritten}
use Rattle.views.specs.View.{height}

-- the fewest words of a value under the head c, in a signature of n kinds
abbrev pub head_size : Signature → ℕ → ℕ → ℕ
head_size sig n c = suc (total (least small_size sig n) (arguments sig c))

-- c is a head of a kind
pub record GivenSize (t : List ℕ) (c : ℕ) : Type 0 where
  pub known : Known t
  pub kind : ℕ
  pub ks : List ℕ
  pub is : arguments_at known.sig kind c ≡ some ks

-- a place of kind k at which the heads of a set are allowed, whatever room there is
abbrev pub GivenHeads : List ℕ → ℕ → ℕ → Type 0
GivenHeads t k allowed = GivenPlace t k allowed (replicate place_words 0)

-- c is allowed there, and under no other head that is allowed stands a shorter value
pub record ShortestHead {t o : List ℕ} {k allowed : ℕ} (g : GivenPlace t k allowed o) (c : ℕ) : Type 0 where
  pub may : memb c g.cs ≡ true
  pub least : (d : ℕ) → memb d g.cs ≡ true → head_size g.known.sig g.known.decoded.n c ≤ head_size g.known.sig g.known.decoded.n d

-- a value is written that has no more words than the least under each allowed head
pub record LeastWritten {t o : List ℕ} {k allowed : ℕ} (g : GivenPlace t k allowed o) (n : ℕ) (o' : List ℕ) : Type 0 where
  pub value : ValueWritten g n o'
  pub least : (d : ℕ) → memb d g.cs ≡ true → n ≤ head_size g.known.sig g.known.decoded.n d

-- row begins with a row of some kind, and o has room for a booking and one place more
pub record GivenRow (t row o : List ℕ) : Type 0 where
  pub known : Known t
  pub kind : ℕ
  pub r : Row
  pub rest : List ℕ
  pub good : Good known.sig kind r
  pub code_is : row ≡ row_code (kinds_of known.sig) r kind ++ rest
  pub room : booking_limit + place_words ≤ length o

-- a value that a row of kind k takes, no longer than a booking and not much deeper than the row
pub record Taken (sig : Signature) (k : ℕ) (r : Row) (v : Value) : Type 0 where
  pub kinded : OfKind sig k v
  pub fits : row_fits r v ≡ true
  pub few : size v ≤ booking_limit
  pub deep : depth v ≤ height r + place_words

-- the words of a value that the row takes stand first, so many, and it takes no shorter one; or every value that it takes is longer than a booking
pub record ShortestOf {t row o : List ℕ} (g : GivenRow t row o) (res : CodeOption ℕ) (o' : List ℕ) : Type 0 where
  pub found : (n : ℕ) → res ≡ Some n → (v : Value) × Taken g.known.sig g.kind g.r v × (n ≡ size v) × (take n o' ≡ code v)
  pub shortest : (n : ℕ) → res ≡ Some n → (v : Value) → OfKind g.known.sig g.kind v → row_fits g.r v ≡ true → n ≤ size v
  pub too_long : res ≡ None → (v : Value) → OfKind g.known.sig g.kind v → row_fits g.r v ≡ true → booking_limit < size v
