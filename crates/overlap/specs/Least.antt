-- A head with the least values of its arguments.
use Rattle.std.specs.Prelude.{◌≡◌, List, ◌++◌, true, false, ℕ, suc, ◌≤◌, ◌<◌, length, drop}
use Rattle.std.proofs.Math.Option.{some}
use Rattle.signature.specs.Decoded.{Known}
use Rattle.signature.specs.Lawful.{OfKind, OfKinds}
use Rattle.signature.specs.Limits.{small_size}
use Rattle.signature.specs.Lists.{first, is_empty, memb}
use Rattle.signature.specs.Read.{least, total}
use Rattle.signature.specs.Signature.{arguments_at, heads}
use Rattle.signature.specs.Value.{Values, con, code, size, sizes}
use Rattle.row.specs.Limits.{place_words}
use Rattle.sets.specs.Set.{set_of, Within}

-- the fewest words of arguments of these kinds
abbrev pub fewest : {t : List ℕ} → Known t → List ℕ → ℕ
fewest g ks = total (least small_size g.sig g.decoded.n) ks

-- c is a head of a kind, and o has room
pub record GivenHead (t : List ℕ) (c : ℕ) (o : List ℕ) : Type 0 where
  pub known : Known t
  pub kind : ℕ
  pub ks : List ℕ
  pub is : arguments_at known.sig kind c ≡ some ks
  pub room : suc (fewest known ks) ≤ length o

-- the value's words in front, so many, and nothing else
pub record Written {t : List ℕ} {c : ℕ} {o : List ℕ} (g : GivenHead t c o) (n : ℕ) (o' : List ℕ) : Type 0 where
  pub vs : Values
  pub kinded : OfKinds g.known.sig g.ks vs
  pub size_is : sizes vs ≡ fewest g.known g.ks
  pub count : n ≡ suc (sizes vs)
  pub list : o' ≡ code (con c vs) ++ drop n o

-- a place of kind k at which the heads of a set are allowed, one at least
pub record GivenPlace (t : List ℕ) (k allowed : ℕ) (o : List ℕ) : Type 0 where
  pub known : Known t
  pub there : k < known.decoded.n
  pub cs : List ℕ
  pub set_is : allowed ≡ set_of (first (heads known.sig k)) cs
  pub some_head : is_empty cs ≡ false
  pub within : Within (first (heads known.sig k)) cs
  pub of_kind_k : (c : ℕ) → memb c cs ≡ true → memb c (heads known.sig k) ≡ true
  pub room : place_words ≤ length o

-- a value under an allowed head is written in front, and nothing else
pub record ValueWritten {t : List ℕ} {k allowed : ℕ} {o : List ℕ} (g : GivenPlace t k allowed o) (n : ℕ) (o' : List ℕ) : Type 0 where
  pub c : ℕ
  pub vs : Values
  pub may : memb c g.cs ≡ true
  pub kinded : OfKind g.known.sig k (con c vs)
  pub small : size (con c vs) ≤ place_words
  pub count : n ≡ size (con c vs)
  pub list : o' ≡ code (con c vs) ++ drop n o
