-- What a node knows of the booking: the parts left.
use Rattle.std.specs.Prelude.{◌≡◌, List, ℕ, ◌<◌}
use Rattle.signature.specs.Decoded.{Known, kind_of, constructors_of}
use Rattle.signature.specs.Lawful.{OfKinds}
use Rattle.signature.specs.Limits.{kind_limit, level_base}
use Rattle.signature.specs.Value.{Values, codes}

-- b is the words of some values, each of a kind
pub record Parts (t b : List ℕ) : Type 0 where
  pub known : Known t
  pub kinds : List ℕ
  pub values : Values
  pub kinded : OfKinds known.sig kinds values
  pub words : b ≡ codes values

-- what a word that stands in a booking is by the table: a level, or a constructor of some kind
abbrev pub HeadByTable : List ℕ → ℕ → Type 0
HeadByTable t c = c < level_base → (c < constructors_of t) × (kind_of t c < kind_limit)
