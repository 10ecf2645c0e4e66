-- The side behind a not; arguments at a side.
use mathlib.Core.Path.{◌≡◌, refl}
use mathlib.Core.Bool.{Bool, true, false, not}
use Rattle.pattern.specs.Linearity.{side_of}
use Rattle.pattern.specs.Pattern.{Patterns}
use Rattle.pattern.specs.Side.{Side, plus, minus, other}
use Rattle.pattern.specs.Weight.{light_all_plus, light_all_minus}

pub other_side : (b : Bool) → side_of (not b) ≡ other (side_of b)
other_side true = refl
other_side false = refl

abbrev pub light_all : Side → Patterns → Bool
light_all plus ps = light_all_plus ps
light_all minus ps = light_all_minus ps
