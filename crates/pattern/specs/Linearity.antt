-- A side as the code has it, and the side and the variables of a part.
use Rattle.std.specs.Prelude.{List, Bool, true, false, ℕ}
use Rattle.pattern.specs.Linear.{E, O}
use Rattle.pattern.specs.Pattern.{Pattern}
use Rattle.pattern.specs.Read.{Form, is_head, is_var, is_and, is_or, is_wild, is_absurd, is_not, is_range, is_other}
use Rattle.pattern.specs.Side.{Side, plus, minus, other}

abbrev pub side_of : Bool → Side
side_of true = plus
side_of false = minus

abbrev pub vars_at : Side → Pattern → List ℕ
vars_at plus p = E p
vars_at minus p = O p

-- the side of the parts behind a word
abbrev pub behind : Form → Side → Side
behind (is_head c) s = s
behind (is_var x) s = s
behind is_and s = s
behind is_or s = s
behind is_wild s = s
behind is_absurd s = s
behind is_not s = other s
behind is_range s = s
behind is_other s = s
