-- The weight of a pattern in the code's terms.
use Rattle.std.specs.Prelude.{Bool, true, false, cond, ℕ, ◌+◌, ◌*◌, suc, min, length, Option, None, Some}
use Rattle.pattern.specs.Limits.{part_weight_limit}
use Rattle.pattern.specs.Pattern.{Pattern, pattern_code}
use Rattle.pattern.specs.Read.{Form, is_head, is_var, is_and, is_or, is_wild, is_absurd, is_not, is_range, is_other}
use Rattle.pattern.specs.Side.{Side, plus, minus, weight_at, light_at}
use Rattle.pattern.specs.Weight.{weight_plus, light_plus}

-- the weight, or none at refusal 9
abbrev pub weighed : Pattern → Option ℕ
weighed p = cond (light_plus p) (Some (weight_plus p)) None

-- the same of a part at a side, with how many words it takes
abbrev pub part_weighed : Side → Pattern → Option (ℕ × ℕ)
part_weighed s p = cond (light_at s p) (Some (weight_at s p, length (pattern_code p))) None

-- what to start with, and whether the weights of the parts behind a word are multiplied; a not goes to the other side
abbrev pub head_at : Side → Form → Option (ℕ × Bool)
head_at plus (is_head c) = Some (1, true)
head_at plus is_and = Some (1, true)
head_at plus is_or = Some (0, false)
head_at plus is_wild = Some (1, true)
head_at plus is_absurd = Some (0, true)
head_at plus is_not = None
head_at plus (is_var x) = Some (1, true)
head_at plus is_range = Some (1, true)
head_at plus is_other = Some (0, true)
head_at minus (is_head c) = Some (1, false)
head_at minus is_and = Some (0, false)
head_at minus is_or = Some (1, true)
head_at minus is_wild = Some (0, true)
head_at minus is_absurd = Some (1, true)
head_at minus is_not = None
head_at minus (is_var x) = Some (0, true)
head_at minus is_range = Some (1, true)
head_at minus is_other = Some (0, true)

abbrev pub op_of : Bool → ℕ → ℕ → ℕ
op_of true a b = a * b
op_of false a b = a + b

-- what stands for every weight over 64
abbrev pub over_weight : ℕ
over_weight = suc part_weight_limit

abbrev pub joined : Bool → ℕ → ℕ → ℕ
joined times a b = min (op_of times a b) over_weight
