-- Linearity in the code's terms: at a side, with sets of variables.
use Rattle.std.specs.Prelude.{◌≡◌, List, [], ◌∷◌, Bool, true, false, cond, ℕ, eqb, length, Option, None, Some}
use Rattle.signature.specs.Lists.{memb, is_empty}
use Rattle.sets.specs.Set.{bit}
use Rattle.pattern.specs.Linear.{linear_plus, linear_minus, disjoint, same_set}
use Rattle.pattern.specs.Linearity.{vars_at}
use Rattle.pattern.specs.Pattern.{Pattern, pattern_code}
use Rattle.pattern.specs.Places.{tick}
use Rattle.pattern.specs.Read.{Form, is_head, is_var, is_and, is_or, is_wild, is_absurd, is_not, is_range, is_other}
use Rattle.pattern.specs.Side.{Side, plus, minus}
use Rattle.linearity.specs.declared.linear.Joint.{Joint}
use Rattle.linearity.specs.declared.linear.Joint.TheVariants.{Apart, Alike, Bare}

abbrev pub linear_at : Side → Pattern → Bool
linear_at plus p = linear_plus p
linear_at minus p = linear_minus p

-- the bits of s are these variables
abbrev pub Holds : ℕ → List ℕ → Type 0
Holds s xs = (x : ℕ) → bit s x ≡ tick (memb x xs)

-- what is answered of a part at a side: the set of its variables, and how many words it takes
abbrev pub Judged : Side → Pattern → Option (ℕ × ℕ) → Type 0
Judged s p (Some r) = (linear_at s p ≡ true) × Holds r.0 (vars_at s p) × (r.1 ≡ length (pattern_code p))
Judged s p None = linear_at s p ≡ false

-- how the sets of the parts behind a word must stand to each other
abbrev pub joint_at : Side → Form → Joint
joint_at plus (is_head c) = Apart
joint_at plus (is_var x) = Apart
joint_at plus is_and = Apart
joint_at plus is_or = Alike
joint_at plus is_wild = Apart
joint_at plus is_absurd = Apart
joint_at plus is_not = Apart
joint_at plus is_range = Apart
joint_at plus is_other = Apart
joint_at minus (is_head c) = Bare
joint_at minus (is_var x) = Apart
joint_at minus is_and = Alike
joint_at minus is_or = Apart
joint_at minus is_wild = Apart
joint_at minus is_absurd = Apart
joint_at minus is_not = Apart
joint_at minus is_range = Apart
joint_at minus is_other = Apart

-- the j-th part's variables ys, after the variables xs of the parts before it
abbrev pub joins : Joint → ℕ → List ℕ → List ℕ → Bool
joins Apart j xs ys = disjoint xs ys
joins Alike j xs ys = cond (eqb j 0) true (same_set xs ys)
joins Bare j xs ys = is_empty ys

-- a word's own variable: at the plus side only
abbrev pub own_vars : Side → Form → List ℕ
own_vars plus (is_head c) = []
own_vars plus (is_var x) = x ∷ []
own_vars plus is_and = []
own_vars plus is_or = []
own_vars plus is_wild = []
own_vars plus is_absurd = []
own_vars plus is_not = []
own_vars plus is_range = []
own_vars plus is_other = []
own_vars minus f = []
