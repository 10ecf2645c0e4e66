-- Ambiguity (10) in the code's terms: of a part at a side.
use Rattle.std.specs.Prelude.{◌≡◌, List, [], ◌∷◌, Bool, true, false, not, ◌&&◌, ◌||◌, ℕ, length, Option, None, Some}
use Rattle.signature.specs.Lists.{is_empty}
use Rattle.signature.specs.Signature.{Signature}
use Rattle.pattern.specs.Linearity.{side_of, vars_at}
use Rattle.pattern.specs.Pattern.{Pattern, head, and, or, wild, absurd_pat, neg, var, range, pattern_code}
use Rattle.pattern.specs.Read.{Form, form, is_head, is_var, is_and, is_or, is_wild, is_absurd, is_not, is_range, is_other}
use Rattle.row.specs.Overlap.{ambiguous_plus, ambiguous_minus}
use Rattle.ambiguity.specs.Parts.{meets}

abbrev pub ambiguous_of : Bool → Signature → ℕ → Pattern → Bool
ambiguous_of true sig k p = ambiguous_plus sig k p
ambiguous_of false sig k p = ambiguous_minus sig k p

abbrev pub has_vars : Bool → Pattern → Bool
has_vars b p = not (is_empty (vars_at (side_of b) p))

-- an "or" on the plus side, an "and" on the minus side
abbrev pub doubles : Bool → Form → Bool
doubles b (is_head c) = false
doubles b (is_var x) = false
doubles b is_and = not b
doubles b is_or = b
doubles b is_wild = false
doubles b is_absurd = false
doubles b is_not = false
doubles b is_range = false
doubles b is_other = false

-- and a value of its kind that both parts take
abbrev pub taken_twice : Bool → Signature → ℕ → Pattern → Bool
taken_twice b sig k (head c ps) = false
taken_twice b sig k (and p q) = not b && meets b sig k p q
taken_twice b sig k (or p q) = b && meets b sig k p q
taken_twice b sig k wild = false
taken_twice b sig k absurd_pat = false
taken_twice b sig k (neg p) = false
taken_twice b sig k (var x) = false
taken_twice b sig k (range low high) = false

-- a "not": its part stands at the other side
abbrev pub negates : Form → Bool
negates (is_head c) = false
negates (is_var x) = false
negates is_and = false
negates is_or = false
negates is_wild = false
negates is_absurd = false
negates is_not = true
negates is_range = false
negates is_other = false

-- an "or", or an "and" behind a "not"; b says that a "not" came before
abbrev pub may_double_at : Bool → Form → Bool
may_double_at b f = doubles true f || (b && doubles false f)

-- some word is one of these
abbrev pub may_double : Bool → List ℕ → Bool
may_double b [] = false
may_double b (w ∷ ws) = may_double_at b (form w) || may_double (b || negates (form w)) ws

-- a word's own variable: at the plus side only
abbrev pub own_variable : Bool → Form → Bool
own_variable b (is_head c) = false
own_variable b (is_var x) = b
own_variable b is_and = false
own_variable b is_or = false
own_variable b is_wild = false
own_variable b is_absurd = false
own_variable b is_not = false
own_variable b is_range = false
own_variable b is_other = false

-- what is answered of a part: whether it has variables, and how many words it takes
abbrev pub Judged : Bool → Signature → ℕ → Pattern → Option (Bool × ℕ) → Type 0
Judged b sig k p (Some r) = (ambiguous_of b sig k p ≡ false) × (r.0 ≡ has_vars b p) × (r.1 ≡ length (pattern_code p))
Judged b sig k p None = ambiguous_of b sig k p ≡ true
