-- Where a pattern ends, in the reader's terms.
use Rattle.std.specs.Prelude.{List, Bool, true, false, ◌&&◌, ℕ, ◌-◌, ltb, eqb, length, None, Some}
use Rattle.std.specs.Prelude as prelude
use Rattle.std.proofs.Math.Option.{Option, some, none}
use Rattle.signature.specs.Decoded.{kind_of, first_of, constructors_of}
use Rattle.signature.specs.Limits.{level_base}
use Rattle.pattern.specs.Pattern.{Pattern}
use Rattle.pattern.specs.Read.{Form, is_head, is_var, is_and, is_or, is_wild, is_absurd, is_not, is_range, is_other}

-- how many of the words a pattern that was read takes
abbrev pub end_of : List ℕ → Option (Pattern × List ℕ) → prelude.Option ℕ
end_of ws none = None
end_of ws (some r) = Some (length ws - length r.1)

-- whether a word can begin a pattern of kind k, by the table t of a signature
abbrev pub may_begin : List ℕ → Form → ℕ → Bool
may_begin t (is_head c) k = ltb c (constructors_of t) && eqb (kind_of t c) k
may_begin t (is_var x) k = true
may_begin t is_and k = true
may_begin t is_or k = true
may_begin t is_wild k = true
may_begin t is_absurd k = true
may_begin t is_not k = true
may_begin t is_range k = eqb (first_of t k) level_base
may_begin t is_other k = false
