-- The limits of the rule table. The definitions of this layer take them as a parameter; those in force are `limits`.
use Rattle.std.specs.Prelude.{ℕ, ◌+◌, ◌*◌}
use Rattle.signature.specs.Limits.{booking_limit, argument_limit}
use Rattle.pattern.specs.Limits.{pattern_limit}
use Rattle.rowset.specs.Limits.{row_limit}

pub record Limits : Type 0 where
  -- "at most 64 rules"
  pub rules : ℕ
  -- "weighing at most 256 in all"
  pub weight : ℕ

abbrev pub limits : Limits
limits = record { rules = 64; weight = row_limit }

-- 02, job 3: "The table gets the default plan as its second word"
abbrev pub default_at : ℕ
default_at = 1

-- the rule count, the default plan, then the rules: the first one stands at this index
abbrev pub rules_at : ℕ
rules_at = 2

-- 02, job 3: "Emptying sets it to 1"
abbrev pub emptied_default : ℕ
emptied_default = 1

-- "number, plan, pattern length": the words of a rule before its pattern
abbrev pub rule_head : ℕ
rule_head = 3

-- "per rule number, plan, pattern length and pattern": at most 67 words
abbrev pub rule_length : ℕ
rule_length = rule_head + pattern_limit

module _ (l : Limits) where
  -- the words of as many rules as there may be: 4,288
  abbrev pub rules_length : ℕ
  rules_length = l.rules * rule_length

  -- 02, job 3: "so 4,290 words"
  abbrev pub table_length : ℕ
  table_length = rules_length + rules_at

-- 2: "a witness buffer under 4,096"
abbrev pub witness_length : ℕ
witness_length = booking_limit

-- more visits than a path of any tree has: each of at most 256 rows refines at most 64 places, of at most 4 arguments
abbrev pub visit_bound : ℕ
visit_bound = 2 + argument_limit * (pattern_limit * limits.weight)
