-- Where rules stand in a table, and where a rule goes in.
use Rattle.std.specs.Prelude.{◌≡◌, List, Result, Ok, Err, [], ◌∷◌, ◌++◌, true, false, ℕ, ◌+◌, ◌<◌, ◌≤◌, length, get_or, take, drop}
use Rattle.signature.specs.Lists.{All}
use Rattle.table.specs.Limits.{limits, table_length, rule_head}
use Rattle.table.specs.Rule.{Rule, rules_end, held}

-- "per rule number, plan, pattern length and pattern": the words of a rule at an index
pub record RuleAt (table : List ℕ) (at : ℕ) (r : Rule) : Type 0 where
  pub number_is : get_or table at 0 ≡ r.number
  pub plan_is : get_or table (at + 1) 0 ≡ r.plan
  pub length_is : get_or table (at + 2) 0 ≡ length r.pattern
  pub pattern_is : take (length r.pattern) (drop (at + rule_head) table) ≡ r.pattern
  pub within : at + rule_head + length r.pattern ≤ (table_length limits)

-- a walk over the rules: i of them are passed, and the others stand from this index on
pub record Walked (rs before after : List Rule) (i at : ℕ) : Type 0 where
  pub are : rs ≡ before ++ after
  pub passed : length before ≡ i
  pub at_is : at ≡ rules_end before

-- the next rule of a walk, and the walk behind it
pub record NextRule (table : List ℕ) (rs before after : List Rule) (i at : ℕ) : Type 0 where
  pub rule : Rule
  pub later : List Rule
  pub here : after ≡ rule ∷ later
  pub reads : RuleAt table at rule
  pub next : Walked rs (before ++ (rule ∷ [])) later (i + 1) (at + rule_head + get_or table (at + 2) 0)

-- the rule n stands there
pub record HeldAt (n : ℕ) (rs : List Rule) (at : ℕ) : Type 0 where
  pub before : List Rule
  pub rule : Rule
  pub after : List Rule
  pub are : rs ≡ before ++ (rule ∷ after)
  pub number_is : rule.number ≡ n
  pub below : All (λ r. r.number < n) before
  pub above : All (λ r. n < r.number) after
  pub at_is : at ≡ rules_end before
  pub is_held : held n rs ≡ true

-- no rule n is held; it would go in there
pub record FreeAt (n : ℕ) (rs : List Rule) (at : ℕ) : Type 0 where
  pub before : List Rule
  pub after : List Rule
  pub are : rs ≡ before ++ after
  pub below : All (λ r. r.number < n) before
  pub above : All (λ r. n < r.number) after
  pub at_is : at ≡ rules_end before
  pub not_held : held n rs ≡ false

abbrev pub FoundAt : ℕ → List Rule → Result ℕ ℕ → Type 0
FoundAt n rs (Ok at) = HeldAt n rs at
FoundAt n rs (Err at) = FreeAt n rs at
