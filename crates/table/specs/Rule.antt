-- 01, Table: rules, and the words of a table.
use Rattle.std.specs.Prelude.{List, ◌∷◌, [], ◌++◌, Bool, cond, not, ℕ, ◌-◌, ◌+◌, ◌<◌, ◌≤◌, eqb, ltb, length, replicate, drop, get_or}
use Rattle.signature.specs.Lists.{any, keep, In}
use Rattle.signature.specs.Signature.{Signature}
use Rattle.pattern.specs.Weight.{weight}
use Rattle.tree.specs.Limits.{last_number}
use Rattle.table.specs.Limits.{Limits, table_length, default_at, rules_at}

-- number, plan and pattern words
pub record Rule : Type 0 where
  pub number : ℕ
  pub plan : ℕ
  pub pattern : List ℕ

-- "per rule number, plan, pattern length and pattern"
abbrev pub rule_words : Rule → List ℕ
rule_words r = r.number ∷ (r.plan ∷ (length r.pattern ∷ r.pattern))

-- one rule behind the other
abbrev pub rules_words : List Rule → List ℕ
rules_words [] = []
rules_words (r ∷ rs) = rule_words r ++ rules_words rs

-- a rule with this number is held
abbrev pub held : ℕ → List Rule → Bool
held n rs = any (λ r. eqb n r.number) rs

-- what the rules weigh in all
abbrev pub total_weight : Signature → List Rule → ℕ
total_weight sig [] = 0
total_weight sig (r ∷ rs) = weight sig r.pattern + total_weight sig rs

-- "rising by number"
abbrev pub add_rule : Rule → List Rule → List Rule
add_rule r [] = r ∷ []
add_rule r (s ∷ rs) = cond (ltb r.number s.number) (r ∷ (s ∷ rs)) (s ∷ add_rule r rs)

-- "the held rule with the call's rule number is taken out"; "All other rules stay as they were."
abbrev pub take_out : ℕ → List Rule → List Rule
take_out n rs = keep (λ r. not (eqb n r.number)) rs

-- the default plan of a table
abbrev pub default_of : List ℕ → ℕ
default_of table = get_or table default_at 0

-- "the rule count", the default plan, "then per rule ..": the words up to the end of the last rule
abbrev pub packed : ℕ → List Rule → List ℕ
packed dft rs = length rs ∷ (dft ∷ rules_words rs)

-- the index behind the last rule, where a further one stands
abbrev pub rules_end : List Rule → ℕ
rules_end rs = rules_at + length (rules_words rs)

module _ (l : Limits) where
  -- zeros up to 4,290
  abbrev pub table_words : ℕ → List Rule → List ℕ
  table_words dft rs = packed dft rs ++ replicate (table_length l - rules_end rs) 0

  -- "the rest untouched"
  abbrev pub stored : ℕ → List Rule → List ℕ → List ℕ
  stored dft rs ws = table_words dft rs ++ drop (table_length l) ws

-- "rising by number", "every rule numbered 1 to 999": above m
pub data Rises : ℕ → List Rule → Type 0 where
  rises_nil : {m : ℕ} → Rises m []
  rises_cons : {m : ℕ} {r : Rule} {rs : List Rule} → m < r.number → r.number ≤ last_number → Rises r.number rs → Rises m (r ∷ rs)

-- "Two lists leave the same rules if the rules left have the same numbers, each with the same plan and pattern."
pub record SameRules (rs qs : List Rule) : Type 0 where
  pub to : (r : Rule) → In r rs → In r qs
  pub from : (r : Rule) → In r qs → In r rs
