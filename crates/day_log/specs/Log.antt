-- 02, job 5: how often each rule stands in a log, refusal 19, and the call that counts.
use Rattle.std.specs.Prelude.{◌≡◌, List, map, Bool, cond, ◌&&◌, ℕ, eqb, leb, length, replicate}
use Rattle.signature.specs.Lists.{all, keep, count_up}
use Rattle.tree.specs.Limits.{last_number}
use Rattle.day_log.specs.Limits.{log_limit, rule_numbers}

-- "how often it stands there"
unfoldable pub often : ℕ → List ℕ → ℕ
often n log = length (keep (eqb n) log)

-- by rule number: of the default, of rule 1, .. of rule 999
unfoldable pub counts : List ℕ → List ℕ
counts log = map (λ n. often n log) (count_up 0 rule_numbers)

-- no entry is above 999
abbrev pub rules_only : List ℕ → Bool
rules_only log = all (λ n. leb n last_number) log

-- "19, a log entry above 999 or a log of over 4,096 entries"; else 0
abbrev pub log_refusal : List ℕ → ℕ
log_refusal log = cond (leb (length log) log_limit && rules_only log) 0 19

-- the call: the counts and the total, or 19 with "other results 0"
pub record TallyCall (log : List ℕ) (number total : ℕ) (counted : List ℕ) : Type 0 where
  pub number_is : number ≡ log_refusal log
  pub total_is : total ≡ cond (eqb (log_refusal log) 0) (length log) 0
  pub counts_are : counted ≡ cond (eqb (log_refusal log) 0) (counts log) (replicate rule_numbers 0)
