-- The laws of the words of a table. The function `laws` promises them.
use Rattle.std.specs.Prelude.{◌↔◌, ◌≡◌, List, [], ◌∷◌, ◌++◌, ◌&&◌, true, false, ℕ, ◌+◌, ◌-◌, ◌<◌, ◌≤◌, eqb, leb, length, get_or, take, drop, replicate}
use Rattle.std.proofs.Math.Option.{none, some}
use Rattle.signature.specs.Lists.{All, all, is_some, require, ◌>>=◌}
use Rattle.signature.specs.Signature.{Signature}
use Rattle.pattern.specs.Limits.{pattern_limit}
use Rattle.row.specs.Admitted.{refusal_of_pattern}
use Rattle.table.specs.Limits.{limits, table_length, rule_head, rules_at}
use Rattle.table.specs.Rule.{Rule, Rises, rule_words, rules_words, stored, total_weight, rules_end}
use Rattle.table.specs.Sound.{sound, no_shared}
use Rattle.store.specs.Laid.{laid, Holds}
use Rattle.store.specs.Place.{RuleAt, Walked, NextRule}

pub record Laws : Type 0 where
  -- exactly the tables with that layout are read, and what was read is there
  pub laid_holds : (table : List ℕ) (rs : List Rule) → ((laid limits table ≡ some rs) ↔ (Holds limits table rs))
  pub one_list : (table : List ℕ) (rs qs : List Rule) → Holds limits table rs → Holds limits table qs → rs ≡ qs
  pub is_laid : (table : List ℕ) → is_some (laid limits table) ≡ true → (rs : List Rule) × Holds limits table rs
  pub not_laid : (sig : Signature) (table : List ℕ) → is_some (laid limits table) ≡ false → sound limits sig table ≡ none
  -- "Sound: that layout, .. past refusals 7 to 10, .. weighing at most 256 in all, no two taking one lawful booking"
  pub sound_laid : (sig : Signature) (table : List ℕ) → sound limits sig table ≡ (laid limits table >>= λ rs. require (all (λ r. eqb (refusal_of_pattern sig r.pattern) 0) rs && leb (total_weight sig rs) limits.weight && no_shared sig rs) >>= λ u. some rs)
  pub sound_holds : (sig : Signature) (table : List ℕ) (rs : List Rule) → sound limits sig table ≡ some rs → Holds limits table rs
  -- rules that are stored are held
  pub stored_holds : (lent : List ℕ) (rs : List Rule) → table_length limits ≤ length lent → Rises 0 rs → length rs ≤ limits.rules → All (λ r. length r.pattern ≤ pattern_limit) rs → (dft : ℕ) → Holds limits (stored limits dft rs lent) rs
  -- "the rule count"
  pub count_is : (table : List ℕ) (rs : List Rule) → Holds limits table rs → get_or table 0 0 ≡ length rs
  -- the words from a rule on
  pub words_at : (table : List ℕ) (before : List Rule) (r : Rule) (after : List Rule) → Holds limits table (before ++ (r ∷ after)) → drop (rules_end before) table ≡ rule_words r ++ (rules_words after ++ (replicate (table_length limits - rules_end (before ++ (r ∷ after))) 0 ++ drop (table_length limits) table))
  pub rule_at : (table : List ℕ) (before : List Rule) (r : Rule) (after : List Rule) → Holds limits table (before ++ (r ∷ after)) → RuleAt table (rules_end before) r
  -- a rule's pattern as a part of the table
  pub pattern_part : (table : List ℕ) (at : ℕ) (r : Rule) → RuleAt table at r → take (at + rule_head + get_or table (at + 2) 0 - (at + rule_head)) (drop (at + rule_head) table) ≡ r.pattern
  -- a walk over the rules, from the first rule to the index behind the last
  pub walk_start : (rs : List Rule) → Walked rs [] rs 0 rules_at
  pub walk_step : (table : List ℕ) (rs before after : List Rule) (i at : ℕ) → Holds limits table rs → Walked rs before after i at → i < length rs → NextRule table rs before after i at
  pub walk_end : (rs before after : List Rule) (i at : ℕ) → Walked rs before after i at → length rs ≤ i → (after ≡ []) × (rs ≡ before)
