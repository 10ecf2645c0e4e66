-- The laws of the log and of its report. The function `laws` promises them.
use Rattle.std.specs.Prelude.{◌↔◌, ◌⊎◌, ◌≡◌, List, [], ◌∷◌, map, ℕ, ◌+◌, ◌≤◌, ◌<◌, length, get_or}
use Rattle.std.proofs.Math.Option.{some}
use Rattle.signature.specs.Lists.{In}
use Rattle.tree.specs.Limits.{last_number}
use Rattle.table.specs.Demand1.{FirstOf}
use Rattle.day_log.specs.Format.{read_log, LogBytes}
use Rattle.day_log.specs.Limits.{log_limit, rule_numbers, report_limit}
use Rattle.day_log.specs.Log.{often, counts, log_refusal}
use Rattle.day_log.specs.Report.{rules_in, report, tally_printed}
use Rattle.text.specs.Print.{print_refused}

-- the numbers added up
abbrev pub sum : List ℕ → ℕ
sum [] = 0
sum (n ∷ ns) = n + sum ns

-- each is above the one before it
pub data Rising : List ℕ → Type 0 where
  rising_none : Rising []
  rising_one : (n : ℕ) → Rising (n ∷ [])
  rising_more : {m n : ℕ} {ns : List ℕ} → m < n → Rising (n ∷ ns) → Rising (m ∷ (n ∷ ns))

-- 17: no log has these bytes
abbrev pub NoLog : List ℕ → Type 0
NoLog bytes = (log : List ℕ) → LogBytes bytes log → ⊥

-- 19: "a log entry above 999 or a log of over 4,096 entries"
abbrev pub Beyond : List ℕ → Type 0
Beyond log = ((n : ℕ) × In n log × (last_number < n)) ⊎ (log_limit < length log)

-- the refusals of the program, in checking order
abbrev pub log_refusals : List ℕ → List (ℕ × Type 0)
log_refusals bytes = (17, NoLog bytes) ∷ (19, (log : List ℕ) × LogBytes bytes log × Beyond log) ∷ []

-- what is printed: the first refusal that applies, alone, or the report
pub record Prints (bytes : List ℕ) : Type 0 where
  pub number : ℕ
  pub first : FirstOf (log_refusals bytes) number
  pub alone : (number ≡ 0 → ⊥) → tally_printed bytes ≡ print_refused number
  pub reports : number ≡ 0 → (log : List ℕ) × LogBytes bytes log × (tally_printed bytes ≡ report log)

-- what holds of a log that is not refused
pub record Counted (log : List ℕ) : Type 0 where
  -- a line "for each rule in the log", and for no other, "rising"
  pub rules : (n : ℕ) → (In n (rules_in log)) ↔ (In n log)
  pub rising : Rising (rules_in log)
  -- "The total equals the number of log entries and also the sum of the printed counts."
  pub printed_sum : sum (map (λ n. often n log) (rules_in log)) ≡ length log
  -- and the sum of the counts that the call gives
  pub counts_sum : sum (counts log) ≡ length log
  -- no report is longer
  pub at_most : length (report log) ≤ report_limit

pub record Laws : Type 0 where
  -- 17: exactly the texts of the format are read, and what was read was there
  pub text : (bytes log : List ℕ) → ((read_log bytes ≡ some log) ↔ (LogBytes bytes log))
  pub prints : (bytes : List ℕ) → Prints bytes
  -- the refusal of the call
  pub refused : (log : List ℕ) → FirstOf ((19, Beyond log) ∷ []) (log_refusal log)
  -- "how often": not at all where it is not there, and each entry adds one for its own rule alone
  pub nowhere : (n : ℕ) (log : List ℕ) → (In n log → ⊥) → often n log ≡ 0
  pub once_more : (n : ℕ) (log : List ℕ) → often n (n ∷ log) ≡ 1 + often n log
  pub for_others : (n m : ℕ) (log : List ℕ) → (n ≡ m → ⊥) → often n (m ∷ log) ≡ often n log
  -- the counts of the call, by rule number
  pub numbered : (log : List ℕ) → length (counts log) ≡ rule_numbers
  pub count : (log : List ℕ) (n : ℕ) → n ≤ last_number → get_or (counts log) n 0 ≡ often n log
  pub counted : (log : List ℕ) → log_refusal log ≡ 0 → Counted log
  -- whatever the order of the entries: where each rule stands as often, the report is the same
  pub order : (log other : List ℕ) → log_refusal log ≡ 0 → log_refusal other ≡ 0 → ((n : ℕ) → often n log ≡ often n other) → report log ≡ report other
