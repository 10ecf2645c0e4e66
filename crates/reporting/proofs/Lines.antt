-- The report by the log and the report by its counts are the same bytes.
use mathlib.Core.Path.{◌≡◌, refl, ap}
use mathlib.Core.List.{List, ◌∷◌, ◌++◌, map}
use mathlib.Core.Bool.{Bool, true, false, cond}
use Prim.Native.Nat.{ℕ, zero, suc}
use lib.Dec.{eqb}
use lib.ListN.{length}
use Rattle.signature.specs.Lists.{keep, memb, count_up}
use Rattle.text.specs.Print.{decimal, line}
use Rattle.day_log.specs.Limits.{rule_numbers}
use Rattle.day_log.specs.Log.{often, counts}
use Rattle.day_log.specs.Report.{key_total, rules_in, count_line, count_lines, report}
use Rattle.day_log.proofs.Often.{memb_often}
use Rattle.reporting.specs.Reported.{rule_bytes, lines_from, report_of}

-- one rule before others: it is in the log where its count is not 0
one_more : (log : List ℕ) (i : ℕ) (later others : List ℕ) (b : Bool) → eqb (often i log) 0 ≡ b → count_lines log later ≡ others → count_lines log (cond (memb i log) (i ∷ later) later) ≡ rule_bytes i (often i log) ++ others
unfolding rule_bytes
one_more log i later others true e h = rw (memb_often i log, e) h
one_more log i later others false e h = rw (memb_often i log, e) (ap (λ ls. count_line i (often i log) ++ ls) h)

-- the rules from i on, n of them
lines_same : (log : List ℕ) (i n : ℕ) → count_lines log (keep (λ r. memb r log) (count_up i n)) ≡ lines_from i (map (λ r. often r log) (count_up i n))
lines_same log i zero = refl
lines_same log i (suc n) = one_more log i (keep (λ r. memb r log) (count_up (suc i) n)) _ (eqb (often i log) 0) refl (lines_same log (suc i) n)

pub report_counts : (log : List ℕ) → report log ≡ report_of (counts log) (length log)
unfolding report report_of rules_in counts
report_counts log = ap (λ ls. ls ++ line key_total (decimal (length log))) (lines_same log 0 rule_numbers)
