-- The report by the counts, as it is put. `day_log/Laws` has it by the log; `reporting/proofs/Lines` that they are the same bytes.
use Rattle.std.specs.Prelude.{List, [], ◌∷◌, ◌++◌, cond, ℕ, suc, eqb}
use Rattle.text.specs.Print.{decimal, line}
use Rattle.day_log.specs.Report.{count_line, key_total}

-- what a rule adds: nothing where it has no count
unfoldable pub rule_bytes : ℕ → ℕ → List ℕ
rule_bytes n m = cond (eqb m 0) [] (count_line n m)

-- the rules from n on, by their counts
abbrev pub lines_from : ℕ → List ℕ → List ℕ
lines_from n [] = []
lines_from n (m ∷ ms) = rule_bytes n m ++ lines_from (suc n) ms

-- the lines of all rules, then the total
unfoldable pub report_of : List ℕ → ℕ → List ℕ
report_of counts total = lines_from 0 counts ++ line key_total (decimal total)
