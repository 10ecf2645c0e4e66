-- 02, job 5: the report, and what the program prints.
use Rattle.std.specs.Prelude.{List, [], ◌∷◌, ◌++◌, cond, ℕ, eqb, length}
use Rattle.std.proofs.Math.Option.{Option, none, some}
use Rattle.signature.specs.Lists.{keep, memb, count_up}
use Rattle.text.specs.Format.{key_rule}
use Rattle.text.specs.Print.{decimal, line, print_refused}
use Rattle.day_log.specs.Format.{read_log}
use Rattle.day_log.specs.Limits.{rule_numbers}
use Rattle.day_log.specs.Log.{often, log_refusal}

-- count= behind a space
abbrev pub key_count : List ℕ
key_count = 32 ∷ 99 ∷ 111 ∷ 117 ∷ 110 ∷ 116 ∷ 61 ∷ []

-- total=
abbrev pub key_total : List ℕ
key_total = 116 ∷ 111 ∷ 116 ∷ 97 ∷ 108 ∷ 61 ∷ []

-- "each rule in the log, rising", "the default as rule 0"
unfoldable pub rules_in : List ℕ → List ℕ
rules_in log = keep (λ n. memb n log) (count_up 0 rule_numbers)

-- "one line rule=n count=m"
unfoldable pub count_line : ℕ → ℕ → List ℕ
count_line n m = line key_rule (decimal n ++ (key_count ++ decimal m))

-- such a line for each of these rules, "m being how often it stands there"
abbrev pub count_lines : List ℕ → List ℕ → List ℕ
count_lines log [] = []
count_lines log (n ∷ ns) = count_line n (often n log) ++ count_lines log ns

-- "one line rule=n count=m for each rule in the log, rising, .. then total=t"; "The total equals the number of log entries"
unfoldable pub report : List ℕ → List ℕ
report log = count_lines log (rules_in log) ++ line key_total (decimal (length log))

-- "Errors: 19 .. comes after 17 and is printed like it, alone."
abbrev pub print_log : Option (List ℕ) → List ℕ
print_log none = print_refused 17
print_log (some log) = cond (eqb (log_refusal log) 0) (report log) (print_refused (log_refusal log))

-- what the program prints for these bytes
abbrev pub tally_printed : List ℕ → List ℕ
tally_printed bytes = print_log (read_log bytes)
