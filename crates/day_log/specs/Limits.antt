-- 02, job 5: the limits of the log, and the longest report.
use Rattle.std.specs.Prelude.{ℕ, ◌+◌, ◌*◌, ◌-◌, ◌/◌}
use Rattle.tree.specs.Limits.{last_number}

-- "a list of at most 4,096 rule numbers"
abbrev pub log_limit : ℕ
log_limit = 4096

-- the rules 1 to 999, and "the default as rule 0"
abbrev pub rule_numbers : ℕ
rule_numbers = 1 + last_number

-- the digits of all of these numbers: 10 of one, 90 of two and 900 of three
abbrev pub rule_digits : ℕ
rule_digits = 10 * 1 + 90 * 2 + 900 * 3

-- the most digits that the counts have: one each where every rule stands in the log, and one more for each that stands there nine times more
abbrev pub count_digits : ℕ
count_digits = rule_numbers + (log_limit - rule_numbers) / 9

-- a line without its digits: "rule=", " count=" and a newline
abbrev pub line_bytes : ℕ
line_bytes = 5 + 7 + 1

-- the longest report: a line for each rule, with the digits, then "total=", four digits and a newline
abbrev pub report_limit : ℕ
report_limit = rule_numbers * line_bytes + rule_digits + count_digits + (6 + 4 + 1)
