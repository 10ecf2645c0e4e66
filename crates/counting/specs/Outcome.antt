-- What the call gives, as 02's numbers.
use Rattle.std.specs.Prelude.{List, ℕ, Result, Ok, Err, replicate}
use Rattle.signature.specs.declared.refusals.Refusal.{Refusal}
use Rattle.day_log.specs.Limits.{rule_numbers}
use Rattle.counting.specs.declared.Counted.{Counted}

-- 19: "A refusal gives its number, other results 0"
abbrev pub total_in : Result Counted Refusal → ℕ
total_in (Ok t) = t.total
total_in (Err r) = 0

abbrev pub counts_in : Result Counted Refusal → List ℕ
counts_in (Ok t) = t.counts
counts_in (Err r) = replicate rule_numbers 0
