use mathlib.Core.Path.{◌≡◌}
use Prim.Native.Nat.{◌≤◌}
use lib.ListN.{length}
use Rattle.day_log.specs.Limits.{rule_numbers}
use Rattle.reporting.specs.Reported.{lines_from}
use Rattle.reporting.proofs.ReportLaws.{Lined}
use Rattle.reporting.proofs.put_rules.Given as goal

abbrev pub invariant-loop-n : goal.invariant-loop-n
invariant-loop-n l = (length l.counts ≤ rule_numbers) × (length (lines_from 0 l.counts) ≤ length l.initial.out) × (length l.out ≡ length l.initial.out) × Lined l.counts l.initial.out l.out l.at l.n
