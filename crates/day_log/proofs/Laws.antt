-- The laws of the log and of its report hold.
use mathlib.Core.List.{List}
use Prim.Native.Nat.{ℕ}
use Rattle.day_log.specs.Laws.{Counted, Laws}
use Rattle.day_log.proofs.Length.{at_most}
use Rattle.day_log.proofs.LogText.{log_read, log_was}
use Rattle.day_log.proofs.Often.{nowhere, once_more, for_others, numbered, count}
use Rattle.day_log.proofs.Order.{order}
use Rattle.day_log.proofs.Refusals.{Passed, passed, refused, prints}
use Rattle.day_log.proofs.Rules.{rules, rising, printed_sum}
use Rattle.day_log.proofs.Sums.{counts_sum}

counted : (log : List ℕ) → Passed log → Counted log
counted log p = record { rules = rules p.numbers; rising = rising log; printed_sum = printed_sum p.numbers; counts_sum = counts_sum p.numbers; at_most = at_most p.numbers p.few }

pub laws : Laws
laws = record {
  text = λ bytes log. (log_was bytes log, log_read bytes log);
  prints = prints;
  refused = refused;
  nowhere = nowhere;
  once_more = once_more;
  for_others = for_others;
  numbered = numbered;
  count = count;
  counted = λ log e. counted log (passed log e);
  order = λ log other e f same. order log other same (passed log e).numbers (passed other f).numbers;
}
