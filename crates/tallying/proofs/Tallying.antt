-- One step of the program after the other: the log is read, counted, and reported.
use mathlib.Core.Path.{◌≡◌, ap, ap₂, ◌∙◌, sym, subst}
use mathlib.Core.List.{List}
use mathlib.Core.Option.{some}
use mathlib.Core.Bool.{cond}
use Prim.Native.Nat.{ℕ, ◌≤◌}
use native.Mathlib.Omega.{arith}
use lib.Dec.{eqb}
use lib.ListN.{length, take, drop, replicate, length-append}
use lib.Seq.{take_at}
use Rattle.std.specs.Prelude.{Option as Answer, Some, None}
use Rattle.text.specs.Print.{print_refused}
use Rattle.numbers.specs.Lists.{count_of, Filled}
use Rattle.numbers.proofs.Lists.{count_none, count_some}
use Rattle.printing.specs.Printed.{Printed}
use Rattle.day_log.specs.Format.{read_log}
use Rattle.day_log.specs.Limits.{rule_numbers, report_limit}
use Rattle.day_log.specs.Log.{counts, log_refusal, TallyCall}
use Rattle.day_log.specs.Report.{report, print_log, tally_printed}
use Rattle.day_log.proofs.Length.{at_most}
use Rattle.day_log.proofs.Often.{numbered}
use Rattle.day_log.proofs.Refusals.{passed, report_printed, refusal_printed}
use Rattle.reporting.specs.Reported.{report_of}
use Rattle.reporting.proofs.Lines.{report_counts}

-- what is printed of one is printed of the other
pub as_printed : {bytes other : List ℕ} {r : ℕ} {entry exit : List ℕ} → bytes ≡ other → Printed other r entry exit → Printed bytes r entry exit
as_printed {r = r} {entry = entry} {exit = exit} e h = subst (λ b. Printed b r entry exit) (sym e) h

-- the text was scanned
module _ (text : List ℕ) (x : Answer ℕ) (scanned : x ≡ count_of (read_log text)) where
  -- 17
  pub broken : x ≡ None → tally_printed text ≡ print_refused 17
  broken e = ap print_log (count_none (read_log text) (sym scanned ∙ e))

  module _ (n : ℕ) (e : x ≡ Some n) where
    log : List ℕ
    log = (count_some (read_log text) n (sym scanned ∙ e)).0

    read : read_log text ≡ some log
    unfolding log
    read = (count_some (read_log text) n (sym scanned ∙ e)).1

    entries : length log ≡ n
    unfolding log
    entries = (count_some (read_log text) n (sym scanned ∙ e)).2

    module _ (lent words : List ℕ) (filled : Filled (read_log text) lent words) where
      pub fits : length words ≡ length lent → n ≤ length words
      fits s = omega (arith, entries, ap length (filled log read), length-append log (drop (length log) lent))

      is_log : take n words ≡ log
      is_log = ap (take n) (filled log read) ∙ take_at log (drop (length log) lent) n entries

      module _ {number total : ℕ} {counted : List ℕ} (call : TallyCall (take n words) number total counted) where
        called : TallyCall log number total counted
        called = subst (λ l. TallyCall l number total counted) is_log call

        -- 19
        pub refused : (number ≡ 0 → ⊥) → tally_printed text ≡ print_refused number
        refused h = refusal_printed text log read (λ z. h (called.number_is ∙ z)) ∙ ap print_refused (sym called.number_is)

        module _ (done : number ≡ 0) where
          no_refusal : log_refusal log ≡ 0
          no_refusal = sym called.number_is ∙ done

          total_is : total ≡ length log
          total_is = called.total_is ∙ ap (λ m. cond (eqb m 0) (length log) 0) no_refusal

          counts_are : counted ≡ counts log
          counts_are = called.counts_are ∙ ap (λ m. cond (eqb m 0) (counts log) (replicate rule_numbers 0)) no_refusal

          same : report log ≡ report_of counted total
          same = report_counts log ∙ ap₂ report_of (sym counts_are) (sym total_is)

          pub reported : tally_printed text ≡ report_of counted total
          reported = report_printed text log read no_refusal ∙ same

          pub many : length counted ≤ rule_numbers
          many = omega (arith, ap length counts_are, numbered log)

          pub room : (out : List ℕ) → report_limit ≤ length out → length (report_of counted total) ≤ length out
          room out h = let p = passed log no_refusal in omega (arith, ap length same, at_most p.numbers p.few)
