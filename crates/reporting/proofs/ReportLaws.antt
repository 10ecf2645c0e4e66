-- The lines of the rules, one after the other, and the total behind them.
use mathlib.Core.Path.{◌≡◌, refl, ap, ◌∙◌, sym}
use mathlib.Core.List.{List, [], ◌++◌, append_assoc, append-nil}
use Prim.Native.Nat.{ℕ, ◌+◌, ◌≤◌, ◌<◌}
use native.Mathlib.Numerals.{add-one}
use native.Mathlib.Omega.{arith}
use lib.ListN.{length, get_or, drop, length-append, drop_of_length-le}
use lib.Seq.{drop-cons}
use Rattle.day_log.specs.Report.{key_total}
use Rattle.printing.specs.Printed.{number_line, Printed}
use Rattle.printing.specs.Put.{Put}
use Rattle.printing.proofs.PairLaws.{nothing_put}
use Rattle.printing.proofs.PrintLaws.{printed}
use Rattle.printing.proofs.PutLaws.{both}
use Rattle.reporting.specs.Reported.{rule_bytes, lines_from, report_of}

-- the rules below n are done
pub record Lined (counts o₀ o : List ℕ) (at n : ℕ) : Type 0 where
  pub done : List ℕ
  pub stands : Put done 0 at o₀ o
  pub rest : lines_from 0 counts ≡ done ++ lines_from n (drop n counts)

pub lines_start : (counts o : List ℕ) → Lined counts o o 0 0
lines_start counts o = record { done = []; stands = nothing_put 0 o; rest = refl }

module _ {counts o₀ o : List ℕ} {at n : ℕ} (h : Lined counts o₀ o at n) where
  pub lines_end : length counts ≤ n → Put (lines_from 0 counts) 0 at o₀ o
  lines_end l = let e : lines_from 0 counts ≡ h.done = h.rest ∙ ap (λ ms. h.done ++ lines_from n ms) (drop_of_length-le counts l) ∙ append-nil h.done in rw e h.stands

  module _ (room : length (lines_from 0 counts) ≤ length o₀) (l : n < length counts) where
    more : lines_from 0 counts ≡ (h.done ++ rule_bytes n (get_or counts n 0)) ++ lines_from (n + 1) (drop (n + 1) counts)
    more =
        h.rest
        ∙ ap (λ ms. h.done ++ lines_from n ms) (drop-cons counts n 0 l)
        ∙ sym (append_assoc h.done (rule_bytes n (get_or counts n 0)) _)
        ∙ rw (add-one n)

    fits : length (h.done ++ rule_bytes n (get_or counts n 0)) ≤ length o₀
    fits = omega (arith, room, ap length more, length-append (h.done ++ rule_bytes n (get_or counts n 0)) (lines_from (n + 1) (drop (n + 1) counts)))

    pub rule_room : at + length (rule_bytes n (get_or counts n 0)) ≤ length o₀
    rule_room = omega (arith, fits, h.stands.behind, length-append h.done (rule_bytes n (get_or counts n 0)))

    pub lines_next : (next : ℕ) (o' : List ℕ) → Put (rule_bytes n (get_or counts n 0)) at next o o' → Lined counts o₀ o' next (n + 1)
    lines_next next o' p = record { done = h.done ++ rule_bytes n (get_or counts n 0); stands = both h.stands p (omega (arith, fits)); rest = more }

-- the whole report
module _ (counts : List ℕ) (total : ℕ) where
  report_is : report_of counts total ≡ lines_from 0 counts ++ number_line key_total total
  unfolding report_of number_line
  report_is = refl

  pub report_length : length (report_of counts total) ≡ length (lines_from 0 counts) + length (number_line key_total total)
  report_length = ap length report_is ∙ length-append (lines_from 0 counts) (number_line key_total total)

  pub report_put : (o : List ℕ) → length (report_of counts total) ≤ length o → {m r : ℕ} {o₁ o₂ : List ℕ} → Put (lines_from 0 counts) 0 m o o₁ → Put (number_line key_total total) m r o₁ o₂ → Printed (report_of counts total) r o o₂
  report_put o room p q = rw report_is (printed (both p q (omega (arith, ap length report_is))))
