-- The line of one rule, or nothing.
use mathlib.Core.Path.{◌≡◌, ap, ◌∙◌}
use mathlib.Core.List.{List, [], ◌∷◌, ◌++◌, append_assoc}
use Prim.Native.Nat.{ℕ, ◌+◌, ◌≤◌}
use native.Mathlib.Omega.{arith}
use lib.ListN.{length, length-append}
use Rattle.signature.proofs.Tests.{eqb_no}
use Rattle.text.specs.Format.{key_rule}
use Rattle.text.specs.Print.{decimal}
use Rattle.day_log.specs.Report.{key_count, count_line}
use Rattle.printing.specs.Printed.{number_line}
use Rattle.printing.specs.Put.{Put, in_decimal}
use Rattle.printing.proofs.PairLaws.{nothing_put}
use Rattle.printing.proofs.PutLaws.{both}
use Rattle.reporting.specs.Reported.{rule_bytes}

regroup : (a b c d e : List ℕ) → a ++ ((b ++ (c ++ d)) ++ e) ≡ (a ++ b) ++ (c ++ (d ++ e))
regroup a b c d e = simp append_assoc

line_is : (n m : ℕ) → count_line n m ≡ (key_rule ++ in_decimal n) ++ number_line key_count m
unfolding count_line number_line in_decimal
line_is n m = regroup key_rule (decimal n) key_count (decimal m) (10 ∷ [])

pub rule_none : (n m at : ℕ) (o : List ℕ) → m ≡ 0 → Put (rule_bytes n m) at at o o
unfolding rule_bytes
rule_none n m at o e = rw e (nothing_put at o)

-- "rule=n", then " count=m" and the newline
module _ (n m at : ℕ) (o : List ℕ) (room : at + length (rule_bytes n m) ≤ length o) (counted : m ≡ 0 → ⊥) where
  rule_is : rule_bytes n m ≡ (key_rule ++ in_decimal n) ++ number_line key_count m
  unfolding rule_bytes
  rule_is = rw (eqb_no m 0 counted) (line_is n m)

  pub rule_size : length (rule_bytes n m) ≡ 5 + length (in_decimal n) + length (number_line key_count m)
  rule_size = ap length rule_is ∙ simp length-append

  pub rule_put : {a b r : ℕ} {o₁ o₂ o₃ : List ℕ} → Put key_rule at a o o₁ → Put (in_decimal n) a b o₁ o₂ → Put (number_line key_count m) b r o₂ o₃ → Put (rule_bytes n m) at r o o₃
  rule_put p q s =
      let sz = rule_size in
      let a₁ = length-append key_rule (in_decimal n) in
      rw rule_is (both (both p q (omega arith)) s (omega (arith, ap length rule_is)))
