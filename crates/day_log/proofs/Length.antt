-- How long a report is.
use mathlib.Core.Path.{◌≡◌, refl}
use mathlib.Core.List.{List, [], ◌∷◌, ◌++◌, map}
use mathlib.Core.Bool.{Bool, true, false, cond}
use Prim.Native.Nat.{ℕ, zero, suc, ◌+◌, ◌*◌, ◌/◌, ◌%◌, ◌^◌, ◌≤◌, ◌<◌}
use native.Mathlib.Decide.{dec_le}
use native.Mathlib.Nat.{pow-suc}
use native.Mathlib.Omega.{arith}
use lib.Dec.{ltb}
use lib.ListN.{length, length-append}
use Rattle.signature.specs.Lists.{All, memb, keep, count_up}
use Rattle.signature.proofs.Tests.{ltb_yes}
use Rattle.text.specs.Format.{key_rule}
use Rattle.text.specs.Print.{digits, decimal, line}
use Rattle.day_log.specs.Laws.{sum}
use Rattle.day_log.specs.Limits.{log_limit, rule_numbers, rule_digits, line_bytes, report_limit}
use Rattle.day_log.specs.Log.{often}
use Rattle.day_log.specs.Report.{key_count, key_total, rules_in, count_line, count_lines, report}
use Rattle.day_log.proofs.Often.{often_most, there}
use Rattle.day_log.proofs.Rules.{printed_sum}

-- a number below 10, 100, .. has at most 1, 2, .. digits
digits_below : (f d n : ℕ) (bs : List ℕ) → n < 10 ^ suc d → length (digits f n bs) ≤ suc d + length bs
digits_below zero d n bs h = omega arith
digits_below (suc f) zero n bs h = rw (ltb_yes n 10 h) (omega arith)
digits_below (suc f) (suc d) n bs h = go (ltb n 10) refl (digits_below f d (n / 10) ((48 + n % 10) ∷ bs) (let e = pow-suc 10 (suc d) in omega arith))
  where
    go : (b : Bool) → ltb n 10 ≡ b → length (digits f (n / 10) ((48 + n % 10) ∷ bs)) ≤ suc d + length ((48 + n % 10) ∷ bs) → length (cond b ((48 + n) ∷ bs) (digits f (n / 10) ((48 + n % 10) ∷ bs))) ≤ suc (suc d) + length bs
    go true q l = omega arith
    go false q l = omega arith

few_digits : (d n : ℕ) → n < 10 ^ suc d → length (decimal n) ≤ suc d
few_digits d n h = omega (arith, digits_below 5 d n [] h)

-- the digits of a count: one, and one more for nine entries more
count_most : (m : ℕ) → 1 ≤ m → m ≤ log_limit → 9 * length (decimal m) ≤ m + 8
count_most m h l = go₁ (dec_le (suc m) 10)
  where
    go₃ : Dec (m < 1000) → 100 ≤ m → 9 * length (decimal m) ≤ m + 8
    go₃ (yes q) g = omega (arith, few_digits 2 m q)
    go₃ (no q) g = omega (arith, few_digits 3 m (omega arith))

    go₂ : Dec (m < 100) → 10 ≤ m → 9 * length (decimal m) ≤ m + 8
    go₂ (yes q) g = omega (arith, few_digits 1 m q)
    go₂ (no q) g = go₃ (dec_le (suc m) 1000) (omega arith)

    go₁ : Dec (m < 10) → 9 * length (decimal m) ≤ m + 8
    go₁ (yes q) = omega (arith, few_digits 0 m q)
    go₁ (no q) = go₂ (dec_le (suc m) 100) (omega arith)

line_size : (key bs : List ℕ) → length (line key bs) ≡ length key + length bs + 1
line_size key bs = omega (arith, length-append key (bs ++ (10 ∷ [])), length-append bs (10 ∷ []))

count_size : (n m : ℕ) → length (count_line n m) ≡ line_bytes + length (decimal n) + length (decimal m)
unfolding count_line
count_size n m = omega (arith, line_size key_rule (decimal n ++ (key_count ++ decimal m)), length-append (decimal n) (key_count ++ decimal m), length-append key_count (decimal m))

-- nine times what the line of a rule is, with nine times the digits of its count less the count
abbrev rule_size : ℕ → ℕ
rule_size n = 9 * line_bytes + 8 + 9 * length (decimal n)

-- the lines of some of these rules, each with a count
lines_most : (log : List ℕ) (p : ℕ → Bool) → length log ≤ log_limit → ((n : ℕ) → p n ≡ true → 1 ≤ often n log) → (ns : List ℕ) → 9 * length (count_lines log (keep p ns)) ≤ sum (map rule_size ns) + sum (map (λ n. often n log) (keep p ns))
lines_most log p few h [] = omega arith
lines_most log p few h (n ∷ ns) = go (p n) refl (lines_most log p few h ns)
  where
    go : (b : Bool) → p n ≡ b → 9 * length (count_lines log (keep p ns)) ≤ sum (map rule_size ns) + sum (map (λ m. often m log) (keep p ns))
        → 9 * length (count_lines log (keep p (n ∷ ns))) ≤ sum (map rule_size (n ∷ ns)) + sum (map (λ m. often m log) (keep p (n ∷ ns)))
    go true q l = rw q (omega (arith, length-append (count_line n (often n log)) (count_lines log (keep p ns)), count_size n (often n log), count_most (often n log) (h n q) (omega (arith, often_most n log))))
    go false q l = rw q (omega arith)

-- of all rules: antt computes it
all_rules : sum (map rule_size (count_up 0 rule_numbers)) ≡ rule_numbers * (9 * line_bytes + 8) + 9 * rule_digits
all_rules = refl

pub at_most : {log : List ℕ} → All (λ n. n < rule_numbers) log → length log ≤ log_limit → length (report log) ≤ report_limit
unfolding report rules_in
at_most {log} ls few = omega (arith, length-append (count_lines log (keep (λ n. memb n log) (count_up 0 rule_numbers))) (line key_total (decimal (length log))), line_size key_total (decimal (length log)), few_digits 3 (length log) (omega arith), lines_most log (λ n. memb n log) few (λ n e. there n log e) (count_up 0 rule_numbers), all_rules, printed_sum ls)
