-- The order of a log's entries does not matter.
use mathlib.Core.Path.{◌≡◌, refl, ap, ap₂, ◌∙◌, sym}
use mathlib.Core.List.{List, [], ◌∷◌, ◌++◌, map}
use mathlib.Core.Bool.{Bool, cond, not}
use Prim.Native.Nat.{ℕ, ◌<◌}
use lib.Dec.{eqb}
use lib.ListN.{length}
use Rattle.signature.specs.Lists.{All, memb, keep, count_up}
use Rattle.text.specs.Print.{decimal, line}
use Rattle.day_log.specs.Laws.{sum}
use Rattle.day_log.specs.Limits.{rule_numbers}
use Rattle.day_log.specs.Log.{often, counts}
use Rattle.day_log.specs.Report.{key_total, rules_in, count_line, count_lines, report}
use Rattle.day_log.proofs.Often.{memb_often}
use Rattle.day_log.proofs.Sums.{counts_sum}

keep_same : (p q : ℕ → Bool) → ((n : ℕ) → p n ≡ q n) → (ns : List ℕ) → keep p ns ≡ keep q ns
keep_same p q h [] = refl
keep_same p q h (n ∷ ns) = ap₂ (λ b xs. cond b (n ∷ xs) xs) (h n) (keep_same p q h ns)

map_same : (f g : ℕ → ℕ) → ((n : ℕ) → f n ≡ g n) → (ns : List ℕ) → map f ns ≡ map g ns
map_same f g h [] = refl
map_same f g h (n ∷ ns) = ap₂ (λ x xs. x ∷ xs) (h n) (map_same f g h ns)

module _ (log other : List ℕ) (same : (n : ℕ) → often n log ≡ often n other) where
  same_rules : rules_in log ≡ rules_in other
  unfolding rules_in
  same_rules = keep_same (λ n. memb n log) (λ n. memb n other) (λ n. memb_often n log ∙ ap (λ m. not (eqb m 0)) (same n) ∙ sym (memb_often n other)) (count_up 0 rule_numbers)

  same_lines : (ns : List ℕ) → count_lines log ns ≡ count_lines other ns
  same_lines [] = refl
  same_lines (n ∷ ns) = ap₂ (λ m bs. count_line n m ++ bs) (same n) (same_lines ns)

  same_counts : counts log ≡ counts other
  unfolding counts
  same_counts = map_same (λ n. often n log) (λ n. often n other) same (count_up 0 rule_numbers)

  pub order : All (λ n. n < rule_numbers) log → All (λ n. n < rule_numbers) other → report log ≡ report other
  unfolding report
  order ls os =
      let t : length log ≡ length other = sym (counts_sum ls) ∙ ap sum same_counts ∙ counts_sum os in
      ap₂ (λ bs n. bs ++ line key_total (decimal n)) (same_lines (rules_in log) ∙ ap (count_lines other) same_rules) t
