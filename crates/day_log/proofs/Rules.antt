-- The rules in a log: which they are, that they rise, and that their counts are all counts.
use mathlib.Core.Logic.{◌↔◌}
use mathlib.Core.Path.{◌≡◌, refl, ap₂, ◌∙◌, sym}
use mathlib.Core.List.{List, [], ◌∷◌, map}
use mathlib.Core.Bool.{Bool, true, false, ◌&&◌}
use Prim.Native.Nat.{ℕ, zero, suc, ◌+◌, ◌≤◌, ◌<◌}
use native.Mathlib.Omega.{arith}
use lib.Dec.{eqb}
use lib.ListN.{length}
use Rattle.signature.specs.Lists.{All, memb, In, keep, count_up}
use Rattle.signature.proofs.Booleans.{and_right}
use Rattle.signature.proofs.ListFacts.{all_in}
use Rattle.signature.proofs.Members.{memb_keep}
use Rattle.signature.proofs.Tests.{eqb_ne}
use Rattle.day_log.specs.Laws.{sum, Rising, rising_none, rising_one, rising_more}
use Rattle.day_log.specs.Limits.{rule_numbers}
use Rattle.day_log.specs.Log.{often, counts}
use Rattle.day_log.specs.Report.{rules_in}
use Rattle.day_log.proofs.Often.{memb_in, in_memb, not_there}
use Rattle.day_log.proofs.Sums.{sum_keep, counts_sum}

-- the k numbers from i on
counted_up : (n i k : ℕ) → i ≤ n → n < i + k → memb n (count_up i k) ≡ true
counted_up n i zero h l = absurd (omega arith)
counted_up n i (suc k) h l = go (eqb n i) refl (counted_up n (suc i) k)
  where
    go : (b : Bool) → eqb n i ≡ b → (suc i ≤ n → n < suc i + k → memb n (count_up (suc i) k) ≡ true) → memb n (count_up i (suc k)) ≡ true
    go true q f = rw q
    go false q f = let m : n ≡ i → ⊥ = eqb_ne n i q in rw q (f (omega arith) (omega arith))

-- which rules
pub rules : {log : List ℕ} → All (λ n. n < rule_numbers) log → (n : ℕ) → (In n (rules_in log)) ↔ (In n log)
unfolding rules_in
rules {log} ls n = (there, back)
  where
    kept : memb n (keep (λ m. memb m log) (count_up 0 rule_numbers)) ≡ (memb n (count_up 0 rule_numbers) && memb n log)
    kept = memb_keep (λ m. memb m log) n (count_up 0 rule_numbers)

    there : In n (keep (λ m. memb m log) (count_up 0 rule_numbers)) → In n log
    there i = memb_in n log (and_right (memb n (count_up 0 rule_numbers)) (memb n log) (sym kept ∙ in_memb n (keep (λ m. memb m log) (count_up 0 rule_numbers)) i))

    back : In n log → In n (keep (λ m. memb m log) (count_up 0 rule_numbers))
    back i = memb_in n (keep (λ m. memb m log) (count_up 0 rule_numbers)) (kept ∙ ap₂ ◌&&◌ (counted_up n 0 rule_numbers (omega arith) (all_in ls i)) (in_memb n log i))

-- rising, and none below i
data From : ℕ → List ℕ → Type 0 where
  from_none : {i : ℕ} → From i []
  from_more : {i n : ℕ} {ns : List ℕ} → i ≤ n → From (suc n) ns → From i (n ∷ ns)

lower : {i j : ℕ} {ns : List ℕ} → i ≤ j → From j ns → From i ns
lower l from_none = from_none
lower {i} l (from_more {n = n} h f) = from_more {i = i} {n = n} (omega arith) f

kept_from : (p : ℕ → Bool) (i k : ℕ) → From i (keep p (count_up i k))
kept_from p i zero = from_none
kept_from p i (suc k) = go (p i) refl (kept_from p (suc i) k)
  where
    go : (b : Bool) → p i ≡ b → From (suc i) (keep p (count_up (suc i) k)) → From i (keep p (count_up i (suc k)))
    go true q f = rw q (from_more {i = i} {n = i} (omega arith) f)
    go false q f = rw q (lower {i = i} {j = suc i} (omega arith) f)

rising_from : {i : ℕ} {ns : List ℕ} → From i ns → Rising ns
rising_from from_none = rising_none
rising_from (from_more {n = n} h from_none) = rising_one n
rising_from (from_more {n = m} h (from_more {n = n} g f)) = rising_more {m = m} {n = n} (omega arith) (rising_from (from_more g f))

pub rising : (log : List ℕ) → Rising (rules_in log)
unfolding rules_in
rising log = rising_from (kept_from (λ n. memb n log) 0 rule_numbers)

-- "also the sum of the printed counts"
pub printed_sum : {log : List ℕ} → All (λ n. n < rule_numbers) log → sum (map (λ n. often n log) (rules_in log)) ≡ length log
unfolding rules_in counts
printed_sum {log} ls = sum_keep (λ n. often n log) (λ n. memb n log) (λ n e. not_there n log e) (count_up 0 rule_numbers) ∙ counts_sum ls
