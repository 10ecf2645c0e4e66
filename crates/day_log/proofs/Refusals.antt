-- 17 and 19, as existence.
use mathlib.Core.Path.{◌≡◌, refl, ap, ◌∙◌, sym, subst}
use mathlib.Core.Logic.{inl, inr}
use mathlib.Core.List.{List, [], ◌∷◌}
use mathlib.Core.Option.{Option, some, none}
use mathlib.Core.Bool.{Bool, true, false, cond, ◌&&◌}
use Prim.Native.Nat.{ℕ, ◌≤◌, ◌<◌}
use native.Mathlib.Omega.{arith}
use lib.Dec.{eqb, leb}
use lib.ListN.{length}
use Rattle.signature.specs.Lists.{All, In, in_here, in_there}
use Rattle.signature.proofs.Booleans.{and_left, and_right}
use Rattle.signature.proofs.ListFacts.{all_is, all_in}
use Rattle.signature.proofs.Tests.{le_of, lt_of_not, true≢false, none≢some, some_inj, eqb_eq, eqb_ne, eqb_no}
use Rattle.tree.specs.Limits.{last_number}
use Rattle.table.specs.Demand1.{FirstOf}
use Rattle.text.specs.Print.{print_refused}
use Rattle.day_log.specs.Format.{read_log, LogBytes}
use Rattle.day_log.specs.Laws.{NoLog, Beyond, Prints}
use Rattle.day_log.specs.Limits.{log_limit, rule_numbers}
use Rattle.day_log.specs.Log.{rules_only, log_refusal}
use Rattle.day_log.specs.Report.{report, print_log, tally_printed}
use Rattle.day_log.proofs.LogText.{log_read, log_was}

-- some entry is above 999
above : (log : List ℕ) → rules_only log ≡ false → (n : ℕ) × In n log × (last_number < n)
above [] e = true≢false e
above (m ∷ log) e = go (leb m last_number) refl e (above log)
  where
    go : (b : Bool) → leb m last_number ≡ b → (leb m last_number && rules_only log) ≡ false → (rules_only log ≡ false → (n : ℕ) × In n log × (last_number < n)) → (n : ℕ) × In n (m ∷ log) × (last_number < n)
    go true q z f = let (n, i, l) = f (rw q at z) in (n, in_there i, l)
    go false q z f = (m, in_here, lt_of_not m last_number q)

-- a log that is not refused
pub record Passed (log : List ℕ) : Type 0 where
  pub few : length log ≤ log_limit
  pub numbers : All (λ n. n < rule_numbers) log

pub passed : (log : List ℕ) → log_refusal log ≡ 0 → Passed log
passed log e = go (leb (length log) log_limit && rules_only log) refl e
  where
    go : (b : Bool) → (leb (length log) log_limit && rules_only log) ≡ b → log_refusal log ≡ 0 → Passed log
    go true q z = record {
      few = le_of (length log) log_limit (and_left (leb (length log) log_limit) (rules_only log) q);
      numbers = all_is (λ n. leb n last_number) (λ n l. let h : n ≤ last_number = le_of n last_number l in omega arith) log (and_right (leb (length log) log_limit) (rules_only log) q);
    }
    go false q z = let w : ◌≡◌ {A = ℕ} 19 0 = rw q at z in absurd (omega arith)

pub not_beyond : (log : List ℕ) → Passed log → Beyond log → ⊥
not_beyond log p (inl (n, i, l)) = let h : n < rule_numbers = all_in p.numbers i in omega arith
not_beyond log p (inr l) = omega (arith, p.few)

pub beyond : (log : List ℕ) → (log_refusal log ≡ 0 → ⊥) → Beyond log × (log_refusal log ≡ 19)
beyond log h = go (leb (length log) log_limit) (rules_only log) refl refl
  where
    go : (a b : Bool) → leb (length log) log_limit ≡ a → rules_only log ≡ b → Beyond log × (log_refusal log ≡ 19)
    go true true p q = absurd (h (rw (p, q)))
    go true false p q = (inl (above log q), rw (p, q))
    go false b p q = (inr (lt_of_not (length log) log_limit p), rw p)

-- the call's refusal
pub refused : (log : List ℕ) → FirstOf ((19, Beyond log) ∷ []) (log_refusal log)
refused log = go (eqb (log_refusal log) 0) refl
  where
    go : (b : Bool) → eqb (log_refusal log) 0 ≡ b → FirstOf ((19, Beyond log) ∷ []) (log_refusal log)
    go true q = let e : log_refusal log ≡ 0 = eqb_eq (log_refusal log) 0 q in inr (not_beyond log (passed log e), e)
    go false q = inl (beyond log (eqb_ne (log_refusal log) 0 q))

-- what is printed for the text of a log
module _ (bytes log : List ℕ) (read : read_log bytes ≡ some log) where
  only : (other : List ℕ) → LogBytes bytes other → log ≡ other
  only other h = some_inj log other (sym read ∙ log_read bytes other h)

  not_17 : NoLog bytes → ⊥
  not_17 f = f log (log_was bytes log read)

  pub report_printed : log_refusal log ≡ 0 → tally_printed bytes ≡ report log
  report_printed e = ap print_log read ∙ ap (λ n. cond (eqb n 0) (report log) (print_refused (log_refusal log))) e

  pub refusal_printed : (log_refusal log ≡ 0 → ⊥) → tally_printed bytes ≡ print_refused (log_refusal log)
  refusal_printed h = ap print_log read ∙ ap (λ b. cond b (report log) (print_refused (log_refusal log))) (eqb_no (log_refusal log) 0 h)

  none_beyond : Passed log → (other : List ℕ) × LogBytes bytes other × Beyond other → ⊥
  none_beyond p (other, h, b) = not_beyond log p (subst Beyond (sym (only other h)) b)

  prints_log : Prints bytes
  prints_log = go (eqb (log_refusal log) 0) refl
    where
      go : (b : Bool) → eqb (log_refusal log) 0 ≡ b → Prints bytes
      go true q =
          let e : log_refusal log ≡ 0 = eqb_eq (log_refusal log) 0 q in
          record { number = 0; first = inr (not_17, inr (none_beyond (passed log e), refl)); alone = λ h. absurd (h refl); reports = λ z. (log, log_was bytes log read, report_printed e) }
      go false q =
          let h : log_refusal log ≡ 0 → ⊥ = eqb_ne (log_refusal log) 0 q in
          let (b, e) = beyond log h in
          record { number = 19; first = inr (not_17, inl ((log, log_was bytes log read, b), refl)); alone = λ z. refusal_printed h ∙ ap print_refused e; reports = λ z. absurd (omega arith) }

-- 17, 19 or the report
pub prints : (bytes : List ℕ) → Prints bytes
prints bytes = go (read_log bytes) refl
  where
    go : (o : Option (List ℕ)) → read_log bytes ≡ o → Prints bytes
    go none q = record { number = 17; first = inl (λ log h. none≢some (sym q ∙ log_read bytes log h), refl); alone = λ z. ap print_log q; reports = λ z. absurd (omega arith) }
    go (some log) q = prints_log bytes log q
