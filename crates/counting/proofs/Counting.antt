-- Counts, one entry after the other.
use mathlib.Core.Path.{◌≡◌, refl, ap, ◌∙◌, sym}
use mathlib.Core.List.{List, ◌∷◌}
use mathlib.Core.Bool.{Bool, true, false, cond}
use Prim.Native.Nat.{ℕ, suc, ◌+◌, ◌≤◌, ◌<◌}
use native.Mathlib.Numerals.{add-one}
use native.Mathlib.Omega.{arith}
use lib.Dec.{eqb}
use lib.ListN.{length, get_or, drop, set, replicate, length-set, length-replicate, get_or-replicate, drop_of_length-le}
use lib.Seq.{drop-cons, ext_get_or, get_or-set_same, get_or-set_other}
use Rattle.signature.proofs.Tests.{eqb_eq, eqb_ne, leb_yes, leb_no}
use Rattle.tree.specs.Limits.{last_number}
use Rattle.day_log.specs.Limits.{log_limit, rule_numbers}
use Rattle.day_log.specs.Log.{often, counts, rules_only, log_refusal, TallyCall}
use Rattle.day_log.proofs.Often.{none_often, once_more, for_others, often_most, numbered, count}

-- the entries before i are counted
pub record Going (log c : List ℕ) (i : ℕ) : Type 0 where
  pub long : length c ≡ rule_numbers
  pub so_far : (n : ℕ) → n ≤ last_number → get_or c n 0 + often n (drop i log) ≡ often n log
  pub rules : rules_only log ≡ rules_only (drop i log)

pub going_start : (log c : List ℕ) → c ≡ replicate rule_numbers 0 → Going log c 0
going_start log c e = record {
  long = ap length e ∙ length-replicate {A = ℕ} rule_numbers 0;
  so_far = λ n h. let z : get_or c n 0 ≡ 0 = ap (λ x. get_or x n 0) e ∙ get_or-replicate rule_numbers n 0 0 (omega arith) in omega arith;
  rules = refl;
}

module _ {log c : List ℕ} {i : ℕ} (g : Going log c i) where
  -- all are counted
  pub all_rules : length log ≤ i → true ≡ rules_only log
  all_rules h = sym (g.rules ∙ ap rules_only (drop_of_length-le log h))

  pub all_counted : length log ≤ i → c ≡ counts log
  all_counted h = ext_get_or 0 c (counts log) (g.long ∙ sym (numbered log)) (λ n l. let k : n ≤ last_number = omega (arith, g.long) in omega (arith, g.so_far n k, ap (often n) (drop_of_length-le log h), none_often n, count log n k))

  module _ (more : i < length log) where
    abbrev entry : ℕ
    entry = get_or log i 0

    pub not_a_rule : last_number < entry → false ≡ rules_only log
    not_a_rule h = sym (g.rules ∙ ap rules_only (drop-cons log i 0 more) ∙ rw (leb_no entry last_number h))

    module _ (rule : entry ≤ last_number) where
      pub within : entry < length c
      within = omega (arith, g.long)

      -- a count stays below the entries
      pub small : length log ≤ log_limit → get_or c entry 0 ≤ log_limit
      small few = omega (arith, g.so_far entry rule, often_most entry log)

      rest : (n : ℕ) → often n (drop i log) ≡ often n (entry ∷ drop (suc i) log)
      rest n = ap (often n) (drop-cons log i 0 more)

      one_more : (n : ℕ) → n ≤ last_number → get_or (set c entry (get_or c entry 0 + 1)) n 0 + often n (drop (suc i) log) ≡ often n log
      one_more n h = go (eqb n entry) refl
        where
          go : (b : Bool) → eqb n entry ≡ b → get_or (set c entry (get_or c entry 0 + 1)) n 0 + often n (drop (suc i) log) ≡ often n log
          go true q =
              let e : n ≡ entry = eqb_eq n entry q in
              rw e (omega (arith, get_or-set_same c entry (get_or c entry 0 + 1) 0 within, g.so_far entry rule, rest entry, once_more entry (drop (suc i) log)))
          go false q =
              let d : n ≡ entry → ⊥ = eqb_ne n entry q in
              omega (arith, get_or-set_other c entry n (get_or c entry 0 + 1) 0 d, g.so_far n h, rest n, for_others n entry (drop (suc i) log) d)

      pub going_next : Going log (set c entry (get_or c entry 0 + 1)) (i + 1)
      going_next = rw (add-one i) (record {
        long = simp length-set g.long;
        so_far = one_more;
        rules = g.rules ∙ ap rules_only (drop-cons log i 0 more) ∙ rw (leb_yes entry last_number rule);
      })

-- the call: refused, or counted
module _ (log : List ℕ) where
  as_refused : log_refusal log ≡ 19 → TallyCall log 19 0 (replicate rule_numbers 0)
  as_refused e = record {
    number_is = sym e;
    total_is = sym (ap (λ n. cond (eqb n 0) (length log) 0) e);
    counts_are = sym (ap (λ n. cond (eqb n 0) (counts log) (replicate rule_numbers 0)) e);
  }

  pub too_long : log_limit < length log → TallyCall log 19 0 (replicate rule_numbers 0)
  too_long l = as_refused (rw (leb_no (length log) log_limit l))

  module _ (few : length log ≤ log_limit) where
    pub no_rules : rules_only log ≡ false → TallyCall log 19 0 (replicate rule_numbers 0)
    no_rules r = as_refused (rw (leb_yes (length log) log_limit few, r))

    pub tallied : {c : List ℕ} → rules_only log ≡ true → c ≡ counts log → TallyCall log 0 (length log) c
    tallied r e =
        let z : log_refusal log ≡ 0 = rw (leb_yes (length log) log_limit few, r) in
        record {
          number_is = sym z;
          total_is = sym (ap (λ m. cond (eqb m 0) (length log) 0) z);
          counts_are = e ∙ sym (ap (λ m. cond (eqb m 0) (counts log) (replicate rule_numbers 0)) z);
        }
