-- A walk over the rules of a table.
use mathlib.Core.Path.{◌≡◌, refl, ap, sym, ◌∙◌, subst}
use mathlib.Core.List.{List, [], ◌∷◌, ◌++◌, append_assoc, append-nil}
use Prim.Native.Nat.{ℕ, suc, ◌+◌, ◌-◌, ◌≤◌, ◌<◌}
use native.Mathlib.Omega.{arith}
use lib.ListN.{length, get_or, take, drop, length-append}
use lib.Seq.{take_at, drop_at, drop-drop, get_or-drop}
use Rattle.table.specs.Limits.{limits, rule_head, rules_at}
use Rattle.table.specs.Rule.{Rule, rule_words, rules_words, rules_end, default_of}
use Rattle.store.specs.Laid.{Holds}
use Rattle.store.specs.Place.{RuleAt, Walked, NextRule}
use Rattle.store.proofs.LaidFacts.{behind, room, is_stored}

pub words_append : (before after : List Rule) → rules_words (before ++ after) ≡ rules_words before ++ rules_words after
words_append [] after = refl
words_append (r ∷ before) after = ap (λ (x : List ℕ). rule_words r ++ x) (words_append before after) ∙ sym (append_assoc (rule_words r) (rules_words before) (rules_words after))

pub words_length : (before after : List Rule) → length (rules_words (before ++ after)) ≡ length (rules_words before) + length (rules_words after)
words_length before after = ap length (words_append before after) ∙ length-append (rules_words before) (rules_words after)

module _ {table : List ℕ} (before after : List Rule) (h : Holds limits table (before ++ after)) where
  -- the table as the count, the default, the words of some rules, and what stands behind them
  pub parted : table ≡ (length (before ++ after) ∷ (default_of table ∷ rules_words before)) ++ (rules_words after ++ behind table (before ++ after))
  parted = is_stored h ∙ ap (λ (x : List ℕ). length (before ++ after) ∷ (default_of table ∷ x)) (ap (λ (x : List ℕ). x ++ behind table (before ++ after)) (words_append before after) ∙ append_assoc (rules_words before) (rules_words after) (behind table (before ++ after)))

  pub from_there : drop (rules_end before) table ≡ rules_words after ++ behind table (before ++ after)
  from_there = ap (drop (rules_end before)) parted ∙ drop_at (length (before ++ after) ∷ (default_of table ∷ rules_words before)) (rules_words after ++ behind table (before ++ after)) (rules_end before) (omega arith)

-- what stands at an index and behind it
read_from : (table : List ℕ) (at k : ℕ) (ws : List ℕ) → drop at table ≡ ws → get_or table (at + k) 0 ≡ get_or ws k 0
read_from table at k ws e = sym (get_or-drop at table k 0) ∙ ap (λ (x : List ℕ). get_or x k 0) e

module _ {table : List ℕ} (before : List Rule) (r : Rule) (after : List Rule) (h : Holds limits table (before ++ (r ∷ after))) where
  pub words_at : drop (rules_end before) table ≡ rule_words r ++ (rules_words after ++ behind table (before ++ (r ∷ after)))
  words_at = from_there before (r ∷ after) h ∙ append_assoc (rule_words r) (rules_words after) (behind table (before ++ (r ∷ after)))

  pub rule_at : RuleAt table (rules_end before) r
  rule_at =
      let at = rules_end before in
      let rest = rules_words after ++ behind table (before ++ (r ∷ after)) in
      let e : drop at table ≡ rule_words r ++ rest = words_at in
      let zero_more : at + 0 ≡ at = omega arith in
      let past : drop (at + 3) table ≡ r.pattern ++ rest = sym (drop-drop 3 at table) ∙ ap (drop 3) e in
      let fits = room h in
      let w : length (rules_words (before ++ (r ∷ after))) ≡ length (rules_words before) + length (rules_words (r ∷ after)) = words_length before (r ∷ after) in
      let w' : length (rules_words (r ∷ after)) ≡ suc (suc (suc (length r.pattern))) + length (rules_words after) = length-append (rule_words r) (rules_words after) in
      record {
        number_is = ap (λ (n : ℕ). get_or table n 0) (sym zero_more) ∙ read_from table at 0 (rule_words r ++ rest) e;
        plan_is = read_from table at 1 (rule_words r ++ rest) e;
        length_is = read_from table at 2 (rule_words r ++ rest) e;
        pattern_is = ap (take (length r.pattern)) past ∙ take_at r.pattern rest (length r.pattern) refl;
        within = omega arith;
      }

pub pattern_part : (table : List ℕ) (at : ℕ) (r : Rule) → RuleAt table at r → take (at + rule_head + get_or table (at + 2) 0 - (at + rule_head)) (drop (at + rule_head) table) ≡ r.pattern
pattern_part table at r q =
    let n : at + 3 + get_or table (at + 2) 0 - (at + 3) ≡ length r.pattern = omega (arith, q.length_is) in
    ap (λ (m : ℕ). take m (drop (at + 3) table)) n ∙ q.pattern_is

pub walk_start : (rs : List Rule) → Walked rs [] rs 0 rules_at
walk_start rs = record { are = refl; passed = refl; at_is = refl }

-- a walk ends behind the last rule
pub walk_end : {rs before after : List Rule} {i at : ℕ} → Walked rs before after i at → length rs ≤ i → (after ≡ []) × (rs ≡ before)
walk_end {rs} {before} {after} {i} {at} w l = go after w.are
  where
    go : (ls : List Rule) → rs ≡ before ++ ls → (ls ≡ []) × (rs ≡ before)
    go [] e = (refl, e ∙ append-nil before)
    go (r ∷ ls) e = absurd (omega (arith, ap length e, length-append before (r ∷ ls), w.passed))

module _ {table : List ℕ} where
  step : (before : List Rule) (r : Rule) (later : List Rule) (i at : ℕ) (rs : List Rule) → Holds limits table rs → Walked rs before (r ∷ later) i at → NextRule table rs before (r ∷ later) i at
  step before r later i at rs h w =
      let g : Holds limits table (before ++ (r ∷ later)) = subst (Holds limits table) w.are h in
      let q : RuleAt table at r = subst (λ (n : ℕ). RuleAt table n r) (sym w.at_is) (rule_at before r later g) in
      let l : length (rules_words (before ++ (r ∷ []))) ≡ length (rules_words before) + length (rules_words (r ∷ [])) = words_length before (r ∷ []) in
      let l' : length (rules_words (r ∷ [])) ≡ suc (suc (suc (length r.pattern))) + 0 = length-append (rule_words r) [] in
      let p = q.length_is in
      let a = w.at_is in
      record {
        rule = r;
        later = later;
        here = refl;
        reads = q;
        next = record {
          are = w.are ∙ sym (append_assoc before (r ∷ []) later);
          passed = length-append before (r ∷ []) ∙ ap (λ (n : ℕ). n + 1) w.passed;
          at_is = omega arith;
        };
      }

  pub walk_step : (rs before after : List Rule) (i at : ℕ) → Holds limits table rs → Walked rs before after i at → i < length rs → NextRule table rs before after i at
  walk_step rs before [] i at h w l = absurd (omega (arith, ap length (walk_end_nil before w.are), w.passed))
    where
      walk_end_nil : (bs : List Rule) → rs ≡ bs ++ [] → rs ≡ bs
      walk_end_nil bs e = e ∙ append-nil bs
  walk_step rs before (r ∷ later) i at h w l = step before r later i at rs h w
