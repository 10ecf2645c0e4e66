-- Rules of a table: storing and reading them, adding one, taking one out.
use mathlib.Core.Path.{◌≡◌, refl, ap, ◌∙◌}
use mathlib.Core.Logic.{◌≢◌}
use mathlib.Core.List.{List, ◌++◌, append_assoc, ◌∷◌, []}
use mathlib.Core.Option.{some}
use mathlib.Core.Bool.{true, Bool, false, cond, not, ◌&&◌, ◌||◌}
use Prim.Native.Nat.{ℕ, ◌≤◌, ◌*◌, ◌-◌, suc, ◌<◌, ◌+◌}
use native.Mathlib.Omega.{arith}
use lib.Dec.{eqb, ltb, leb}
use lib.ListN.{length, replicate, length-append, drop, length-replicate}
use Rattle.signature.specs.Lists.{all, All, none_left, also, keep, any}
use Rattle.signature.specs.Signature.{Signature}
use Rattle.signature.proofs.Booleans.{and_right, and_left, or_right, or_left, not_false}
use Rattle.signature.proofs.ListFacts.{zeros, split_append, take_exact, drop_exact}
use Rattle.signature.proofs.Tests.{ltb_yes, leb_yes, le_of, lt_of_not, eqb_ne, pass, pass_own}
use Rattle.pattern.specs.Limits.{pattern_limit}
use Rattle.pattern.specs.Weight.{weight}
use Rattle.row.specs.Admitted.{refusal_of_pattern}
use Rattle.row.specs.Overlap.{shares}
use Rattle.row.proofs.PassedFacts.{short_of}
use Rattle.tree.specs.Limits.{last_number}
use Rattle.table.specs.Limits.{limits, table_length, rules_length, rule_length}
use Rattle.table.specs.Refusals.{entry_refusal}
use Rattle.table.specs.Rule.{Rule, Rises, rules_words, rises_nil, rises_cons, total_weight, stored, add_rule, held, take_out, rules_end, table_words}
use Rattle.table.specs.Sound.{read_rules, no_shared, sound}

pub read_back : {m : ℕ} {rs : List Rule} (z : ℕ) → Rises m rs → read_rules (length rs) m (rules_words rs ++ replicate z 0) ≡ some rs
read_back z rises_nil = rw (zeros z)
read_back {m} z (rises_cons {r = r} {rs = rs} a b h) =
    rw (append_assoc r.pattern (rules_words rs) (replicate z 0), ltb_yes m r.number a, leb_yes r.number last_number b, split_append r.pattern (rules_words rs ++ replicate z 0), read_back z h)

module _ (sig : Signature) where
  -- the rules of a sound table
  pub record Valid (rs : List Rule) : Type 0 where
    pub rises : Rises 0 rs
    pub passed : all (λ r. eqb (refusal_of_pattern sig r.pattern) 0) rs ≡ true
    pub short : All (λ r. length r.pattern ≤ pattern_limit) rs
    pub few : length rs ≤ limits.rules
    pub light : total_weight sig rs ≤ limits.weight
    pub apart : no_shared sig rs ≡ true

pub words_few : {rs : List Rule} → All (λ r. length r.pattern ≤ pattern_limit) rs → length (rules_words rs) ≤ rule_length * length rs
words_few none_left = omega arith
words_few (also r {xs = rs} a h) = simp length-append (omega (arith, words_few h))

module _ (sig : Signature) where
  sound_of : (dft : ℕ) (rs : List Rule) (body tail : List ℕ) → length body ≡ (rules_length limits) → read_rules (length rs) 0 body ≡ some rs → Valid sig rs → sound limits sig (length rs ∷ (dft ∷ (body ++ tail))) ≡ some rs
  sound_of dft rs body tail n e v =
      let long : rules_length limits ≤ length (body ++ tail) = simp length-append (omega arith) in
      rw (leb_yes (rules_length limits) (length (body ++ tail)) long, leb_yes (length rs) limits.rules v.few, take_exact (rules_length limits) body tail n, e, v.passed, leb_yes (total_weight sig rs) limits.weight v.light, v.apart)

  pub sound_stored : (dft : ℕ) (rs : List Rule) (ws : List ℕ) → Valid sig rs → sound limits sig (stored limits dft rs ws) ≡ some rs
  sound_stored dft rs ws v =
      let fits : length (rules_words rs) ≤ rule_length * length rs = words_few v.short in
      let few : length rs ≤ limits.rules = v.few in
      sound_of dft rs (rules_words rs ++ replicate (table_length limits - rules_end rs) 0) (drop (table_length limits) ws) (simp (length-append, length-replicate) (omega arith)) (read_back (table_length limits - rules_end rs) v.rises) v

-- what holds for all rules, with one more or with some taken out
module _ (f : Rule → Bool) where
  all_add : (r : Rule) (rs : List Rule) → f r ≡ true → all f rs ≡ true → all f (add_rule r rs) ≡ true
  all_add r [] a h = rw a
  all_add r (s ∷ rs) a h = go (ltb r.number s.number) refl (all_add r rs a (and_right (f s) (all f rs) h))
    where
      go : (b : Bool) → ltb r.number s.number ≡ b → all f (add_rule r rs) ≡ true → all f (add_rule r (s ∷ rs)) ≡ true
      go true q k = rw (q, a) h
      go false q k = rw (q, and_left (f s) (all f rs) h, k)

  all_keep : (g : Rule → Bool) (rs : List Rule) → all f rs ≡ true → all f (keep g rs) ≡ true
  all_keep g [] h = refl
  all_keep g (s ∷ rs) h = go (g s) (all_keep g rs (and_right (f s) (all f rs) h))
    where
      go : (b : Bool) → all f (keep g rs) ≡ true → all f (cond b (s ∷ keep g rs) (keep g rs)) ≡ true
      go true k = rw (and_left (f s) (all f rs) h) k
      go false k = k

module _ {P : Rule → Type 0} where
  All_add : (r : Rule) {rs : List Rule} → P r → All P rs → All P (add_rule r rs)
  All_add r a none_left = also r a none_left
  All_add r a (also s {xs = rs} b h) = go (ltb r.number s.number) (All_add r a h)
    where
      go : (c : Bool) → All P (add_rule r rs) → All P (cond c (r ∷ (s ∷ rs)) (s ∷ add_rule r rs))
      go true k = also r a (also s b h)
      go false k = also s b k

  All_keep : (g : Rule → Bool) {rs : List Rule} → All P rs → All P (keep g rs)
  All_keep g none_left = none_left
  All_keep g (also s {xs = rs} b h) = go (g s) (All_keep g h)
    where
      go : (c : Bool) → All P (keep g rs) → All P (cond c (s ∷ keep g rs) (keep g rs))
      go true k = also s b k
      go false k = k

length_add : (r : Rule) (rs : List Rule) → length (add_rule r rs) ≡ suc (length rs)
length_add r [] = refl
length_add r (s ∷ rs) = go (ltb r.number s.number) (length_add r rs)
  where
    go : (b : Bool) → length (add_rule r rs) ≡ suc (length rs) → length (cond b (r ∷ (s ∷ rs)) (s ∷ add_rule r rs)) ≡ suc (suc (length rs))
    go true k = refl
    go false k = ap suc k

length_keep : (g : Rule → Bool) (rs : List Rule) → length (keep g rs) ≤ length rs
length_keep g [] = omega arith
length_keep g (s ∷ rs) = go (g s) (length_keep g rs)
  where
    go : (b : Bool) → length (keep g rs) ≤ length rs → length (cond b (s ∷ keep g rs) (keep g rs)) ≤ suc (length rs)
    go true k = omega arith
    go false k = omega arith

rises_add : {m : ℕ} (r : Rule) {rs : List Rule} → m < r.number → r.number ≤ last_number → held r.number rs ≡ false → Rises m rs → Rises m (add_rule r rs)
rises_add r a b n rises_nil = rises_cons a b rises_nil
rises_add {m} r a b n (rises_cons {r = s} {rs = rs} c d h) = go (ltb r.number s.number) refl (λ q. rises_add r q b (or_right (eqb r.number s.number) (held r.number rs) n) h)
  where
    go : (e : Bool) → ltb r.number s.number ≡ e → (s.number < r.number → Rises s.number (add_rule r rs)) → Rises m (add_rule r (s ∷ rs))
    go true q f = rw q (rises_cons a b (rises_cons (le_of (suc r.number) s.number q) d h))
    go false q f =
        let x : s.number < suc r.number = lt_of_not (suc r.number) s.number q in
        let y : r.number ≢ s.number = eqb_ne r.number s.number (or_left (eqb r.number s.number) (held r.number rs) n) in
        rw q (rises_cons c d (f (omega arith)))

rises_lower : {m k : ℕ} {rs : List Rule} → m ≤ k → Rises k rs → Rises m rs
rises_lower l rises_nil = rises_nil
rises_lower {m} l (rises_cons {r = r} a b h) =
    let q : m < r.number = omega arith in
    rises_cons q b h

rises_keep : {m : ℕ} (g : Rule → Bool) {rs : List Rule} → Rises m rs → Rises m (keep g rs)
rises_keep g rises_nil = rises_nil
rises_keep {m} g (rises_cons {r = s} {rs = rs} a b h) = go (g s) (rises_keep g h)
  where
    go : (c : Bool) → Rises s.number (keep g rs) → Rises m (cond c (s ∷ keep g rs) (keep g rs))
    go true k = rises_cons a b k
    go false k = rises_lower (omega arith) k

module _ (sig : Signature) where
  weight_add : (r : Rule) (rs : List Rule) → total_weight sig (add_rule r rs) ≡ weight sig r.pattern + total_weight sig rs
  weight_add r [] = refl
  weight_add r (s ∷ rs) = go (ltb r.number s.number) (weight_add r rs)
    where
      go : (b : Bool) → total_weight sig (add_rule r rs) ≡ weight sig r.pattern + total_weight sig rs → total_weight sig (cond b (r ∷ (s ∷ rs)) (s ∷ add_rule r rs)) ≡ weight sig r.pattern + (weight sig s.pattern + total_weight sig rs)
      go true k = refl
      go false k = omega arith

  weight_keep : (g : Rule → Bool) (rs : List Rule) → total_weight sig (keep g rs) ≤ total_weight sig rs
  weight_keep g [] = omega arith
  weight_keep g (s ∷ rs) = go (g s) (weight_keep g rs)
    where
      go : (b : Bool) → total_weight sig (keep g rs) ≤ total_weight sig rs → total_weight sig (cond b (s ∷ keep g rs) (keep g rs)) ≤ weight sig s.pattern + total_weight sig rs
      go true k = omega arith
      go false k = omega arith

  apart_keep : (g : Rule → Bool) (rs : List Rule) → no_shared sig rs ≡ true → no_shared sig (keep g rs) ≡ true
  apart_keep g [] h = refl
  apart_keep g (s ∷ rs) h = go (g s) (apart_keep g rs (and_right (all (λ t. not (shares sig s.pattern t.pattern)) rs) (no_shared sig rs) h))
    where
      go : (b : Bool) → no_shared sig (keep g rs) ≡ true → no_shared sig (cond b (s ∷ keep g rs) (keep g rs)) ≡ true
      go true k = rw (all_keep (λ t. not (shares sig s.pattern t.pattern)) g rs (and_left (all (λ t. not (shares sig s.pattern t.pattern)) rs) (no_shared sig rs) h)) k
      go false k = k

module _ (sig : Signature) where
  module _ (either_way : (us ws : List ℕ) → shares sig us ws ≡ shares sig ws us) where
    apart_add : (r : Rule) (rs : List Rule) → any (λ s. shares sig r.pattern s.pattern) rs ≡ false → no_shared sig rs ≡ true → no_shared sig (add_rule r rs) ≡ true
    apart_add r [] n h = refl
    apart_add r (s ∷ rs) n h = go (ltb r.number s.number) (apart_add r rs later rest)
      where
        here : shares sig r.pattern s.pattern ≡ false
        here = or_left (shares sig r.pattern s.pattern) (any (λ t. shares sig r.pattern t.pattern) rs) n

        later : any (λ t. shares sig r.pattern t.pattern) rs ≡ false
        later = or_right (shares sig r.pattern s.pattern) (any (λ t. shares sig r.pattern t.pattern) rs) n

        rest : no_shared sig rs ≡ true
        rest = and_right (all (λ t. not (shares sig s.pattern t.pattern)) rs) (no_shared sig rs) h

        first : all (λ t. not (shares sig s.pattern t.pattern)) rs ≡ true
        first = and_left (all (λ t. not (shares sig s.pattern t.pattern)) rs) (no_shared sig rs) h

        none_shared : (ts : List Rule) → any (λ t. shares sig r.pattern t.pattern) ts ≡ false → all (λ t. not (shares sig r.pattern t.pattern)) ts ≡ true
        none_shared [] e = refl
        none_shared (t ∷ ts) e = rw (or_left (shares sig r.pattern t.pattern) (any (λ u. shares sig r.pattern u.pattern) ts) e) (none_shared ts (or_right (shares sig r.pattern t.pattern) (any (λ u. shares sig r.pattern u.pattern) ts) e))

        go : (b : Bool) → no_shared sig (add_rule r rs) ≡ true → no_shared sig (cond b (r ∷ (s ∷ rs)) (s ∷ add_rule r rs)) ≡ true
        go true k = rw (none_shared (s ∷ rs) n) h
        go false k = rw (all_add (λ t. not (shares sig s.pattern t.pattern)) r rs (ap not (either_way s.pattern r.pattern ∙ here)) first) k

    -- an entry that is not refused
    pub record Admitted (n : ℕ) (ws : List ℕ) (rs : List Rule) : Type 0 where
      pub low : 1 ≤ n
      pub high : n ≤ last_number
      pub new : held n rs ≡ false
      pub good : refusal_of_pattern sig ws ≡ 0
      pub room : length rs < limits.rules
      pub fits : weight sig ws + total_weight sig rs ≤ limits.weight
      pub alone : any (λ r. shares sig ws r.pattern) rs ≡ false

    pub admitted : (n : ℕ) (ws : List ℕ) (rs : List Rule) → entry_refusal limits sig n ws rs ≡ 0 → Admitted n ws rs
    admitted n ws rs e =
        let (a, e₁) = pass (not (leb 1 n && leb n last_number)) 4 _ (λ z. omega arith) e in
        let (b, e₂) = pass (held n rs) 5 _ (λ z. omega arith) e₁ in
        let (c, e₃) = pass_own (refusal_of_pattern sig ws) _ e₂ in
        let (d, e₄) = pass (leb limits.rules (length rs) || ltb limits.weight (weight sig ws + total_weight sig rs)) 11 _ (λ z. omega arith) e₃ in
        let (f, e₅) = pass (any (λ r. shares sig ws r.pattern) rs) 12 0 (λ z. omega arith) e₄ in
        let l : (leb 1 n && leb n last_number) ≡ true = not_false (leb 1 n && leb n last_number) a in
        let w : weight sig ws + total_weight sig rs < suc limits.weight = lt_of_not (suc limits.weight) (weight sig ws + total_weight sig rs) (or_right (leb limits.rules (length rs)) (ltb limits.weight (weight sig ws + total_weight sig rs)) d) in
        record { low = le_of 1 n (and_left (leb 1 n) (leb n last_number) l); high = le_of n last_number (and_right (leb 1 n) (leb n last_number) l); new = b; good = c; room = lt_of_not limits.rules (length rs) (or_left (leb limits.rules (length rs)) (ltb limits.weight (weight sig ws + total_weight sig rs)) d); fits = omega arith; alone = f }

    pub valid_entry : (n plan : ℕ) (ws : List ℕ) (rs : List Rule) → Admitted n ws rs → Valid sig rs → Valid sig (add_rule (record { number = n; plan = plan; pattern = ws }) rs)
    valid_entry n plan ws rs a v =
        let r : Rule = record { number = n; plan = plan; pattern = ws } in
        record { rises = rises_add r a.low a.high a.new v.rises; passed = all_add _ r rs (rw a.good) v.passed; short = All_add r (short_of sig ws a.good) v.short; few = omega (arith, length_add r rs, a.room); light = omega (arith, weight_add sig r rs, a.fits); apart = apart_add r rs a.alone v.apart }

    pub valid_withdrawal : (n : ℕ) (rs : List Rule) → Valid sig rs → Valid sig (take_out n rs)
    valid_withdrawal n rs v =
        let g : Rule → Bool = λ r. not (eqb n r.number) in
        record { rises = rises_keep g v.rises; passed = all_keep _ g rs v.passed; short = All_keep g v.short; few = omega (arith, length_keep g rs, v.few); light = omega (arith, weight_keep sig g rs, v.light); apart = apart_keep sig g rs v.apart }

    -- one call on a table that holds rs
    pub stored_again : (d e : ℕ) (rs qs : List Rule) (ws : List ℕ) → Valid sig rs → stored limits e qs (stored limits d rs ws) ≡ stored limits e qs ws
    stored_again d e rs qs ws v =
        let fits : length (rules_words rs) ≤ rule_length * length rs = words_few v.short in
        let few : length rs ≤ limits.rules = v.few in
        ap (λ z. table_words limits e qs ++ z) (drop_exact (table_length limits) (table_words limits d rs) (drop (table_length limits) ws) (simp (length-append, length-replicate) (omega arith)))
