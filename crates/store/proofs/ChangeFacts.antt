-- A table emptied, a rule put in and taken out, as equations of lists.
use mathlib.Core.Path.{◌≡◌, refl, ap, ap₂, sym, ◌∙◌, subst}
use mathlib.Core.List.{List, [], ◌∷◌, ◌++◌, append_assoc, append-nil}
use Prim.Native.Nat.{ℕ, suc, ◌+◌, ◌-◌, ◌≤◌, ◌<◌}
use native.Mathlib.Omega.{arith}
use lib.ListN.{length, get_or, take, drop, set, replicate, length-append, length-replicate, replicate-append-replicate}
use lib.Seq.{take_at, drop_at, drop-drop, drop-length, length-take-le, take-take, take-append-le}
use Rattle.signature.specs.Lists.{All, none_left, also}
use Rattle.signature.proofs.Tests.{eqb_self, eqb_no, ltb_yes, ltb_no}
use Rattle.table.specs.Limits.{limits, table_length, default_at, emptied_default}
use Rattle.table.specs.Rule.{Rule, rule_words, rules_words, rules_end, default_of, stored, add_rule, take_out}
use Rattle.table.proofs.TableFacts.{words_few}
use Rattle.store.specs.Laid.{Holds}
use Rattle.store.specs.Place.{FreeAt, HeldAt, RuleAt}
use Rattle.store.specs.Change.{GivenPut, GivenTake}
use Rattle.store.proofs.LaidFacts.{zeros_left, behind, room}
use Rattle.store.proofs.Walk.{words_append, words_length, parted, rule_at}

-- what stands behind a place, further on
abbrev pub Right : List ℕ → ℕ → ℕ → ℕ → List ℕ
Right l j end d = take (j + d) l ++ (take (end - j) (drop j l) ++ drop (end + d) l)

inserted : (s S item ys : List ℕ) (at end d : ℕ) → at ≤ end → end + d ≤ length s → d ≡ length item → S ≡ Right s at end d → ys ≡ item
    → take at S ++ (ys ++ drop (at + d - at) (drop at S)) ≡ take at s ++ (item ++ (take (end - at) (drop at s) ++ drop (end + length item) s))
inserted s S item ys at end d h g n e f =
    let T = take (end - at) (drop at s) in
    let D = drop (end + d) s in
    let len : length (take (at + d) s) ≡ at + d = length-take-le (at + d) s (omega arith) in
    let front : take at S ≡ take at s = ap (take at) e ∙ take-append-le at (take (at + d) s) (T ++ D) (omega arith) ∙ take-take at (at + d) s (omega arith) in
    let k : at + (at + d - at) ≡ at + d = omega arith in
    let back : drop (at + d - at) (drop at S) ≡ T ++ D =
    drop-drop (at + d - at) at S ∙ ap₂ (λ (m : ℕ) (l : List ℕ). drop m l) k e ∙ drop_at (take (at + d) s) (T ++ D) (at + d) len in
    rw (front, f, back, n)

-- rules

add_there : (r : Rule) {before after : List Rule} → All (λ s. s.number < r.number) before → All (λ s. r.number < s.number) after → add_rule r (before ++ after) ≡ before ++ (r ∷ after)
add_there r none_left none_left = refl
add_there r none_left (also s l h) = rw (ltb_yes r.number s.number l)
add_there r (also s l h) a = rw (ltb_no r.number s.number (omega arith), add_there r h a)

kept_above : (n : ℕ) {after : List Rule} → All (λ r. n < r.number) after → take_out n after ≡ after
kept_above n none_left = refl
kept_above n (also s l h) = rw (eqb_no n s.number (λ e. omega arith), kept_above n h)

take_there : (n : ℕ) (r : Rule) {before after : List Rule} → r.number ≡ n → All (λ s. s.number < n) before → All (λ s. n < s.number) after → take_out n (before ++ (r ∷ after)) ≡ before ++ after
take_there n r e none_left a = rw (e, eqb_self n) (kept_above n a)
take_there n r e (also s l h) a = rw (eqb_no n s.number (λ q. omega arith), take_there n r e h a)

stored_is : (dft : ℕ) (rs : List Rule) (lent : List ℕ) → stored limits dft rs lent ≡ length rs ∷ (dft ∷ (rules_words rs ++ behind lent rs))
stored_is dft rs lent = ap (λ (x : List ℕ). length rs ∷ (dft ∷ x)) (append_assoc (rules_words rs) (replicate (zeros_left rs) 0) (drop (table_length limits) lent))

-- words

drop_zeros : (d z : ℕ) (R : List ℕ) → d ≤ z → drop d (replicate z 0 ++ R) ≡ replicate (z - d) 0 ++ R
drop_zeros d z R l =
    let s : d + (z - d) ≡ z = omega arith in
    ap (λ (n : ℕ). drop d (replicate n 0 ++ R)) (sym s)
    ∙ ap (λ (x : List ℕ). drop d (x ++ R)) (sym (replicate-append-replicate d (z - d) 0))
    ∙ ap (drop d) (append_assoc (replicate d 0) (replicate (z - d) 0) R)
    ∙ drop_at (replicate d 0) (replicate (z - d) 0 ++ R) d (length-replicate d 0)

-- words put in before A, of the zeros behind it
words_in : (t X A R I : List ℕ) (z at e d : ℕ) → t ≡ X ++ (A ++ (replicate z 0 ++ R)) → length X ≡ at → e ≡ at + length A → d ≤ z
    → take at t ++ (I ++ (take (e - at) (drop at t) ++ drop (e + d) t)) ≡ X ++ (I ++ (A ++ (replicate (z - d) 0 ++ R)))
words_in t X A R I z at e d p x q l =
    let Z = replicate z 0 ++ R in
    let a : take at t ≡ X = ap (take at) p ∙ take_at X (A ++ Z) at x in
    let b : drop at t ≡ A ++ Z = ap (drop at) p ∙ drop_at X (A ++ Z) at x in
    let n : length A ≡ e - at = omega arith in
    let m : at + length A ≡ e = omega arith in
    let past : drop e t ≡ Z = ap (λ (k : ℕ). drop k t) (sym m) ∙ sym (drop-drop (length A) at t) ∙ ap (drop (length A)) b ∙ drop_at A Z (length A) refl in
    let mid : take (e - at) (drop at t) ≡ A = ap (take (e - at)) b ∙ take_at A Z (e - at) n in
    let last : drop (e + d) t ≡ replicate (z - d) 0 ++ R = sym (drop-drop d e t) ∙ ap (drop d) past ∙ drop_zeros d z R l in
    ap₂ (λ (u v : List ℕ). u ++ (I ++ v)) a (ap₂ (λ (u v : List ℕ). u ++ v) mid last)

-- words taken out before A, and zeros behind it
words_out : (t X I A R : List ℕ) (z at e d : ℕ) → t ≡ X ++ (I ++ (A ++ (replicate z 0 ++ R))) → length X ≡ at → length I ≡ d → e ≡ at + d + length A
    → take at t ++ (take (e - (at + d)) (drop (at + d) t) ++ (replicate d 0 ++ drop e t)) ≡ X ++ (A ++ (replicate (d + z) 0 ++ R))
words_out t X I A R z at e d p x i q =
    let Z = replicate z 0 ++ R in
    let a : take at t ≡ X = ap (take at) p ∙ take_at X (I ++ (A ++ Z)) at x in
    let b : drop (at + d) t ≡ A ++ Z = sym (drop-drop d at t) ∙ ap (drop d) (ap (drop at) p ∙ drop_at X (I ++ (A ++ Z)) at x) ∙ drop_at I (A ++ Z) d i in
    let n : length A ≡ e - (at + d) = omega arith in
    let m : at + d + length A ≡ e = omega arith in
    let mid : take (e - (at + d)) (drop (at + d) t) ≡ A = ap (take (e - (at + d))) b ∙ take_at A Z (e - (at + d)) n in
    let past : drop e t ≡ Z = ap (λ (k : ℕ). drop k t) (sym m) ∙ sym (drop-drop (length A) (at + d) t) ∙ ap (drop (length A)) b ∙ drop_at A Z (length A) refl in
    let zs : replicate d 0 ++ drop e t ≡ replicate (d + z) 0 ++ R = ap (λ (u : List ℕ). replicate d 0 ++ u) past ∙ sym (append_assoc (replicate d 0) (replicate z 0) R) ∙ ap (λ (u : List ℕ). u ++ R) (replicate-append-replicate d z 0) in
    ap₂ (λ (u v : List ℕ). u ++ v) a (ap₂ (λ (u v : List ℕ). u ++ v) mid zs)

pub first_word : (S : List ℕ) (n : ℕ) (Y : List ℕ) → S ≡ n ∷ Y → get_or S 0 0 ≡ n
first_word S n Y e = ap (λ (x : List ℕ). get_or x 0 0) e

counted : (S Y : List ℕ) (n m : ℕ) → S ≡ n ∷ Y → set S 0 m ≡ m ∷ Y
counted S Y n m e = ap (λ (x : List ℕ). set x 0 m) e

-- the empty table

pub emptied : (t ys : List ℕ) → table_length limits ≤ length t → ys ≡ replicate (length (take (table_length limits) t)) 0 → set (ys ++ drop (table_length limits) t) default_at emptied_default ≡ stored limits emptied_default [] t
emptied t ys l e = ap (λ (x : List ℕ). set (x ++ drop (table_length limits) t) default_at emptied_default) (e ∙ ap (λ (n : ℕ). replicate n 0) (length-take-le (table_length limits) t l))

-- a rule's words

pub written : (w p ys : List ℕ) (n pl l : ℕ) → length w ≡ 3 + length p → l ≡ length p → ys ≡ p → let W = set (set (set w 0 n) 1 pl) 2 l in take 3 W ++ (ys ++ drop (length W - 3) (drop 3 W)) ≡ n ∷ (pl ∷ (length p ∷ p))
written [] p ys n pl l h k e = absurd (omega arith)
written (a ∷ []) p ys n pl l h k e = absurd (omega arith)
written (a ∷ (b ∷ [])) p ys n pl l h k e = absurd (omega arith)
written (a ∷ (b ∷ (c ∷ w))) p ys n pl l h k e =
    let m : suc (suc (suc (length w))) - 3 ≡ length w = omega arith in
    let none_behind : drop (suc (suc (suc (length w))) - 3) w ≡ [] = ap (λ (q : ℕ). drop q w) m ∙ drop-length w in
    ap₂ (λ (x : ℕ) (u : List ℕ). n ∷ (pl ∷ (x ∷ u))) k (ap₂ (λ (u v : List ℕ). u ++ v) e none_behind ∙ append-nil p)

-- a rule put in

module _ {table : List ℕ} {at number : ℕ} {pattern : List ℕ} (g : GivenPut table at number pattern) (plan : ℕ) where
  abbrev rule : Rule
  rule = record { number = number; plan = plan; pattern = pattern }

  pub put_room : rules_end g.rs + (3 + length pattern) ≤ (table_length limits)
  put_room = omega (arith, words_few g.short, g.few, g.short_new)

  pub put_there : at ≤ rules_end g.rs
  put_there =
      let f = g.free in
      omega (arith, f.at_is, ap (λ (x : List Rule). length (rules_words x)) f.are, words_length f.before f.after)

  module _ (T ys : List ℕ) (e d : ℕ) (is_end : e ≡ rules_end g.rs) (is_width : d ≡ 3 + length pattern) (moved : T ≡ Right table at e d) (wrote : ys ≡ rule_words rule) where
    -- the table before its count rises
    abbrev S : List ℕ
    S = take at T ++ (ys ++ drop (at + d - at) (drop at T))

    S_is : S ≡ take at table ++ (rule_words rule ++ (take (e - at) (drop at table) ++ drop (e + length (rule_words rule)) table))
    S_is = inserted table T (rule_words rule) ys at e d (omega (arith, put_there)) (omega (arith, put_room, g.holds.long)) (omega arith) moved wrote

    abbrev f : FreeAt number g.rs at
    f = g.free

    opened : S ≡ (length (f.before ++ f.after) ∷ (default_of table ∷ rules_words f.before)) ++ (rule_words rule ++ (rules_words f.after ++ (replicate (zeros_left (f.before ++ f.after) - length (rule_words rule)) 0 ++ drop (table_length limits) table)))
    opened =
        let h : Holds limits table (f.before ++ f.after) = subst (Holds limits table) f.are g.holds in
        let w : length (rules_words g.rs) ≡ length (rules_words f.before) + length (rules_words f.after) = ap (λ (x : List Rule). length (rules_words x)) f.are ∙ words_length f.before f.after in
        let v = words_length f.before f.after in
        let r = put_room in
        let p = f.at_is in
        S_is ∙ words_in table (length (f.before ++ f.after) ∷ (default_of table ∷ rules_words f.before)) (rules_words f.after) (drop (table_length limits) table) (rule_words rule) (zeros_left (f.before ++ f.after)) at e (length (rule_words rule)) (parted f.before f.after h) (omega arith) (omega arith) (omega arith)

    pub put_count : get_or S 0 0 ≡ length g.rs
    put_count = first_word S (length (f.before ++ f.after)) _ opened ∙ ap length (sym f.are)

    pub put_is : set S 0 (get_or S 0 0 + 1) ≡ stored limits (default_of table) (add_rule rule g.rs) table
    put_is =
        let B = f.before in
        let A = f.after in
        let v = words_length B A in
        let ws : rules_words (B ++ (rule ∷ A)) ≡ rules_words B ++ (rule_words rule ++ rules_words A) = words_append B (rule ∷ A) in
        let k : length (rules_words (B ++ (rule ∷ A))) ≡ length (rules_words B) + length (rules_words (rule ∷ A)) = words_length B (rule ∷ A) in
        let k' : length (rules_words (rule ∷ A)) ≡ length (rule_words rule) + length (rules_words A) = length-append (rule_words rule) (rules_words A) in
        let z : zeros_left (B ++ A) - length (rule_words rule) ≡ zeros_left (B ++ (rule ∷ A)) = omega arith in
        let n : get_or S 0 0 + 1 ≡ length (B ++ (rule ∷ A)) = omega (arith, put_count, ap length f.are, length-append B A, length-append B (rule ∷ A)) in
        let R = replicate (zeros_left (B ++ A) - length (rule_words rule)) 0 ++ drop (table_length limits) table in
        let body : rules_words B ++ (rule_words rule ++ (rules_words A ++ R)) ≡ rules_words (B ++ (rule ∷ A)) ++ behind table (B ++ (rule ∷ A)) = sym (ap₂ (λ (x : List ℕ) (m : ℕ). x ++ (replicate m 0 ++ drop (table_length limits) table)) ws (sym z) ∙ (simp append_assoc)) in
        counted S _ (length (B ++ A)) (get_or S 0 0 + 1) opened
        ∙ ap₂ (λ (m : ℕ) (x : List ℕ). m ∷ (default_of table ∷ x)) n body
        ∙ sym (stored_is (default_of table) (B ++ (rule ∷ A)) table)
        ∙ ap (λ (x : List Rule). stored limits (default_of table) x table) (sym (ap (add_rule rule) f.are ∙ add_there rule f.below f.above))

-- a rule taken out

module _ {table : List ℕ} {at : ℕ} (g : GivenTake table at) where
  abbrev h : HeldAt g.number g.rs at
  h = g.held

  there : Holds limits table (h.before ++ (h.rule ∷ h.after))
  there = subst (Holds limits table) h.are g.holds

  pub take_reads : RuleAt table at h.rule
  take_reads = subst (λ (n : ℕ). RuleAt table n h.rule) (sym h.at_is) (rule_at h.before h.rule h.after there)

  take_end : rules_end g.rs ≡ at + length (rule_words h.rule) + length (rules_words h.after)
  take_end = omega (arith, h.at_is, ap (λ (x : List Rule). length (rules_words x)) h.are, words_length h.before (h.rule ∷ h.after), length-append (rule_words h.rule) (rules_words h.after))

  pub take_fits : (at + (3 + get_or table (at + 2) 0) ≤ rules_end g.rs) × (rules_end g.rs ≤ (table_length limits))
  take_fits = (omega (arith, take_reads.length_is, take_end), room g.holds)

  module _ (S : List ℕ) (e d : ℕ) (is_end : e ≡ rules_end g.rs) (is_width : d ≡ 3 + get_or table (at + 2) 0) (S_is : S ≡ take at table ++ (take (e - (at + d)) (drop (at + d) table) ++ (replicate d 0 ++ drop e table))) where
    closed : S ≡ (length (h.before ++ (h.rule ∷ h.after)) ∷ (default_of table ∷ rules_words h.before)) ++ (rules_words h.after ++ (replicate (d + zeros_left (h.before ++ (h.rule ∷ h.after))) 0 ++ drop (table_length limits) table))
    closed =
        let q = take_end in
        let i : length (rule_words h.rule) ≡ d = omega (arith, take_reads.length_is) in
        let p : table ≡ (length (h.before ++ (h.rule ∷ h.after)) ∷ (default_of table ∷ rules_words h.before)) ++ (rule_words h.rule ++ (rules_words h.after ++ behind table (h.before ++ (h.rule ∷ h.after)))) = parted h.before (h.rule ∷ h.after) there ∙ ap (λ (x : List ℕ). (length (h.before ++ (h.rule ∷ h.after)) ∷ (default_of table ∷ rules_words h.before)) ++ x) (append_assoc (rule_words h.rule) (rules_words h.after) _) in
        S_is ∙ words_out table (length (h.before ++ (h.rule ∷ h.after)) ∷ (default_of table ∷ rules_words h.before)) (rule_words h.rule) (rules_words h.after) (drop (table_length limits) table) (zeros_left (h.before ++ (h.rule ∷ h.after))) at e d p (omega (arith, h.at_is)) i (omega arith)

    pub take_count : get_or S 0 0 ≡ suc (length (h.before ++ h.after))
    take_count = omega (arith, first_word S (length (h.before ++ (h.rule ∷ h.after))) _ closed, length-append h.before (h.rule ∷ h.after), length-append h.before h.after)

    pub take_is : set S 0 (get_or S 0 0 - 1) ≡ stored limits (default_of table) (take_out g.number g.rs) table
    take_is =
        let B = h.before in
        let A = h.after in
        let r = h.rule in
        let i : length (rule_words r) ≡ d = omega (arith, take_reads.length_is) in
        let k : length (rules_words (B ++ (r ∷ A))) ≡ length (rules_words B) + length (rules_words (r ∷ A)) = words_length B (r ∷ A) in
        let k' : length (rules_words (r ∷ A)) ≡ length (rule_words r) + length (rules_words A) = length-append (rule_words r) (rules_words A) in
        let v = words_length B A in
        let fits = room there in
        let z : d + zeros_left (B ++ (r ∷ A)) ≡ zeros_left (B ++ A) = omega arith in
        let n : get_or S 0 0 - 1 ≡ length (B ++ A) = omega (arith, take_count) in
        let body : rules_words B ++ (rules_words A ++ (replicate (d + zeros_left (B ++ (r ∷ A))) 0 ++ drop (table_length limits) table)) ≡ rules_words (B ++ A) ++ behind table (B ++ A) = sym (ap₂ (λ (x : List ℕ) (m : ℕ). x ++ (replicate m 0 ++ drop (table_length limits) table)) (words_append B A) (sym z) ∙ append_assoc (rules_words B) (rules_words A) _) in
        counted S _ (length (B ++ (r ∷ A))) (get_or S 0 0 - 1) closed
        ∙ ap₂ (λ (m : ℕ) (x : List ℕ). m ∷ (default_of table ∷ x)) n body
        ∙ sym (stored_is (default_of table) (B ++ A) table)
        ∙ ap (λ (x : List Rule). stored limits (default_of table) x table) (sym (ap (take_out g.number) h.are ∙ take_there g.number r h.number_is h.below h.above))
