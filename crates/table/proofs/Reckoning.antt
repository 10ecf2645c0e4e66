-- What the calls of a list give and leave is what is reckoned.
use mathlib.Core.Path.{◌≡◌, refl, ap, ◌∙◌, sym, ap₂, subst}
use mathlib.Core.Logic.{◌⊎◌, inl, inr}
use mathlib.Core.List.{List, [], ◌∷◌}
use mathlib.Core.Option.{Option, none, some}
use mathlib.Core.Bool.{not, ◌&&◌, Bool, true, false, cond, ◌||◌}
use Prim.Native.Nat.{ℕ, suc, ◌+◌, ◌≤◌, ◌*◌, ◌<◌}
use native.Mathlib.Omega.{arith}
use lib.Dec.{leb, eqb, ltb}
use lib.ListN.{length, length-append, length-replicate, drop}
use Rattle.signature.specs.Lists.{any, All, none_left, also, In, in_here, in_there}
use Rattle.signature.specs.Read.{read_signature}
use Rattle.signature.specs.Signature.{Signature}
use Rattle.signature.proofs.Booleans.{not_false, or_right, and_left, and_right, or_left}
use Rattle.signature.proofs.ListFacts.{any_in, in_any, no_in, in_cases}
use Rattle.signature.proofs.Tests.{none_of, eqb_eq, leb_yes, past, past_own, lt_of_not, le_of, leb_no, ltb_no}
use Rattle.pattern.specs.Linear.{linear_plus}
use Rattle.pattern.specs.Ranged.{ranged}
use Rattle.pattern.specs.Pattern.{Pattern}
use Rattle.pattern.specs.Read.{read_pattern}
use Rattle.pattern.specs.Weight.{light_plus, weight}
use Rattle.row.specs.Admitted.{refusal_of_pattern, refusal_by}
use Rattle.row.specs.Overlap.{ambiguous_plus, shares}
use Rattle.row.proofs.Exists.{shares_exists, exists_shares}
use Rattle.row.proofs.Symmetric.{shares_sym}
use Rattle.tree.specs.Limits.{last_number}
use Rattle.table.specs.Calls.{Empty, long_witness, long_table, start, begin, enter_start, refused, Entered, Enter, enter_number, enter_table, Withdraw, withdraw_number, withdraw_table, SetDefault, set_number, set_table}
use Rattle.row.proofs.PassedFacts.{passed_of, of_passed}
use Rattle.table.specs.Demand3.{Earlier}
use Rattle.table.specs.Limits.{limits, table_length, rule_length, witness_length, emptied_default}
use Rattle.table.specs.ListsOfCalls.{ListCall, reckon_number, enter, withdraw, set_default, numbers_reckoned, reckon_rules, reckon_default, rules_left, default_left, Calls, no_call, then_enter, then_withdraw, then_set}
use Rattle.table.specs.Refusals.{entry_refusal, withdrawal_refusal, SharesHeld}
use Rattle.table.specs.Rule.{Rule, held, total_weight, rises_nil, table_words, rules_words, stored, Rises, rises_cons, add_rule, take_out}
use Rattle.table.proofs.TableFacts.{Valid, valid_entry, admitted, valid_withdrawal, words_few, sound_stored, stored_again}

module _ (sig : Signature) where
  pub pattern_not : (k : ℕ) → (7 ≡ k → ⊥) → (18 ≡ k → ⊥) → (8 ≡ k → ⊥) → (9 ≡ k → ⊥) → (10 ≡ k → ⊥) → (0 ≡ k → ⊥) → (ws : List ℕ) → refusal_of_pattern sig ws ≡ k → ⊥
  pattern_not k a g b c d z ws e = go (read_pattern sig ws) e
    where
      go : (o : Option Pattern) → refusal_by sig o ≡ k → ⊥
      go none q = a q
      go (some p) q = none_of (not (ranged p)) 18 _ k g (λ q₀. none_of (not (linear_plus p)) 8 _ k b (λ q'. none_of (not (light_plus p)) 9 _ k c (λ q''. none_of (ambiguous_plus sig 0 p) 10 0 k d z q'') q') q₀) q

  pub pattern_not_12 : (ws : List ℕ) → refusal_of_pattern sig ws ≡ 12 → ⊥
  pattern_not_12 ws = pattern_not 12 (λ z. omega arith) (λ z. omega arith) (λ z. omega arith) (λ z. omega arith) (λ z. omega arith) (λ z. omega arith) ws

  pub pattern_not_3 : (ws : List ℕ) → refusal_of_pattern sig ws ≡ 3 → ⊥
  pattern_not_3 ws = pattern_not 3 (λ z. omega arith) (λ z. omega arith) (λ z. omega arith) (λ z. omega arith) (λ z. omega arith) (λ z. omega arith) ws

  pub entry_not_3 : (n : ℕ) (ws : List ℕ) (rs : List Rule) → entry_refusal limits sig n ws rs ≡ 3 → ⊥
  entry_not_3 n ws rs e =
      none_of (not (leb 1 n && leb n last_number)) 4 _ 3 (λ z. omega arith)
      (λ e₁. none_of (held n rs) 5 _ 3 (λ z. omega arith)
      (λ e₂. none_of (not (eqb (refusal_of_pattern sig ws) 0)) (refusal_of_pattern sig ws) _ 3 (pattern_not_3 ws)
      (λ e₃. none_of (leb limits.rules (length rs) || ltb limits.weight (weight sig ws + total_weight sig rs)) 11 _ 3 (λ z. omega arith)
      (λ e₄. none_of (any (λ r. shares sig ws r.pattern) rs) 12 0 3 (λ z. omega arith) (λ z. omega arith) e₄) e₃) e₂) e₁) e

  pub reckon_not_3 : (c : ListCall) (rs : List Rule) → reckon_number limits sig c rs ≡ 3 → ⊥
  reckon_not_3 (enter n plan ws witness) rs e = none_of (long_witness witness) (entry_refusal limits sig n ws rs) 2 3 (entry_not_3 n ws rs) (λ z. omega arith) e
  reckon_not_3 (set_default plan) rs e = omega (arith, e)
  reckon_not_3 (withdraw n) rs e = none_of (not (leb 1 n && leb n last_number)) 4 _ 3 (λ z. omega arith) (λ e₁. none_of (not (held n rs)) 6 0 3 (λ z. omega arith) (λ z. omega arith) e₁) e

  pub numbers_not_3 : (cs : List ListCall) (rs : List Rule) → All (λ n. n ≡ 3 → ⊥) (numbers_reckoned limits sig cs rs)
  numbers_not_3 [] rs = none_left
  numbers_not_3 (c ∷ cs) rs = also (reckon_number limits sig c rs) (reckon_not_3 c rs) (numbers_not_3 cs (reckon_rules limits sig c rs))

  -- the rules reckoned are those of a sound table
  pub valid_nil : Valid sig []
  valid_nil = record { rises = rises_nil; passed = refl; short = none_left; few = omega arith; light = omega arith; apart = refl }

  pub valid_reckoned : (c : ListCall) (rs : List Rule) → Valid sig rs → Valid sig (reckon_rules limits sig c rs)
  valid_reckoned (enter n plan ws witness) rs v = go (eqb (reckon_number limits sig (enter n plan ws witness) rs) 0) refl
    where
      entered : (b : Bool) → long_witness witness ≡ b → reckon_number limits sig (enter n plan ws witness) rs ≡ 0 → entry_refusal limits sig n ws rs ≡ 0
      entered true q e = rw q at e
      entered false q e = absurd (let z : ◌≡◌ {A = ℕ} 2 0 = rw q at e in omega arith)

      go : (b : Bool) → eqb (reckon_number limits sig (enter n plan ws witness) rs) 0 ≡ b → Valid sig (reckon_rules limits sig (enter n plan ws witness) rs)
      go true q = rw q (valid_entry sig (shares_sym sig) n plan ws rs (admitted sig (shares_sym sig) n ws rs (entered (long_witness witness) refl (eqb_eq (reckon_number limits sig (enter n plan ws witness) rs) 0 q))) v)
      go false q = rw q v
  valid_reckoned (set_default plan) rs v = v
  valid_reckoned (withdraw n) rs v = go (eqb (withdrawal_refusal n rs) 0) refl
    where
      go : (b : Bool) → eqb (withdrawal_refusal n rs) 0 ≡ b → Valid sig (reckon_rules limits sig (withdraw n) rs)
      go true q = rw q (valid_withdrawal sig (shares_sym sig) n rs v)
      go false q = rw q v

  pub valid_left : (cs : List ListCall) (rs : List Rule) → Valid sig rs → Valid sig (rules_left limits sig cs rs)
  valid_left [] rs v = v
  valid_left (c ∷ cs) rs v = valid_left cs (reckon_rules limits sig c rs) (valid_reckoned c rs v)

  -- the table's words
  pub length_table : (dft : ℕ) (rs : List Rule) → Valid sig rs → length (table_words limits dft rs) ≡ (table_length limits)
  length_table dft rs v =
      let fits : length (rules_words rs) ≤ rule_length * length rs = words_few v.short in
      let few : length rs ≤ limits.rules = v.few in
      simp (length-append, length-replicate) (omega arith)

  pub long_stored : (dft : ℕ) (rs : List Rule) (t : List ℕ) → Valid sig rs → long_table limits (stored limits dft rs t) ≡ true
  long_stored dft rs t v = leb_yes (table_length limits) (length (stored limits dft rs t)) (omega (arith, length-append (table_words limits dft rs) (drop (table_length limits) t), length_table dft rs v))

-- a table just emptied
pub emptied_is : (lent emptied : List ℕ) → Empty limits lent 0 emptied → emptied ≡ stored limits emptied_default [] lent
emptied_is lent emptied h = go (long_table limits lent) refl
  where
    go : (b : Bool) → long_table limits lent ≡ b → emptied ≡ stored limits emptied_default [] lent
    go true q = h.table_is ∙ ap (λ b. cond b (stored limits emptied_default [] lent) lent) q
    go false q = absurd (let z : ◌≡◌ {A = ℕ} 0 2 = h.number_is ∙ ap (λ b. cond b 0 2) q in omega arith)

-- rising rules with the same members are the same list
pub in_above : {m : ℕ} {rs : List Rule} (r : Rule) → Rises m rs → In r rs → m < r.number
in_above r (rises_nil {m = m}) x4 = elim x4 [ ]
in_above r (rises_cons a b h) in_here = a
in_above {m} r (rises_cons {r = s} a b h) (in_there i) = omega (arith, in_above r h i)

pub rises_same : {m k : ℕ} {rs qs : List Rule} → Rises m rs → Rises k qs → ((r : Rule) → In r rs → In r qs) → ((r : Rule) → In r qs → In r rs) → rs ≡ qs
rises_same rises_nil rises_nil f g = refl
rises_same rises_nil (rises_cons {r = q} c d h) f g = no_in (g q in_here)
rises_same (rises_cons {r = r} a b h) rises_nil f g = no_in (f r in_here)
rises_same (rises_cons {r = r} {rs = rs} a b h) (rises_cons {r = q} {rs = qs} c d l) f g = go (in_cases (f r in_here)) (in_cases (g q in_here)) (λ f' g'. rises_same h l f' g')
  where
    below : (s : Rule) → r ≡ q → In s rs → In s qs
    below s e i = on (in_cases (f s (in_there i)))
      where
        on : (s ≡ q) ⊎ In s qs → In s qs
        on (inl z) = absurd (let y : s.number ≡ r.number = ap (λ x. x.number) (z ∙ sym e) in omega (arith, in_above s h i))
        on (inr j) = j

    above : (s : Rule) → r ≡ q → In s qs → In s rs
    above s e i = on (in_cases (g s (in_there i)))
      where
        on : (s ≡ r) ⊎ In s rs → In s rs
        on (inl z) = absurd (let y : s.number ≡ q.number = ap (λ x. x.number) (z ∙ e) in omega (arith, in_above s l i))
        on (inr j) = j

    same : r ≡ q → (((s : Rule) → In s rs → In s qs) → ((s : Rule) → In s qs → In s rs) → rs ≡ qs) → r ∷ rs ≡ q ∷ qs
    same e k = ap₂ (λ x xs. x ∷ xs) e (k (λ s i. below s e i) (λ s i. above s e i))

    go : (r ≡ q) ⊎ In r qs → (q ≡ r) ⊎ In q rs → (((s : Rule) → In s rs → In s qs) → ((s : Rule) → In s qs → In s rs) → rs ≡ qs) → r ∷ rs ≡ q ∷ qs
    go (inl e) w k = same e k
    go (inr i) (inl e) k = same (sym e) k
    go (inr i) (inr j) k = absurd (omega (arith, in_above r l i, in_above q h j))

-- an entry or a withdrawal keeps the default, refused or not
pub same_kept : (b : Bool) (dft : ℕ) → cond b dft dft ≡ dft
same_kept true dft = refl
same_kept false dft = refl

module _ (ss : List ℕ) (sig : Signature) (lawful : read_signature ss ≡ some sig) where
  pub start_stored : (dft : ℕ) (rs : List Rule) (t : List ℕ) → Valid sig rs → start limits ss true (stored limits dft rs t) ≡ begin sig rs
  start_stored dft rs t v = rw (lawful, sound_stored sig dft rs t v)

  pub table_start : (dft : ℕ) (rs : List Rule) (t : List ℕ) → Valid sig rs → start limits ss (long_table limits (stored limits dft rs t)) (stored limits dft rs t) ≡ begin sig rs
  table_start dft rs t v = ap (λ b. start limits ss b (stored limits dft rs t)) (long_stored sig dft rs t v) ∙ start_stored dft rs t v

  pub entry_start : (dft : ℕ) (rs : List Rule) (t witness : List ℕ) (b : Bool) → Valid sig rs → long_witness witness ≡ b → enter_start limits ss (stored limits dft rs t) witness ≡ cond b (begin sig rs) (refused 2)
  entry_start dft rs t witness true v q = ap₂ (λ x y. start limits ss (x && y) (stored limits dft rs t)) (long_stored sig dft rs t v) q ∙ start_stored dft rs t v
  entry_start dft rs t witness false v q = ap₂ (λ x y. start limits ss (x && y) (stored limits dft rs t)) (long_stored sig dft rs t v) q ∙ rw lawful

  pub step_enter : (dft : ℕ) (rs : List Rule) (t : List ℕ) {n plan : ℕ} {ws witness after witness' : List ℕ} {e : Entered} → Valid sig rs → Enter limits ss n plan ws (stored limits dft rs t) witness e after witness' → (e.number ≡ reckon_number limits sig (enter n plan ws witness) rs) × (after ≡ stored limits dft (reckon_rules limits sig (enter n plan ws witness) rs) t)
  step_enter dft rs t {n} {plan} {ws} {witness} {after} {witness'} {e} v h = go (long_witness witness) refl
    where
      told : (b : Bool) → cond b (stored limits dft (add_rule (record { number = n; plan = plan; pattern = ws }) rs) (stored limits dft rs t)) (stored limits dft rs t) ≡ stored limits dft (cond b (add_rule (record { number = n; plan = plan; pattern = ws }) rs) rs) t
      told true = stored_again sig (shares_sym sig) dft dft rs (add_rule (record { number = n; plan = plan; pattern = ws }) rs) t v
      told false = refl

      go : (b : Bool) → long_witness witness ≡ b → (e.number ≡ reckon_number limits sig (enter n plan ws witness) rs) × (after ≡ stored limits dft (reckon_rules limits sig (enter n plan ws witness) rs) t)
      go true q = (rw q (h.number_is ∙ ap (λ s. enter_number limits s n ws) (entry_start dft rs t witness true v q)), rw q (h.table_is ∙ ap (λ s. enter_table limits s n plan ws (stored limits dft rs t)) (entry_start dft rs t witness true v q) ∙ told (eqb (entry_refusal limits sig n ws rs) 0)))
      go false q = (rw q (h.number_is ∙ ap (λ s. enter_number limits s n ws) (entry_start dft rs t witness false v q)), rw q (h.table_is ∙ ap (λ s. enter_table limits s n plan ws (stored limits dft rs t)) (entry_start dft rs t witness false v q)))

  pub step_withdraw : (dft : ℕ) (rs : List Rule) (t : List ℕ) {n number : ℕ} {after : List ℕ} → Valid sig rs → Withdraw limits ss n (stored limits dft rs t) number after → (number ≡ reckon_number limits sig (withdraw n) rs) × (after ≡ stored limits dft (reckon_rules limits sig (withdraw n) rs) t)
  step_withdraw dft rs t {n} v h =
      (h.number_is ∙ ap (λ s. withdraw_number s n) (table_start dft rs t v), h.table_is ∙ ap (λ s. withdraw_table limits s n (stored limits dft rs t)) (table_start dft rs t v) ∙ told (eqb (withdrawal_refusal n rs) 0))
    where
      told : (b : Bool) → cond b (stored limits dft (take_out n rs) (stored limits dft rs t)) (stored limits dft rs t) ≡ stored limits dft (cond b (take_out n rs) rs) t
      told true = stored_again sig (shares_sym sig) dft dft rs (take_out n rs) t v
      told false = refl

  step_set : (dft : ℕ) (rs : List Rule) (t : List ℕ) {plan number : ℕ} {after : List ℕ} → Valid sig rs → SetDefault limits ss plan (stored limits dft rs t) number after → (number ≡ 0) × (after ≡ stored limits plan rs t)
  step_set dft rs t {plan} v h = (h.number_is ∙ ap set_number (table_start dft rs t v), h.table_is ∙ ap (λ s. set_table s plan (stored limits dft rs t)) (table_start dft rs t v))

  pub chain : {b last : List ℕ} {cs : List ListCall} {ns : List ℕ} → Calls limits ss b cs ns last → (t : List ℕ) (dft : ℕ) (rs : List Rule) → Valid sig rs → b ≡ stored limits dft rs t → (ns ≡ numbers_reckoned limits sig cs rs) × (last ≡ stored limits (default_left limits sig cs rs dft) (rules_left limits sig cs rs) t)
  chain no_call t dft rs v e = (refl, e)
  chain (then_enter {n = n} {plan = plan} {ws = ws} {witness = witness} {after = after} {witness' = witness'} {e = x} h c) t dft rs v e =
      let (a, b) = step_enter dft rs t v (subst (λ z. Enter limits ss n plan ws z witness x after witness') e h) in
      let call = enter n plan ws witness in
      let k = same_kept (eqb (reckon_number limits sig call rs) 0) dft in
      let (a', b') = chain c t (reckon_default limits sig call rs dft) (reckon_rules limits sig call rs) (valid_reckoned sig call rs v) (b ∙ ap (λ d. stored limits d (reckon_rules limits sig call rs) t) (sym k)) in
      (ap₂ (λ m ms. m ∷ ms) a a', b')
  chain (then_withdraw {n = n} {number = number} {after = after} h c) t dft rs v e =
      let (a, b) = step_withdraw dft rs t v (subst (λ z. Withdraw limits ss n z number after) e h) in
      let call = withdraw n in
      let k = same_kept (eqb (reckon_number limits sig call rs) 0) dft in
      let (a', b') = chain c t (reckon_default limits sig call rs dft) (reckon_rules limits sig call rs) (valid_reckoned sig call rs v) (b ∙ ap (λ d. stored limits d (reckon_rules limits sig call rs) t) (sym k)) in
      (ap₂ (λ m ms. m ∷ ms) a a', b')
  chain (then_set {plan = plan} {number = number} {after = after} h c) t dft rs v e =
      let (a, b) = step_set dft rs t v (subst (λ z. SetDefault limits ss plan z number after) e h) in
      let (a', b') = chain c t plan rs v b in
      (ap₂ (λ m ms. m ∷ ms) a a', b')

  -- refusal 12
  pub twelve_of : (n plan : ℕ) (ws witness : List ℕ) (rs : List Rule) → reckon_number limits sig (enter n plan ws witness) rs ≡ 12 → Earlier limits sig n ws witness rs × SharesHeld sig ws rs
  twelve_of n plan ws witness rs e = go (long_witness witness) refl
    where
      go : (b : Bool) → long_witness witness ≡ b → Earlier limits sig n ws witness rs × SharesHeld sig ws rs
      go false q = absurd (let z : ◌≡◌ {A = ℕ} 2 12 = rw q at e in omega arith)
      go true q =
          let e₀ : entry_refusal limits sig n ws rs ≡ 12 = rw q at e in
          let (a, e₁) = past (not (leb 1 n && leb n last_number)) 4 _ 12 (λ z. omega arith) e₀ in
          let (b, e₂) = past (held n rs) 5 _ 12 (λ z. omega arith) e₁ in
          let (c, e₃) = past_own (refusal_of_pattern sig ws) _ 12 (pattern_not_12 sig ws) e₂ in
          let (d, e₄) = past (leb limits.rules (length rs) || ltb limits.weight (weight sig ws + total_weight sig rs)) 11 _ 12 (λ z. omega arith) e₃ in
          let l : (leb 1 n && leb n last_number) ≡ true = not_false (leb 1 n && leb n last_number) a in
          let w : weight sig ws + total_weight sig rs < suc limits.weight = lt_of_not (suc limits.weight) (weight sig ws + total_weight sig rs) (or_right (leb limits.rules (length rs)) (ltb limits.weight (weight sig ws + total_weight sig rs)) d) in
          (record { witness_long = le_of witness_length (length witness) q; low = le_of 1 n (and_left (leb 1 n) (leb n last_number) l); high = le_of n last_number (and_right (leb 1 n) (leb n last_number) l); new = b; good = passed_of sig ws c; room = lt_of_not limits.rules (length rs) (or_left (leb limits.rules (length rs)) (ltb limits.weight (weight sig ws + total_weight sig rs)) d); light = omega arith }, shared (any (λ r. shares sig ws r.pattern) rs) refl e₄)
        where
          shared : (b : Bool) → any (λ r. shares sig ws r.pattern) rs ≡ b → cond {A = ℕ} (any (λ r. shares sig ws r.pattern) rs) 12 0 ≡ 12 → SharesHeld sig ws rs
          shared true z y = let (r, i, x) = any_in (λ r. shares sig ws r.pattern) rs z in record { rule = r; held = i; shared = shares_exists sig (ss, lawful) ws r.pattern x }
          shared false z y = absurd (let x : ◌≡◌ {A = ℕ} 0 12 = rw z at y in omega arith)

  pub twelve_shared : (n : ℕ) (ws : List ℕ) (rs : List Rule) → entry_refusal limits sig n ws rs ≡ 12 → any (λ r. shares sig ws r.pattern) rs ≡ true
  twelve_shared n ws rs e₀ =
      let (a, e₁) = past (not (leb 1 n && leb n last_number)) 4 _ 12 (λ z. omega arith) e₀ in
      let (b, e₂) = past (held n rs) 5 _ 12 (λ z. omega arith) e₁ in
      let (c, e₃) = past_own (refusal_of_pattern sig ws) _ 12 (pattern_not_12 sig ws) e₂ in
      let (d, e₄) = past (leb limits.rules (length rs) || ltb limits.weight (weight sig ws + total_weight sig rs)) 11 _ 12 (λ z. omega arith) e₃ in
      go (any (λ r. shares sig ws r.pattern) rs) refl e₄
    where
      go : (b : Bool) → any (λ r. shares sig ws r.pattern) rs ≡ b → cond {A = ℕ} (any (λ r. shares sig ws r.pattern) rs) 12 0 ≡ 12 → any (λ r. shares sig ws r.pattern) rs ≡ true
      go true q z = q
      go false q z = absurd (let x : ◌≡◌ {A = ℕ} 0 12 = rw q at z in omega arith)

  pub of_twelve : (n plan : ℕ) (ws witness : List ℕ) (rs : List Rule) → Earlier limits sig n ws witness rs → SharesHeld sig ws rs → reckon_number limits sig (enter n plan ws witness) rs ≡ 12
  of_twelve n plan ws witness rs a b =
      let x = in_any (λ r. shares sig ws r.pattern) rs b.rule b.held (exists_shares sig (ss, lawful) ws b.rule.pattern b.shared) in
      rw (leb_yes witness_length (length witness) a.witness_long, leb_yes 1 n a.low, leb_yes n last_number a.high, a.new, of_passed sig (ss, lawful) ws a.good, leb_no limits.rules (length rs) a.room, ltb_no limits.weight (weight sig ws + total_weight sig rs) a.light, x)
