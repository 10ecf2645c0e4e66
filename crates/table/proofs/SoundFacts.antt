-- Sound tables are read exactly, and what compile, run and decide give from one.
use mathlib.Core.Path.{◌≡◌, subst, refl, ◌∙◌, ap, sym, ap₂}
use mathlib.Core.List.{List, ◌++◌, [], ◌∷◌, append_assoc}
use mathlib.Core.Option.{some}
use mathlib.Core.Bool.{◌&&◌, true, Bool, not, cond, false}
use Prim.Native.Nat.{ℕ, zero, suc, ◌≤◌, ◌+◌, ◌-◌}
use native.Mathlib.Omega.{arith}
use lib.Dec.{eqb, ltb, leb}
use lib.ListN.{length, replicate, take, length-append, length-replicate, take-append-drop, drop}
use Rattle.signature.specs.Lists.{require, all, split, In, in_here, in_there, All, none_left, also}
use Rattle.signature.specs.Read.{Signed, read_signature, read_booking}
use Rattle.signature.specs.Signature.{Signature}
use Rattle.signature.specs.Value.{Value, vcons, vnil}
use Rattle.signature.proofs.Booleans.{and_left, and_right, not_of}
use Rattle.signature.proofs.ListFacts.{zeros_were, split_was, take_exact}
use Rattle.signature.proofs.Tests.{bind_some, some_inj, require_some, none≢some, le_of, true≢false, eqb_eq, leb_yes}
use Rattle.pattern.specs.Limits.{pattern_limit}
use Rattle.row.specs.Admitted.{refusal_of_pattern}
use Rattle.row.specs.Overlap.{shares}
use Rattle.row.proofs.PassedFacts.{short_of, passed_of, of_passed}
use Rattle.row.proofs.Exists.{exists_shares, shares_exists}
use Rattle.tree.specs.Answer.{Answer}
use Rattle.tree.specs.Limits.{last_number}
use Rattle.tree.specs.Run.{run_words, run}
use Rattle.tree.specs.RunCall.{RunCall, run_signature, run_booking, run_at}
use Rattle.table.specs.Calls.{start, long_table, begin, Compile, too_large, DecideCall, decide_from, decide_booking, CompileFrom, TreeIn}
use Rattle.table.specs.Decide.{direct, Answered}
use Rattle.table.specs.Limits.{limits, table_length, rules_length}
use Rattle.table.specs.Matrix.{tree_words}
use Rattle.table.specs.Rule.{Rule, Rises, rules_words, rises_nil, rises_cons, rules_end, default_of, table_words, total_weight, stored}
use Rattle.table.specs.Sound.{read_rules, no_shared, Apart, apart_nil, apart_cons, sound, SoundTable}
use Rattle.table.proofs.Demand2Facts.{answered}
use Rattle.table.proofs.RunDirect.{run_direct}
use Rattle.table.proofs.TableFacts.{Valid, sound_stored}

abbrev pub Were : ℕ → ℕ → List ℕ → List Rule → Type 0
Were n m ws rs = Rises m rs × (length rs ≡ n) × ((z : ℕ) × (ws ≡ rules_words rs ++ replicate z 0))

pub rules_were : (n m : ℕ) (ws : List ℕ) (rs : List Rule) → read_rules n m ws ≡ some rs → Were n m ws rs
rules_were zero m ws rs e =
    let (u, e₁, e₂) = bind_some (require (all (λ w. eqb w 0) ws)) _ rs e in
    subst (Were zero m ws) (some_inj [] rs e₂) (rises_nil, refl, (length ws, zeros_were ws (require_some (all (λ w. eqb w 0) ws) u e₁)))
rules_were (suc n) m [] rs e = none≢some e
rules_were (suc n) m (a ∷ []) rs e = none≢some e
rules_were (suc n) m (a ∷ (b ∷ [])) rs e = none≢some e
rules_were (suc n) m (a ∷ (b ∷ (l ∷ ws))) rs e =
    let (u, e₁, f₁) = bind_some (require (ltb m a && leb a last_number)) _ rs e in
    let (s, e₂, f₂) = bind_some (split l ws) _ rs f₁ in
    let (qs, e₃, f₃) = bind_some (read_rules n a s.1) _ rs f₂ in
    let ok : (ltb m a && leb a last_number) ≡ true = require_some (ltb m a && leb a last_number) u e₁ in
    let (p, q) = split_was l ws s e₂ in
    let (h, k, (z, w)) = rules_were n a s.1 qs e₃ in
    let r : Rule = record { number = a; plan = b; pattern = s.0 } in
    let words : ws ≡ (s.0 ++ rules_words qs) ++ replicate z 0 = q ∙ ap (λ x. s.0 ++ x) w ∙ sym (append_assoc s.0 (rules_words qs) (replicate z 0)) in
    subst (Were (suc n) m (a ∷ (b ∷ (l ∷ ws)))) (some_inj (r ∷ qs) rs f₃) (rises_cons {r = r} (le_of (suc m) a (and_left (ltb m a) (leb a last_number) ok)) (le_of a last_number (and_right (ltb m a) (leb a last_number) ok)) h, ap suc k, (z, ap₂ (λ x xs. a ∷ (b ∷ (x ∷ xs))) (sym p) words))

test_in : (f : Rule → Bool) (rs : List Rule) → all f rs ≡ true → (r : Rule) → In r rs → f r ≡ true
test_in f [] e r x'' = elim x'' [ ]
test_in f (s ∷ rs) e r in_here = and_left (f s) (all f rs) e
test_in f (s ∷ rs) e r (in_there i) = test_in f rs (and_right (f s) (all f rs) e) r i

in_test : (f : Rule → Bool) (rs : List Rule) → ((r : Rule) → In r rs → f r ≡ true) → all f rs ≡ true
in_test f [] h = refl
in_test f (s ∷ rs) h = rw (h s in_here) (in_test f rs (λ r i. h r (in_there i)))

module _ (sig : Signature) where
  short_all : (rs : List Rule) → ((r : Rule) → In r rs → refusal_of_pattern sig r.pattern ≡ 0) → All (λ r. length r.pattern ≤ pattern_limit) rs
  short_all [] h = none_left
  short_all (r ∷ rs) h = also r (short_of sig r.pattern (h r in_here)) (short_all rs (λ s i. h s (in_there i)))

-- a sound table is its rules, stored into it
pub table_stored : (sig : Signature) (table : List ℕ) (rs : List Rule) → SoundTable limits sig table rs → table ≡ stored limits (default_of table) rs table
table_stored sig table rs h = sym (take-append-drop (table_length limits) table) ∙ ap (λ x. x ++ drop (table_length limits) table) h.layout

module _ (sig : Signature) where
  module _ (signed : Signed sig) where
    apart_is : (rs : List Rule) → no_shared sig rs ≡ true → Apart sig rs
    apart_is [] e = apart_nil
    apart_is (r ∷ rs) e = apart_cons (λ s i x. true≢false (sym (test_in (λ t. not (shares sig r.pattern t.pattern)) rs (and_left (all (λ t. not (shares sig r.pattern t.pattern)) rs) (no_shared sig rs) e) s i) ∙ ap not (exists_shares sig signed r.pattern s.pattern x))) (apart_is rs (and_right (all (λ t. not (shares sig r.pattern t.pattern)) rs) (no_shared sig rs) e))

    is_apart : (rs : List Rule) → Apart sig rs → no_shared sig rs ≡ true
    is_apart [] apart_nil = refl
    is_apart (r ∷ rs) (apart_cons f h) = rw (in_test (λ t. not (shares sig r.pattern t.pattern)) rs (λ s i. not_of (shares sig r.pattern s.pattern) (λ e. f s i (shares_exists sig signed r.pattern s.pattern e)))) (is_apart rs h)

    -- what a sound table is
    pub sound_valid : (table : List ℕ) (rs : List Rule) → sound limits sig table ≡ some rs → Valid sig rs × (table_length limits ≤ length table) × (take (table_length limits) table ≡ table_words limits (default_of table) rs)
    sound_valid [] rs e = none≢some e
    sound_valid (n ∷ []) rs e = none≢some e
    sound_valid (n ∷ (d ∷ ws)) rs e =
        let (u, e₁, f₁) = bind_some (require (leb (rules_length limits) (length ws) && leb n limits.rules)) _ rs e in
        let (qs, e₂, f₂) = bind_some (read_rules n 0 (take (rules_length limits) ws)) _ rs f₁ in
        let (w, e₃, f₃) = bind_some (require (all (λ r. eqb (refusal_of_pattern sig r.pattern) 0) qs && leb (total_weight sig qs) limits.weight && no_shared sig qs)) _ rs f₂ in
        subst (λ x. Valid sig x × (table_length limits ≤ length (n ∷ (d ∷ ws))) × (take (table_length limits) (n ∷ (d ∷ ws)) ≡ table_words limits d x)) (some_inj qs rs f₃) (parts n d ws qs (require_some _ u e₁) (rules_were n 0 (take (rules_length limits) ws) qs e₂) (require_some _ w e₃))
      where
        parts : (n d : ℕ) (ws : List ℕ) (qs : List Rule) → (leb (rules_length limits) (length ws) && leb n limits.rules) ≡ true → Were n 0 (take (rules_length limits) ws) qs → (all (λ r. eqb (refusal_of_pattern sig r.pattern) 0) qs && leb (total_weight sig qs) limits.weight && no_shared sig qs) ≡ true → Valid sig qs × (table_length limits ≤ length (n ∷ (d ∷ ws))) × (take (table_length limits) (n ∷ (d ∷ ws)) ≡ table_words limits d qs)
        parts n d ws qs a (h, k, (z, x)) b =
            let a₁ : rules_length limits ≤ length ws = le_of (rules_length limits) (length ws) (and_left (leb (rules_length limits) (length ws)) (leb n limits.rules) a) in
            let a₂ : n ≤ limits.rules = le_of n limits.rules (and_right (leb (rules_length limits) (length ws)) (leb n limits.rules) a) in
            let p = all (λ r. eqb (refusal_of_pattern sig r.pattern) 0) qs in
            let b₁ : p ≡ true = and_left p (leb (total_weight sig qs) limits.weight) (and_left (p && leb (total_weight sig qs) limits.weight) (no_shared sig qs) b) in
            let b₂ : total_weight sig qs ≤ limits.weight = le_of (total_weight sig qs) limits.weight (and_right p (leb (total_weight sig qs) limits.weight) (and_left (p && leb (total_weight sig qs) limits.weight) (no_shared sig qs) b)) in
            let b₃ : no_shared sig qs ≡ true = and_right (p && leb (total_weight sig qs) limits.weight) (no_shared sig qs) b in
            let l : length (take (rules_length limits) ws) ≡ length (rules_words qs) + z = ap length x ∙ length-append (rules_words qs) (replicate z 0) ∙ ap (λ m. length (rules_words qs) + m) (length-replicate z 0) in
            let l' : length (take (rules_length limits) ws) ≡ rules_length limits = length_exact (rules_length limits) ws a₁ in
            let z_is : z ≡ table_length limits - rules_end qs = omega arith in
            (record { rises = h; passed = b₁; short = short_all sig qs (λ r i. eqb_eq (refusal_of_pattern sig r.pattern) 0 (test_in (λ s. eqb (refusal_of_pattern sig s.pattern) 0) qs b₁ r i)); few = omega arith; light = b₂; apart = b₃ }, omega arith, ap₂ (λ y ys. y ∷ (d ∷ ys)) (sym k) (x ∙ ap (λ m. rules_words qs ++ replicate m 0) z_is))
          where
            length_exact : (m : ℕ) (xs : List ℕ) → m ≤ length xs → length (take m xs) ≡ m
            length_exact zero xs q = refl
            length_exact (suc m) [] q = absurd (omega arith)
            length_exact (suc m) (y ∷ ys) q = ap suc (length_exact m ys (omega arith))

    pub sound_table : (table : List ℕ) (rs : List Rule) → sound limits sig table ≡ some rs → SoundTable limits sig table rs
    sound_table table rs e =
        let (v, l, t) = sound_valid table rs e in
        record { long = l; layout = t; rises = v.rises; passed = λ r i. passed_of sig r.pattern (eqb_eq (refusal_of_pattern sig r.pattern) 0 (test_in (λ s. eqb (refusal_of_pattern sig s.pattern) 0) rs v.passed r i)); few = v.few; light = v.light; apart = apart_is rs v.apart }

    pub table_sound : (table : List ℕ) (rs : List Rule) → SoundTable limits sig table rs → sound limits sig table ≡ some rs
    table_sound table rs h =
        let v : Valid sig rs = record { rises = h.rises; passed = in_test (λ s. eqb (refusal_of_pattern sig s.pattern) 0) rs (λ r i. rw (of_passed sig signed r.pattern (h.passed r i))); short = short_all sig rs (λ r i. of_passed sig signed r.pattern (h.passed r i)); few = h.few; light = h.light; apart = is_apart rs h.apart } in
        ap (sound limits sig) (table_stored sig table rs h) ∙ sound_stored sig (default_of table) rs table v

-- any sound table that is handed in
module _ (ss : List ℕ) (sig : Signature) (lawful : read_signature ss ≡ some sig) (table : List ℕ) (rs : List Rule) (holds : sound limits sig table ≡ some rs) where
  ok : Valid sig rs
  ok = (sound_valid sig (ss, lawful) table rs holds).0

  pub sound_start : start limits ss (long_table limits table) table ≡ begin sig rs
  sound_start =
      let l : long_table limits table ≡ true = leb_yes (table_length limits) (length table) (sound_valid sig (ss, lawful) table rs holds).1 in
      ap (λ b. start limits ss b table) l ∙ rw (lawful, holds)

  -- a tree compiled from it
  pub sound_tree : (space space' : List ℕ) (len : ℕ) → Compile limits ss table space 0 len space' → take len space' ≡ tree_words (default_of table) sig rs
  sound_tree space space' len k = go (too_large (tree_words (default_of table) sig rs) space) refl (subst (λ s. CompileFrom (default_of table) s space 0 len space') sound_start k.result_is)
    where
      go : (b : Bool) → too_large (tree_words (default_of table) sig rs) space ≡ b → TreeIn (tree_words (default_of table) sig rs) space 0 len space' → take len space' ≡ tree_words (default_of table) sig rs
      go true q r = absurd (let z : ◌≡◌ {A = ℕ} 0 14 = r.number_is ∙ ap (λ b. cond b 14 0) q in omega arith)
      go false q r =
          let a : len ≡ length (tree_words (default_of table) sig rs) = r.length_is ∙ ap (λ b. cond b 0 (length (tree_words (default_of table) sig rs))) q in
          let b : space' ≡ tree_words (default_of table) sig rs ++ drop (length (tree_words (default_of table) sig rs)) space = r.space_is ∙ ap (λ b. cond b space (tree_words (default_of table) sig rs ++ drop (length (tree_words (default_of table) sig rs)) space)) q in
          ap₂ take a b ∙ take_exact (length (tree_words (default_of table) sig rs)) (tree_words (default_of table) sig rs) (drop (length (tree_words (default_of table) sig rs)) space) refl

  -- a run over it answers by the rules in force, whatever stands behind
  pub sound_runs : (space space' behind bs : List ℕ) (len number : ℕ) (v : Value) (a : Answer) → Compile limits ss table space 0 len space' → read_booking sig bs ≡ some v → RunCall ss (take len space' ++ behind) bs number a → (number ≡ 0) × (a ≡ direct (default_of table) sig rs v) × Answered (default_of table) sig rs bs a
  sound_runs space space' behind bs len number v a k b r =
      let e₁ : run_words sig (take len space' ++ behind) bs ≡ some (direct (default_of table) sig rs v) = ap (λ t. run_words sig (t ++ behind) bs) (sound_tree space space' len k) ∙ run_direct (default_of table) sig (ss, lawful) rs ok behind bs v b in
      let e₂ : run (length (take len space' ++ behind)) sig (take len space' ++ behind) 0 (vcons v vnil) 0 [] ≡ some (direct (default_of table) sig rs v) = rw b at e₁ in
      let e = r.result_is ∙ ap (λ o. run_signature o (take len space' ++ behind) bs) lawful ∙ ap (run_booking sig (take len space' ++ behind)) b ∙ ap run_at e₂ in
      (ap (λ z. z.0) e, ap (λ z. z.1) e, subst (Answered (default_of table) sig rs bs) (sym (ap (λ z. z.1) e)) (answered (default_of table) sig (ss, lawful) rs bs v ok b))

  -- and so does deciding directly
  pub sound_decides : (bs : List ℕ) (number : ℕ) (v : Value) (a : Answer) → read_booking sig bs ≡ some v → DecideCall limits ss table bs number a → (number ≡ 0) × (a ≡ direct (default_of table) sig rs v) × Answered (default_of table) sig rs bs a
  sound_decides bs number v a b r =
      let e = r.result_is ∙ ap (λ s. decide_from (default_of table) s bs) sound_start ∙ ap (decide_booking (default_of table) sig rs) b in
      (ap (λ z. z.0) e, ap (λ z. z.1) e, subst (Answered (default_of table) sig rs bs) (sym (ap (λ z. z.1) e)) (answered (default_of table) sig (ss, lawful) rs bs v ok b))
