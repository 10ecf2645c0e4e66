-- A rule is looked for by a walk over the rules of a table.
use mathlib.Core.Path.{◌≡◌, refl, ap, sym, ◌∙◌, subst}
use mathlib.Core.List.{List, [], ◌∷◌, ◌++◌, append-nil}
use mathlib.Core.Bool.{true, false}
use Prim.Native.Nat.{ℕ, ◌+◌, ◌≤◌, ◌<◌}
use native.Mathlib.Omega.{arith}
use lib.ListN.{length, get_or}
use Rattle.signature.specs.Lists.{All, none_left, also, In, in_here, in_there}
use Rattle.signature.proofs.ListFacts.{all_append, all_imp, in_any}
use Rattle.signature.proofs.Tests.{eqb_self, eqb_no}
use lib.Dec.{eqb}
use Rattle.table.specs.Limits.{limits, table_length, rules_at}
use Rattle.table.specs.Rule.{Rule, Rises, rises_nil, rises_cons, rules_end, held}
use Rattle.store.specs.Laid.{Holds}
use Rattle.store.specs.Place.{Walked, NextRule, HeldAt, FreeAt}
use Rattle.store.proofs.LaidFacts.{is_stored}
use Rattle.store.proofs.Walk.{walk_start, walk_step, walk_end}

pub count_is : {table : List ℕ} {rs : List Rule} → Holds limits table rs → get_or table 0 0 ≡ length rs
count_is h = ap (λ (x : List ℕ). get_or x 0 0) (is_stored h)

-- the numbers before and behind a rule

rises_above : {m : ℕ} {rs : List Rule} → Rises m rs → All (λ r. m < r.number) rs
rises_above rises_nil = none_left
rises_above {m} (rises_cons {r = r} a b h) = also r a (all_imp (λ s (l : r.number < s.number). omega arith) (rises_above h))

rises_behind : {m : ℕ} (before : List Rule) (r : Rule) {after : List Rule} → Rises m (before ++ (r ∷ after)) → All (λ s. r.number < s.number) after
rises_behind [] r (rises_cons a b h) = rises_above h
rises_behind (s ∷ before) r (rises_cons a b h) = rises_behind before r h

in_middle : (before : List Rule) (r : Rule) (after : List Rule) → In r (before ++ (r ∷ after))
in_middle [] r after = in_here
in_middle (s ∷ before) r after = in_there (in_middle before r after)

held_there : (n : ℕ) (before : List Rule) (r : Rule) (after : List Rule) → r.number ≡ n → held n (before ++ (r ∷ after)) ≡ true
held_there n before r after e = in_any (λ s. eqb n s.number) (before ++ (r ∷ after)) r (in_middle before r after) (rw e (eqb_self n))

none_held : (n : ℕ) {rs : List Rule} → All (λ r. ¬ (n ≡ r.number)) rs → held n rs ≡ false
none_held n none_left = refl
none_held n (also r p ps) = rw (eqb_no n r.number p) (none_held n ps)

held_nowhere : (n : ℕ) {before after : List Rule} → All (λ r. r.number < n) before → All (λ r. n < r.number) after → held n (before ++ after) ≡ false
held_nowhere n b a = none_held n (all_append (all_imp (λ r (l : r.number < n) e. omega arith) b) (all_imp (λ r (l : n < r.number) e. omega arith) a))

-- the walk

abbrev pub Now : List Rule → ℕ → ℕ → Type 0
Now rs i at = (before : List Rule) × (after : List Rule) × Walked rs before after i at

pub begin : (rs : List Rule) → Now rs 0 rules_at
begin rs = ([], rs, walk_start rs)

module _ {table : List ℕ} {rs : List Rule} (h : Holds limits table rs) (i at : ℕ) where
  pub now_step : Now rs i at → i < get_or table 0 0 → (at + 3 + get_or table (at + 2) 0 ≤ (table_length limits)) × Now rs (i + 1) (at + 3 + get_or table (at + 2) 0)
  now_step (before, after, w) l =
      let s : NextRule table rs before after i at = walk_step rs before after i at h w (omega (arith, count_is h)) in
      (omega (arith, s.reads.within, s.reads.length_is), (before ++ (s.rule ∷ []), s.later, s.next))

  pub now_end : Now rs i at → get_or table 0 0 ≤ i → at ≡ rules_end rs
  now_end (before, after, w) l =
      let (e, q) = walk_end w (omega (arith, count_is h)) in
      w.at_is ∙ ap rules_end (sym q)

-- the walk past the rules below n

abbrev pub Seek : ℕ → List Rule → ℕ → ℕ → Type 0
Seek n rs i at = (before : List Rule) × (after : List Rule) × Walked rs before after i at × All (λ r. r.number < n) before

pub seek_begin : (n : ℕ) (rs : List Rule) → Seek n rs 0 rules_at
seek_begin n rs = ([], rs, walk_start rs, none_left)

module _ {table : List ℕ} {rs : List Rule} (h : Holds limits table rs) (n i at : ℕ) where
  seek_rule : (q : Seek n rs i at) → i < get_or table 0 0 → NextRule table rs q.0 q.1 i at
  seek_rule (before, after, w, b) l = walk_step rs before after i at h w (omega (arith, count_is h))

  pub seek_within : Seek n rs i at → i < get_or table 0 0 → at + 3 + get_or table (at + 2) 0 ≤ (table_length limits)
  seek_within q l = let s = seek_rule q l in omega (arith, s.reads.within, s.reads.length_is)

  pub seek_next : Seek n rs i at → i < get_or table 0 0 → get_or table at 0 < n → Seek n rs (i + 1) (at + 3 + get_or table (at + 2) 0)
  seek_next (before, after, w, b) l m =
      let s = seek_rule (before, after, w, b) l in
      (before ++ (s.rule ∷ []), s.later, s.next, all_append b (also s.rule (omega (arith, s.reads.number_is)) none_left))

  pub seek_held : Seek n rs i at → i < get_or table 0 0 → get_or table at 0 ≡ n → HeldAt n rs at
  seek_held (before, after, w, b) l m =
      let s = seek_rule (before, after, w, b) l in
      let k : s.rule.number ≡ n = sym s.reads.number_is ∙ m in
      let e : rs ≡ before ++ (s.rule ∷ s.later) = w.are ∙ ap (λ (x : List Rule). before ++ x) s.here in
      let a : All (λ r. s.rule.number < r.number) s.later = rises_behind before s.rule (subst (Rises 0) e h.rises) in
      record { before = before; rule = s.rule; after = s.later; are = e; number_is = k; below = b; above = subst (λ (m : ℕ). All (λ r. m < r.number) s.later) k a; at_is = w.at_is; is_held = ap (held n) e ∙ held_there n before s.rule s.later k }

  pub seek_free : Seek n rs i at → i < get_or table 0 0 → n < get_or table at 0 → FreeAt n rs at
  seek_free (before, after, w, b) l m =
      let s = seek_rule (before, after, w, b) l in
      let k : n < s.rule.number = omega (arith, s.reads.number_is) in
      let e : rs ≡ before ++ (s.rule ∷ s.later) = w.are ∙ ap (λ (x : List Rule). before ++ x) s.here in
      let a : All (λ r. n < r.number) (s.rule ∷ s.later) = also s.rule k (all_imp (λ r (q : s.rule.number < r.number). omega arith) (rises_behind before s.rule (subst (Rises 0) e h.rises))) in
      record { before = before; after = s.rule ∷ s.later; are = e; below = b; above = a; at_is = w.at_is; not_held = ap (held n) e ∙ held_nowhere n b a }

  pub seek_end : Seek n rs i at → get_or table 0 0 ≤ i → FreeAt n rs at
  seek_end (before, after, w, b) l =
      let (e, q) = walk_end w (omega (arith, count_is h)) in
      record { before = before; after = []; are = q ∙ sym (append-nil before); below = b; above = none_left; at_is = w.at_is; not_held = ap (held n) (q ∙ sym (append-nil before)) ∙ held_nowhere n b none_left }
