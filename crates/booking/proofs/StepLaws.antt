-- One step by its cases: what is due, whether the word may stand there, what is open then.
use Rattle.std.specs.Prelude.{None, Some}
use Rattle.std.specs.Prelude as prelude
use mathlib.Core.Path.{◌≡◌, refl, sym, ap, ◌∙◌}
use mathlib.Core.List.{List, [], ◌∷◌}
use mathlib.Core.Option.{Option, some, none}
use mathlib.Core.Bool.{true, false, ◌&&◌}
use Prim.Native.Nat.{ℕ, zero, suc, ◌+◌, ◌-◌, ◌≤◌, ◌<◌}
use native.Mathlib.Decide.{dec_le}
use native.Mathlib.Omega.{arith}
use lib.Dec.{leb, ltb}
use lib.ListN.{length, drop, get_or, length-drop}
use Rattle.signature.specs.Limits.{depth_limit, word_limit}
use Rattle.signature.specs.Lists.{require}
use Rattle.booking.specs.Walk.{Due, View, open_limit, next, rest, opened, step_by, Nested, Waiting, next_as}
use Rattle.signature.proofs.Booleans.{and_left, and_right}
use Rattle.signature.proofs.Tests.{bind_some, require_some, none≢some, some_inj, le_of, leb_yes, pair_first, pair_second}
use Rattle.booking.proofs.NextLaws.{later, few, open_is}
use Rattle.booking.proofs.Steps.{first_kind, room}

-- the code's answer read back
abbrev value_of : prelude.Option Due → Option Due
value_of None = none
value_of (Some x) = some x

read_back : (o : Option Due) → value_of (next_as o) ≡ o
read_back none = refl
read_back (some x) = refl

pub told_nothing : (o : Option Due) → None ≡ next_as o → o ≡ none
told_nothing o e = sym (read_back o) ∙ ap value_of (sym e)

pub told_value : (o : Option Due) (x : Due) → Some x ≡ next_as o → o ≡ some x
told_value o x e = sym (read_back o) ∙ ap value_of (sym e)

module _ (v : View) (i : ℕ) (os : List ℕ) (w : ℕ) where
  pub no_due : next v.rows i os ≡ none → none ≡ step_by v i os w
  no_due e = rw e

  module _ (k d : ℕ) (e : next v.rows i os ≡ some (k, d)) where
    pub too_deep : d ≡ 0 → none ≡ step_by v i os w
    too_deep z = rw (e, z)

    pub no_head : (d ≡ 0 → ⊥) → v.head k w ≡ false → none ≡ step_by v i os w
    no_head z q = rw (e, q, leb_yes 1 d (omega arith))

    pub goes_on : (m : ℕ) (qs : List ℕ) → (d ≡ 0 → ⊥) → v.head k w ≡ true → m ≡ v.count w → qs ≡ opened (v.place w) m (d - 1) (rest i os) → some qs ≡ step_by v i os w
    goes_on m qs z q c f = rw (e, q, leb_yes 1 d (omega arith)) (ap some (f ∙ ap (λ j. opened (v.place w) j (d - 1) (rest i os)) c))

-- what is due is nested at most 256 deep
pub deep_fits : (rows os : List ℕ) (i k d : ℕ) → next rows i os ≡ some (k, d) → d ≤ depth_limit
deep_fits rows os zero k d e = let f : depth_limit ≡ d = pair_second (some_inj (0, depth_limit) (k, d) e) in omega arith
deep_fits rows [] (suc i) k d e = none≢some e
deep_fits rows (p ∷ []) (suc i) k d e = none≢some e
deep_fits rows (p ∷ (x ∷ os)) (suc i) k d e =
    let (u, a, b) = bind_some (require (leb depth_limit x && ltb p (length rows))) _ (k, d) e in
    let f = pair_second (some_inj _ (k, d) b) in
    omega (arith, f)

-- and its kind is one of n
pub due_kind : (rows os : List ℕ) (n i k d : ℕ) → 0 < n → Nested rows n os → next rows i os ≡ some (k, d) → k < n
due_kind rows os n zero k d h a e = let f : 0 ≡ k = pair_first (some_inj (0, depth_limit) (k, d) e) in omega arith
due_kind rows [] n (suc i) k d h a e = none≢some e
due_kind rows (p ∷ []) n (suc i) k d h a e = absurd a
due_kind rows (p ∷ (x ∷ os)) n (suc i) k d h a e =
    let (u, b, c) = bind_some (require (leb depth_limit x && ltb p (length rows))) _ (k, d) e in
    let f : get_or rows p 0 ≡ k = pair_first (some_inj _ (k, d) c) in
    omega (arith, (first_kind rows n p x os a).1)

-- there is room for one open value more
pub has_room : (rows os : List ℕ) (n i k d : ℕ) → 0 < i → (d ≡ 0 → ⊥) → Nested rows n os → next rows i os ≡ some (k, d) → length os + 2 ≤ open_limit
has_room rows os n zero k d h z a e = absurd (omega arith)
has_room rows [] n (suc i) k d h z a e = none≢some e
has_room rows (p ∷ []) n (suc i) k d h z a e = absurd a
has_room rows (p ∷ (x ∷ os)) n (suc i) k d h z a e =
    let (u, b, c) = bind_some (require (leb depth_limit x && ltb p (length rows))) _ (k, d) e in
    let f = pair_second (some_inj _ (k, d) c) in
    omega (arith, room rows n p x os a (λ q. z (sym f ∙ q)))

-- the innermost open value can be counted on
module _ (rows ws : List ℕ) (at i k d : ℕ) where
  pub waits : next rows i (drop at ws) ≡ some (k, d) → length rows < word_limit → Waiting i at ws
  waits e l h = go (dec_le (at + 2) (length ws))
    where
      n : i ≡ 0 → ⊥
      n z = omega arith

      go : Dec (at + 2 ≤ length ws) → (at + 2 ≤ length ws) × (suc (get_or ws at 0) < word_limit) × (depth_limit ≤ get_or ws (at + 1) 0)
      go (no q) = none≢some (sym (few rows ws at i n (drop at ws) (omega (arith, length-drop at ws))) ∙ sym (later rows ws at i n (drop at ws)) ∙ e)
      go (yes q) =
          let (u, a, b) = bind_some (require (leb depth_limit (get_or ws (at + 1) 0) && ltb (get_or ws at 0) (length rows))) _ (k, d) (sym (open_is rows ws at i n q) ∙ e) in
          let c = require_some (leb depth_limit (get_or ws (at + 1) 0) && ltb (get_or ws at 0) (length rows)) u a in
          let x : depth_limit ≤ get_or ws (at + 1) 0 = le_of depth_limit (get_or ws (at + 1) 0) (and_left _ _ c) in
          let p : suc (get_or ws at 0) ≤ length rows = le_of (suc (get_or ws at 0)) (length rows) (and_right (leb depth_limit (get_or ws (at + 1) 0)) _ c) in
          (q, omega arith, x)
