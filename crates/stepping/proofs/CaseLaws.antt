-- A state read by its cases: the number at the end, the heads of a kind, the row of a head.
use Rattle.std.specs.Prelude.{None, Some}
use Rattle.std.specs.Prelude as prelude
use mathlib.Core.Path.{◌≡◌, refl, sym, ap, subst, ◌∙◌}
use mathlib.Core.List.{List}
use mathlib.Core.Option.{Option, some, none}
use mathlib.Core.Bool.{Bool, true, false, cond, ◌&&◌}
use Prim.Native.Nat.{ℕ, suc, ◌+◌, ◌*◌, ◌≤◌, ◌<◌}
use native.Mathlib.Omega.{arith}
use lib.Dec.{leb, ltb}
use lib.ListN.{length, get_or}
use Rattle.signature.specs.Limits.{argument_limit, constructor_limit, kind_limit, level_base}
use Rattle.booking.specs.Walk.{among, opened}
use Rattle.stepping.specs.State.{heads_at, number_in, read_in, opened_in, row_in, count_in, has_row, head_in, refusal_of, end_number}
use Rattle.stepping.specs.Standing.{row_as}
use Rattle.signature.proofs.Booleans.{and_right}
use Rattle.signature.proofs.Tests.{eqb_no, ltb_yes, ltb_no, le_of, none≢some, some_inj, pair_first, pair_second}

abbrev row_pair : prelude.Option (ℕ × ℕ) → Option (ℕ × ℕ)
row_pair (Some x) = some x
row_pair None = none

module _ (st : List ℕ) where
  pub end_refused : (r : ℕ) → (number_in st ≡ 0 → ⊥) → r ≡ refusal_of (number_in st) → r ≡ end_number st
  end_refused r n e = rw (eqb_no (number_in st) 0 n) (e ∙ (rw (eqb_no (number_in st) 0 n)))

  pub end_empty : number_in st ≡ 0 → read_in st ≡ 0 → 13 ≡ end_number st
  end_empty e f = rw (e, f)

  pub end_open : number_in st ≡ 0 → (read_in st ≡ 0 → ⊥) → (opened_in st ≡ 0 → ⊥) → 13 ≡ end_number st
  end_open e n m = rw (e, eqb_no (read_in st) 0 n, eqb_no (opened_in st) 0 m)

  pub end_whole : number_in st ≡ 0 → (read_in st ≡ 0 → ⊥) → opened_in st ≡ 0 → 0 ≡ end_number st
  end_whole e n f = rw (e, eqb_no (read_in st) 0 n, f)

  pub no_kind : (k w : ℕ) → kind_limit ≤ k → false ≡ head_in st k w
  no_kind k w h = rw (ltb_no k kind_limit h)

  pub of_kind : (k w j : ℕ) (r : Bool) → j ≡ k → j < kind_limit → r ≡ among (get_or st (heads_at + 2 * j) 0) (get_or st (heads_at + 2 * j + 1) 0) w → r ≡ head_in st k w
  of_kind k w j r e h f =
      let g : heads_at + 2 * j + 1 ≡ suc (heads_at + 2 * k) = omega arith in
      rw (ltb_yes k kind_limit (omega arith)) (f ∙ (rw (g, e)))

-- the code's answer read back
module _ (ss st : List ℕ) (w : ℕ) where
  few_there : leb level_base w ≡ false → has_row ss st w ≡ true → count_in ss st w ≤ argument_limit
  few_there q h =
      let a : (ltb w constructor_limit && (ltb (suc (row_in st w)) (length ss) && leb (get_or ss (suc (row_in st w)) 0) argument_limit)) ≡ true = rw q at h in
      rw q (le_of (get_or ss (suc (row_in st w)) 0) argument_limit (and_right (ltb (suc (row_in st w)) (length ss)) _ (and_right (ltb w constructor_limit) _ a)))

  pub found_row : (p m : ℕ) → Some (p, m) ≡ row_as ss st w → (has_row ss st w ≡ true) × (m ≤ argument_limit) × ((d : ℕ) (os : List ℕ) → opened (row_in st w + 2) (count_in ss st w) d os ≡ opened p m d os)
  found_row p m e = go (has_row ss st w) refl (leb level_base w) refl (ap row_pair (sym e))
    where
      go : (b : Bool) → has_row ss st w ≡ b → (a : Bool) → leb level_base w ≡ a → row_pair (cond b (cond a (Some (0, 0)) (Some (row_in st w + 2, count_in ss st w))) None) ≡ some (p, m)
          → (has_row ss st w ≡ true) × (m ≤ argument_limit) × ((d : ℕ) (os : List ℕ) → opened (row_in st w + 2) (count_in ss st w) d os ≡ opened p m d os)
      go false q a z g = none≢some g
      go true q true z g =
          let x : 0 ≡ m = pair_second (some_inj (0, 0) (p, m) g) in
          let y : count_in ss st w ≡ 0 = rw z in
          (q, omega arith, λ d os. rw (y, ← x))
      go true q false z g =
          let i = some_inj (row_in st w + 2, count_in ss st w) (p, m) g in
          (q, subst (λ n. n ≤ argument_limit) (pair_second i) (few_there z q), λ d os. rw (pair_first i, pair_second i))
