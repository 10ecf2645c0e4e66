-- A leaf is written.
use mathlib.Core.Bool.{Bool, true, false, cond}
use mathlib.Core.Path.{◌≡◌, refl, sym, ap, subst, ◌∙◌}
use mathlib.Core.List.{List, [], ◌∷◌, ◌++◌, append-nil}
use Prim.Native.Nat.{ℕ, zero, suc, ◌+◌, ◌-◌, ◌*◌, ◌/◌, ◌≤◌, ◌<◌, max}
use native.Mathlib.Nat.{zero-add}
use native.Mathlib.Omega.{arith}
use borrow.Author.Tests.{ltb-true, ltb-false, lt-ltb, le-ltb}
use lib.Dec.{eqb, ltb}
use lib.ListN.{length, get_or, drop, take, set, length-drop, drop_of_length-le}
use lib.Seq.{take_all, length-take-le, drop-drop}
use Rattle.sets.specs.Set.{bit, set_limit, Lowest}
use Rattle.sets.proofs.SetLaws.{bit_zero}
use Rattle.signature.proofs.Tests.{eqb_eq, eqb_ne}
use Rattle.pattern.specs.Limits.{variable_count}
use Rattle.tree.specs.Tree.{default, hit}
use Rattle.tree.specs.Words.{pairs}
use Rattle.std.specs.Prelude.{Some, None}
use Rattle.leaf.specs.Leaf.{Paired, all_pairs, pairs_from, cell_pair, cell_pairs, Pairing, Used, NextVariable}
use Rattle.cell.specs.Cursor.{cell_at}
use Rattle.cell.specs.declared.cell.Cell.{Cell}
use Rattle.path.specs.Standing.{vars_of}
use Rattle.path.specs.State.{bound, cell_of}
use Rattle.leaf.specs.Leaf.{Leaving}
use Rattle.path.specs.Wrote.{Wrote}
use Rattle.leaf.proofs.PairLaws.{bound_rising, Sofar, sofar_more, sofar_full, sofar_end}

pub pairing : {a rows : List ℕ} {r : ℕ} {cur vis : List ℕ} (q : ℕ) → Leaving a rows r cur vis → q ≡ get_or cur r 0 → Pairing a rows vis r q
pairing q g e = record { long = g.long; visits = g.visits; small = omega (arith, g.small); cells = omega (arith, g.cells) }

pub pairing_less : {a rows vis : List ℕ} {r q : ℕ} (p : ℕ) → Pairing a rows vis r q → p + 1 ≤ q → Pairing a rows vis r (p + 1)
pairing_less p g l = record { long = g.long; visits = g.visits; small = omega (arith, g.small); cells = omega (arith, g.cells) }

module _ (a rows vis : List ℕ) (r q rule plan : ℕ) where
  rising : length (bound a rows vis r q) ≡ length (all_pairs a rows vis r q)
  rising = ap length (bound_rising a rows vis r q)

  pub leaf_short : (o : List ℕ) → length o < 4 → Wrote (hit rule plan (bound a rows vis r q)) 0 (length o + 1) o o
  leaf_short o l = record { much = omega arith; wrote = λ h. absurd (omega arith) }

  module _ (o ys : List ℕ) (l : 4 ≤ length o) where
    tail_long : length (take (length o - 4) (drop 4 o)) ≡ length o - 4
    tail_long = length-take-le (length o - 4) (drop 4 o) (simp length-drop (omega arith))

    pub leaf_full : (m : ℕ) (o' : List ℕ) → m ≡ length o → Paired (all_pairs a rows vis r q) 0 None (take (length o - 4) (drop 4 o)) ys → Wrote (hit rule plan (bound a rows vis r q)) 0 (m + 1) o o'
    leaf_full m o' e w = let s = w.short refl in record { much = omega (arith, s, tail_long, rising); wrote = λ i. absurd (omega (arith, s, tail_long, rising)) }

    module _ (n : ℕ) (w : Paired (all_pairs a rows vis r q) 0 (Some n) (take (length o - 4) (drop 4 o)) ys) where
      much : (n ≡ 2 * length (all_pairs a rows vis r q)) × (n ≤ length o - 4)
      much = let z = w.ends n refl in (omega (arith, z.0), omega (arith, z.1, tail_long))

      pub leaf_most : n ≤ length o
      leaf_most = omega (arith, much)

      pub leaf_wrote : (u v : ℕ) → u ≡ rule → v ≡ plan → Wrote (hit rule plan (bound a rows vis r q)) 0 (n + 4) o (set (set (set (set (take 4 o ++ (ys ++ drop (length o - 4) (drop 4 o))) 0 1) 1 u) 2 v) 3 (n / 2))
      leaf_wrote u v d f = rw (d, f) (record {
        much = omega (arith, much, rising);
        wrote = λ i. go o l tail;
      })
        where
          many : n ≡ 2 * length (all_pairs a rows vis r q)
          many = much.0

          end : drop (length o - 4) (drop 4 o) ≡ []
          end = drop_of_length-le (drop 4 o) {i = length o - 4} (simp length-drop (omega arith))

          whole : take (length o - 4) (drop 4 o) ≡ drop 4 o
          whole = take_all (length o - 4) (drop 4 o) (simp length-drop (omega arith))

          tail : ys ++ drop (length o - 4) (drop 4 o) ≡ pairs (bound a rows vis r q) ++ drop n (drop 4 o)
          tail =
              ap (λ (z : List ℕ). ys ++ z) end
              ∙ append-nil ys
              ∙ w.wrote (omega (arith, much, tail_long))
              ∙ (rw (whole, bound_rising a rows vis r q, ← many, zero-add n))

          half : n / 2 ≡ length (bound a rows vis r q)
          half = omega (arith, many, rising)

          go : (o : List ℕ) → 4 ≤ length o → ys ++ drop (length o - 4) (drop 4 o) ≡ pairs (bound a rows vis r q) ++ drop n (drop 4 o)
              → set (set (set (set (take 4 o ++ (ys ++ drop (length o - 4) (drop 4 o))) 0 1) 1 rule) 2 plan) 3 (n / 2) ≡ 1 ∷ (rule ∷ (plan ∷ (length (bound a rows vis r q) ∷ (pairs (bound a rows vis r q) ++ drop (4 + 2 * length (bound a rows vis r q)) o))))
          go [] k e = absurd (omega arith)
          go (x ∷ []) k e = absurd (omega arith)
          go (x ∷ (y ∷ [])) k e = absurd (omega arith)
          go (x ∷ (y ∷ (z ∷ []))) k e = absurd (omega arith)
          go (x ∷ (y ∷ (z ∷ (u ∷ o)))) k e =
              let d : 2 * length (bound a rows vis r q) ≡ n = omega (arith, many, rising) in
              rw (e, half, d) (ap (λ (l : List ℕ). 1 ∷ (rule ∷ (plan ∷ (length (bound a rows vis r q) ∷ (pairs (bound a rows vis r q) ++ l))))) (drop-drop n 4 (x ∷ (y ∷ (z ∷ (u ∷ o))))))

-- the loops over the cells and over the variables

module _ (a rows vis : List ℕ) (r x p : ℕ) where
  cells_next : 0 < p → cell_pairs a rows vis r x p ≡ cell_pair a rows vis r x (p - 1) ++ cell_pairs a rows vis r x (p - 1)
  cells_next l = let e : p ≡ suc (p - 1) = omega arith in ap (cell_pairs a rows vis r x) e

  cells_end : p ≤ 0 → cell_pairs a rows vis r x p ≡ []
  cells_end l = let e : p ≡ 0 = omega arith in ap (cell_pairs a rows vis r x) e

  pub cell_more : (bs : List (ℕ × ℕ)) (at to u : ℕ) (o₀ o o' : List ℕ) → 0 < p → Sofar bs (cell_pairs a rows vis r x p) at to o₀ o → Paired (cell_pair a rows vis r x (p - 1)) to (Some u) o o' → length o' ≡ length o → Sofar bs (cell_pairs a rows vis r x (p - 1)) at u o₀ o'
  cell_more bs at to u o₀ o o' l s w e = sofar_more bs (cell_pair a rows vis r x (p - 1)) (cell_pairs a rows vis r x (p - 1)) at to u o₀ o o' (subst (λ (cs : List (ℕ × ℕ)). Sofar bs cs at to o₀ o) (cells_next l) s) w e

  pub cell_full : (bs : List (ℕ × ℕ)) (at to : ℕ) (o₀ o o' o'' : List ℕ) → 0 < p → Sofar bs (cell_pairs a rows vis r x p) at to o₀ o → Paired (cell_pair a rows vis r x (p - 1)) to None o o' → Paired bs at None o₀ o''
  cell_full bs at to o₀ o o' o'' l s w = sofar_full bs (cell_pair a rows vis r x (p - 1)) (cell_pairs a rows vis r x (p - 1)) at to o₀ o o' o'' (subst (λ (cs : List (ℕ × ℕ)). Sofar bs cs at to o₀ o) (cells_next l) s) w

  pub cell_end : (bs : List (ℕ × ℕ)) (at to : ℕ) (o₀ o : List ℕ) → p ≤ 0 → Sofar bs (cell_pairs a rows vis r x p) at to o₀ o → Paired bs at (Some to) o₀ o
  cell_end bs at to o₀ o l s = sofar_end bs at to o₀ o (subst (λ (cs : List (ℕ × ℕ)). Sofar bs cs at to o₀ o) (cells_end l) s)

module _ (a rows vis : List ℕ) (r q x : ℕ) where
  -- the variables from x on
  abbrev pub later : ℕ → List (ℕ × ℕ)
  later y = pairs_from a rows vis r q y (variable_count - y)

  later_next : x < variable_count → later x ≡ cell_pairs a rows vis r x q ++ later (x + 1)
  later_next l =
      let e : variable_count - x ≡ suc (variable_count - (x + 1)) = omega arith in
      let f : suc x ≡ x + 1 = omega arith in
      rw (e, ← f)

  later_end : variable_count ≤ x → later x ≡ []
  later_end l = let e : variable_count - x ≡ 0 = omega arith in rw e

  pub variable_more : (bs : List (ℕ × ℕ)) (to u : ℕ) (o₀ o o' : List ℕ) → x < variable_count → Sofar bs (later x) 0 to o₀ o → Paired (cell_pairs a rows vis r x q) to (Some u) o o' → length o' ≡ length o → Sofar bs (later (x + 1)) 0 u o₀ o'
  variable_more bs to u o₀ o o' l s w e = sofar_more bs (cell_pairs a rows vis r x q) (later (x + 1)) 0 to u o₀ o o' (subst (λ (cs : List (ℕ × ℕ)). Sofar bs cs 0 to o₀ o) (later_next l) s) w e

  pub variable_full : (bs : List (ℕ × ℕ)) (to : ℕ) (o₀ o o' o'' : List ℕ) → x < variable_count → Sofar bs (later x) 0 to o₀ o → Paired (cell_pairs a rows vis r x q) to None o o' → Paired bs 0 None o₀ o''
  variable_full bs to o₀ o o' o'' l s w = sofar_full bs (cell_pairs a rows vis r x q) (later (x + 1)) 0 to o₀ o o' o'' (subst (λ (cs : List (ℕ × ℕ)). Sofar bs cs 0 to o₀ o) (later_next l) s) w

  pub variable_end : (bs : List (ℕ × ℕ)) (to : ℕ) (o₀ o : List ℕ) → variable_count ≤ x → Sofar bs (later x) 0 to o₀ o → Paired bs 0 (Some to) o₀ o
  variable_end bs to o₀ o l s = sofar_end bs 0 to o₀ o (subst (λ (cs : List (ℕ × ℕ)). Sofar bs cs 0 to o₀ o) (later_end l) s)

-- variables that no cell binds

pub used_more : (a rows : List ℕ) (r p u u' : ℕ) (c : Cell) → Used a rows r p u → c ≡ cell_at a (cell_of rows r p) → ((x : ℕ) → bit u' x ≡ max (bit u x) (bit c.vars x)) → Used a rows r (p + 1) u'
used_more a rows r p u u' c h e j x q z l = go (eqb q p) refl
  where
    both : (bit u x ≡ 0) × (bit (vars_of a (cell_of rows r p)) x ≡ 0)
    both = (omega (arith, j x, z), ap (λ (y : Cell). bit y.vars x) (sym e) ∙ (let w : bit c.vars x ≡ 0 = omega (arith, j x, z) in w))

    go : (b : Bool) → eqb q p ≡ b → bit (vars_of a (cell_of rows r q)) x ≡ 0
    go true i = ap (λ (y : ℕ). bit (vars_of a (cell_of rows r y)) x) (eqb_eq q p i) ∙ both.1
    go false i = h x q both.0 (omega (arith, eqb_ne q p i))

unused : (a rows vis : List ℕ) (r q u x : ℕ) → Used a rows r q u → bit u x ≡ 0 → cell_pairs a rows vis r x q ≡ []
unused a rows vis r zero u x h z = refl
unused a rows vis r (suc q) u x h z = rw (h x q z (omega arith)) (unused a rows vis r q u x (λ y p w l. h y p w (omega arith)) z)

-- the set without the variables below x
module _ (u x f left : ℕ) (h : (j : ℕ) → bit f j ≡ cond (ltb j x) 1 0) (g : (j : ℕ) → bit left j ≡ cond (eqb (bit f j) 1) 0 (bit u j)) where
  from_on : (j : ℕ) → x ≤ j → bit u j ≡ bit left j
  from_on j l = sym (g j ∙ ap (λ (b : ℕ). cond (eqb b 1) 0 (bit u j)) (h j ∙ ap (λ (z : Bool). cond z 1 0) (le-ltb j x l)))

  below : (j : ℕ) → j < x → bit left j ≡ 0
  below j l = g j ∙ ap (λ (b : ℕ). cond (eqb b 1) 0 (bit u j)) (h j ∙ ap (λ (z : Bool). cond z 1 0) (lt-ltb j x l))

  pub next_none : x ≤ variable_count → left ≡ 0 → NextVariable u x variable_count
  next_none l e = record { least = l; most = omega arith; between = λ z m k. from_on z m ∙ ap (λ (w : ℕ). bit w z) e ∙ bit_zero z; there = λ k. absurd (omega arith) }

  module _ (y : ℕ) (w : Lowest set_limit left y) where
    pub next_low : y < variable_count → NextVariable u x y
    next_low l = record { least = from (ltb y x) refl; most = omega arith; between = λ z m k. from_on z m ∙ w.none_below z k; there = λ k. from_on y (from (ltb y x) refl) ∙ w.member }
      where
        from : (b : Bool) → ltb y x ≡ b → x ≤ y
        from true e = absurd (omega (arith, w.member, below y (ltb-true y x e)))
        from false e = ltb-false y x e

    pub next_high : x ≤ variable_count → variable_count ≤ y → NextVariable u x variable_count
    next_high l m = record { least = l; most = omega arith; between = λ z i k. from_on z i ∙ w.none_below z (omega arith); there = λ k. absurd (omega arith) }

-- variables without pairs
past_unused : (a rows vis : List ℕ) (r q d x : ℕ) → x + d ≤ variable_count → ((z : ℕ) → x ≤ z → z < x + d → cell_pairs a rows vis r z q ≡ []) → later a rows vis r q x x ≡ later a rows vis r q x (x + d)
past_unused a rows vis r q zero x l h = let e : x ≡ x + 0 = omega arith in ap (λ (m : ℕ). later a rows vis r q x m) e
past_unused a rows vis r q (suc d) x l h =
    let e : (x + 1) + d ≡ x + suc d = omega arith in
    later_next a rows vis r q x (omega arith)
    ∙ ap (λ (cs : List (ℕ × ℕ)). cs ++ later a rows vis r q x (x + 1)) (h x (omega arith) (omega arith))
    ∙ past_unused a rows vis r q d (x + 1) (omega arith) (λ z m k. h z (omega arith) (omega arith))
    ∙ ap (λ (m : ℕ). later a rows vis r q x m) e

pub variables_past : (a rows vis : List ℕ) (r q u x y : ℕ) (bs : List (ℕ × ℕ)) (to : ℕ) (o₀ o : List ℕ) → Used a rows r q u → NextVariable u x y → Sofar bs (later a rows vis r q x x) 0 to o₀ o → Sofar bs (later a rows vis r q x y) 0 to o₀ o
variables_past a rows vis r q u x y bs to o₀ o h n s =
    let e : x + (y - x) ≡ y = omega (arith, n.least) in
    subst (λ (cs : List (ℕ × ℕ)). Sofar bs cs 0 to o₀ o) (past_unused a rows vis r q (y - x) x (omega (arith, n.least, n.most)) (λ z m k. unused a rows vis r q u z h (n.between z m (omega (arith, n.least)))) ∙ ap (λ (m : ℕ). later a rows vis r q x m) e) s

-- the default's leaf
pub default_short : (d : ℕ) (o : List ℕ) → length o < 2 → Wrote (default d) 0 (length o + 1) o o
default_short d o h = record { much = omega arith; wrote = λ w. absurd (omega arith) }

pub default_wrote : (d : ℕ) (o : List ℕ) → 2 ≤ length o → Wrote (default d) 0 2 o (set (set o 0 0) 1 d)
default_wrote d [] h = absurd (omega arith)
default_wrote d (x ∷ []) h = absurd (omega arith)
default_wrote d (x ∷ (y ∷ o)) h = record { much = omega arith; wrote = λ w. refl }
