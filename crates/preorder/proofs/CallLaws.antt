-- What the calls at a node ask, and what the node has written then.
use mathlib.Core.Path.{◌≡◌, refl, sym, ap, subst, ◌∙◌}
use mathlib.Core.List.{List, [], ◌∷◌, ◌++◌, append-nil}
use mathlib.Core.Bool.{Bool, true, false}
use Prim.Native.Nat.{ℕ, zero, suc, ◌+◌, ◌-◌, ◌≤◌, ◌<◌}
use native.Mathlib.Omega.{arith}
use borrow.Author.Tests.{ltb-true, ltb-false}
use lib.Dec.{ltb}
use lib.ListN.{length, get_or, drop, take, set, length-append, length-drop, drop_of_length-le}
use lib.Seq.{take_all}
use Rattle.std.specs.Prelude.{Option as Answer, Some, None}
use Rattle.signature.specs.Lists.{All, also}
use Rattle.signature.proofs.ListFacts.{same_lists}
use Rattle.tree.specs.Tree.{Tree, default, hit}
use Rattle.rowset.specs.Member.{member, FirstIn}
use Rattle.path.specs.State.{Raised, Lowered, Kept, real_of, cell_of, own_of, rule_of, plan_of, default_in, bound, one_if}
use Rattle.column.specs.Column.{Column, Looking}
use Rattle.leaf.specs.Leaf.{Leaving}
use Rattle.path.specs.Wrote.{Wrote}
use Rattle.preorder.specs.Node.{Given, Branching, tree_of, branch_of}
use Rattle.preorder.proofs.NodeLaws.{row_alive, real_cell, skip_given, branch_given, tree_none, tree_hit, tree_skip, tree_branch, wrote_skip}

-- raised and lowered again
pub restored : (n vn : ℕ) (re : ℕ → Bool) (cur vis cur2 vis2 cur3 cur4 : List ℕ) → Raised n re vn cur vis cur2 vis2 → cur3 ≡ cur2 → Lowered n re cur3 cur4 → length cur4 ≡ length cur → cur4 ≡ cur
restored n vn re cur vis cur2 vis2 cur3 cur4 u e d l = same_lists cur4 cur l (λ r h. go r (ltb r n) refl)
  where
    go : (r : ℕ) (b : Bool) → ltb r n ≡ b → get_or cur4 r 0 ≡ get_or cur r 0
    go r true q = let h : r < n = ltb-true r n q in d.cursor r h ∙ ap (λ (z : List ℕ). get_or z r 0 - one_if (re r)) e ∙ (let s : get_or cur2 r 0 - one_if (re r) ≡ get_or cur r 0 = omega (arith, u.cursor r h) in s)
    go r false q = let h : n ≤ r = ltb-false r n q in d.beyond r h ∙ ap (λ (z : List ℕ). get_or z r 0) e ∙ u.beyond r h

-- what stays of the visits
pub kept_through : (n vn : ℕ) (re : ℕ → Bool) (cur vis cur2 vis2 vis3 : List ℕ) → Raised n re vn cur vis cur2 vis2 → Kept n cur2 vis2 vis3 → Kept n cur vis vis3
kept_through n vn re cur vis cur2 vis2 vis3 u k r q h l = k r q h (omega (arith, u.cursor r h)) ∙ u.others r q h l

-- the columns, where there are some
pub record Cols (m : ℕ) (ks : List ℕ) : Type 0 where
  pub k : ℕ
  pub rest : List ℕ
  pub is : ks ≡ k ∷ rest
  pub there : k < m

some_cols : (m : ℕ) (ks : List ℕ) → All (λ k. k < m) ks → 0 < length ks → Cols m ks
some_cols m [] u h = absurd (omega arith)
some_cols m (k ∷ ks) (also x l u) h = record { k = k; rest = ks; is = refl; there = l }

module _ {t a rows : List ℕ} {n : ℕ} {s cur vis : List ℕ} {ncols vn base len : ℕ} (g : Given t a rows n s cur vis ncols vn base len) where
  pub cols : 0 < ncols → Cols g.known.decoded.n g.ks
  cols h = some_cols g.known.decoded.n g.ks g.kinds (omega (arith, g.columns))

  -- a row that is alive has its cells in the table
  pub cursor_within : (r : ℕ) → r < n → member s r ≡ true → (cell_of rows r (get_or cur r 0) ≤ length a) × (own_of rows r (get_or cur r 0) ≤ ncols)
  cursor_within r h e =
      let w = row_alive g.known.sig t a rows n (member s r) (g.f r) vis r (get_or cur r 0) g.ks (g.state r h) e in
      let x = w.at.here in
      (omega (arith, x.ends, (g.ok.within r h).0), omega (arith, x.own_is, g.columns, ap length x.kinds_are, length-append x.virt x.mine))

  pub leaving : (r : ℕ) → r < n → member s r ≡ true → Leaving a rows r cur vis
  leaving r h e = record { there = omega (arith, g.cursors); long = omega (arith, g.ok.long); visits = omega (arith, g.visits); small = g.low r h; cells = (cursor_within r h e).0 }

  pub looking : (re : List ℕ) (k : ℕ) (ks : List ℕ) → g.ks ≡ k ∷ ks → k < g.known.decoded.n → ((r : ℕ) → r < n → member re r ≡ real_of rows (member s) cur ncols r) → Looking t a rows n re cur
  looking re k ks e u h = record {
    known = g.known;
    k = k;
    there = u;
    few = g.few;
    cursors = g.cursors;
    long = g.ok.long;
    cell = λ r l i. (real_cell g re k ks e h r l i).1;
    tags = λ r l i. (real_cell g re k ks e h r l i).2;
  }

-- the results

part_one : (o : List ℕ) → 0 < length o → take (length (set o 0 3) - 1) (drop 1 (set o 0 3)) ≡ drop 1 o
part_one [] h = absurd (omega arith)
part_one (x ∷ o) h = take_all (length (3 ∷ o) - 1) o (omega arith)

back_one : (o ys : List ℕ) → 0 < length o → take 1 (set o 0 3) ++ (ys ++ drop (length (set o 0 3) - 1) (drop 1 (set o 0 3))) ≡ 3 ∷ ys
back_one [] ys h = absurd (omega arith)
back_one (x ∷ o) ys h = ap (λ (z : List ℕ). 3 ∷ (ys ++ z)) (drop_of_length-le o {i = length (3 ∷ o) - 1} (omega arith)) ∙ ap (λ (z : List ℕ). 3 ∷ z) (append-nil ys)

module _ {t a rows : List ℕ} {n : ℕ} {s cur vis : List ℕ} {ncols vn base : ℕ} (re cur2 vis2 o ys : List ℕ) (res : Answer ℕ) (u r : ℕ)
    (h : (i : ℕ) → i < n → member re i ≡ real_of rows (member s) cur ncols i)
    (col : (lk : Looking t a rows n re cur) → Column lk.known.sig a rows n re cur lk.k res)
    (w : Raised n (member re) vn cur vis cur2 vis2) (lc : length cur2 ≡ length cur) (lv : length vis2 ≡ length vis) (pos : 0 < ncols) where
  pub column_of : (g : Given t a rows n s cur vis ncols vn base (length o)) → Column g.known.sig a rows n re cur (cols g pos).k res
  unfolding looking
  column_of g = let k = cols g pos in col (looking g re k.k k.rest k.is k.there h)

  pub skip_child : (g : Given t a rows n s cur vis ncols vn base (length o)) → res ≡ None → (len2 : ℕ) → len2 < length o → Given t a rows n s cur2 vis2 (ncols - 1) (vn + 1) (base + 1) len2
  skip_child g z len2 l = let k = cols g pos in skip_given g re cur2 vis2 k.k res k.rest k.is k.there h (column_of g) z w lc lv len2 l

  pub skip_result : (g : Given t a rows n s cur vis ncols vn base (length o)) (fuel : ℕ) → res ≡ None → r < n → FirstIn s n r → 0 < length o → length o < fuel
      → ((g2 : Given t a rows n s cur2 vis2 (ncols - 1) (vn + 1) (base + 1) (length (take (length (set o 0 3) - 1) (drop 1 (set o 0 3))))) (f2 : ℕ) → length (take (length (set o 0 3) - 1) (drop 1 (set o 0 3))) < f2
      → Wrote (tree_of g2 (default_in rows) f2) (base + 1) u (take (length (set o 0 3) - 1) (drop 1 (set o 0 3))) ys)
      → Wrote (tree_of g (default_in rows) fuel) base (u + 1) o (take 1 (set o 0 3) ++ (ys ++ drop (length (set o 0 3) - 1) (drop 1 (set o 0 3))))
  skip_result g zero z i x l f call = absurd (omega arith)
  skip_result g (suc fuel) z i x l f call =
      let k = cols g pos in
      let p = part_one o l in
      let less : length (take (length (set o 0 3) - 1) (drop 1 (set o 0 3))) < length o = omega (arith, ap length p, length-drop 1 o) in
      let g2 = skip_given g re cur2 vis2 k.k res k.rest k.is k.there h (column_of g) z w lc lv (length (take (length (set o 0 3) - 1) (drop 1 (set o 0 3)))) less in
      let e = tree_skip g re cur2 vis2 k.k res k.rest k.is k.there h (column_of g) z w lc lv (length (take (length (set o 0 3) - 1) (drop 1 (set o 0 3)))) less (default_in rows) fuel r i x in
      let q : base + 1 ≡ suc base = omega arith in
      let v : Wrote (tree_of g2 (default_in rows) fuel) (suc base) u (drop 1 o) ys = subst (λ (y : ℕ). Wrote (tree_of g2 (default_in rows) fuel) y u (drop 1 o) ys) q (subst (λ (y : List ℕ). Wrote (tree_of g2 (default_in rows) fuel) (base + 1) u y ys) p (call g2 fuel (omega arith))) in
      rw (e, back_one o ys l) (wrote_skip (tree_of g2 (default_in rows) fuel) base u o ys l v)

  pub skip_fits : (g : Given t a rows n s cur vis ncols vn base (length o)) → res ≡ None → 0 < length o
      → ((g2 : Given t a rows n s cur2 vis2 (ncols - 1) (vn + 1) (base + 1) (length (take (length (set o 0 3) - 1) (drop 1 (set o 0 3))))) (f2 : ℕ) → length (take (length (set o 0 3) - 1) (drop 1 (set o 0 3))) < f2
      → Wrote (tree_of g2 (default_in rows) f2) (base + 1) u (take (length (set o 0 3) - 1) (drop 1 (set o 0 3))) ys)
      → u ≤ length o
  skip_fits g z l call =
      let p = part_one o l in
      let less : length (take (length (set o 0 3) - 1) (drop 1 (set o 0 3))) < length o = omega (arith, ap length p, length-drop 1 o) in
      let v = call (skip_child g z (length (take (length (set o 0 3) - 1) (drop 1 (set o 0 3)))) less) (length o) less in
      omega (arith, v.much)

  pub branch_child : (g : Given t a rows n s cur vis ncols vn base (length o)) (y : ℕ) → res ≡ Some y → Branching t a rows n s re cur2 vis2 ncols vn base (length o) y
  branch_child g y z = let k = cols g pos in let e : y ≡ k.k = (column_of g).kind y z in branch_given g re cur2 vis2 y k.rest (k.is ∙ ap (λ (x : ℕ). x ∷ k.rest) (sym e)) h w lc lv

  pub branch_result : (g : Given t a rows n s cur vis ncols vn base (length o)) (fuel y : ℕ) → res ≡ Some y → r < n → FirstIn s n r → length o < fuel
      → ((b : Branching t a rows n s re cur2 vis2 ncols vn base (length o) y) (f2 : ℕ) → length o ≤ f2 → Wrote (branch_of b (default_in rows) f2) base u o ys)
      → Wrote (tree_of g (default_in rows) fuel) base u o ys
  branch_result g zero y z i x f call = absurd (omega arith)
  branch_result g (suc fuel) y z i x f call =
      let k = cols g pos in
      let e : y ≡ k.k = (column_of g).kind y z in
      let ks : g.ks ≡ y ∷ k.rest = k.is ∙ ap (λ (q : ℕ). q ∷ k.rest) (sym e) in
      let small : y < g.known.decoded.n = omega (arith, k.there) in
      let c : Column g.known.sig a rows n re cur y res = subst (λ (q : ℕ). Column g.known.sig a rows n re cur q res) (sym e) (column_of g) in
      rw (tree_branch g re cur2 vis2 y res k.rest ks small h c y z w lc lv (default_in rows) fuel r i x) (call (branch_given g re cur2 vis2 y k.rest ks h w lc lv) fuel (omega arith))

pub at_most : (T : Tree) (base u : ℕ) (o o2 : List ℕ) → Wrote T base u o o2 → u ≤ suc (length o)
at_most T base u o o2 w = omega (arith, w.much)

module _ {t a rows : List ℕ} {n : ℕ} {s cur vis : List ℕ} {ncols vn base : ℕ} {o : List ℕ} (g : Given t a rows n s cur vis ncols vn base (length o)) where
  pub none_result : (fuel r u : ℕ) (o2 : List ℕ) → length o < fuel → r ≡ n → FirstIn s n r → Wrote (default (default_in rows)) 0 u o o2 → Wrote (tree_of g (default_in rows) fuel) base u o o2
  none_result fuel r u o2 f e x w = rw (tree_none g (default_in rows) fuel (omega arith) (subst (λ (y : ℕ). FirstIn s n y) e x)) (record { much = w.much; wrote = w.wrote })

  pub leaf_result : (fuel r u : ℕ) (o2 : List ℕ) → length o < fuel → r < n → FirstIn s n r → ncols ≡ 0
      → Wrote (hit (rule_of rows r) (plan_of rows r) (bound a rows vis r (get_or cur r 0))) 0 u o o2 → Wrote (tree_of g (default_in rows) fuel) base u o o2
  leaf_result fuel r u o2 f i x c w = rw (tree_hit g (default_in rows) fuel r (omega arith) i x c) (record { much = w.much; wrote = w.wrote })

pub lower_ok : (n vn : ℕ) (re : ℕ → Bool) (cur vis cur2 vis2 cur3 : List ℕ) → Raised n re vn cur vis cur2 vis2 → cur3 ≡ cur2 → (r : ℕ) → r < n → re r ≡ true → 0 < get_or cur3 r 0
lower_ok n vn re cur vis cur2 vis2 cur3 u e r l i = rw e (omega (arith, u.cursor r l, ap one_if i))
