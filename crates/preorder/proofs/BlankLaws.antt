-- Columns in which no row has a cell are skipped.
use mathlib.Core.Path.{◌≡◌, refl, sym, ap, ap₂, subst, ◌∙◌}
use mathlib.Core.List.{List, [], ◌∷◌, ◌++◌, append-nil, append_assoc}
use mathlib.Core.Bool.{Bool, true, false, ◌&&◌}
use Prim.Native.Nat.{ℕ, zero, suc, ◌+◌, ◌-◌, ◌%◌, ◌≤◌, ◌<◌}
use native.Mathlib.Nat.{add-zero, zero-add, suc-add}
use native.Mathlib.Omega.{arith}
use lib.Dec.{eqb}
use lib.ListN.{length, get_or, drop, take, replicate, length-replicate, length-drop, drop_of_length-le}
use lib.Seq.{take_at, drop_at, take_all, drop-drop}
use Rattle.std.specs.Prelude.{None}
use Rattle.sets.proofs.SetLaws.{bit_zero}
use Rattle.signature.proofs.Tests.{eqb_no, true≢false}
use Rattle.tree.proofs.RunFacts.{some_word}
use Rattle.tree.specs.Tree.{Tree, skip}
use Rattle.tree.specs.Words.{words, layout}
use Rattle.rowset.specs.Member.{member}
use Rattle.path.specs.State.{Raised, real_of, own_of, default_in}
use Rattle.column.specs.Column.{Column}
use Rattle.visits.specs.Blank.{Blank}
use Rattle.path.specs.Wrote.{Wrote}
use Rattle.preorder.specs.Node.{Given, tree_of}
use Rattle.rowset.proofs.MemberLaws.{member_is}
use Rattle.preorder.proofs.CallLaws.{cols}
use Rattle.preorder.proofs.NodeLaws.{skip_given, tree_skip}

-- words

abbrev pub skipped : ℕ → Tree → Tree
skipped zero T = T
skipped (suc b) T = skip (skipped b T)

skipped_words : (b : ℕ) (T : Tree) → words (skipped b T) ≡ b + words T
skipped_words zero T = omega arith
skipped_words (suc b) T = omega (arith, skipped_words b T)

skipped_layout : (b : ℕ) (T : Tree) (base : ℕ) → layout (skipped b T) base ≡ replicate b 3 ++ layout T (base + b)
skipped_layout zero T base = rw (add-zero base)
skipped_layout (suc b) T base = let e : base + suc b ≡ suc base + b = omega arith in ap (λ (l : List ℕ). 3 ∷ l) (skipped_layout b T (suc base)) ∙ (rw e)

pub wrote_skipped : (T : Tree) (b base u : ℕ) (o ys : List ℕ) → b ≤ length o → Wrote T (base + b) u (drop b o) ys → Wrote (skipped b T) base (b + u) o (replicate b 3 ++ ys)
wrote_skipped T b base u o ys l w =
    let n = skipped_words b T in
    let m = length-drop b o in
    record {
      much = omega (arith, w.much, n, m);
      wrote = λ h.
          ap (λ (z : List ℕ). replicate b 3 ++ z) (w.wrote (omega (arith, n, m)))
          ∙ sym (append_assoc (replicate b 3) (layout T (base + b)) (drop (words T) (drop b o)))
          ∙ ap₂ (λ (x y : List ℕ). x ++ y) (sym (skipped_layout b T base)) (drop-drop (words T) b o ∙ ap (λ (z : ℕ). drop z o) (sym n));
    }

-- the tree

no_row : (r : ℕ) → member [] r ≡ false
no_row r = sym (member_is [] r) ∙ (rw (bit_zero (r % 64)))

-- a column that is virtual in every row alive
module _ {t a rows : List ℕ} {n : ℕ} {s cur vis : List ℕ} {ncols vn base len : ℕ} (g : Given t a rows n s cur vis ncols vn base len) (b : ℕ) (w : Blank rows n s cur ncols (suc b)) where
  none_real : (r : ℕ) → r < n → member [] r ≡ real_of rows (member s) cur ncols r
  none_real r l = no_row r ∙ go (member s r) refl
    where
      go : (z : Bool) → member s r ≡ z → false ≡ (z && eqb (own_of rows r (get_or cur r 0)) ncols)
      go true e = sym (eqb_no (own_of rows r (get_or cur r 0)) ncols (λ i. absurd (omega (arith, w.virt r l e, i))))
      go false e = refl

  plain : (k : ℕ) → Column g.known.sig a rows n [] cur k None
  plain k = record { plain = λ e r l i. true≢false (sym i ∙ no_row r); kind = λ x f. absurd cc; row = λ x f. absurd cc }

  stays : Raised n (member []) vn cur vis cur vis
  stays = record { cursor = λ r l. rw (no_row r) (sym (add-zero (get_or cur r 0))); beyond = λ r l. refl; visit = λ r l i. true≢false (sym i ∙ no_row r); others = λ r q l m. refl }

  some_columns : 0 < ncols
  some_columns = omega (arith, w.most)

  next_given : (len2 : ℕ) → len2 < len → Given t a rows n s cur vis (ncols - 1) (vn + 1) (base + 1) len2
  next_given len2 l = let k = cols g some_columns in skip_given g [] cur vis k.k None k.rest k.is k.there none_real (plain k.k) refl stays refl refl len2 l

  next_tree : (len2 : ℕ) (l : len2 < len) (dft fuel : ℕ) → tree_of g dft (suc fuel) ≡ skip (tree_of (next_given len2 l) dft fuel)
  unfolding next_given
  next_tree len2 l dft fuel =
      let k = cols g some_columns in
      let f = w.some (omega arith) in
      tree_skip g [] cur vis k.k None k.rest k.is k.there none_real (plain k.k) refl stays refl refl len2 l dft fuel f.0 f.1 f.2

  next_blank : Blank rows n s cur (ncols - 1) b
  next_blank = record { most = omega (arith, w.most); virt = λ r l e. omega (arith, w.virt r l e); some = λ l. w.some (omega arith) }

-- less room, and the numbers as they are then
less_room : {t a rows : List ℕ} {n : ℕ} {s cur vis : List ℕ} {ncols vn base len : ℕ} → Given t a rows n s cur vis ncols vn base len → (len2 : ℕ) → len2 ≤ len → Given t a rows n s cur vis ncols vn base len2
less_room g len2 l = record {
  known = g.known;
  ok = g.ok;
  few = g.few;
  cursors = g.cursors;
  visits = g.visits;
  low = g.low;
  ks = g.ks;
  f = g.f;
  kinds = g.kinds;
  state = g.state;
  columns = g.columns;
  ncols_fit = omega (arith, g.ncols_fit);
  visits_fit = omega (arith, g.visits_fit);
  links_fit = omega (arith, g.links_fit);
}

less_tree : {t a rows : List ℕ} {n : ℕ} {s cur vis : List ℕ} {ncols vn base len : ℕ} (g : Given t a rows n s cur vis ncols vn base len) (len2 : ℕ) (l : len2 ≤ len) (dft fuel : ℕ) → tree_of g dft fuel ≡ tree_of (less_room g len2 l) dft fuel
unfolding less_room
less_tree g len2 l dft fuel = refl

-- what is given behind b such columns
pub record Behind {t a rows : List ℕ} {n : ℕ} {s cur vis : List ℕ} {ncols vn base len : ℕ} (g : Given t a rows n s cur vis ncols vn base len) (b nc v' base' len2 : ℕ) : Type 0 where
  pub given : Given t a rows n s cur vis nc v' base' len2
  pub tree : (dft fuel : ℕ) → tree_of g dft (b + fuel) ≡ skipped b (tree_of given dft fuel)

pub behind : (b : ℕ) {t a rows : List ℕ} {n : ℕ} {s cur vis : List ℕ} {ncols vn base len : ℕ} (g : Given t a rows n s cur vis ncols vn base len) (nc v' base' len2 : ℕ) → nc + b ≡ ncols → vn + b ≡ v' → base + b ≡ base' → len2 + b ≤ len → Blank rows n s cur ncols b → Behind g b nc v' base' len2
behind zero {ncols = ncols} {vn = vn} {base = base} g nc v' base' len2 e f h l w =
    let e0 : nc ≡ ncols = omega arith in
    let f0 : v' ≡ vn = omega arith in
    let h0 : base' ≡ base = omega arith in
    rw (e0, f0, h0) (record { given = less_room g len2 (omega arith); tree = λ dft fuel. rw (zero-add fuel) (less_tree g len2 (omega arith) dft fuel) })
behind (suc b) {len = len} g nc v' base' len2 e f h l w =
    let g1 = next_given g b w (len - 1) (omega arith) in
    let r = behind b g1 nc v' base' len2 (omega arith) (omega arith) (omega arith) (omega arith) (next_blank g b w) in
    record { given = r.given; tree = λ dft fuel. ap (tree_of g dft) (suc-add b fuel) ∙ next_tree g b w (len - 1) (omega arith) dft (b + fuel) ∙ ap skip (r.tree dft fuel) }

-- what the node has written

-- a part of such columns
fewer : {rows : List ℕ} {n : ℕ} {s cur : List ℕ} {ncols b : ℕ} (c : ℕ) → Blank rows n s cur ncols b → c ≤ b → Blank rows n s cur ncols c
fewer c w l = record { most = omega (arith, w.most); virt = λ r i e. omega (arith, w.virt r i e); some = λ i. w.some (omega arith) }

-- the part behind the words of b skips
module _ (b : ℕ) (o o1 : List ℕ) (l : b ≤ length o) (e : o1 ≡ replicate b 3 ++ drop b o) where
  part_is : take (length o1 - b) (drop b o1) ≡ drop b o
  part_is = take_all (length o1 - b) (drop b o1) (omega (arith, length-drop b o1)) ∙ ap (drop b) e ∙ drop_at (replicate b 3) (drop b o) b (length-replicate b 3)

  part_long : length (take (length o1 - b) (drop b o1)) + b ≡ length o
  part_long = omega (arith, ap length part_is, length-drop b o)

  back_is : (ys : List ℕ) → take b o1 ++ (ys ++ drop (length o1 - b) (drop b o1)) ≡ replicate b 3 ++ ys
  back_is ys =
      ap₂ (λ (x y : List ℕ). x ++ (ys ++ y)) (ap (take b) e ∙ take_at (replicate b 3) (drop b o) b (length-replicate b 3)) (drop_of_length-le (drop b o1) {i = length o1 - b} (omega (arith, length-drop b o1)))
      ∙ ap (λ (z : List ℕ). replicate b 3 ++ z) (append-nil ys)

module _ {t a rows : List ℕ} {n : ℕ} {s cur vis : List ℕ} {ncols vn base : ℕ} (o : List ℕ) (g : Given t a rows n s cur vis ncols vn base (length o)) (b : ℕ) (w : Blank rows n s cur ncols b) where
  abbrev dft : ℕ
  dft = default_in rows

  pub blank_short : (fuel : ℕ) → length o < fuel → length o < b → Wrote (tree_of g dft fuel) base (length o + 1) o o
  blank_short fuel f l =
      let h = behind (length o) g (ncols - length o) (vn + length o) (base + length o) 0 (omega (arith, w.most)) refl refl (omega arith) (fewer (length o) w (omega arith)) in
      let T = tree_of h.given dft (fuel - length o) in
      let e : length o + (fuel - length o) ≡ fuel = omega arith in
      let q : tree_of g dft fuel ≡ skipped (length o) T = ap (tree_of g dft) (sym e) ∙ h.tree dft (fuel - length o) in
      let m : words (tree_of g dft fuel) ≡ length o + words T = ap words q ∙ skipped_words (length o) T in
      record { much = omega (arith, m, some_word T); wrote = λ i. absurd (omega (arith, m, some_word T)) }

  module _ (o1 : List ℕ) (l : b ≤ length o) (e : o1 ≡ replicate b 3 ++ drop b o) where
    there : Behind g b (ncols - b) (vn + b) (base + b) (length (take (length o1 - b) (drop b o1)))
    there = behind b g (ncols - b) (vn + b) (base + b) (length (take (length o1 - b) (drop b o1))) (omega (arith, w.most)) refl refl (omega (arith, part_long b o o1 l e)) w

    pub blank_given : Given t a rows n s cur vis (ncols - b) (vn + b) (base + b) (length (take (length o1 - b) (drop b o1)))
    blank_given = there.given

    module _ (u : ℕ) (ys : List ℕ) (call : (g2 : Given t a rows n s cur vis (ncols - b) (vn + b) (base + b) (length (take (length o1 - b) (drop b o1)))) (f2 : ℕ) → length (take (length o1 - b) (drop b o1)) < f2 → Wrote (tree_of g2 dft f2) (base + b) u (take (length o1 - b) (drop b o1)) ys) where
      pub blank_most : b + u ≤ suc (length o)
      blank_most = omega (arith, (call there.given (suc (length (take (length o1 - b) (drop b o1)))) (omega arith)).much, part_long b o o1 l e)

      pub blank_wrote : (fuel : ℕ) → length o < fuel → Wrote (tree_of g dft fuel) base (b + u) o (take b o1 ++ (ys ++ drop (length o1 - b) (drop b o1)))
      blank_wrote fuel f =
          let h = there in
          let T = tree_of h.given dft (fuel - b) in
          let i : b + (fuel - b) ≡ fuel = omega arith in
          let q : tree_of g dft fuel ≡ skipped b T = ap (tree_of g dft) (sym i) ∙ h.tree dft (fuel - b) in
          let v : Wrote T (base + b) u (drop b o) ys = subst (λ (z : List ℕ). Wrote T (base + b) u z ys) (part_is b o o1 l e) (call h.given (fuel - b) (omega (arith, part_long b o o1 l e))) in
          rw (q, back_is b o o1 l e ys) (wrote_skipped T b base u o ys l v)
