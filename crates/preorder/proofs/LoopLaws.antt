-- What a node has written after each of its children.
use mathlib.Core.Path.{◌≡◌, refl, sym, ap, subst, ◌∙◌}
use mathlib.Core.List.{List, [], ◌∷◌, ◌++◌, map}
use Prim.Native.Nat.{ℕ, ◌+◌, ◌-◌, ◌≤◌, ◌<◌}
use native.Mathlib.Omega.{arith}
use lib.Dec.{eqb}
use lib.ListN.{length, get_or, drop, take, set, length-drop}
use lib.Seq.{length-take-le}
use Rattle.signature.specs.Decoded.{first_of, count_of, head_arity}
use Rattle.signature.specs.Limits.{level_base}
use Rattle.signature.proofs.KnownFacts.{number_first}
use Rattle.sets.specs.Set.{members}
use Rattle.tree.proofs.RunFacts.{some_word}
use Rattle.tree.specs.Tree.{Tree, branch, children}
use Rattle.tree.specs.Words.{words, words_all}
use Rattle.rowset.specs.Member.{member}
use Rattle.path.specs.State.{Kept, kept_of, default_in}
use Rattle.path.specs.Wrote.{Wrote}
use Rattle.preorder.specs.Front.{heads_in, front_of, front_length}
use Rattle.preorder.specs.Node.{Given, Branching, tree_of, child_of, branch_of}
use Rattle.preorder.proofs.ChildLaws.{AreHeads, kind_there, child_given, child_tree}
use Rattle.preorder.proofs.ChildrenLaws.{Part, part_none, part_more, part_all}
use Rattle.preorder.proofs.EndsLaws.{heads_branches}
use Rattle.preorder.proofs.FrontLaws.{Node, node_of, front_long}
use Rattle.preorder.proofs.HeadsLaws.{count_heads, count_members}

module _ {t a rows : List ℕ} {n : ℕ} {s re cur vis : List ℕ} {ncols vn base len k : ℕ} (b : Branching t a rows n s re cur vis ncols vn base len k) where
  abbrev dft : ℕ
  dft = default_in rows

  pub branch_node : (fuel f all : ℕ) → f ≡ first_of t k → AreHeads b all → Node (branch_of b dft fuel) (front_of f all) (heads_in f all) (child_of b dft fuel)
  branch_node fuel f all e h =
      let g = b.given.known in
      let there = kind_there b in
      subst (λ es. Node (branch g.sig k es (children (child_of b dft fuel) es)) (front_of f all) (heads_in f all) (child_of b dft fuel)) (ap (λ (x : ℕ). heads_in x all) e ∙ heads_branches b there all h)
      (node_of g.sig k f all (child_of b dft fuel) (e ∙ g.decoded.first_head k there) (number_first g k there ∙ ap (λ (x : ℕ). eqb x level_base) (sym e)))

  pub short_result : (fuel f all m : ℕ) (o : List ℕ) → f ≡ first_of t k → AreHeads b all → m ≡ length (members all) → length o < front_length f m + m → Wrote (branch_of b dft fuel) base (length o + 1) o o
  short_result fuel f all m o e h em l =
      let nd = branch_node fuel f all e h in
      let q : length o < words (branch_of b dft fuel) = omega (arith, nd.words_are, ap (front_length f) em, front_long f all, count_members f all) in
      record { much = omega arith; wrote = λ w. absurd (omega arith) }

  child_wrote : (x curj visj z ys : List ℕ) (j at u fuel wc : ℕ) → wc ≡ ncols - 1 + head_arity t (first_of t k + j) → curj ≡ cur → j < count_of t k → ((r : ℕ) → r < n → member x r ≡ kept_of a rows (member s) (member re) curj j r) → Kept n cur vis visj → length visj ≡ length vis
      → 1 ≤ at → length z + at ≤ len → length z < fuel
      → ((g2 : Given t a rows n x curj visj wc (vn + 1) (base + at) (length z)) (f2 : ℕ) → length z < f2 → Wrote (tree_of g2 dft f2) (base + at) u z ys)
      → Wrote (child_of b dft fuel (first_of t k + j)) (base + at) u z ys
  child_wrote x curj visj z ys j at u fuel wc ew e h m kv lv l1 l2 f call =
      let m2 : (r : ℕ) → r < n → member x r ≡ kept_of a rows (member s) (member re) cur j r = λ r i. m r i ∙ ap (λ (y : List ℕ). kept_of a rows (member s) (member re) y j r) e in
      subst (λ (T : Tree). Wrote T (base + at) u z ys) (child_tree b j h x curj visj at e m2 kv lv (length z) l1 l2 dft fuel) (subst (λ (y : ℕ). (g2 : Given t a rows n x curj visj y (vn + 1) (base + at) (length z)) (f2 : ℕ) → length z < f2 → Wrote (tree_of g2 dft f2) (base + at) u z ys) ew call (child_given b j h x curj visj at e m2 kv lv (length z) l1 l2) fuel f)

  pub given_child : (x curj visj z : List ℕ) (j at wc : ℕ) → wc ≡ ncols - 1 + head_arity t (first_of t k + j) → curj ≡ cur → j < count_of t k → ((r : ℕ) → r < n → member x r ≡ kept_of a rows (member s) (member re) curj j r) → Kept n cur vis visj → length visj ≡ length vis
      → 1 ≤ at → length z + at ≤ len → Given t a rows n x curj visj wc (vn + 1) (base + at) (length z)
  given_child x curj visj z j at wc ew e h m kv lv l1 l2 = rw ew (child_given b j h x curj visj at e (λ r i. m r i ∙ ap (λ (y : List ℕ). kept_of a rows (member s) (member re) y j r) e) kv lv (length z) l1 l2)

  -- a step of the loop: the head number h has its child, the others are left
  module _ (x curj visj o₀ o ys : List ℕ) (f all left : ℕ) (others : List ℕ) (h j at u wc : ℕ) (ef : f ≡ first_of t k) (ew : wc ≡ ncols - 1 + head_arity t (first_of t k + h)) (ec : curj ≡ cur) (small : h < count_of t k)
      (m : (r : ℕ) → r < n → member x r ≡ kept_of a rows (member s) (member re) curj h r) (kv : Kept n cur vis visj) (lv : length visj ≡ length vis) (fits : at ≤ length o) (long : length o ≡ len) (eq : members left ≡ h ∷ others) where
    abbrev Room : List ℕ
    Room = take (length o - at) (drop at o)

    abbrev Called : Type 0
    Called = (g2 : Given t a rows n x curj visj wc (vn + 1) (base + at) (length Room)) (f2 : ℕ) → length Room < f2 → Wrote (tree_of g2 dft f2) (base + at) u Room ys

    room_long : length Room ≡ length o - at
    room_long = length-take-le (length o - at) (drop at o) (simp length-drop (omega arith))

    wrote : (fuel : ℕ) → len ≤ fuel → 1 ≤ at → Called → Wrote (child_of b dft fuel (f + h)) (base + at) u Room ys
    wrote fuel l l1 call = rw ef (child_wrote x curj visj Room ys h at u fuel wc ew ec small m kv lv l1 (omega (arith, room_long)) (omega (arith, room_long)) call)

    pub child_more : (fuel front : ℕ) → front ≡ length (front_of f all) → len ≤ fuel → 1 ≤ at → Called → Part base (front_of f all) (heads_in f all) (heads_in f left) (child_of b dft fuel) o₀ o at j → j + length (members left) ≡ length (members all) → u ≤ length o - at
        → Part base (front_of f all) (heads_in f all) (map (λ i. f + i) others) (child_of b dft fuel) o₀ (set (take at o ++ (ys ++ drop (length o - at) (drop at o))) (front + j) (base + at)) (at + u) (j + 1)
    child_more fuel front efr l l1 call p cnt hu =
        let v = wrote fuel l l1 call in
        rw efr (part_more base (front_of f all) (heads_in f all) (map (λ i. f + i) others) (f + h) (child_of b dft fuel) o₀ o ys at j u (omega (arith, cnt, ap length eq, count_heads f others, count_members f all)) (subst (λ ms. Part base (front_of f all) (heads_in f all) (map (λ i. f + i) ms) (child_of b dft fuel) o₀ o at j) eq p) (omega (arith, v.much, room_long)) (v.wrote (omega (arith, v.much, room_long))))

    pub long_result : (e2 o2 : List ℕ) (fuel : ℕ) → AreHeads b all → len ≤ fuel → 1 ≤ at → length e2 ≡ len → Called → Part base (front_of f all) (heads_in f all) (heads_in f left) (child_of b dft fuel) o₀ o at j → length o - at < u
        → (q : ℕ) → q ≡ len → Wrote (branch_of b dft fuel) base (q + 1) e2 o2
    long_result e2 o2 fuel hs l l1 le call p hu q qe =
        let v = wrote fuel l l1 call in
        let nd = branch_node fuel f all ef hs in
        let wr : words_all (children (child_of b dft fuel) (heads_in f left)) ≡ words (child_of b dft fuel (f + h)) + words_all (children (child_of b dft fuel) (map (λ i. f + i) others)) = ap (λ ms. words_all (children (child_of b dft fuel) (map (λ i. f + i) ms))) eq in
        record { much = omega (arith, v.much, p.total, nd.words_are, wr, room_long); wrote = λ y. absurd (omega (arith, v.much, p.total, nd.words_are, wr, room_long)) }

    pub child_pos : 1 ≤ at → Called → 1 ≤ u
    child_pos l1 call = let v = wrote len (omega arith) l1 call in omega (arith, v.much, some_word (child_of b dft len (f + h)))

  -- the loop's first and last part

  pub front_is : (f all m front : ℕ) → m ≡ length (members all) → front ≡ front_length f m → front ≡ length (front_of f all)
  front_is f all m front em ef = ef ∙ ap (front_length f) em ∙ sym (front_long f all)

  pub node_start : (fuel f all m front : ℕ) (e o : List ℕ) → m ≡ length (members all) → front ≡ front_length f m → front_length f m + m ≤ length e → o ≡ front_of f all ++ drop (front_length f m) e → Part base (front_of f all) (heads_in f all) (heads_in f all) (child_of b dft fuel) o o (front + m) 0
  node_start fuel f all m front e o em efr l eo =
      let fl : length (front_of f all) ≡ front_length f m = front_long f all ∙ ap (front_length f) (sym em) in
      let hl : length (heads_in f all) ≡ m = count_members f all ∙ sym em in
      let at : length (front_of f all) + length (heads_in f all) ≡ front_length f m + m = omega arith in
      rw (efr, eo, ← at) (part_none base (front_of f all) (heads_in f all) (child_of b dft fuel) (drop (front_length f m) e) (simp length-drop (omega arith)))

  pub node_end : (fuel f all left m : ℕ) (e o₀ o : List ℕ) (at j : ℕ) → f ≡ first_of t k → AreHeads b all → m ≡ length (members all) → o₀ ≡ front_of f all ++ drop (front_length f m) e → length (members left) ≡ 0 → at ≤ length e → Part base (front_of f all) (heads_in f all) (heads_in f left) (child_of b dft fuel) o₀ o at j → Wrote (branch_of b dft fuel) base at e o
  node_end fuel f all left m e o₀ o at j ef hs em eo z l p =
      let fl : front_length f m ≡ length (front_of f all) = sym (front_long f all ∙ ap (front_length f) (sym em)) in
      part_all (branch_of b dft fuel) base (front_of f all) (heads_in f all) (child_of b dft fuel) e o₀ o at j (branch_node fuel f all ef hs) (eo ∙ ap (λ (n : ℕ). front_of f all ++ drop n e) fl) l (subst (λ ms. Part base (front_of f all) (heads_in f all) (map (λ i. f + i) ms) (child_of b dft fuel) o₀ o at j) (none (members left) z) p)
    where
      none : (xs : List ℕ) → length xs ≡ 0 → xs ≡ []
      none [] q = refl
      none (y ∷ xs) q = absurd (omega arith)

pub width : (t : List ℕ) (ncols k j f w : ℕ) → f ≡ first_of t k → w ≡ head_arity t (f + j) → ncols - 1 + w ≡ ncols - 1 + head_arity t (first_of t k + j)
width t ncols k j f w e h = ap (λ (z : ℕ). ncols - 1 + z) (h ∙ ap (λ (z : ℕ). head_arity t (z + j)) e)

pub kept_trans : (n : ℕ) (cur curj vis visj vis3 : List ℕ) → curj ≡ cur → Kept n cur vis visj → Kept n curj visj vis3 → Kept n cur vis vis3
kept_trans n cur curj vis visj vis3 e u v r q h l = v r q h (omega (arith, ap (λ (z : List ℕ). get_or z r 0) e)) ∙ u r q h l
