-- Two rows column by column as one.
use borrow.Author.Tests.{eq-eqb, lt-ltb, le-ltb}
use mathlib.Core.Path.{◌≡◌, refl, ap, ◌∙◌, sym}
use mathlib.Core.List.{List, [], ◌∷◌, ◌++◌}
use mathlib.Core.Option.{Option, some, none}
use Prim.Native.Nat.{ℕ, ◌<◌, ◌≤◌, min, ◌-◌, ◌+◌, suc}
use native.Mathlib.Omega.{arith}
use lib.Bits.{bit_and, and_comm, bit_or, or_zero_r, or_zero_l}
use lib.ListN.{length, replicate, length-append, length-replicate}
use lib.Pow.{pow_pos}
use Rattle.signature.specs.Decoded.{decoded_length}
use Rattle.cell.specs.Cell.{words, Kinds, RowsCells, no_cells, more_cells, all_words, named_cells, free_cell, RowCells, cell_code}
use Rattle.cell.specs.Cursor.{opens_of, join_of, cell_of}
use Rattle.cell.proofs.CellFacts.{Col, wild, real, then, both, Of, Head, Ofs, reals, boths, enter, column_cell, Free, flat}
use Rattle.cell.proofs.Columns.{wide, Tagged}
use Rattle.cell.proofs.CursorFacts.{cell_words, joined_heads, joined_words}
use Rattle.cell.proofs.Gates.{then_assoc, gate_some, same_cell, pos_zero}
use Rattle.sets.specs.Heads.{number_of}
use Rattle.sets.specs.Set.{all_set}
use Rattle.sets.proofs.ListSets.{among_all, powers_meet}

-- the words of the columns as one; where a side has no cell, the other's
abbrev pub meet : List Col → List Col → Option (List ℕ)
meet [] [] = some []
meet [] (y ∷ ys) = none
meet (x ∷ xs) [] = none
meet (wild ∷ xs) (wild ∷ ys) = none
meet (wild ∷ xs) (real s ∷ ys) = then (some (words s)) (meet xs ys)
meet (real r ∷ xs) (wild ∷ ys) = then (some (words r)) (meet xs ys)
meet (real r ∷ xs) (real s ∷ ys) = then (both r s) (meet xs ys)

module _ (K : Kinds) (ar : List ℕ) where
  -- column by column of one kind, and a row on one side at least
  abbrev pub Pair : List Col → List Col → Type 0
  Pair [] [] = Unit {0}
  Pair [] (y ∷ ys) = ⊥
  Pair (x ∷ xs) [] = ⊥
  Pair (wild ∷ xs) (wild ∷ ys) = ⊥
  Pair (wild ∷ xs) (real s ∷ ys) = (k : ℕ) × Of K ar s k × Pair xs ys
  Pair (real r ∷ xs) (wild ∷ ys) = (k : ℕ) × Of K ar r k × Pair xs ys
  Pair (real r ∷ xs) (real s ∷ ys) = (k : ℕ) × Of K ar r k × Of K ar s k × Pair xs ys

-- what the cells open
pub then_nil : (m : Option (List ℕ)) → then (some []) m ≡ m
then_nil none = refl
then_nil (some u) = refl

module _ (K : Kinds) (ar : List ℕ) where
  opens_named : (k c m : ℕ) → Head K ar k c m → opens_of ar c ≡ length (K.args c)
  opens_named k c m h = rw (lt-ltb c 256 h.tag) h.arity

  opens_free : (t : ℕ) → 256 ≤ t → opens_of ar t ≡ 0
  opens_free t h = rw (le-ltb t 256 h)

  kids_both : (rs ss : RowsCells) (ks : List ℕ) (xs ys : List Col) → Ofs K ar rs ks → Ofs K ar ss ks → Pair K ar xs ys
      → Pair K ar (reals rs ++ xs) (reals ss ++ ys) × (meet (reals rs ++ xs) (reals ss ++ ys) ≡ then (boths rs ss) (meet xs ys))
  kids_both no_cells no_cells ks xs ys o q p = (p, sym (then_nil (meet xs ys)))
  kids_both no_cells (more_cells s ss) [] xs ys o q p = absurd q
  kids_both no_cells (more_cells s ss) (k ∷ ks) xs ys o q p = absurd o
  kids_both (more_cells r rs) no_cells [] xs ys o q p = absurd o
  kids_both (more_cells r rs) no_cells (k ∷ ks) xs ys o q p = absurd q
  kids_both (more_cells r rs) (more_cells s ss) [] xs ys o q p = absurd o
  kids_both (more_cells r rs) (more_cells s ss) (k ∷ ks) xs ys o q p =
      let i = kids_both rs ss ks xs ys o.1 q.1 p in
      ((k, o.0, q.0, i.0), ap (then (both r s)) i.1 ∙ sym (then_assoc (both r s) (boths rs ss) (meet xs ys)))

  kids_left : (rs : RowsCells) (ks : List ℕ) (xs ys : List Col) → Ofs K ar rs ks → Pair K ar xs ys
      → Pair K ar (reals rs ++ xs) (replicate (length ks) wild ++ ys) × (meet (reals rs ++ xs) (replicate (length ks) wild ++ ys) ≡ then (some (all_words rs)) (meet xs ys))
  kids_left no_cells [] xs ys o p = (p, sym (then_nil (meet xs ys)))
  kids_left no_cells (k ∷ ks) xs ys o p = absurd o
  kids_left (more_cells r rs) [] xs ys o p = absurd o
  kids_left (more_cells r rs) (k ∷ ks) xs ys o p =
      let i = kids_left rs ks xs ys o.1 p in
      ((k, o.0, i.0), ap (then (some (words r))) i.1 ∙ sym (then_assoc (some (words r)) (some (all_words rs)) (meet xs ys)))

  kids_right : (ss : RowsCells) (ks : List ℕ) (xs ys : List Col) → Ofs K ar ss ks → Pair K ar xs ys
      → Pair K ar (replicate (length ks) wild ++ xs) (reals ss ++ ys) × (meet (replicate (length ks) wild ++ xs) (reals ss ++ ys) ≡ then (some (all_words ss)) (meet xs ys))
  kids_right no_cells [] xs ys o p = (p, sym (then_nil (meet xs ys)))
  kids_right no_cells (k ∷ ks) xs ys o p = absurd o
  kids_right (more_cells s ss) [] xs ys o p = absurd o
  kids_right (more_cells s ss) (k ∷ ks) xs ys o p =
      let i = kids_right ss ks xs ys o.1 p in
      ((k, o.0, i.0), ap (then (some (words s))) i.1 ∙ sym (then_assoc (some (words s)) (some (all_words ss)) (meet xs ys)))

  -- a turn: the first columns' cell, then the rest
  pub record Turn (x y : Col) (xs ys : List Col) (n : ℕ) : Type 0 where
    pub pair : Pair K ar (enter x n ++ xs) (enter y n ++ ys)
    pub same : meet (x ∷ xs) (y ∷ ys) ≡ then (some (cell_words (join_of (column_cell x) (column_cell y)))) (meet (enter x n ++ xs) (enter y n ++ ys))

-- one head, and the words of what stands below it on one side only
one_side : (c v m : ℕ) (w : List ℕ) (M N : Option (List ℕ)) → N ≡ then (some w) M → then (some (cell_code c v m ++ w)) M ≡ then (some (cell_code c v m)) N
one_side c v m w M N e = rw e (then_assoc (some (cell_code c v m)) (some w) M)

-- the words of two cells as one
as_joined : (t v m u w p : ℕ) (L M : Option (List ℕ)) → L ≡ then (some (cell_code (min t u) (bit_or v w) (bit_and m p))) M → L ≡ then (some (cell_words (join_of (cell_of t v m) (cell_of u w p)))) M
as_joined t v m u w p L M e = e ∙ ap (λ (z : List ℕ). then (some z) M) (sym (joined_words t v m u w p))

some_heads : (t v m u w p : ℕ) → ¬ (number_of (join_of (cell_of t v m) (cell_of u w p)).allowed ≡ 0) → ¬ (bit_and m p ≡ 0)
some_heads t v m u w p a e = a (joined_heads t v m u w p ∙ e)

no_heads : (t v m u w p : ℕ) → number_of (join_of (cell_of t v m) (cell_of u w p)).allowed ≡ 0 → bit_and m p ≡ 0
no_heads t v m u w p a = sym (joined_heads t v m u w p) ∙ a

module _ (K : Kinds) (ar : List ℕ) where
  -- two one-bit sets of a kind that meet are one constructor's
  same_head : (k c m d p : ℕ) → Head K ar k c m → Head K ar k d p → ¬ (bit_and m p ≡ 0) → (c ≡ d) × (min c d ≡ c)
  same_head k c m d p h g a =
      let e : c - K.first k ≡ d - K.first k = powers_meet (c - K.first k) (d - K.first k) (rw (h.set, g.set) at a) in
      omega (arith, e, h.low, g.low)

  turn_nn : (k c v m d w p n : ℕ) (rs ss : RowsCells) (xs ys : List Col) → Head K ar k c m → Head K ar k d p → Ofs K ar rs (K.args c) → Ofs K ar ss (K.args d) → Pair K ar xs ys
      → ¬ (bit_and m p ≡ 0) → Turn K ar (real (named_cells c v m rs)) (real (named_cells d w p ss)) xs ys n
  turn_nn k c v m d w p n rs ss xs ys h g o q r a =
      let same : c ≡ d = (same_head k c m d p h g a).0 in
      let t : min c d ≡ c = (same_head k c m d p h g a).1 in
      let i = kids_both K ar rs ss (K.args c) xs ys o (rw (← same) at q) r in
      record {
        pair = i.0;
        same = as_joined c v m d w p _ (meet (reals rs ++ xs) (reals ss ++ ys)) (rw (t, gate_some (bit_and m p) (then (some (cell_code c (bit_or v w) (bit_and m p))) (boths rs ss)) a, i.1)
            (then_assoc (some (cell_code c (bit_or v w) (bit_and m p))) (boths rs ss) (meet xs ys)));
      }

  -- named on the left, not on the right
  turn_nf : (k c v m t w p n : ℕ) (rs : RowsCells) (xs ys : List Col) → Head K ar k c m → 256 ≤ t → Ofs K ar rs (K.args c) → Pair K ar xs ys
      → n ≡ opens_of ar (min c t) → ¬ (bit_and m p ≡ 0) → Turn K ar (real (named_cells c v m rs)) (real (free_cell t w p)) xs ys n
  turn_nf k c v m t w p n rs xs ys h f o r e a =
      let q : min c t ≡ c = omega (arith, h.tag) in
      let l : n ≡ length (K.args c) = e ∙ ap (opens_of ar) q ∙ opens_named K ar k c m h in
      let i = kids_left K ar rs (K.args c) xs ys o r in
      record {
        pair = rw l i.0;
        same = rw l (as_joined c v m t w p _ (meet (reals rs ++ xs) (replicate (length (K.args c)) wild ++ ys)) (rw (q, gate_some (bit_and m p) (some (cell_code c (bit_or v w) (bit_and m p) ++ all_words rs)) a) (one_side c (bit_or v w) (bit_and m p) (all_words rs) (meet xs ys) _ i.1)));
      }

  turn_fn : (k t v m d w p n : ℕ) (ss : RowsCells) (xs ys : List Col) → Head K ar k d p → 256 ≤ t → Ofs K ar ss (K.args d) → Pair K ar xs ys
      → n ≡ opens_of ar (min t d) → ¬ (bit_and m p ≡ 0) → Turn K ar (real (free_cell t v m)) (real (named_cells d w p ss)) xs ys n
  turn_fn k t v m d w p n ss xs ys h f o r e a =
      let q : min t d ≡ d = omega (arith, h.tag) in
      let l : n ≡ length (K.args d) = e ∙ ap (opens_of ar) q ∙ opens_named K ar k d p h in
      let i = kids_right K ar ss (K.args d) xs ys o r in
      record {
        pair = rw l i.0;
        same = rw l (as_joined t v m d w p _ (meet (replicate (length (K.args d)) wild ++ xs) (reals ss ++ ys)) (rw (q, gate_some (bit_and m p) (some (cell_code d (bit_or v w) (bit_and m p) ++ all_words ss)) a) (one_side d (bit_or v w) (bit_and m p) (all_words ss) (meet xs ys) _ i.1)));
      }

  turn_ff : (t v m u w p n : ℕ) (xs ys : List Col) → 256 ≤ t → t ≡ u → Pair K ar xs ys
      → n ≡ opens_of ar (min t u) → ¬ (bit_and m p ≡ 0) → Turn K ar (real (free_cell t v m)) (real (free_cell u w p)) xs ys n
  turn_ff t v m u w p n xs ys f g r e a =
      let q : min t u ≡ t = omega arith in
      let l : n ≡ 0 = e ∙ ap (opens_of ar) q ∙ opens_free K ar t f in
      record {
        pair = rw l r;
        same = rw l (as_joined t v m u w p _ (meet xs ys)
            (ap (λ (o : Option (List ℕ)). then o (meet xs ys)) (gate_some (bit_and m p) (some (cell_code t (bit_or v w) (bit_and m p))) a)
            ∙ ap (λ (z : ℕ). then (some (cell_code z (bit_or v w) (bit_and m p))) (meet xs ys)) (sym q)));
      }

  -- no cell on the right
  turn_nw : (k c v m n : ℕ) (rs : RowsCells) (xs ys : List Col) → Head K ar k c m → Ofs K ar rs (K.args c) → Pair K ar xs ys
      → n ≡ opens_of ar (min c 512) → Turn K ar (real (named_cells c v m rs)) wild xs ys n
  turn_nw k c v m n rs xs ys h o r e =
      let q : min c 512 ≡ c = omega (arith, h.tag) in
      let l : n ≡ length (K.args c) = e ∙ ap (opens_of ar) q ∙ opens_named K ar k c m h in
      let i = kids_left K ar rs (K.args c) xs ys o r in
      record {
        pair = rw l i.0;
        same = rw l (as_joined c v m 512 0 all_set _ (meet (reals rs ++ xs) (replicate (length (K.args c)) wild ++ ys)) (rw (q, or_zero_r v, among_all m h.fits) (one_side c v m (all_words rs) (meet xs ys) _ i.1)));
      }

  turn_fw : (k t v m n : ℕ) (xs ys : List Col) → Free k t m → Pair K ar xs ys → n ≡ opens_of ar (min t 512) → Turn K ar (real (free_cell t v m)) wild xs ys n
  turn_fw k t v m n xs ys f r e =
      let q : min t 512 ≡ t = omega (arith, f.tag, f.kind) in
      let l : n ≡ 0 = e ∙ ap (opens_of ar) q ∙ opens_free K ar t (omega (arith, f.tag)) in
      record {
        pair = rw l r;
        same = rw l (as_joined t v m 512 0 all_set _ (meet xs ys) (ap (λ (z : List ℕ). then (some z) (meet xs ys)) (sym (same_cell q (or_zero_r v) (among_all m f.fits)))));
      }

  -- no cell on the left
  turn_wn : (k d w p n : ℕ) (ss : RowsCells) (xs ys : List Col) → Head K ar k d p → Ofs K ar ss (K.args d) → Pair K ar xs ys
      → n ≡ opens_of ar (min 512 d) → Turn K ar wild (real (named_cells d w p ss)) xs ys n
  turn_wn k d w p n ss xs ys h o r e =
      let q : min 512 d ≡ d = omega (arith, h.tag) in
      let l : n ≡ length (K.args d) = e ∙ ap (opens_of ar) q ∙ opens_named K ar k d p h in
      let i = kids_right K ar ss (K.args d) xs ys o r in
      record {
        pair = rw l i.0;
        same = rw l (as_joined 512 0 all_set d w p _ (meet (replicate (length (K.args d)) wild ++ xs) (reals ss ++ ys)) (rw (q, or_zero_l w, and_comm all_set p, among_all p h.fits) (one_side d w p (all_words ss) (meet xs ys) _ i.1)));
      }

  turn_wf : (k u w p n : ℕ) (xs ys : List Col) → Free k u p → Pair K ar xs ys → n ≡ opens_of ar (min 512 u) → Turn K ar wild (real (free_cell u w p)) xs ys n
  turn_wf k u w p n xs ys f r e =
      let q : min 512 u ≡ u = omega (arith, f.tag, f.kind) in
      let l : n ≡ 0 = e ∙ ap (opens_of ar) q ∙ opens_free K ar u (omega (arith, f.tag)) in
      record {
        pair = rw l r;
        same = rw l (as_joined 512 0 all_set u w p _ (meet xs ys) (ap (λ (z : List ℕ). then (some z) (meet xs ys)) (sym (same_cell q (or_zero_l w) (and_comm all_set p ∙ among_all p f.fits)))));
      }

  pub turn : (x y : Col) (xs ys : List Col) (n : ℕ) → Pair K ar (x ∷ xs) (y ∷ ys) → n ≡ opens_of ar (join_of (column_cell x) (column_cell y)).tag
      → ¬ (number_of (join_of (column_cell x) (column_cell y)).allowed ≡ 0) → Turn K ar x y xs ys n
  turn wild wild xs ys n p e a = absurd p
  turn wild (real (named_cells d w q ss)) xs ys n p e a = turn_wn p.0 d w q n ss xs ys p.1.0 p.1.1 p.2 e
  turn wild (real (free_cell u w q)) xs ys n p e a = turn_wf p.0 u w q n xs ys p.1 p.2 e
  turn (real (named_cells c v m rs)) wild xs ys n p e a = turn_nw p.0 c v m n rs xs ys p.1.0 p.1.1 p.2 e
  turn (real (free_cell t v m)) wild xs ys n p e a = turn_fw p.0 t v m n xs ys p.1 p.2 e
  turn (real (named_cells c v m rs)) (real (named_cells d w q ss)) xs ys n p e a =
      turn_nn p.0 c v m d w q n rs ss xs ys p.1.0 p.2.0 p.1.1 p.2.1 p.3 (some_heads c v m d w q a)
  turn (real (named_cells c v m rs)) (real (free_cell u w q)) xs ys n p e a =
      turn_nf p.0 c v m u w q n rs xs ys p.1.0 (omega (arith, p.2.tag)) p.1.1 p.3 e (some_heads c v m u w q a)
  turn (real (free_cell t v m)) (real (named_cells d w q ss)) xs ys n p e a =
      turn_fn p.0 t v m d w q n ss xs ys p.2.0 (omega (arith, p.1.tag)) p.2.1 p.3 e (some_heads t v m d w q a)
  turn (real (free_cell t v m)) (real (free_cell u w q)) xs ys n p e a =
      turn_ff t v m u w q n xs ys (omega (arith, p.1.tag)) (omega (arith, p.1.tag, p.2.tag)) p.3 e (some_heads t v m u w q a)

  -- an empty set drops the row
  pos_pow : (k c m : ℕ) → Head K ar k c m → 0 < m
  pos_pow k c m h = rw h.set (pow_pos (c - K.first k))

  pub dropped : (x y : Col) (xs ys : List Col) → Pair K ar (x ∷ xs) (y ∷ ys) → number_of (join_of (column_cell x) (column_cell y)).allowed ≡ 0 → meet (x ∷ xs) (y ∷ ys) ≡ none
  dropped wild wild xs ys p a = absurd p
  dropped wild (real (named_cells d w q ss)) xs ys p a = absurd (pos_zero q (pos_pow p.0 d q p.1.0) (sym (among_all q p.1.0.fits) ∙ and_comm q all_set ∙ no_heads 512 0 all_set d w q a))
  dropped wild (real (free_cell u w q)) xs ys p a = absurd (pos_zero q p.1.some (sym (among_all q p.1.fits) ∙ and_comm q all_set ∙ no_heads 512 0 all_set u w q a))
  dropped (real (named_cells c v m rs)) wild xs ys p a = absurd (pos_zero m (pos_pow p.0 c m p.1.0) (sym (among_all m p.1.0.fits) ∙ no_heads c v m 512 0 all_set a))
  dropped (real (free_cell t v m)) wild xs ys p a = absurd (pos_zero m p.1.some (sym (among_all m p.1.fits) ∙ no_heads t v m 512 0 all_set a))
  dropped (real (named_cells c v m rs)) (real (named_cells d w q ss)) xs ys p a = rw (eq-eqb (bit_and m q) 0 (no_heads c v m d w q a))
  dropped (real (named_cells c v m rs)) (real (free_cell u w q)) xs ys p a = rw (eq-eqb (bit_and m q) 0 (no_heads c v m u w q a))
  dropped (real (free_cell t v m)) (real (named_cells d w q ss)) xs ys p a = rw (eq-eqb (bit_and m q) 0 (no_heads t v m d w q a))
  dropped (real (free_cell t v m)) (real (free_cell u w q)) xs ys p a = rw (eq-eqb (bit_and m q) 0 (no_heads t v m u w q a))

  -- the side that has a cell; whether a tag names
  pub some_side : (x y : Col) (xs ys : List Col) → Pair K ar (x ∷ xs) (y ∷ ys) → 3 ≤ wide x + wide y
  some_side wild wild xs ys p = absurd p
  some_side wild (real s) xs ys p = omega arith
  some_side (real r) wild xs ys p = omega arith
  some_side (real r) (real s) xs ys p = omega arith

  tagged_row : (r : RowCells) (k : ℕ) → Of K ar r k → Tagged (real r)
  tagged_row (named_cells c v m rs) k o = o.0.tag
  tagged_row (free_cell t v m) k o = (omega (arith, o.tag), omega (arith, o.tag, o.kind))

  pub tagged_left : (x y : Col) (xs ys : List Col) → Pair K ar (x ∷ xs) (y ∷ ys) → Tagged x
  tagged_left wild y xs ys p = tt
  tagged_left (real r) wild xs ys p = tagged_row r p.0 p.1
  tagged_left (real r) (real s) xs ys p = tagged_row r p.0 p.1

  pub tagged_right : (x y : Col) (xs ys : List Col) → Pair K ar (x ∷ xs) (y ∷ ys) → Tagged y
  tagged_right x wild xs ys p = tt
  tagged_right wild (real s) xs ys p = tagged_row s p.0 p.1
  tagged_right (real r) (real s) xs ys p = tagged_row s p.0 p.2

  -- a named tag is in the arity table
  pub known : (x y : Col) (xs ys : List Col) → Pair K ar (x ∷ xs) (y ∷ ys) → (join_of (column_cell x) (column_cell y)).tag < 256 → length ar ≡ decoded_length
  known wild wild xs ys p h = absurd p
  known wild (real (named_cells d w q ss)) xs ys p h = p.1.0.known
  known wild (real (free_cell u w q)) xs ys p h = absurd (omega (arith, p.1.tag))
  known (real (named_cells c v m rs)) wild xs ys p h = p.1.0.known
  known (real (free_cell t v m)) wild xs ys p h = absurd (omega (arith, p.1.tag))
  known (real (named_cells c v m rs)) (real (named_cells d w q ss)) xs ys p h = p.1.0.known
  known (real (named_cells c v m rs)) (real (free_cell u w q)) xs ys p h = p.1.0.known
  known (real (free_cell t v m)) (real (named_cells d w q ss)) xs ys p h = p.2.0.known
  known (real (free_cell t v m)) (real (free_cell u w q)) xs ys p h = absurd (omega (arith, p.1.tag, p.2.tag))

  -- as many columns on both sides, and no more than there are words
  pub pair_length : (xs ys : List Col) → Pair K ar xs ys → (length xs ≡ length ys) × (length xs ≤ length (flat xs) + length (flat ys))
  pair_length [] [] p = omega arith
  pair_length [] (y ∷ ys) p = absurd p
  pair_length (x ∷ xs) [] p = absurd p
  pair_length (wild ∷ xs) (wild ∷ ys) p = absurd p
  pair_length (wild ∷ xs) (real (named_cells d w q ss) ∷ ys) p = let i = pair_length xs ys p.2 in simp length-append (omega (arith, i.0, i.1))
  pair_length (wild ∷ xs) (real (free_cell u w q) ∷ ys) p = let i = pair_length xs ys p.2 in omega (arith, i.0, i.1)
  pair_length (real (named_cells c v m rs) ∷ xs) (wild ∷ ys) p = let i = pair_length xs ys p.2 in simp length-append (omega (arith, i.0, i.1))
  pair_length (real (free_cell t v m) ∷ xs) (wild ∷ ys) p = let i = pair_length xs ys p.2 in omega (arith, i.0, i.1)
  pair_length (real (named_cells c v m rs) ∷ xs) (real s ∷ ys) p = let i = pair_length xs ys p.3 in simp length-append (omega (arith, i.0, i.1))
  pair_length (real (free_cell t v m) ∷ xs) (real s ∷ ys) p = let i = pair_length xs ys p.3 in simp length-append (omega (arith, i.0, i.1))

  -- as many columns come as the cell opens
  ofs_count : (rs : RowsCells) (ks : List ℕ) → Ofs K ar rs ks → length (reals rs) ≡ length ks
  ofs_count no_cells [] o = refl
  ofs_count no_cells (k ∷ ks) o = absurd o
  ofs_count (more_cells r rs) [] o = absurd o
  ofs_count (more_cells r rs) (k ∷ ks) o = ap suc (ofs_count rs ks o.1)

  count_named : (k c m t n : ℕ) (rs : RowsCells) (xs : List Col) → Head K ar k c m → Ofs K ar rs (K.args c) → t ≡ c → n ≡ opens_of ar t → length (reals rs ++ xs) ≡ n + length xs
  count_named k c m t n rs xs h o q e =
      let l : n ≡ length (K.args c) = e ∙ ap (opens_of ar) q ∙ opens_named K ar k c m h in
      simp length-append (omega (arith, ofs_count rs (K.args c) o))

count_wilds : (n : ℕ) (xs : List Col) → length (replicate n wild ++ xs) ≡ n + length xs
count_wilds n xs = simp (length-append, length-replicate)

module _ (K : Kinds) (ar : List ℕ) where
  pub turn_count : (x y : Col) (xs ys : List Col) (n : ℕ) → Pair K ar (x ∷ xs) (y ∷ ys) → n ≡ opens_of ar (join_of (column_cell x) (column_cell y)).tag
      → ¬ (number_of (join_of (column_cell x) (column_cell y)).allowed ≡ 0) → length (enter x n ++ xs) ≡ n + length xs
  turn_count wild y xs ys n p e a = count_wilds n xs
  turn_count (real (free_cell t v m)) y xs ys n p e a = count_wilds n xs
  turn_count (real (named_cells c v m rs)) wild xs ys n p e a = count_named K ar p.0 c m (min c 512) n rs xs p.1.0 p.1.1 (omega (arith, p.1.0.tag)) e
  turn_count (real (named_cells c v m rs)) (real (named_cells d w q ss)) xs ys n p e a = count_named K ar p.0 c m (min c d) n rs xs p.1.0 p.1.1 (same_head K ar p.0 c m d q p.1.0 p.2.0 (some_heads c v m d w q a)).1 e
  turn_count (real (named_cells c v m rs)) (real (free_cell u w q)) xs ys n p e a = count_named K ar p.0 c m (min c u) n rs xs p.1.0 p.1.1 (omega (arith, p.1.0.tag, p.2.tag)) e
