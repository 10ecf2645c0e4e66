-- One argument more, as it is written.
use mathlib.Core.Path.{◌≡◌, refl, ap, ◌∙◌, sym, subst}
use mathlib.Core.List.{List, [], ◌∷◌, ◌++◌, append_assoc}
use mathlib.Core.Bool.{Bool, true, false}
use Prim.Native.Nat.{ℕ, ◌+◌, ◌*◌, ◌≤◌, ◌<◌, ◌-◌}
use native.Mathlib.Nat.{suc-mul, mul_assoc, add-mul}
use native.Mathlib.Omega.{arith}
use borrow.Author.Tests.{lt-ltb, le-ltb}
use lib.ListN.{length, set, take, drop, get_or, length-append, length-drop}
use lib.Seq.{take-take, take_at}
use Rattle.signature.proofs.Tests.{times_less, true≢false}
use Rattle.rowlist.specs.Next.{GivenNext, GivenNextMinus, GivenNextAt, next_made, next_rows, Short}
use Rattle.rowlist.specs.Grow.{words_list, ListFirst, GivenGrow, GivenAppends, Filled, grown, appends, grown_room, appends_room}
use Rattle.rowlist.specs.Product.{Product}
use Rattle.cell.specs.Cell.{cell_code}
use Rattle.cell.specs.RowList.{from, WrittenFirst}
use Rattle.rowlist.proofs.Products.{no_list}
use Rattle.rowlist.proofs.Growing.{appends_small}
use Rattle.rowlist.proofs.Products.{end_word}
use Rattle.cell.proofs.Walk.{back, part_back, back_length, from_is, each_append}

-- the room
pub appends_le : (v : List ℕ) (ws : List (List ℕ)) (a j : ℕ) → length v ≤ a → Short j ws → appends_room v ws ≤ length ws * (1 + (a + j))
appends_le v [] a j h s = omega arith
appends_le v (w ∷ ws) a j h s = rw (suc-mul (length ws) (1 + (a + j))) (omega (arith, appends_le v ws a j h s.1, s.0))

grown_le_each : (vs ws : List (List ℕ)) (a j : ℕ) → Short a vs → Short j ws → grown_room vs ws ≤ length vs * (length ws * (1 + (a + j)))
grown_le_each [] ws a j s t = omega arith
grown_le_each (v ∷ vs) ws a j s t = rw (suc-mul (length vs) (length ws * (1 + (a + j)))) (omega (arith, grown_le_each vs ws a j s.1 t, appends_le v ws a j s.0 t))

pub grown_le : (vs ws : List (List ℕ)) (a j n : ℕ) → Short a vs → Short j ws → length vs * length ws ≤ n → grown_room vs ws ≤ n * (1 + (a + j))
grown_le vs ws a j n s t h =
    let b : length vs * (length ws * (1 + (a + j))) ≤ n * (1 + (a + j)) = rw (sym (mul_assoc (length vs) (length ws) (1 + (a + j)))) (times_less (length vs * length ws) n (1 + (a + j)) (1 + (a + j)) h (omega arith)) in
    omega (arith, grown_le_each vs ws a j s t, b)

pub grown_small : (vs ws : List (List ℕ)) → length (words_list (grown vs ws)) ≤ grown_room vs ws
grown_small [] ws = omega arith
grown_small (v ∷ vs) ws = rw (each_append (λ (w : List ℕ). w) (appends v ws) (grown vs ws)) (simp length-append (omega (arith, grown_small vs ws, appends_small v ws)))

module _ {lists : List ℕ} {at k : ℕ} (g : GivenNext lists at k) where
  -- the product of the counts fits
  pub product_fits : (m n : ℕ) → m ≡ length g.left.rows → n ≡ length g.right.rows → m * n ≤ 4096
  product_fits m n e f = times_less m 64 n 64 (omega (arith, e, g.left_few)) (omega (arith, f, g.right_few))

  pub next_grow : (m n : ℕ) → m ≡ length g.left.rows → n ≡ length g.right.rows → m * n ≤ 64 → GivenGrow lists (from lists at) k
  next_grow m n e f h = record {
    left = g.left;
    right = g.right;
    room = omega (arith, g.room, grown_le g.left.rows g.right.rows g.a g.j 64 g.left_short g.right_short (rw (e, f) at h));
  }

  pub next_none : (m n : ℕ) (o : List ℕ) → m ≡ length g.left.rows → n ≡ length g.right.rows → 64 < m * n → 1 ≤ length o → Product (words_list (next_rows true [] g.left.rows g.right.rows)) 0 (set o 0 0)
  next_none m n o e f h l = rw (lt-ltb 64 (length g.left.rows * length g.right.rows) (rw (e, f) at h)) (no_list o l)

  pub next_each : (m n r : ℕ) (o : List ℕ) → m ≡ length g.left.rows → n ≡ length g.right.rows → m * n ≤ 64 → ((q : GivenGrow lists (from lists at) k) → Product (words_list (grown q.left.rows q.right.rows)) r o) → Product (words_list (next_rows true [] g.left.rows g.right.rows)) r o
  unfolding next_grow
  next_each m n r o e f h p = rw (le-ltb 64 (length g.left.rows * length g.right.rows) (rw (e, f) at h)) (p (next_grow m n e f h))

-- the first row stands behind its number
list_row : {lists : List ℕ} (f : ListFirst lists) (v : List ℕ) (vs : List (List ℕ)) → f.rows ≡ v ∷ vs → (lists ≡ length v ∷ (v ++ ((words_list vs ++ (0 ∷ [])) ++ f.rest))) × (1 ≤ length v)
list_row {lists} f v vs e = (
  f.code_is ∙ ap (λ (l : List (List ℕ)). (words_list l ++ (0 ∷ [])) ++ f.rest) e ∙ simp append_assoc refl,
  (subst Filled e f.filled).0,
)

-- the list of the wildcard is wl
module _ {lists : List ℕ} {at : ℕ} (tag full : ℕ) (wl : List ℕ) (we : wl ≡ 3 ∷ (cell_code tag 0 full ++ (0 ∷ []))) (o : List ℕ) (g : GivenNextMinus lists at (length o)) where
  abbrev wild_list : ListFirst wl
  wild_list = record { rows = (cell_code tag 0 full) ∷ []; rest = []; code_is = we; filled = (omega arith, tt) }

  wild_room : grown_room g.next.left.rows ((cell_code tag 0 full) ∷ []) ≤ length g.next.left.rows * (1 + (g.next.a + g.next.j))
  wild_room = grown_le g.next.left.rows ((cell_code tag 0 full) ∷ []) g.next.a g.next.j (length g.next.left.rows) g.next.left_short (g.cell, tt) (omega arith)

  few_rooms : length g.next.left.rows * (1 + (g.next.a + g.next.j)) + length g.next.right.rows * (1 + (g.next.a + g.next.j)) ≤ 64 * (1 + (g.next.a + g.next.j))
  few_rooms = rw (sym (add-mul (length g.next.left.rows) (length g.next.right.rows) (1 + (g.next.a + g.next.j)))) (times_less (length g.next.left.rows + length g.next.right.rows) 64 (1 + (g.next.a + g.next.j)) (1 + (g.next.a + g.next.j)) g.few (omega arith))

  pub wild_given : GivenGrow lists wl (length o)
  wild_given = record { left = g.next.left; right = wild_list; room = omega (arith, wild_room, few_rooms, g.next.room) }

  pub first_word : (get_or lists 0 0 ≡ length g.v) × (1 ≤ length lists)
  first_word = let e = (list_row g.next.left g.v g.vs g.first).0 in (ap (λ (l : List ℕ). get_or l 0 0) e, omega (arith, ap length e))

  module _ (n : ℕ) (o₁ : List ℕ) (same : length o₁ ≡ length o) (f : (q : GivenGrow lists wl (length o)) → Product (words_list (grown q.left.rows q.right.rows)) n o₁) where
    made_wild : Product (words_list (grown g.next.left.rows ((cell_code tag 0 full) ∷ []))) n o₁
    unfolding wild_given
    made_wild = f wild_given

    pub first_given : (k : ℕ) → k ≡ length (from o₁ n) → (n ≤ length o₁) × GivenAppends (from lists 1) (get_or lists 0 0) (from lists at) k
    first_given k e =
        let q = list_row g.next.left g.v g.vs g.first in
        let s = grown_small g.next.left.rows ((cell_code tag 0 full) ∷ []) in
        let h : length g.v ≤ g.next.a = (subst (Short g.next.a) g.first g.next.left_short).0 in
        let z : length (from o₁ n) ≡ length o₁ - n = ap length (from_is o₁ n) ∙ length-drop n o₁ in (
          omega (arith, made_wild.size, s, wild_room, few_rooms, g.next.room, same),
          record {
            left = record { row = g.v; rest = (words_list g.vs ++ (0 ∷ [])) ++ g.next.left.rest; code_is = from_is lists 1 ∙ ap (drop 1) q.0; size = first_word.0 };
            right = g.next.right;
            some_words = omega (arith, first_word.0, q.1);
            room = omega (arith, e, z, same, made_wild.size, s, wild_room, few_rooms, g.next.room, appends_le g.v g.next.right.rows g.next.a g.next.j h g.next.right_short);
          },
        )

    module _ (m k : ℕ) (ys : List ℕ) (e : k ≡ length (from o₁ n)) (l : length ys ≡ length (from o₁ n)) (f' : (q : GivenAppends (from lists 1) (get_or lists 0 0) (from lists at) k) → WrittenFirst (words_list (appends q.left.row q.right.rows)) m ys) where
      made_first : WrittenFirst (words_list (appends g.v g.next.right.rows)) m ys
      unfolding first_given
      made_first = f' (first_given k e).1

      pub minus_end : n + m + 1 ≤ length (back o₁ n ys)
      minus_end =
          let h : length g.v ≤ g.next.a = (subst (Short g.next.a) g.first g.next.left_short).0 in
          omega (arith, back_length o₁ ys n (first_given k e).0 l, same, made_wild.size, grown_small g.next.left.rows ((cell_code tag 0 full) ∷ []), wild_room, few_rooms, g.next.room, made_first.0, appends_small g.v g.next.right.rows, appends_le g.v g.next.right.rows g.next.a g.next.j h g.next.right_short)

      pub minus_made : Product (words_list (next_rows false (cell_code tag 0 full) g.next.left.rows g.next.right.rows)) (n + m) (set (back o₁ n ys) (n + m) 0)
      minus_made =
          let W = cell_code tag 0 full in
          let A = words_list (grown g.next.left.rows (W ∷ [])) in
          let B = words_list (appends g.v g.next.right.rows) in
          let t : take n o₁ ≡ A = sym (take-take n (n + 1) o₁ (omega arith)) ∙ ap (take n) made_wild.list ∙ take_at A (0 ∷ []) n (sym made_wild.size) in
          let b : WrittenFirst (A ++ B) (n + m) (back o₁ n ys) = (simp length-append (omega (arith, made_wild.size, made_first.0)), part_back o₁ ys A B (drop (length o₁ - n) (drop n o₁)) n m (first_given k e).0 t made_first) in
          let r : words_list (next_rows false W g.next.left.rows g.next.right.rows) ≡ A ++ B =
          ap (λ (l : List (List ℕ)). words_list (next_rows false W l g.next.right.rows)) g.first
          ∙ each_append (λ (w : List ℕ). w) (grown (g.v ∷ g.vs) (W ∷ [])) (appends g.v g.next.right.rows)
          ∙ ap (λ (l : List (List ℕ)). words_list (grown l (W ∷ [])) ++ B) (sym g.first) in
          subst (λ (l : List ℕ). Product l (n + m) (set (back o₁ n ys) (n + m) 0)) (sym r) (end_word (back o₁ n ys) (A ++ B) (n + m) b minus_end)

-- by the side
module _ (lists : List ℕ) (at k : ℕ) where
  pub at_plus : (b : Bool) → b ≡ true → GivenNextAt b lists at k → GivenNext lists at k
  at_plus true e g = g
  at_plus false e g = true≢false (sym e)

  pub at_minus : (b : Bool) → b ≡ false → GivenNextAt b lists at k → GivenNextMinus lists at k
  at_minus true e g = true≢false e
  at_minus false e g = g

  pub made_plus : (b : Bool) (tag full r : ℕ) (o : List ℕ) → b ≡ true → ((q : GivenNext lists at k) → Product (words_list (next_rows true [] q.left.rows q.right.rows)) r o) → (g : GivenNextAt b lists at k) → Product (next_made b tag full lists at k g) r o
  made_plus true tag full r o e f g = f g
  made_plus false tag full r o e f g = true≢false (sym e)

  pub made_minus : (b : Bool) (tag full r : ℕ) (o : List ℕ) → b ≡ false → ((q : GivenNextMinus lists at k) → Product (words_list (next_rows false (cell_code tag 0 full) q.next.left.rows q.next.right.rows)) r o) → (g : GivenNextAt b lists at k) → Product (next_made b tag full lists at k g) r o
  made_minus true tag full r o e f g = true≢false e
  made_minus false tag full r o e f g = f g
