-- Rows behind rows, as the loops write them.
use mathlib.Core.Path.{◌≡◌, refl, ap, ap₂, ◌∙◌, sym, subst}
use mathlib.Core.List.{List, [], ◌∷◌, ◌++◌, append_assoc, append-nil}
use Prim.Native.Nat.{ℕ, suc, ◌+◌, ◌≤◌, ◌<◌}
use native.Mathlib.Nat.{add-zero}
use native.Mathlib.Omega.{arith}
use lib.ListN.{length, set, take, drop, get_or, length-append, length-drop}
use lib.Seq.{take_at, take-suc, take-suc-set, drop-drop, drop_at}
use native.Mathlib.Numerals.{add-one}
use Rattle.rowlist.specs.Grow.{words_list, Filled, RowFirst, ListFirst, GivenAppend, GivenAppends, GivenGrow, appends, appends_room, grown}
use Rattle.rowlist.specs.Product.{Product}
use Rattle.cell.specs.RowList.{WrittenFirst, from}
use Rattle.rowlist.proofs.Products.{end_word}
use Rattle.cell.proofs.Walk.{word_at, Task, Now, Head, Turned, yields, start, head, turn, end}

row_long : {x : List ℕ} {n : ℕ} → RowFirst x n → n ≤ length x
row_long f = omega (arith, f.size, simp length-append at (ap length f.code_is))

row_take : {x : List ℕ} {n : ℕ} (f : RowFirst x n) → take n x ≡ f.row
row_take {x} {n} f = ap (take n) f.code_is ∙ take_at f.row f.rest n (sym f.size)

pub append_given : {x y : List ℕ} {n m k : ℕ} → GivenAppend x n y m k → (n ≤ length x) × (m ≤ length y) × (1 + (n + m) ≤ k)
append_given g = (row_long g.left, row_long g.right, g.room)

-- a number, then a row, then a row
pub appended : {x y : List ℕ} {n m : ℕ} (o o₁ o₂ : List ℕ) (g : GivenAppend x n y m (length o)) → take (1 + n) o₁ ≡ take 1 o ++ take n x → take (1 + n + m) o₂ ≡ take (1 + n) o₁ ++ take m y → length o₂ ≡ length o
    → WrittenFirst (words_list ((g.left.row ++ g.right.row) ∷ [])) (1 + n + m) (set o₂ 0 (n + m))
appended [] o₁ o₂ g e f l = absurd (omega (arith, g.room))
appended (a ∷ o) o₁ [] g e f l = absurd (omega (arith, l))
appended {x} {y} {n} {m} (a ∷ o) o₁ (b ∷ o₂) g e f l =
    let i : 1 + n + m ≡ suc (n + m) = omega arith in
    let all : take (suc (n + m)) (b ∷ o₂) ≡ a ∷ (g.left.row ++ g.right.row) =
    ap (λ (j : ℕ). take j (b ∷ o₂)) (sym i) ∙ f ∙ ap (λ (z : List ℕ). z ++ take m y) e ∙ ap₂ (λ (u v : List ℕ). (a ∷ u) ++ v) (row_take g.left) (row_take g.right) in (
      simp (length-append, append-nil) (omega (arith, g.left.size, g.right.size)),
      rw (i, append-nil) (ap₂ (λ (j : ℕ) (z : List ℕ). j ∷ z) (simp length-append (omega (arith, g.left.size, g.right.size))) (ap (drop 1) all)),
    )

-- one with each
abbrev one_of : {A : Type 0} → A → List A
one_of a = a ∷ []

yields_map : (v : List ℕ) (ws : List (List ℕ)) → yields (λ w. one_of (v ++ w)) ws ≡ appends v ws
yields_map v [] = refl
yields_map v (w ∷ ws) = ap (λ (l : List (List ℕ)). (v ++ w) ∷ l) (yields_map v ws)

unfoldable pub all_task : {x y : List ℕ} {n k : ℕ} → GivenAppends x n y k → Task y
all_task g = record {
  A = List ℕ;
  B = List ℕ;
  read = λ w. w;
  write = λ w. w;
  f = λ w. one_of (g.left.row ++ w);
  cost = λ w. 1 + (length g.left.row + length w);
  P = λ w. 1 ≤ length w;
  spare = 0;
  all = g.right.rows;
  rest = g.right.rest;
  code_is = g.right.code_is;
  each_is = g.right.filled;
  long = λ w h. h;
  enough = λ w h. simp (length-append, append-nil) (omega arith);
}

module _ {x y : List ℕ} {n : ℕ} (o₀ : List ℕ) (g : GivenAppends x n y (length o₀)) where
  pub all_start : Now (all_task g) 0 0 o₀
  unfolding all_task
  all_start = start (all_task g) o₀ (omega (arith, g.room))

  module _ (at used : ℕ) (o : List ℕ) where
    unfoldable all_head : (w : (all_task g).A) → Head (all_task g) at used o w → GivenAppend x n (from y (at + 1)) (get_or y at 0) (length (from o used))
    unfolding all_task
    all_head w h = record {
      left = g.left;
      right = record { row = w; rest = h.rest; code_is = h.code_is; size = h.len };
      room = omega (arith, h.room, h.len, g.left.size);
    }

    pub all_given : Now (all_task g) at used o → 0 < get_or y at 0 → GivenAppend x n (from y (at + 1)) (get_or y at 0) (length (from o used))
    all_given m h = let q = head (all_task g) at used o m h in all_head q.0 q.1

    pub all_turn : (r : ℕ) (ys : List ℕ) → Now (all_task g) at used o → 0 < get_or y at 0
        → ((q : GivenAppend x n (from y (at + 1)) (get_or y at 0) (length (from o used))) → WrittenFirst (words_list ((q.left.row ++ q.right.row) ∷ [])) r ys)
        → length ys ≡ length (from o used) → Turned (all_task g) at used r o ys
    unfolding all_task all_head
    all_turn r ys m h f l = turn (all_task g) at used o r ys m h (λ s q. f (all_head s q)) l

    pub all_end : Now (all_task g) at used o → get_or y at 0 ≤ 0 → WrittenFirst (words_list (appends g.left.row g.right.rows)) used o
    unfolding all_task
    all_end m z = subst (λ (l : List (List ℕ)). WrittenFirst (words_list l) used o) (yields_map g.left.row g.right.rows) (end (all_task g) at used o m z).0

-- each with each
pub appends_small : (v : List ℕ) (ws : List (List ℕ)) → length (words_list (appends v ws)) ≤ appends_room v ws
appends_small v [] = omega arith
appends_small v (w ∷ ws) = simp length-append (omega (arith, appends_small v ws))

unfoldable pub grow_task : {x y : List ℕ} {k : ℕ} → GivenGrow x y k → Task x
grow_task g = record {
  A = List ℕ;
  B = List ℕ;
  read = λ w. w;
  write = λ w. w;
  f = λ v. appends v g.right.rows;
  cost = λ v. appends_room v g.right.rows;
  P = λ w. 1 ≤ length w;
  spare = 1;
  all = g.left.rows;
  rest = g.left.rest;
  code_is = g.left.code_is;
  each_is = g.left.filled;
  long = λ w h. h;
  enough = λ v h. appends_small v g.right.rows;
}

yields_grown : (vs ws : List (List ℕ)) → yields (λ v. appends v ws) vs ≡ grown vs ws
yields_grown [] ws = refl
yields_grown (v ∷ vs) ws = ap (λ (l : List (List ℕ)). appends v ws ++ l) (yields_grown vs ws)

module _ {x y : List ℕ} (o₀ : List ℕ) (g : GivenGrow x y (length o₀)) where
  pub grow_start : Now (grow_task g) 0 0 o₀
  unfolding grow_task
  grow_start = start (grow_task g) o₀ (omega (arith, g.room))

  module _ (at used : ℕ) (o : List ℕ) where
    unfoldable grow_head : (v : (grow_task g).A) → Head (grow_task g) at used o v → GivenAppends (from x (at + 1)) (get_or x at 0) y (length (from o used))
    unfolding grow_task
    grow_head v h = record {
      left = record { row = v; rest = h.rest; code_is = h.code_is; size = h.len };
      right = g.right;
      some_words = omega (arith, h.len, h.is);
      room = h.room;
    }

    pub grow_given : Now (grow_task g) at used o → 0 < get_or x at 0 → GivenAppends (from x (at + 1)) (get_or x at 0) y (length (from o used))
    grow_given m h = let q = head (grow_task g) at used o m h in grow_head q.0 q.1

    pub grow_turn : (r : ℕ) (ys : List ℕ) → Now (grow_task g) at used o → 0 < get_or x at 0
        → ((q : GivenAppends (from x (at + 1)) (get_or x at 0) y (length (from o used))) → WrittenFirst (words_list (appends q.left.row q.right.rows)) r ys)
        → length ys ≡ length (from o used) → Turned (grow_task g) at used r o ys
    unfolding grow_task grow_head
    grow_turn r ys m h f l = turn (grow_task g) at used o r ys m h (λ s q. f (grow_head s q)) l

    pub grow_room : Now (grow_task g) at used o → get_or x at 0 ≤ 0 → used + 1 ≤ length o
    unfolding grow_task
    grow_room m z = (end (grow_task g) at used o m z).1

    pub grow_end : Now (grow_task g) at used o → get_or x at 0 ≤ 0 → Product (words_list (grown g.left.rows g.right.rows)) used (set o used 0)
    unfolding grow_task
    grow_end m z =
        let e = end (grow_task g) at used o m z in
        end_word o (words_list (grown g.left.rows g.right.rows)) used
        (subst (λ (l : List (List ℕ)). WrittenFirst (words_list l) used o) (yields_grown g.left.rows g.right.rows) e.0) e.1

-- a copy
pub copy_step : (x o d : List ℕ) (at i : ℕ) → i < length x → at + i < length o → take (at + i) o ≡ d ++ take i x → take (at + (i + 1)) (set o (at + i) (get_or x i 0)) ≡ d ++ take (i + 1) x
copy_step x o d at i l k e =
    let z : at + (i + 1) ≡ suc (at + i) = omega arith in
    rw (z, add-one i) (take-suc-set o (at + i) (get_or x i 0) k ∙ ap (λ (y : List ℕ). y ++ (get_or x i 0 ∷ [])) e ∙ append_assoc d (take i x) (get_or x i 0 ∷ []) ∙ ap (λ (y : List ℕ). d ++ y) (sym (take-suc x i 0 l)))

pub copy_start : (x o : List ℕ) (at : ℕ) → take (at + 0) o ≡ take at o ++ take 0 x
copy_start x o at = rw (add-zero at, append-nil)

pub copy_end : (n i at : ℕ) (x o d : List ℕ) → i ≤ n → n ≤ i → take (at + i) o ≡ d ++ take i x → take (at + n) o ≡ d ++ take n x
copy_end n i at x o d l k e = let z : n ≡ i = omega arith in rw z e

-- a count
pub record Counting {y : List ℕ} (g : ListFirst y) (n at : ℕ) : Type 0 where
  pub todo : List (List ℕ)
  pub code_is : drop at y ≡ (words_list todo ++ (0 ∷ [])) ++ g.rest
  pub filled : Filled todo
  pub all : n + length todo ≡ length g.rows

module _ {y : List ℕ} (g : ListFirst y) where
  pub count_start : Counting g 0 0
  count_start = record { todo = g.rows; code_is = g.code_is; filled = g.filled; all = omega arith }

  module _ (n at : ℕ) where
    there_in : (todo : List (List ℕ)) → drop at y ≡ (words_list todo ++ (0 ∷ [])) ++ g.rest → at < length y
    there_in [] e = (word_at y at _ _ e).1
    there_in (w ∷ ws) e = (word_at y at _ _ e).1

    pub count_there : Counting g n at → at < length y
    count_there m = there_in m.todo m.code_is

    turn_in : (todo : List (List ℕ)) → drop at y ≡ (words_list todo ++ (0 ∷ [])) ++ g.rest → Filled todo → n + length todo ≡ length g.rows → 0 < get_or y at 0
        → Counting g (n + 1) (at + 1 + get_or y at 0) × (at + 1 + get_or y at 0 ≤ length y)
    turn_in [] e f a h = absurd (omega (arith, (word_at y at _ _ e).0))
    turn_in (w ∷ ws) e f a h =
        let q = word_at y at _ _ e in
        let more = (words_list ws ++ (0 ∷ [])) ++ g.rest in
        let r : drop (at + 1) y ≡ w ++ more = q.2 ∙ (simp append_assoc) in (
          record {
            todo = ws;
            code_is = sym (drop-drop (get_or y at 0) (at + 1) y) ∙ ap (drop (get_or y at 0)) r ∙ drop_at w more (get_or y at 0) (sym q.0);
            filled = f.1;
            all = omega arith;
          },
          omega (arith, q.1, q.0, length-drop (at + 1) y, simp length-append at (ap length r)),
        )

    pub count_turn : Counting g n at → 0 < get_or y at 0 → Counting g (n + 1) (at + 1 + get_or y at 0) × (at + 1 + get_or y at 0 ≤ length y)
    count_turn m h = turn_in m.todo m.code_is m.filled m.all h

    end_in : (todo : List (List ℕ)) → drop at y ≡ (words_list todo ++ (0 ∷ [])) ++ g.rest → Filled todo → n + length todo ≡ length g.rows → get_or y at 0 ≤ 0 → n ≡ length g.rows
    end_in [] e f a z = omega arith
    end_in (w ∷ ws) e f a z = absurd (omega (arith, (word_at y at _ _ e).0, f.0))

    pub count_end : Counting g n at → get_or y at 0 ≤ 0 → n ≡ length g.rows
    count_end m z = end_in m.todo m.code_is m.filled m.all z
