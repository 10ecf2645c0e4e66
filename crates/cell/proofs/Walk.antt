-- Lists of rows, row by row, and what is written behind what.
use mathlib.Core.Path.{◌≡◌, refl, ap, ◌∙◌, sym, ap₂}
use mathlib.Core.List.{List, [], ◌∷◌, ◌++◌, append_assoc, append-nil}
use Prim.Native.Nat.{ℕ, ◌-◌, ◌≤◌, ◌+◌, ◌<◌}
use native.Mathlib.Nat.{add-zero}
use native.Mathlib.Omega.{arith}
use lib.ListN.{length, drop, length-drop, take, length-take, get_or, length-append}
use lib.Seq.{take_all, length-take-le, take-append-add, take-append-le, get_or-drop, drop-drop, drop_at}
use Rattle.cell.specs.Cell.{Kinds}
use Rattle.cell.specs.Coded.{row_code}
use Rattle.row.specs.Row.{Row, named, free}
use Rattle.cell.specs.RowList.{each_with, from, WrittenFirst, Every, costs}

-- what f makes of each, one after the other; what it costs; what holds of each
abbrev pub yields : {A B : Type 0} → (A → List B) → List A → List B
yields f [] = []
yields f (s ∷ ss) = f s ++ yields f ss

pub each_append : {A : Type 0} (w : A → List ℕ) (rs ss : List A) → each_with w (rs ++ ss) ≡ each_with w rs ++ each_with w ss
each_append w [] ss = refl
each_append w (r ∷ rs) ss =
    ap (λ (l : List ℕ). length (w r) ∷ (w r ++ l)) (each_append w rs ss)
    ∙ ap (λ (l : List ℕ). length (w r) ∷ l) (sym (append_assoc (w r) (each_with w rs) (each_with w ss)))

pub from_is : (l : List ℕ) (a : ℕ) → from l a ≡ drop a l
from_is l a = take_all (length l - a) (drop a l) (simp length-drop (omega arith))

-- the slice when a part that was lent to its end is back
abbrev pub back : List ℕ → ℕ → List ℕ → List ℕ
back o used ys = take used o ++ (ys ++ drop (length o - used) (drop used o))

-- a part that came back with n words in front
pub part_back : (o ys done w D : List ℕ) (used n : ℕ) → used ≤ length o → take used o ≡ done → WrittenFirst w n ys → take (used + n) (take used o ++ (ys ++ D)) ≡ done ++ w
part_back o ys done w D used n h e b =
    let l : length (take used o) ≡ used = length-take-le used o h in
    let k : n ≤ length ys = omega (arith, length-take n ys, ap length b.1, b.0) in
    ap (λ (i : ℕ). take (i + n) (take used o ++ (ys ++ D))) (sym l)
    ∙ take-append-add (take used o) (ys ++ D) n
    ∙ ap₂ (λ (p q : List ℕ). p ++ q) e (take-append-le n ys D k ∙ b.1)

-- the word at a place
pub word_at : (y : List ℕ) (at w : ℕ) (rest : List ℕ) → drop at y ≡ w ∷ rest → (get_or y at 0 ≡ w) × (at < length y) × (drop (at + 1) y ≡ rest)
word_at y at w rest e = (
  ap (λ (n : ℕ). get_or y n 0) (sym (add-zero at)) ∙ sym (get_or-drop at y 0 0) ∙ ap (λ (l : List ℕ). get_or l 0 0) e,
  omega (arith, length-drop at y, ap length e),
  sym (drop-drop 1 at y) ∙ ap (drop 1) e,
)

pub code_long : (K : Kinds) (k : ℕ) (r : Row) → 1 ≤ length (row_code K r k)
code_long K k (named xs c rs) = omega arith
code_long K k (free xs cs) = omega arith

-- the task: the list `all` of As stands first in y; f makes Bs of each; what they cost, what holds of each A, and the words kept free behind
pub record Task (y : List ℕ) : Type 1 where
  pub A : Type 0
  pub B : Type 0
  pub read : A → List ℕ
  pub write : B → List ℕ
  pub f : A → List B
  pub cost : A → ℕ
  pub P : A → Type 0
  pub spare : ℕ
  pub all : List A
  pub rest : List ℕ
  pub code_is : y ≡ (each_with read all ++ (0 ∷ [])) ++ rest
  pub each_is : Every P all
  pub long : (s : A) → P s → 1 ≤ length (read s)
  pub enough : (s : A) → P s → length (each_with write (f s)) ≤ cost s

pub record Mid {y : List ℕ} (g : Task y) (at used : ℕ) (o : List ℕ) (todo : List g.A) : Type 0 where
  pub code_is : drop at y ≡ (each_with g.read todo ++ (0 ∷ [])) ++ g.rest
  pub each_is : Every g.P todo
  pub within : at ≤ length y
  pub done : List ℕ
  pub target : each_with g.write (yields g.f g.all) ≡ done ++ each_with g.write (yields g.f todo)
  pub size : used ≡ length done
  pub list : take used o ≡ done
  pub room : used + costs g.cost todo + g.spare ≤ length o

abbrev pub Now : {y : List ℕ} → Task y → ℕ → ℕ → List ℕ → Type 0
Now g at used o = (todo : List g.A) × Mid g at used o todo

pub start : {y : List ℕ} (g : Task y) (o : List ℕ) → costs g.cost g.all + g.spare ≤ length o → Now g 0 0 o
start g o h = (
  g.all,
  record {
    code_is = g.code_is;
    each_is = g.each_is;
    within = omega arith;
    done = [];
    target = refl;
    size = refl;
    list = refl;
    room = omega arith;
  },
)

-- the row in front: s, with its words and room for what it makes
pub record Head {y : List ℕ} (g : Task y) (at used : ℕ) (o : List ℕ) (s : g.A) : Type 0 where
  pub rest : List ℕ
  pub is : g.P s
  pub len : get_or y at 0 ≡ length (g.read s)
  pub code_is : from y (at + 1) ≡ g.read s ++ rest
  pub room : g.cost s ≤ length (from o used)

pub record Turned {y : List ℕ} (g : Task y) (at used n : ℕ) (o ys : List ℕ) : Type 0 where
  pub now : Now g (at + 1 + get_or y at 0) (used + n) (back o used ys)
  pub on : at + 1 + get_or y at 0 ≤ length y
  pub fit : used + n ≤ length (back o used ys)
  pub whole : length (back o used ys) ≡ length o

module _ {y : List ℕ} (g : Task y) (at used : ℕ) (o : List ℕ) where
  -- the test's word is there, and 0 only at the end
  there_at : (todo : List g.A) → Mid g at used o todo → at < length y
  there_at [] m = (word_at y at 0 g.rest m.code_is).1
  there_at (s ∷ todo) m = (word_at y at _ _ m.code_is).1

  pub there : Now g at used o → at < length y
  there m = there_at m.0 m.1

  end_at : (todo : List g.A) → Mid g at used o todo → get_or y at 0 ≤ 0 → WrittenFirst (each_with g.write (yields g.f g.all)) used o × (used + g.spare ≤ length o)
  end_at [] m z =
      let e : each_with g.write (yields g.f g.all) ≡ m.done = m.target ∙ append-nil m.done in
      ((m.size ∙ ap length (sym e), m.list ∙ sym e), omega (arith, m.room))
  end_at (s ∷ todo) m z = absurd (omega (arith, (word_at y at _ _ m.code_is).0, g.long s m.each_is.0))

  pub end : Now g at used o → get_or y at 0 ≤ 0 → WrittenFirst (each_with g.write (yields g.f g.all)) used o × (used + g.spare ≤ length o)
  end m z = end_at m.0 m.1 z

  next_row : (s : g.A) (todo : List g.A) → Mid g at used o (s ∷ todo) → drop (at + 1) y ≡ g.read s ++ ((each_with g.read todo ++ (0 ∷ [])) ++ g.rest)
  next_row s todo m = (word_at y at _ _ m.code_is).2 ∙ (simp append_assoc)

  head_at : (s : g.A) (todo : List g.A) → Mid g at used o (s ∷ todo) → Head g at used o s
  head_at s todo m = record {
    rest = (each_with g.read todo ++ (0 ∷ [])) ++ g.rest;
    is = m.each_is.0;
    len = (word_at y at _ _ m.code_is).0;
    code_is = from_is y (at + 1) ∙ next_row s todo m;
    room = rw (from_is o used) (omega (arith, length-drop used o, m.room));
  }

  head_todo : (todo : List g.A) → Mid g at used o todo → 0 < get_or y at 0 → (s : g.A) × Head g at used o s
  head_todo [] m h = absurd (omega (arith, (word_at y at 0 g.rest m.code_is).0))
  head_todo (s ∷ todo) m h = (s, head_at s todo m)

  pub head : Now g at used o → 0 < get_or y at 0 → (s : g.A) × Head g at used o s
  head m h = head_todo m.0 m.1 h

  -- a turn: whatever row stands in front, what f makes of it was written
  turn_at : (todo : List g.A) (n : ℕ) (ys : List ℕ) → Mid g at used o todo → 0 < get_or y at 0
      → ((s : g.A) → Head g at used o s → WrittenFirst (each_with g.write (g.f s)) n ys) → length ys ≡ length (from o used) → Turned g at used n o ys
  turn_at [] n ys m h f l = absurd (omega (arith, (word_at y at 0 g.rest m.code_is).0))
  turn_at (s ∷ todo) n ys m h f l =
      let w : List ℕ = each_with g.write (g.f s) in
      let b : WrittenFirst w n ys = f s (head_at s todo m) in
      let q = word_at y at _ _ m.code_is in
      let len : get_or y at 0 ≡ length (g.read s) = q.0 in
      let there : at < length y = q.1 in
      let nr = next_row s todo m in
      let small = g.enough s m.each_is.0 in
      let on : at + 1 + get_or y at 0 ≤ length y = omega (arith, length-drop (at + 1) y, simp length-append at (ap length nr)) in
      let whole : length (back o used ys) ≡ length o =
      simp (length-append, length-take, length-drop) (omega (arith, m.room, simp (length-take, length-drop) at l)) in
      record {
        now = (
          todo,
          record {
            code_is = sym (drop-drop (get_or y at 0) (at + 1) y) ∙ ap (drop (get_or y at 0)) nr ∙ drop_at (g.read s) ((each_with g.read todo ++ (0 ∷ [])) ++ g.rest) (get_or y at 0) (sym len);
            each_is = m.each_is.1;
            within = on;
            done = m.done ++ w;
            target = m.target ∙ ap (λ (l : List ℕ). m.done ++ l) (each_append g.write (g.f s) (yields g.f todo)) ∙ sym (append_assoc m.done w (each_with g.write (yields g.f todo)));
            size = simp length-append (omega (arith, m.size, b.0));
            list = part_back o ys m.done w (drop (length o - used) (drop used o)) used n (omega (arith, m.room)) m.list b;
            room = omega (arith, m.room, b.0);
          },
        );
        on = on;
        fit = omega (arith, m.room, b.0);
        whole = whole;
      }

  pub turn : (n : ℕ) (ys : List ℕ) → Now g at used o → 0 < get_or y at 0
      → ((s : g.A) → Head g at used o s → WrittenFirst (each_with g.write (g.f s)) n ys) → length ys ≡ length (from o used) → Turned g at used n o ys
  turn n ys m h f l = turn_at m.0 n ys m.1 h f l

pub back_length : (o ys : List ℕ) (used : ℕ) → used ≤ length o → length ys ≡ length (from o used) → length (back o used ys) ≡ length o
back_length o ys used h l = simp (length-append, length-take, length-drop) (omega (arith, simp (length-take, length-drop) at l))
