-- The turns of the walk over two rows: each takes the first column of both.
use mathlib.Core.Path.{◌≡◌, refl, ap, sym, ◌∙◌, ap₂, subst}
use mathlib.Core.List.{List, ◌++◌, [], append-nil, ◌∷◌, append_assoc}
use mathlib.Core.Option.{some, Option, none}
use Prim.Native.Nat.{ℕ, ◌+◌, ◌≤◌, zero, suc, ◌-◌, ◌<◌}
use native.Mathlib.Omega.{arith}
use lib.ListN.{length, drop, set, length-append, length-drop}
use lib.Seq.{set_at, drop-drop}
use Rattle.cell.specs.declared.cell.Cell.{Cell}
use Rattle.cell.specs.declared.cell.Cursor.{Cursor}
use Rattle.std.specs.Prelude.{None, Some}
use Rattle.signature.specs.Decoded.{decoded_length}
use Rattle.cell.specs.Cell.{kind_tag, words, named_cells, free_cell, first_word}
use Rattle.sets.specs.Heads.{number_of, low_word, high_word}
use Rattle.cell.specs.Cursor.{put_cell, next_of, Room, join_of, look_at, opens_of}
use Rattle.cell.specs.Lockstep.{Result}
use Rattle.cell.proofs.CellFacts.{Col, both, then, flat, real, enter, wild, Lead, column_cell}
use Rattle.cell.proofs.Columns.{Stands, wide, flat_wilds, flat_reals, room_col, look_col, step_col}
use Rattle.cell.proofs.CursorFacts.{cell_words}
use Rattle.cell.proofs.LockstepFacts.{Given}
use Rattle.cell.proofs.Gates.{then_assoc}
use Rattle.cell.proofs.Meet.{Pair, meet, then_nil, known, pair_length, some_side, dropped, turn, turn_count, tagged_left, tagged_right}

-- xs and ys are the columns left, done the words written
pub record Mid {ar a b o₀ : List ℕ} (g : Given ar a b o₀) (x y : Cursor) (n left : ℕ) (o : List ℕ) (xs ys : List Col) : Type 0 where
  pub sa : Stands a x.at x.wildcards xs
  pub sb : Stands b y.at y.wildcards ys
  pub pair : Pair g.K ar xs ys
  pub left_is : left ≡ length xs
  pub done : List ℕ
  pub size : length done ≡ n
  pub list : o ≡ done ++ drop n o₀
  pub target : both g.r g.s ≡ then (some done) (meet xs ys)
  pub room : n + (length (flat xs) + length (flat ys)) ≤ length o₀

abbrev pub Now : {ar a b o₀ : List ℕ} → Given ar a b o₀ → Cursor → Cursor → ℕ → ℕ → List ℕ → Type 0
Now g x y n left o = (xs : List Col) × (ys : List Col) × Mid g x y n left o xs ys

-- at the start
then_end : (m : Option (List ℕ)) → m ≡ then m (some [])
then_end none = refl
then_end (some w) = ap {B = Option (List ℕ)} some (sym (append-nil w))

abbrev pub zero_cursor : Cursor
zero_cursor = record { at = 0; wildcards = 0 }

pub start : {ar a b o₀ : List ℕ} (g : Given ar a b o₀) → Now g zero_cursor zero_cursor 0 1 o₀
start g = (
  real g.r ∷ [],
  real g.s ∷ [],
  record {
    sa = record { rest = g.rest_a; lead = tt; code = g.code_a ∙ ap (λ (l : List ℕ). l ++ g.rest_a) (sym (append-nil (words g.r))); within = omega arith };
    sb = record { rest = g.rest_b; lead = tt; code = g.code_b ∙ ap (λ (l : List ℕ). l ++ g.rest_b) (sym (append-nil (words g.s))); within = omega arith };
    pair = (g.kind, g.of_r, g.of_s, tt);
    left_is = refl;
    done = [];
    size = refl;
    list = refl;
    target = then_end (both g.r g.s) ∙ sym (then_nil (then (both g.r g.s) (some [])));
    room = rw (append-nil (words g.r), append-nil (words g.s)) (omega (arith, g.room));
  },
)

-- at the end
result_of : (t : Option (List ℕ)) (done o₀ o : List ℕ) (n : ℕ) → t ≡ some (done ++ []) → length done ≡ n → o ≡ done ++ drop n o₀ → Result t (Some n) o₀ o
result_of t done o₀ o n e l f = rw (e, append-nil done, l) (refl, f)

finish_at : {ar a b o₀ : List ℕ} (g : Given ar a b o₀) (x y : Cursor) (n left : ℕ) (o : List ℕ) (xs ys : List Col) → left ≡ 0 → Mid g x y n left o xs ys → Result (both g.r g.s) (Some n) o₀ o
finish_at {o₀ = o₀} g x y n left o [] [] e m = result_of (both g.r g.s) m.done o₀ o n m.target m.size m.list
finish_at g x y n left o [] (h ∷ ys) e m = absurd m.pair
finish_at g x y n left o (h ∷ xs) ys e m = absurd (omega (arith, m.left_is))

pub finish : {ar a b o₀ : List ℕ} (g : Given ar a b o₀) (x y : Cursor) (n left : ℕ) (o : List ℕ) → left ≡ 0 → Now g x y n left o → Result (both g.r g.s) (Some n) o₀ o
finish g x y n left o e m = finish_at g x y n left o m.0 m.1 e m.2

-- a turn
-- a cell is written
pub puts : (p l : List ℕ) (n : ℕ) (c : Cell) → length p ≡ n → 3 ≤ length l → put_cell (p ++ l) n c ≡ (p ++ cell_words c) ++ drop 3 l
puts p [] n c e h = absurd (omega arith)
puts p (x ∷ []) n c e h = absurd (omega arith)
puts p (x ∷ (y ∷ [])) n c e h = absurd (omega arith)
puts p (x ∷ (y ∷ (z ∷ w))) n c e h =
    let t = first_word c.tag c.vars in
    let v = low_word (number_of c.allowed) in
    let m = high_word (number_of c.allowed) in
    ap (λ (l : List ℕ). set (set l (n + 1) v) (n + 2) m) (set_at p x (y ∷ (z ∷ w)) t n e ∙ sym (append_assoc p (t ∷ []) (y ∷ (z ∷ w))))
    ∙ ap (λ (l : List ℕ). set l (n + 2) m)
    (set_at (p ++ (t ∷ [])) y (z ∷ w) v (n + 1) (simp length-append (omega arith)) ∙ append_assoc p (t ∷ []) (v ∷ (z ∷ w)) ∙ sym (append_assoc p (t ∷ (v ∷ [])) (z ∷ w)))
    ∙ set_at (p ++ (t ∷ (v ∷ []))) z w m (n + 2) (simp length-append (omega arith))
    ∙ append_assoc p (t ∷ (v ∷ [])) (m ∷ w)
    ∙ sym (append_assoc p (t ∷ (v ∷ (m ∷ []))) w)

pub put_more : (o o₀ done : List ℕ) (n : ℕ) (c : Cell) → o ≡ done ++ drop n o₀ → length done ≡ n → n + 3 ≤ length o₀ → put_cell o n c ≡ (done ++ cell_words c) ++ drop (n + 3) o₀
put_more o o₀ done n c e l h =
    ap (λ (q : List ℕ). put_cell q n c) e
    ∙ puts done (drop n o₀) n c l (omega (arith, length-drop n o₀))
    ∙ ap (λ (q : List ℕ). (done ++ cell_words c) ++ q) (drop-drop 3 n o₀)

flat_enter : (x : Col) (n : ℕ) (xs : List Col) → length (flat (x ∷ xs)) ≡ wide x + length (flat (enter x n ++ xs))
flat_enter wild n xs = rw flat_wilds (omega arith)
flat_enter (real (named_cells c v m rs)) n xs = rw flat_reals (omega arith)
flat_enter (real (free_cell t v m)) n xs = rw flat_wilds (omega arith)

lead_length : (v : ℕ) (xs : List Col) → Lead v xs → v ≤ length xs
lead_length zero xs l = omega arith
lead_length (suc v) [] l = absurd l
lead_length (suc v) (wild ∷ xs) l = let i = lead_length v xs l in omega arith
lead_length (suc v) (real r ∷ xs) l = absurd l

-- the written words and what is still to be met
more_target : (t m M : Option (List ℕ)) (done w : List ℕ) → t ≡ then (some done) m → m ≡ then (some w) M → t ≡ then (some (done ++ w)) M
more_target t m M done w e f = e ∙ ap (then (some done)) f ∙ sym (then_assoc (some done) (some w) M)

pub record Turned {ar a b o₀ : List ℕ} (g : Given ar a b o₀) (x y : Cursor) (n left : ℕ) (o : List ℕ) (p q c : Cell) (w : ℕ) : Type 0 where
  pub now : Now g (next_of x p.tag w) (next_of y q.tag w) (n + 3) (left - 1 + w) (put_cell o n c)
  pub few : left + w ≤ length o₀ + 1
  pub atmost : (next_of x p.tag w).at + (next_of y q.tag w).at ≤ length a + length b
  pub onward : x.at + y.at + 3 ≤ (next_of x p.tag w).at + (next_of y q.tag w).at

-- the columns in front
pub record Front {ar a b o₀ : List ℕ} (g : Given ar a b o₀) (x y : Cursor) (n left : ℕ) : Type 0 where
  pub see_a : Room a x
  pub see_b : Room b y
  pub within_a : x.at ≤ length a
  pub within_b : y.at ≤ length b
  pub wildcards_a : x.wildcards ≤ left
  pub wildcards_b : y.wildcards ≤ left
  pub room : n + 3 ≤ length o₀
  pub known : ((join_of (look_at a x) (look_at b y)).tag < kind_tag) → length ar ≡ decoded_length

module _ {ar a b o₀ : List ℕ} (g : Given ar a b o₀) (x y : Cursor) (n left : ℕ) (o : List ℕ) where
  front_at : (xs ys : List Col) → 0 < left → Mid g x y n left o xs ys → Front g x y n left
  front_at [] ys h m = absurd (omega (arith, m.left_is))
  front_at (u ∷ xs) [] h m = absurd m.pair
  front_at (u ∷ xs) (v ∷ ys) h m =
      let p = m.pair in
      let ra = room_col a x u xs m.sa in
      let rb = room_col b y v ys m.sb in
      let len = pair_length g.K ar (u ∷ xs) (v ∷ ys) p in
      record {
        see_a = ra.1;
        see_b = rb.1;
        within_a = m.sa.within;
        within_b = m.sb.within;
        wildcards_a = omega (arith, lead_length x.wildcards (u ∷ xs) m.sa.lead, m.left_is);
        wildcards_b = omega (arith, lead_length y.wildcards (v ∷ ys) m.sb.lead, m.left_is, len.0);
        room = omega (arith, m.room, flat_enter u 0 xs, flat_enter v 0 ys, some_side g.K ar u v xs ys p);
        known = rw (look_col a x u xs m.sa (tagged_left g.K ar u v xs ys m.pair), look_col b y v ys m.sb (tagged_right g.K ar u v xs ys m.pair)) (known g.K ar u v xs ys p);
      }

  pub front : 0 < left → Now g x y n left o → Front g x y n left
  front h m = front_at m.0 m.1 h m.2

  -- an empty set
  drop_at_turn : (xs ys : List Col) → 0 < left → Mid g x y n left o xs ys → number_of (join_of (look_at a x) (look_at b y)).allowed ≡ 0 → both g.r g.s ≡ none
  drop_at_turn [] ys h m e = absurd (omega (arith, m.left_is))
  drop_at_turn (u ∷ xs) [] h m e = absurd m.pair
  drop_at_turn (u ∷ xs) (v ∷ ys) h m e =
      m.target ∙ ap (then (some m.done)) (dropped g.K ar u v xs ys m.pair (rw (look_col a x u xs m.sa (tagged_left g.K ar u v xs ys m.pair), look_col b y v ys m.sb (tagged_right g.K ar u v xs ys m.pair)) at e))

  pub drop_out : 0 < left → Now g x y n left o → number_of (join_of (look_at a x) (look_at b y)).allowed ≡ 0 → Result (both g.r g.s) None o₀ o
  drop_out h m e = rw (drop_at_turn m.0 m.1 h m.2 e)

  turn_here : (u v : Col) (xs ys : List Col) (w : ℕ) → 0 < left → Mid g x y n left o (u ∷ xs) (v ∷ ys) → ¬ (number_of (join_of (column_cell u) (column_cell v)).allowed ≡ 0) → w ≡ opens_of ar (join_of (column_cell u) (column_cell v)).tag
      → Turned g x y n left o (column_cell u) (column_cell v) (join_of (column_cell u) (column_cell v)) w
  turn_here u v xs ys w h m e f =
      let p = m.pair in
      let t = turn g.K ar u v xs ys w p f e in
      let num : length (enter u w ++ xs) ≡ w + length xs = turn_count g.K ar u v xs ys w p f e in
      let ca = step_col a x w u xs m.sa (tagged_left g.K ar u v xs ys p) in
      let cb = step_col b y w v ys m.sb (tagged_right g.K ar u v xs ys p) in
      let side = some_side g.K ar u v xs ys p in
      let fu = flat_enter u w xs in
      let fv = flat_enter v w ys in
      let len = pair_length g.K ar (enter u w ++ xs) (enter v w ++ ys) t.pair in
      let rm : n + 3 + (length (flat (enter u w ++ xs)) + length (flat (enter v w ++ ys))) ≤ length o₀ = omega (arith, m.room) in
      record {
        now = (
          enter u w ++ xs,
          enter v w ++ ys,
          record {
            sa = ca.1;
            sb = cb.1;
            pair = t.pair;
            left_is = omega (arith, m.left_is);
            done = m.done ++ cell_words (join_of (column_cell u) (column_cell v));
            size = simp length-append (omega (arith, m.size));
            list = put_more o o₀ m.done n (join_of (column_cell u) (column_cell v)) m.list m.size (omega arith);
            target = more_target (both g.r g.s) (meet (u ∷ xs) (v ∷ ys)) (meet (enter u w ++ xs) (enter v w ++ ys)) m.done (cell_words (join_of (column_cell u) (column_cell v))) m.target t.same;
            room = rm;
          },
        );
        few = omega (arith, m.left_is);
        atmost = omega (arith, ca.1.within, cb.1.within);
        onward = omega arith;
      }

  turn_at : (xs ys : List Col) (w : ℕ) → 0 < left → Mid g x y n left o xs ys → ¬ (number_of (join_of (look_at a x) (look_at b y)).allowed ≡ 0) → w ≡ opens_of ar (join_of (look_at a x) (look_at b y)).tag
      → Turned g x y n left o (look_at a x) (look_at b y) (join_of (look_at a x) (look_at b y)) w
  turn_at [] ys w h m e f = absurd (omega (arith, m.left_is))
  turn_at (u ∷ xs) [] w h m e f = absurd m.pair
  turn_at (u ∷ xs) (v ∷ ys) w h m e f = rw (look_col a x u xs m.sa (tagged_left g.K ar u v xs ys m.pair), look_col b y v ys m.sb (tagged_right g.K ar u v xs ys m.pair))
      (turn_here u v xs ys w h m (rw (look_col a x u xs m.sa (tagged_left g.K ar u v xs ys m.pair), look_col b y v ys m.sb (tagged_right g.K ar u v xs ys m.pair)) at e) (rw (look_col a x u xs m.sa (tagged_left g.K ar u v xs ys m.pair), look_col b y v ys m.sb (tagged_right g.K ar u v xs ys m.pair)) at f))

module _ {ar a b o₀ : List ℕ} (g : Given ar a b o₀) (x y : Cursor) (n left : ℕ) (o : List ℕ) where
  -- the same of what the calls gave
  module _ (p q c : Cell) (ep : p ≡ look_at a x) (eq : q ≡ look_at b y) (ec : c ≡ join_of p q) (h : 0 < left) where
    joined : c ≡ join_of (look_at a x) (look_at b y)
    joined = ec ∙ ap₂ join_of ep eq

    pub known_of : Front g x y n left → c.tag < kind_tag → length ar ≡ decoded_length
    known_of f = rw joined f.known

    pub out_of : Now g x y n left o → number_of c.allowed ≡ 0 → Result (both g.r g.s) None o₀ o
    out_of m e = drop_out g x y n left o h m (ap (λ (z : Cell). number_of z.allowed) (sym joined) ∙ e)

    pub turned : (w : ℕ) → Now g x y n left o → ¬ (number_of c.allowed ≡ 0) → w ≡ opens_of ar c.tag → Turned g x y n left o p q c w
    turned w m e f =
        subst (λ (z : Cell). Turned g x y n left o p q z w) (sym joined)
        (subst (λ (z : Cell). Turned g x y n left o z q (join_of (look_at a x) (look_at b y)) w) (sym ep)
        (subst (λ (z : Cell). Turned g x y n left o (look_at a x) z (join_of (look_at a x) (look_at b y)) w) (sym eq)
        (turn_at g x y n left o m.0 m.1 w h m.2 (λ z. e (ap (λ (z : Cell). number_of z.allowed) joined ∙ z)) (f ∙ ap (λ (z : Cell). opens_of ar z.tag) joined))))

pub again : {ar a b o₀ : List ℕ} (g : Given ar a b o₀) (x y : Cursor) (n left : ℕ) (o : List ℕ) (p q c : Cell) (w : ℕ) (x' y' : Cursor) (o' : List ℕ)
    → Turned g x y n left o p q c w → x' ≡ next_of x p.tag w → y' ≡ next_of y q.tag w → o' ≡ put_cell o n c → Now g x' y' (n + 3) (left - 1 + w) o'
again g x y n left o p q c w x' y' o' t ex ey eo = rw (ex, ey, eo) t.now

pub less : {ar a b o₀ : List ℕ} (g : Given ar a b o₀) (x y : Cursor) (n left : ℕ) (o : List ℕ) (p q c : Cell) (w : ℕ) (x' y' : Cursor)
    → Turned g x y n left o p q c w → x' ≡ next_of x p.tag w → y' ≡ next_of y q.tag w → length a + length b - (x'.at + y'.at) < length a + length b - (x.at + y.at)
less g x y n left o p q c w x' y' t ex ey = rw (ex, ey) (omega (arith, t.atmost, t.onward))
