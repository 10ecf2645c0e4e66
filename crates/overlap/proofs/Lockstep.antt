-- Two rows in lockstep, of which nothing is written.
use mathlib.Core.Path.{◌≡◌, refl}
use mathlib.Core.List.{List}
use mathlib.Core.Option.{Option, none, some}
use mathlib.Core.Bool.{true, false}
use Prim.Native.Nat.{ℕ, ◌+◌, ◌≤◌, ◌<◌, ◌-◌}
use native.Mathlib.Omega.{arith}
use lib.ListN.{length, replicate, length-replicate, length-append}
use Rattle.signature.specs.Lists.{is_some}
use Rattle.cell.specs.declared.cell.Cell.{Cell}
use Rattle.cell.specs.declared.cell.Cursor.{Cursor}
use Rattle.std.specs.Prelude.{None, Some}
use Rattle.sets.specs.Heads.{number_of}
use Rattle.cell.specs.Cell.{kind_tag, Kinds}
use Rattle.cell.specs.Coded.{row_code, row_code_of}
use Rattle.signature.specs.Decoded.{decoded_length}
use Rattle.cell.specs.Cursor.{put_cell, next_of, look_at, join_of, opens_of}
use Rattle.cell.specs.Lockstep.{GivenRows, Result}
use Rattle.row.specs.Row.{Row, combine}
use Rattle.cell.proofs.RowListFacts.{not_both}
use Rattle.cell.proofs.LockstepFacts.{Given, as_cells, of_rows}
use Rattle.cell.proofs.Turns as Turns
use Rattle.cell.proofs.Turns.{Turned, Front, start, finish, front, known_of, turned, out_of, again, less}
use Rattle.overlap.specs.Pair.{TwoRows}

-- room that nobody writes to
abbrev pub spare : {ar a b : List ℕ} → TwoRows ar a b → List ℕ
spare g = replicate (length (row_code g.K g.r g.kind) + length (row_code g.K g.s g.kind)) 0

unfoldable pub roomy : {ar a b : List ℕ} (g : TwoRows ar a b) → GivenRows ar a b (spare g)
roomy g = record {
  K = g.K;
  kind = g.kind;
  r = g.r;
  s = g.s;
  rest_a = g.rest_a;
  rest_b = g.rest_b;
  code_a = g.code_a;
  code_b = g.code_b;
  typed_r = g.typed_r;
  typed_s = g.typed_s;
  room = rw length-replicate (omega arith);
}

unfoldable pub given : {ar a b : List ℕ} (g : TwoRows ar a b) → Given ar a b (spare g)
given g = as_cells (roomy g)

abbrev pub Now : {ar a b : List ℕ} → TwoRows ar a b → Cursor → Cursor → ℕ → Type 0
Now g x y left = (n : ℕ) × (o : List ℕ) × Turns.Now (given g) x y n left o

pub begin : {ar a b : List ℕ} (g : TwoRows ar a b) → Now g Turns.zero_cursor Turns.zero_cursor 1
begin g = (0, spare g, start (given g))

-- the answer
kept_some : (K : Kinds) (k n : ℕ) (m : Option Row) (o o' : List ℕ) → Result (row_code_of K k m) (Some n) o o' → true ≡ is_some m
kept_some K k n none o o' h = absurd (not_both {res = Some n} refl h)
kept_some K k n (some t) o o' h = refl

dropped_none : (K : Kinds) (k : ℕ) (m : Option Row) (o o' : List ℕ) → Result (row_code_of K k m) None o o' → false ≡ is_some m
dropped_none K k none o o' h = refl
dropped_none K k (some t) o o' h = absurd (not_both h.0 refl)

spare_length : {ar a b : List ℕ} (g : TwoRows ar a b) → length (spare g) ≤ length a + length b
spare_length g = rw (length-replicate, g.code_a, g.code_b) (simp length-append (omega arith))

-- a turn: where the next one begins
pub record Step {ar a b : List ℕ} (g : TwoRows ar a b) (x y : Cursor) (left w : ℕ) (x' y' : Cursor) : Type 0 where
  pub now : Now g x' y' (left - 1 + w)
  pub less : length a + length b - (x'.at + y'.at) < length a + length b - (x.at + y.at)

module _ {ar a b : List ℕ} (g : TwoRows ar a b) (x y : Cursor) (left : ℕ) (m : Now g x y left) where
  pub all_met : left ≡ 0 → true ≡ is_some (combine g.r g.s)
  unfolding given roomy
  all_met e = kept_some g.K g.kind m.0 (combine g.r g.s) _ _ (of_rows (roomy g) _ _ _ (finish (given g) x y m.0 left m.1 e m.2))

  module _ (h : 0 < left) where
    pub in_front : Front (given g) x y m.0 left
    in_front = front (given g) x y m.0 left m.1 h m.2

    module _ (p q c : Cell) (ep : p ≡ look_at a x) (eq : q ≡ look_at b y) (ec : c ≡ join_of p q) where
      pub known_here : c.tag < kind_tag → length ar ≡ decoded_length
      known_here = known_of (given g) x y m.0 left m.1 p q c ep eq ec h in_front

      pub none_met : number_of c.allowed ≡ 0 → false ≡ is_some (combine g.r g.s)
      unfolding given roomy
      none_met e = dropped_none g.K g.kind (combine g.r g.s) _ _ (of_rows (roomy g) _ _ _ (out_of (given g) x y m.0 left m.1 p q c ep eq ec h m.2 e))

      module _ (w : ℕ) (e : ¬ (number_of c.allowed ≡ 0)) (f : w ≡ opens_of ar c.tag) where
        turn_of : Turned (given g) x y m.0 left m.1 p q c w
        turn_of = turned (given g) x y m.0 left m.1 p q c ep eq ec h w m.2 e f

        pub few_left : left + w ≤ length a + length b + 1
        few_left = omega (arith, turn_of.few, spare_length g)

        pub step : (x' y' : Cursor) → x' ≡ next_of x p.tag w → y' ≡ next_of y q.tag w → Step g x y left w x' y'
        step x' y' ex ey = record {
          now = (m.0 + 3, put_cell m.1 m.0 c, again (given g) x y m.0 left m.1 p q c w x' y' _ turn_of ex ey refl);
          less = less (given g) x y m.0 left m.1 p q c w x' y' turn_of ex ey;
        }
