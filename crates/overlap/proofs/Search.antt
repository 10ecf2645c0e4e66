-- A list of rows is read until a row passes a test.
use mathlib.Core.Path.{◌≡◌, refl, ap, ◌∙◌, sym}
use mathlib.Core.List.{List, [], ◌∷◌, ◌++◌, append_assoc, map}
use mathlib.Core.Option.{Option, none, some}
use mathlib.Core.Bool.{Bool, true, false, not, ◌||◌}
use Prim.Native.Nat.{ℕ, ◌≤◌, ◌+◌, ◌<◌}
use native.Mathlib.Omega.{arith}
use lib.ListN.{length, drop, length-drop, get_or, length-append}
use lib.Seq.{drop-drop, drop_at}
use Rattle.signature.specs.Lists.{In, in_here, in_there, any, is_some, is_empty, somes}
use Rattle.cell.specs.Cell.{Kinds}
use Rattle.cell.specs.Coded.{row_code, Typed}
use Rattle.rowlist.specs.Product.{AllTyped, with_each}
use Rattle.row.specs.Row.{Row, combine, each}
use Rattle.cell.specs.RowList.{list_code, from}
use Rattle.cell.proofs.Walk.{word_at, code_long, from_is}
use Rattle.overlap.specs.Lists.{RowByList, TwoLists}
use Rattle.overlap.specs.Pair.{TwoRows}

-- the list that y begins with, and the test
pub record Task (ar y : List ℕ) : Type 0 where
  pub K : Kinds
  pub kind : ℕ
  pub rows : List Row
  pub rest : List ℕ
  pub code_is : y ≡ list_code K kind rows ++ rest
  pub typed : AllTyped K ar kind rows
  pub test : Row → Bool

pub record Mid {ar y : List ℕ} (g : Task ar y) (at : ℕ) (todo : List Row) : Type 0 where
  pub code_is : drop at y ≡ list_code g.K g.kind todo ++ g.rest
  pub typed : AllTyped g.K ar g.kind todo
  pub same : any g.test g.rows ≡ any g.test todo
  pub members : (s : Row) → In s todo → In s g.rows

abbrev pub Now : {ar y : List ℕ} → Task ar y → ℕ → Type 0
Now g at = (todo : List Row) × Mid g at todo

pub start : {ar y : List ℕ} (g : Task ar y) → Now g 0
start g = (g.rows, record { code_is = g.code_is; typed = g.typed; same = refl; members = λ s i. i })

-- the row in front
pub record Head {ar y : List ℕ} (g : Task ar y) (at : ℕ) (s : Row) : Type 0 where
  pub rest : List ℕ
  pub typed : Typed g.K ar s g.kind
  pub member : In s g.rows
  pub code_is : from y (at + 1) ≡ row_code g.K s g.kind ++ rest

module _ {ar y : List ℕ} (g : Task ar y) (at : ℕ) where
  there_at : (todo : List Row) → Mid g at todo → at < length y
  there_at [] m = (word_at y at 0 g.rest m.code_is).1
  there_at (s ∷ todo) m = (word_at y at _ _ m.code_is).1

  pub there : Now g at → at < length y
  there m = there_at m.0 m.1

  end_at : (todo : List Row) → Mid g at todo → get_or y at 0 ≤ 0 → any g.test g.rows ≡ false
  end_at [] m z = m.same
  end_at (s ∷ todo) m z = absurd (omega (arith, (word_at y at _ _ m.code_is).0, code_long g.K g.kind s))

  pub end : Now g at → get_or y at 0 ≤ 0 → any g.test g.rows ≡ false
  end m z = end_at m.0 m.1 z

  next_row : (s : Row) (todo : List Row) → Mid g at (s ∷ todo) → drop (at + 1) y ≡ row_code g.K s g.kind ++ (list_code g.K g.kind todo ++ g.rest)
  next_row s todo m = (word_at y at _ _ m.code_is).2 ∙ (simp append_assoc)

  head_at : (s : Row) (todo : List Row) → Mid g at (s ∷ todo) → Head g at s
  head_at s todo m = record {
    rest = list_code g.K g.kind todo ++ g.rest;
    typed = m.typed.0;
    member = m.members s in_here;
    code_is = from_is y (at + 1) ∙ next_row s todo m;
  }

  head_todo : (todo : List Row) → Mid g at todo → 0 < get_or y at 0 → (s : Row) × Head g at s
  head_todo [] m h = absurd (omega (arith, (word_at y at 0 g.rest m.code_is).0))
  head_todo (s ∷ todo) m h = (s, head_at s todo m)

  pub head : Now g at → 0 < get_or y at 0 → (s : Row) × Head g at s
  head m h = head_todo m.0 m.1 h

  -- the row in front passes
  found_at : (todo : List Row) → Mid g at todo → 0 < get_or y at 0 → ((s : Row) → Head g at s → true ≡ g.test s) → any g.test g.rows ≡ true
  found_at [] m h f = absurd (omega (arith, (word_at y at 0 g.rest m.code_is).0))
  found_at (s ∷ todo) m h f = m.same ∙ ap (λ (b : Bool). b || any g.test todo) (sym (f s (head_at s todo m)))

  pub found : Now g at → 0 < get_or y at 0 → ((s : Row) → Head g at s → true ≡ g.test s) → any g.test g.rows ≡ true
  found m h f = found_at m.0 m.1 h f

  -- it does not, and the next one comes
  past_at : (todo : List Row) → Mid g at todo → 0 < get_or y at 0 → ((s : Row) → Head g at s → false ≡ g.test s) → Now g (at + 1 + get_or y at 0) × (at + 1 + get_or y at 0 ≤ length y)
  past_at [] m h f = absurd (omega (arith, (word_at y at 0 g.rest m.code_is).0))
  past_at (s ∷ todo) m h f =
      let len : get_or y at 0 ≡ length (row_code g.K s g.kind) = (word_at y at _ _ m.code_is).0 in
      let there : at < length y = (word_at y at _ _ m.code_is).1 in
      let nr = next_row s todo m in (
        (
          todo,
          record {
            code_is = sym (drop-drop (get_or y at 0) (at + 1) y) ∙ ap (drop (get_or y at 0)) nr ∙ drop_at (row_code g.K s g.kind) (list_code g.K g.kind todo ++ g.rest) (get_or y at 0) (sym len);
            typed = m.typed.1;
            same = m.same ∙ ap (λ (b : Bool). b || any g.test todo) (sym (f s (head_at s todo m)));
            members = λ q i. m.members q (in_there i);
          },
        ),
        omega (arith, length-drop (at + 1) y, simp length-append at (ap length nr)),
      )

  pub past : Now g at → 0 < get_or y at 0 → ((s : Row) → Head g at s → false ≡ g.test s) → Now g (at + 1 + get_or y at 0) × (at + 1 + get_or y at 0 ≤ length y)
  past m h f = past_at m.0 m.1 h f

-- the two tests
pub any_ones : (r : Row) (ss : List Row) → any (λ s. is_some (combine r s)) ss ≡ not (is_empty (with_each r ss))
any_ones r [] = refl
any_ones r (s ∷ ss) = go (combine r s) (any_ones r ss)
  where
    go : (m : Option Row) → any (λ s. is_some (combine r s)) ss ≡ not (is_empty (with_each r ss)) → (is_some m || any (λ s. is_some (combine r s)) ss) ≡ not (is_empty (somes (m ∷ map (combine r) ss)))
    go none e = e
    go (some t) e = refl

empty_append : (a b : List (Option Row)) → (not (is_empty (somes a)) || not (is_empty (somes b))) ≡ not (is_empty (somes (a ++ b)))
empty_append [] b = refl
empty_append (none ∷ a) b = empty_append a b
empty_append (some t ∷ a) b = refl

pub any_each : (rs ss : List Row) → any (λ r. not (is_empty (with_each r ss))) rs ≡ not (is_empty (somes (each combine rs ss)))
any_each [] ss = refl
any_each (r ∷ rs) ss = ap (λ (b : Bool). not (is_empty (with_each r ss)) || b) (any_each rs ss) ∙ empty_append (map (combine r) ss) (each combine rs ss)

unfoldable pub row_task : {ar x y : List ℕ} → RowByList ar x y → Task ar y
row_task g = record { K = g.K; kind = g.kind; rows = g.ss; rest = g.rest_y; code_is = g.code_y; typed = g.typed_s; test = λ s. is_some (combine g.r s) }

unfoldable pub list_task : {ar x y : List ℕ} → TwoLists ar x y → Task ar x
list_task g = record { K = g.K; kind = g.kind; rows = g.rs; rest = g.rest_x; code_is = g.code_x; typed = g.typed_r; test = λ r. not (is_empty (with_each r g.ss)) }

module _ {ar x y : List ℕ} (g : RowByList ar x y) (at : ℕ) where
  unfoldable two_rows : (s : Row) → Head (row_task g) at s → TwoRows ar x (from y (at + 1))
  unfolding row_task
  two_rows s h = record { K = g.K; kind = g.kind; r = g.r; s = s; rest_a = g.rest_x; rest_b = h.rest; code_a = g.code_x; code_b = h.code_is; typed_r = g.typed_r; typed_s = h.typed }

  module _ (m : Now (row_task g) at) where
    pub given1 : 0 < get_or y at 0 → TwoRows ar x (from y (at + 1))
    given1 h = let q = head (row_task g) at m h in two_rows q.0 q.1

    pub found1 : 0 < get_or y at 0 → ((q : TwoRows ar x (from y (at + 1))) → true ≡ is_some (combine q.r q.s)) → true ≡ not (is_empty (with_each g.r g.ss))
    unfolding row_task two_rows
    found1 h f = sym (found (row_task g) at m h (λ s q. f (two_rows s q))) ∙ any_ones g.r g.ss

    pub past1 : 0 < get_or y at 0 → ((q : TwoRows ar x (from y (at + 1))) → false ≡ is_some (combine q.r q.s)) → Now (row_task g) (at + 1 + get_or y at 0) × (at + 1 + get_or y at 0 ≤ length y)
    unfolding row_task two_rows
    past1 h f = past (row_task g) at m h (λ s q. f (two_rows s q))

    pub end1 : get_or y at 0 ≤ 0 → false ≡ not (is_empty (with_each g.r g.ss))
    unfolding row_task
    end1 z = sym (end (row_task g) at m z) ∙ any_ones g.r g.ss
