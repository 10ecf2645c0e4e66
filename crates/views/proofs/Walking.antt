-- The walk over the cells of a row of at most 64: the number of the cell in front.
use mathlib.Core.Path.{◌≡◌, refl, ap, ◌∙◌}
use mathlib.Core.List.{List, [], ◌∷◌, ◌++◌}
use Prim.Native.Nat.{ℕ, suc, ◌+◌, ◌-◌, ◌*◌, ◌/◌, ◌≤◌, ◌<◌}
use native.Mathlib.Omega.{arith}
use lib.ListN.{length}
use Rattle.row.specs.Row.{Row, Rows, rnil, rcons}
use Rattle.row.specs.RowFits.{Good, Goods, place_count, places_count}
use Rattle.cell.specs.Cell.{all_words}
use Rattle.cell.specs.declared.cell.Cell.{Cell}
use Rattle.cell.specs.Coded.{kinds_of, all_cells, row_code}
use Rattle.cell.specs.Cursor.{cell_at, opens_of}
use Rattle.witness.proofs.Behind.{◌behind◌, places_behind}
use Rattle.witness.proofs.Pairs.{typed_good}
use Rattle.meeting.specs.Part.{GivenPart}
use Rattle.views.specs.Write.{GivenRow}
use Rattle.views.proofs.Standing.{Stands, Front, front, few, start as started, below, below_kinds, places_below, code_length}

pub record Walks {t row : List ℕ} (g : GivenRow t row) (at left i : ℕ) (ks : List ℕ) (todo : Rows) : Type 0 where
  pub stands : Stands g.part.known.sig row g.part.rest at left ks todo
  pub number : at ≡ 3 * i
  pub total : i + places_count todo ≡ place_count g.part.r

-- the row in front, and both ways on
pub record Ahead {t row : List ℕ} (g : GivenRow t row) (at left i k : ℕ) (ks : List ℕ) (r : Row) (todo : Rows) : Type 0 where
  pub front : Front g.part.known row g.part.rest at left k ks r todo
  pub index : at / 3 ≡ i
  pub small : i < 64
  pub places : i + place_count r + places_count todo ≤ 64
  pub given : GivenPart t row at
  pub into : (c : Cell) (w : ℕ) → c ≡ cell_at row at → w ≡ opens_of t c.tag → Walks g (at + 3) (left - 1 + w) (suc i) (below_kinds g.part.known.sig r ++ ks) (below r behind todo)
  pub some : (n : ℕ) → ((q : GivenPart t row at) → n ≡ at + length (row_code q.K q.r q.kind)) → at + 3 ≤ n
  pub past : (n : ℕ) → ((q : GivenPart t row at) → n ≡ at + length (row_code q.K q.r q.kind)) → Walks g n (left - 1) (i + place_count r) ks todo

module _ {t row : List ℕ} (g : GivenRow t row) where
  pub start : Walks g 0 1 0 (g.part.kind ∷ []) (rcons g.part.r rnil)
  start = record { stands = started g.part; number = refl; total = omega arith }

  pub ahead : (at left i : ℕ) {k : ℕ} {ks : List ℕ} {r : Row} {todo : Rows} → Good g.part.known.sig k r → Goods g.part.known.sig ks todo → Walks g at left i (k ∷ ks) (rcons r todo) → Ahead g at left i k ks r todo
  ahead at left i {k} {ks} {r} {todo} a b m =
      let K = kinds_of g.part.known.sig in
      let F = front g.part.known row g.part.rest at left a b m.stands in
      let q : GivenPart t row at = record { K = K; kind = k; r = r; there = record { rest = all_words (all_cells K todo ks) ++ g.part.rest; code_is = F.code_is; within = m.stands.within; typed = typed_good g.part.known a } } in
      let p = places_below r in
      record {
        front = F;
        index = omega (arith, m.number);
        small = omega (arith, m.total, g.few, p);
        places = omega (arith, m.total, g.few);
        given = q;
        into = λ c w ec ew. record {
          stands = F.into w (ew ∙ ap (λ (x : Cell). opens_of t x.tag) (ec ∙ F.cell));
          number = omega (arith, m.number);
          total = omega (arith, m.total, p, places_behind (below r) todo);
        };
        some = λ n h. omega (arith, h q, code_length a, p);
        past = λ n h. record {
          stands = F.past n (h q);
          number = omega (arith, m.number, h q, code_length a);
          total = omega (arith, m.total);
        };
      }

  -- there are no more rows to come than words
  pub few_left : (at left i : ℕ) {ks : List ℕ} {todo : Rows} → Walks g at left i ks todo → at + left ≤ length row
  few_left at left i m = let q = few g.part.known.sig row g.part.rest at left m.stands in omega (arith, q.0, q.1)
