-- Rows of a list, gathered and side by side.
use mathlib.Core.Path.{◌≡◌, refl, ◌∙◌}
use mathlib.Core.List.{List, []}
use Prim.Native.Nat.{ℕ, ◌*◌, ◌≤◌, ◌<◌}
use native.Mathlib.Omega.{arith}
use lib.ListN.{length, get_or}
use Rattle.signature.proofs.KnownFacts.{at_some}
use Rattle.signature.proofs.Tests.{none≢some}
use Rattle.row.specs.Row.{Row}
use Rattle.cell.specs.Coded.{kinds_of}
use Rattle.cell.specs.RowList.{from}
use Rattle.cell.proofs.Walk.{from_is}
use Rattle.overlap.specs.Pair.{TwoRows}
use Rattle.rowset.specs.Limits.{row_limit}
use Rattle.rowset.specs.Member.{set_words}
use Rattle.meeting.specs.Part.{RowAt}
use Rattle.meeting.specs.Rows.{GivenGather, Gathers, GivenMeet}
use Rattle.pairs.specs.Held.{Listed}

module _ {t a : List ℕ} (h : Listed t a) (cur : List ℕ) where
  pub none_gathered : GivenGather a 0 0 cur
  none_gathered = record {
    K = kinds_of h.known.sig;
    t = t;
    kind = 0;
    rs = [];
    before = record { there = λ i r e. none≢some e; few = λ i r e. none≢some e };
    many = refl;
    ss = h.rs;
    rest = h.rest;
    code_is = h.code_is;
    proper = h.proper;
    room = omega (arith, h.few);
  }

  module _ (n : ℕ) (cur' : List ℕ) (f : (g : GivenGather a 0 0 cur) → Gathers g n cur') where
    pub counted : n ≡ length h.rs
    unfolding none_gathered
    counted = omega (arith, (f none_gathered).count)

    pub gathered : (k room : ℕ) → k ≡ length h.rs → set_words * row_limit ≤ room → GivenMeet t a k cur' room
    unfolding none_gathered
    gathered k room e l = record { K = kinds_of h.known.sig; kind = 0; rs = h.rs; rows = (f none_gathered).rows; many = e; few = omega (arith, e, h.few); roomy = omega (arith, e, h.few, l) }

module _ {t a : List ℕ} {n : ℕ} {begins : List ℕ} {room : ℕ} (g : GivenMeet t a n begins room) where
  row : (i : ℕ) → i < n → (r : Row) × RowAt g.K t a g.kind (get_or begins i 0) r
  row i l = let (r, e) = at_some g.rs i (omega (arith, l, g.many)) in (r, g.rows.there i r e)

  pub begins_le : (i : ℕ) → i < n → get_or begins i 0 ≤ length a
  begins_le i l = (row i l).1.within

  pub two : (i j : ℕ) → i < n → j < n → TwoRows t (from a (get_or begins i 0)) (from a (get_or begins j 0))
  two i j x y =
      let (r, p) = row i x in
      let (s, q) = row j y in
      record {
        K = g.K;
        kind = g.kind;
        r = r;
        s = s;
        rest_a = p.rest;
        rest_b = q.rest;
        code_a = from_is a (get_or begins i 0) ∙ p.code_is;
        code_b = from_is a (get_or begins j 0) ∙ q.code_is;
        typed_r = p.typed;
        typed_s = q.typed;
      }
