-- The laws of overlap hold.
use mathlib.Core.List.{List}
use mathlib.Core.Bool.{true}
use Prim.Native.Nat.{ℕ}
use Rattle.signature.proofs.LawfulFacts.{sig_facts}
use Rattle.cell.specs.Coded.{kinds_of}
use Rattle.row.specs.Row.{rows_plus}
use Rattle.row.proofs.Exists.{overlap_booking, booking_overlap}
use Rattle.rowlist.proofs.Kinded.{kind_zero}
use Rattle.rowlist.proofs.Typing.{typed_rows}
use Rattle.overlap.specs.Laws.{Laws, TwoPatterns}
use Rattle.overlap.specs.Lists.{TwoLists}

unfoldable pub as_lists : {t x y : List ℕ} → TwoPatterns t x y → TwoLists t x y
as_lists g = record {
  K = kinds_of g.known.sig;
  kind = 0;
  rs = rows_plus g.known.sig 0 g.p;
  ss = rows_plus g.known.sig 0 g.q;
  rest_x = g.rest_x;
  rest_y = g.rest_y;
  code_x = g.code_x;
  code_y = g.code_y;
  typed_r = typed_rows g.known g.p true 0 (kind_zero g.known) g.words_p.well_formed;
  typed_s = typed_rows g.known g.q true 0 (kind_zero g.known) g.words_q.well_formed;
}

pub laws : Laws
unfolding as_lists
laws = record {
  lists_shared = λ t x y g.
      let f = sig_facts g.known.sig g.known.signed in
      (as_lists g, (overlap_booking g.known.sig f g.us g.ws g.p g.q g.words_p g.words_q, booking_overlap g.known.sig f g.us g.ws g.p g.q g.words_p g.words_q));
}
