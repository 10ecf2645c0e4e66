-- The laws of views hold.
use native.Mathlib.Omega.{arith}
use Rattle.views.specs.Laws.{Laws}
use Rattle.views.proofs.Agree.{none_kept, same_kept, whole}
use Rattle.views.proofs.Closing.{closed_none, closed_more, closed_same}
use Rattle.views.proofs.Height.{few, low, low_places, low_combined}
use Rattle.views.proofs.Leave.{cover, apart}

pub laws : Laws
laws = record {
  none_kept = λ kept r v e. none_kept kept 0 r v e;
  cover = λ sig kept c k r v g C o a. cover sig kept c 0 r v g C o a;
  closed_none = λ kept r h. closed_none kept 0 r (λ j l u. h j (omega arith));
  closed_more = λ kept c r C h. closed_more kept c 0 r C h;
  closed_same = λ f g r h C. closed_same f g h 0 r C;
  apart = λ sig kept c k r v g f. apart sig kept c k 0 r v g f;
  whole = λ kept r v n h. whole kept 0 r v n h;
  same_kept = λ f g r v h. same_kept f g h 0 r v;
  few = λ sig kept c k r. few sig kept c k 0 r;
  low = λ sig kept c k r. low sig kept c k 0 r;
  low_places = low_places;
  low_combined = low_combined;
}
