use native.Mathlib.Omega.{arith}
use Rattle.search.proofs.CellsFacts.{to_view, beside_view, not_met}
use Rattle.search.proofs.cells.is_left.Goals as goal

pub view-requires : goal.view-requires
view-requires c = to_view c.requires _ (omega arith)

pub returns-in_default : goal.returns-in_default
returns-in_default c = λ g e v h. (c.view.ensures (to_view g _ (omega arith))).dropped c.in_default.is v

pub rows_meet-requires : goal.rows_meet-requires
rows_meet-requires c = let g = c.requires in let W = (c.view.ensures (to_view g _ (omega arith))).kept _ c.in-Some.is in beside_view g _ _ _ _ W.0 W.2

pub returns : goal.returns
returns c = λ g e. let W = (c.view.ensures (to_view g _ (omega arith))).kept _ c.in-Some.is in not_met g _ _ _ (c.rows_meet.ensures (beside_view g _ _ _ _ W.0 W.2)) e
