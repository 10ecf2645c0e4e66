use mathlib.Core.Path.{◌≡◌, refl, sym, ◌∙◌}
use Prim.Native.Nat.{ℕ}
use lib.ListN.{length}
use native.Mathlib.Omega.{arith}
use borrow.Author.Rules.{rules}
use lib.Seq.{length-take-le}
use Rattle.search.proofs.ChoiceFacts.{table_room, row_placed}
use Rattle.search.proofs.LookFacts.{none_seen, to_shortest, long_seen, to_meeting, to_taker, free_seen, to_beside, taken_seen}
use Rattle.search.proofs.look.look.Goals as goal

pub returns-in_default : goal.returns-in_default
returns-in_default c = λ g. none_seen g _ _ _ _ c.in_default.is (c.cube.ensures g.branch)

pub shortest-requires : goal.shortest-requires
shortest-requires c = let g = c.requires in let K = (c.cube.ensures g.branch).cube _ c.in-Some.is in to_shortest g _ _ K _ refl

pub returns-in_default-shortest : goal.returns-in_default-shortest
returns-in_default-shortest c = λ g. let K = (c.cube.ensures g.branch).cube _ c.in-Some.is in long_seen g _ _ K _ _ ((c.shortest.ensures (to_shortest g _ _ K _ refl)).too_long c.in_default-shortest.is)

pub meeting-requires : goal.meeting-requires
meeting-requires c = let g = c.requires in let K = (c.cube.ensures g.branch).cube _ c.in-Some.is in (to_meeting g _ _ K, search rules)

pub slice_bounds-taker-end : goal.slice_bounds-taker-end
slice_bounds-taker-end c = let g = c.requires in let K = (c.cube.ensures g.branch).cube _ c.in-Some.is in let F = (c.shortest.ensures (to_shortest g _ _ K _ refl)).found _ c.in-Some-shortest.is in omega (arith, F.2, F.1.few, c.shortest.auto.out, g.room)

pub slice_bounds-taker-end-2 : goal.slice_bounds-taker-end-2
slice_bounds-taker-end-2 c = let g = c.requires in let K = (c.cube.ensures g.branch).cube _ c.in-Some.is in let F = (c.shortest.ensures (to_shortest g _ _ K _ refl)).found _ c.in-Some-shortest.is in sym (length-take-le _ _ (omega (arith, F.2, F.1.few, c.shortest.auto.out, g.room)))

pub taker-requires : goal.taker-requires
taker-requires c = let g = c.requires in let K = (c.cube.ensures g.branch).cube _ c.in-Some.is in let F = (c.shortest.ensures (to_shortest g _ _ K _ refl)).found _ c.in-Some-shortest.is in to_taker g _ _ K _ (c.meeting.ensures (to_meeting g _ _ K)) _ _ _ F.0 F.1 F.2 F.3 refl

pub returns-in_default-taker : goal.returns-in_default-taker
returns-in_default-taker c = λ g. let K = (c.cube.ensures g.branch).cube _ c.in-Some.is in let F = (c.shortest.ensures (to_shortest g _ _ K _ refl)).found _ c.in-Some-shortest.is in free_seen g _ _ K _ (c.meeting.ensures (to_meeting g _ _ K)) _ _ _ F.0 F.1 F.2 F.3 refl _ (c.taker.ensures (to_taker g _ _ K _ (c.meeting.ensures (to_meeting g _ _ K)) _ _ _ F.0 F.1 F.2 F.3 refl)) c.in_default-taker.is

pub start_of-start-requires : goal.start_of-start-requires
start_of-start-requires c = let g = c.requires in let K = (c.cube.ensures g.branch).cube _ c.in-Some.is in let F = (c.shortest.ensures (to_shortest g _ _ K _ refl)).found _ c.in-Some-shortest.is in table_room g.branch.table _ ((c.taker.ensures (to_taker g _ _ K _ (c.meeting.ensures (to_meeting g _ _ K)) _ _ _ F.0 F.1 F.2 F.3 refl)).there _ c.in-Some-taker.is)

pub slice_bounds-open_cells-count : goal.slice_bounds-open_cells-count
slice_bounds-open_cells-count c = let g = c.requires in let K = (c.cube.ensures g.branch).cube _ c.in-Some.is in let F = (c.shortest.ensures (to_shortest g _ _ K _ refl)).found _ c.in-Some-shortest.is in omega (arith, c.start_of-start.ensures, (row_placed g.branch.table _ ((c.taker.ensures (to_taker g _ _ K _ (c.meeting.ensures (to_meeting g _ _ K)) _ _ _ F.0 F.1 F.2 F.3 refl)).there _ c.in-Some-taker.is)).within)

pub slice_bounds-open_cells-start : goal.slice_bounds-open_cells-start
slice_bounds-open_cells-start c = let g = c.requires in let K = (c.cube.ensures g.branch).cube _ c.in-Some.is in let F = (c.shortest.ensures (to_shortest g _ _ K _ refl)).found _ c.in-Some-shortest.is in omega (arith, c.start_of-start.ensures, (row_placed g.branch.table _ ((c.taker.ensures (to_taker g _ _ K _ (c.meeting.ensures (to_meeting g _ _ K)) _ _ _ F.0 F.1 F.2 F.3 refl)).there _ c.in-Some-taker.is)).within)

pub open_cells-requires : goal.open_cells-requires
open_cells-requires c = let g = c.requires in let K = (c.cube.ensures g.branch).cube _ c.in-Some.is in let F = (c.shortest.ensures (to_shortest g _ _ K _ refl)).found _ c.in-Some-shortest.is in to_beside g _ _ K _ (c.meeting.ensures (to_meeting g _ _ K)) _ _ _ F.0 F.1 F.2 F.3 refl _ (c.taker.ensures (to_taker g _ _ K _ (c.meeting.ensures (to_meeting g _ _ K)) _ _ _ F.0 F.1 F.2 F.3 refl)) _ c.in-Some-taker.is _ c.start_of-start.ensures

pub returns : goal.returns
returns c = λ g. let four : ◌≡◌ {A = ℕ} (length c.args.live.now) 4 = search rules in let K = (c.cube.ensures g.branch).cube _ c.in-Some.is in let F = (c.shortest.ensures (to_shortest g _ _ K _ refl)).found _ c.in-Some-shortest.is in taken_seen g _ _ K _ (c.meeting.ensures (to_meeting g _ _ K)) _ _ _ F.0 F.1 F.2 F.3 refl _ (c.taker.ensures (to_taker g _ _ K _ (c.meeting.ensures (to_meeting g _ _ K)) _ _ _ F.0 F.1 F.2 F.3 refl)) _ c.in-Some-taker.is _ c.start_of-start.ensures _ (c.meeting.auto.live ∙ four) (c.open_cells.ensures (to_beside g _ _ K _ (c.meeting.ensures (to_meeting g _ _ K)) _ _ _ F.0 F.1 F.2 F.3 refl _ (c.taker.ensures (to_taker g _ _ K _ (c.meeting.ensures (to_meeting g _ _ K)) _ _ _ F.0 F.1 F.2 F.3 refl)) _ c.in-Some-taker.is _ c.start_of-start.ensures))
