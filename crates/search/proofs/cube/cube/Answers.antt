use mathlib.Core.Path.{◌≡◌, refl, sym, ◌∙◌}
use native.Mathlib.Omega.{arith}
use lib.ListN.{length}
use Rattle.search.specs.Branch.{GivenBranch, GivenStep}
use Rattle.search.proofs.CubeFacts.{to_step, first_cube, next_cube, no_cube, last_cube}
use Rattle.search.proofs.cube.cube.Goals.{After-narrow-arg-in-loop-i-1, At-loop-i}
use Rattle.search.proofs.cube.cube.Goals as goal

-- the lengths stay

long_q : (c : At-loop-i) → length c.args.q.now ≡ length c.loop-i.q
long_q c = sym (c.loop-i.invariant.1 ∙ c.open_row-words.auto.q)

abbrev step_of : (c : After-narrow-arg-in-loop-i-1) → let l = c.loop-i in GivenBranch c.args.t.now c.args.a.now c.args.rows.now c.args.n c.args.path.now c.args.depth (length c.args.q.now) (length c.args.both.now) → GivenStep c.args.t.now c.args.a.now c.args.rows.now c.args.n c.args.path.now c.args.depth l.i l.words l.q l.both
step_of c g = let l = c.loop-i in to_step g l.q l.both l.i l.words (sym (c.loop-i.invariant.1 ∙ c.open_row-words.auto.q)) (sym l.invariant.2) c.loop-i-test.true (l.invariant.3 _ (sym c.open_row-words.auto.q) g)

pub loop-i-init : goal.loop-i-init
loop-i-init c = let g = c.requires in let O = c.open_row-words in (
  omega arith,
  refl,
  refl,
  λ ql e h. first_cube h _ _ (O.ensures h.table.known),
)

pub narrow-requires : goal.narrow-requires
narrow-requires c = step_of c c.requires

pub returns-in_err-words : goal.returns-in_err-words
returns-in_err-words c = λ g. rw c.from_residual.ensures (no_cube g _ _ _ c.loop-i-test.true (rw c.in_err-words.was at (c.narrow.ensures (step_of (goal.at.returns-in_err-words c).After-narrow-arg-in-loop-i-1 g))))

pub loop-i-preserved : goal.loop-i-preserved
loop-i-preserved c = let l = c.loop-i in (
  omega (arith, c.loop-i-test.true),
  c.narrow.auto.q ∙ l.invariant.1,
  c.narrow.auto.both ∙ l.invariant.2,
  λ ql e h. next_cube h _ _ _ (rw c.in_ok-words.was at (c.narrow.ensures (to_step h l.q l.both l.i l.words (e ∙ sym l.invariant.1) (sym l.invariant.2) c.loop-i-test.true (l.invariant.3 ql e h)))),
)

pub returns : goal.returns
returns c = λ g. let l = c.loop-i in last_cube g _ _ _ l.invariant.0 (omega (arith, c.loop-i-test.false)) (l.invariant.3 _ (sym c.open_row-words.auto.q) g)
