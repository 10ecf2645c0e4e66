use mathlib.Core.Path.{◌≡◌, sym, ◌∙◌}
use mathlib.Core.Option.{some}
use native.Mathlib.Omega.{arith}
use lib.ListN.{length-set, take}
use lib.Seq.{length-take-le}
use Rattle.text.specs.Format.{number, list_within}
use Rattle.numbers.proofs.Digits.{word_none, word_some}
use Rattle.numbers.proofs.Lists.{no_list, too_many, no_number, number_read, list_read}
use Rattle.numbers.proofs.Spans.{before_most}
use Rattle.numbers.proofs.list.list.Goals.{In_ok-v}
use Rattle.numbers.proofs.list.list.Goals as goal

-- the number that was read
read : (c : In_ok-v) → number (take c.span-e.result c.loop-n.t.now) ≡ some c.in_ok-v.v
read c = word_some _ _ (sym c.number.ensures ∙ c.in_ok-v.was)

pub returns-then-n-limit : goal.returns-then-n-limit
returns-then-n-limit c = let l = c.loop-n in no_list (list_within c.args.limit c.args.s.now) _ _ (too_many l.invariant.3 l.invariant.1 (omega (arith, c.if-n-limit.true, l.invariant.0)))

pub slice_bounds-number-end : goal.slice_bounds-number-end
slice_bounds-number-end c = sym (length-take-le c.span-e.result c.loop-n.t.now (omega (arith, before_most 32 c.loop-n.t.now, c.span-e.ensures)))

pub returns-in_err-v : goal.returns-in_err-v
returns-in_err-v c = let l = c.loop-n in rw c.from_residual.ensures (no_list (list_within c.args.limit c.args.s.now) _ _ (no_number l.invariant.3 l.invariant.1 l.invariant.0 c.span-e.result c.span-e.ensures (word_none _ (sym c.number.ensures ∙ c.in_err-v.was))))

pub returns-then-e-t : goal.returns-then-e-t
returns-then-e-t c = let l = c.loop-n in list_read l.invariant.3 l.invariant.1 l.invariant.0 c.span-e.result c.span-e.ensures c.if-n-limit.false c.in_ok-v.v (read (goal.at.returns-then-e-t c).In_ok-v) c.if-e-t.true

pub overflow_add-from : goal.overflow_add-from
overflow_add-from c = omega (arith, before_most 32 c.loop-n.t.now, c.span-e.ensures)

pub slice_bounds-t-count : goal.slice_bounds-t-count
slice_bounds-t-count c = omega (arith, before_most 32 c.loop-n.t.now, c.span-e.ensures)

pub slice_bounds-t-start : goal.slice_bounds-t-start
slice_bounds-t-start c = omega (arith, before_most 32 c.loop-n.t.now, c.span-e.ensures)

pub loop-n-preserved : goal.loop-n-preserved
loop-n-preserved c = let l = c.loop-n in (omega (arith, l.invariant), simp length-set l.invariant.1, simp length-set l.invariant.2, number_read l.invariant.3 l.invariant.1 l.invariant.0 c.span-e.result c.span-e.ensures c.if-n-limit.false c.in_ok-v.v (read (goal.at.loop-n-preserved c).In_ok-v) c.if-e-t.false, omega (arith, before_most 32 c.loop-n.t.now, c.span-e.ensures, l.invariant.4))
