use mathlib.Core.Path.{refl}
use native.Mathlib.Omega.{arith}
use lib.ListN.{length-set}
use Rattle.sets.specs.Heads.{number_of}
use Rattle.preorder.proofs.FrontLaws.{put_first, some_left, put_more, put_all}
use Rattle.preorder.proofs.front.put_members.Goals as goal

pub loop-i-init : goal.loop-i-init
loop-i-init c = (omega arith, refl, put_first (number_of c.args.s) c.args.out.now)

pub lowest-h-requires : goal.lowest-h-requires
lowest-h-requires c = some_left c.loop-i.invariant.2 (omega (arith, c.requires.0))

pub overflow_cast-out : goal.overflow_cast-out
overflow_cast-out c = omega (arith, c.lowest-h.ensures.small)

pub without-next-requires : goal.without-next-requires
without-next-requires c = c.lowest-h.ensures.small

pub loop-i-preserved : goal.loop-i-preserved
loop-i-preserved c = (omega arith, simp length-set c.loop-i.invariant.1, put_more c.loop-i.invariant.2 c.lowest-h.result (number_of c.without-next.result) c.lowest-h.ensures c.without-next.ensures (omega arith) c.loop-i.invariant.1)

pub shape_of-out : goal.shape_of-out
shape_of-out c = c.loop-i.invariant.1

pub returns : goal.returns
returns c = put_all c.loop-i.invariant.2 c.args.m c.requires.0 (omega arith) c.loop-i.invariant.0
