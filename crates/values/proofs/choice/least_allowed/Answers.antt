use mathlib.Core.Logic.{inl, inr}
use Prim.Native.Nat.{◌+◌}
use native.Mathlib.Omega.{arith}
use Rattle.sets.specs.Heads.{number_of}
use Rattle.sets.proofs.HeadSets.{empty_is, some_is}
use Rattle.overlap.proofs.PlaceFacts.{some_allowed, kind_small}
use Rattle.values.proofs.Choosing.{fewer, positive, size_given, word, member, start, turn, end}
use Rattle.values.proofs.choice.least_allowed.Goals as goal

pub first_of-f-requires : goal.first_of-f-requires
first_of-f-requires c = let g = c.requires in (g.known.decoded.long, kind_small g)

pub lowest-i-requires : goal.lowest-i-requires
lowest-i-requires c = some_allowed c.requires

pub overflow_cast-i : goal.overflow_cast-i
overflow_cast-i c = omega (arith, c.lowest-i.ensures.small)

pub overflow_add-f : goal.overflow_add-f
overflow_add-f c = omega (arith, word c.requires (c.first_of-f.result + c.lowest-i.result) (member c.requires c.first_of-f.result c.first_of-f.ensures c.lowest-i.result c.lowest-i.ensures.member))

pub sized-best-requires : goal.sized-best-requires
sized-best-requires c = size_given c.requires (c.first_of-f.result + c.lowest-i.result) (member c.requires c.first_of-f.result c.first_of-f.ensures c.lowest-i.result c.lowest-i.ensures.member)

pub without-left-requires : goal.without-left-requires
without-left-requires c = c.lowest-i.ensures.small

pub loop-best-init : goal.loop-best-init
loop-best-init c = λ allowed e r g f. start g _ f _ _ _ e c.sized-best.ensures r

pub returns-then-is_empty : goal.returns-then-is_empty
returns-then-is_empty c = λ g. end g _ _ _ _ (c.loop-best.invariant (number_of c.args.allowed) c.lowest-i.ensures.member c.without-left.ensures g c.first_of-f.ensures) (inl (empty_is _ c.is_empty.ensures c.if-is_empty.true))

pub lowest-j-requires : goal.lowest-j-requires
lowest-j-requires c = positive _ (some_is _ c.is_empty.ensures c.if-is_empty.false)

pub without-next-requires : goal.without-next-requires
without-next-requires c = c.lowest-j.ensures.small

pub overflow_cast-j : goal.overflow_cast-j
overflow_cast-j c = omega (arith, c.lowest-j.ensures.small)

pub overflow_add-f-in-loop-best : goal.overflow_add-f-in-loop-best
overflow_add-f-in-loop-best c = omega (arith, word c.requires (c.first_of-f.result + c.lowest-j.result) (let g = c.requires in member g c.first_of-f.result c.first_of-f.ensures c.lowest-j.result ((c.loop-best.invariant (number_of c.args.allowed) c.lowest-i.ensures.member c.without-left.ensures g c.first_of-f.ensures).among c.lowest-j.result c.lowest-j.ensures.member)))

pub sized-c-requires : goal.sized-c-requires
sized-c-requires c = size_given c.requires (c.first_of-f.result + c.lowest-j.result) (let g = c.requires in member g c.first_of-f.result c.first_of-f.ensures c.lowest-j.result ((c.loop-best.invariant (number_of c.args.allowed) c.lowest-i.ensures.member c.without-left.ensures g c.first_of-f.ensures).among c.lowest-j.result c.lowest-j.ensures.member))

pub loop-best-smaller : goal.loop-best-smaller
loop-best-smaller c = fewer _ _ _ c.lowest-j.ensures.member c.without-next.ensures

pub loop-best-preserved : goal.loop-best-preserved
loop-best-preserved c = λ allowed e r g f. turn g _ f _ _ _ _ _ _ (c.loop-best.invariant allowed e r g f) c.lowest-j.ensures.member c.sized-c.ensures c.without-next.ensures c.shorter-best.ensures

pub returns : goal.returns
returns c = λ g. end g _ _ _ _ (c.loop-best.invariant (number_of c.args.allowed) c.lowest-i.ensures.member c.without-left.ensures g c.first_of-f.ensures) (inr (omega (arith, c.loop-best-test.false)))
