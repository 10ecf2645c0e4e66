use native.Mathlib.Omega.{arith}
use Rattle.sets.specs.Heads.{number_of}
use Rattle.sets.proofs.HeadSets.{empty_is, some_is}
use Rattle.builder.proofs.Ranges.{ends, in_order, in_range, no_others, some_others}
use Rattle.builder.proofs.build.range_rows.Goals as goal

pub bounds-p-1 : goal.bounds-p-1
bounds-p-1 c = omega (arith, (ends c.requires).0)

pub overflow_cast-p : goal.overflow_cast-p
overflow_cast-p c = record { fits = omega (arith, (ends c.requires).1, in_order c.requires) }

pub bounds-p-2 : goal.bounds-p-2
bounds-p-2 c = omega (arith, (ends c.requires).0)

pub overflow_cast-p-2 : goal.overflow_cast-p-2
overflow_cast-p-2 c = record { fits = omega (arith, (ends c.requires).2, in_order c.requires) }

pub between-set-requires : goal.between-set-requires
between-set-requires c = let g = c.requires in (omega (arith, (ends g).1, (ends g).2, (in_order g).0), omega (arith, (ends g).2, (in_order g).1))

pub one-requires : goal.one-requires
one-requires c = (c.requires.room, omega (arith, c.ranges.tag.fits))

pub returns-then-plus : goal.returns-then-plus
returns-then-plus c = λ g. in_range g (number_of c.between-set.result) c.between-set.ensures _ _ _ c.if-plus.true c.one.ensures

pub nothing-requires : goal.nothing-requires
nothing-requires c = omega (arith, c.requires.room)

pub returns-then-is_empty : goal.returns-then-is_empty
returns-then-is_empty c = λ g. no_others g (number_of c.between-set.result) c.between-set.ensures (number_of c.minus-rest.result) c.minus-rest.ensures _ _ _ c.if-plus.false (empty_is _ c.is_empty.ensures c.if-is_empty.true) c.nothing.ensures

pub one-requires-2 : goal.one-requires-2
one-requires-2 c = (c.requires.room, omega (arith, c.ranges.tag.fits))

pub returns : goal.returns
returns c = λ g. some_others g (number_of c.between-set.result) c.between-set.ensures (number_of c.minus-rest.result) c.minus-rest.ensures _ _ _ c.if-plus.false (some_is _ c.is_empty.ensures c.if-is_empty.false) c.one-2.ensures
