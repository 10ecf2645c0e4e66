use mathlib.Core.Path.{ap}
use native.Mathlib.Omega.{arith}
use Rattle.signature.specs.Decoded.{count_of}
use Rattle.views.proofs.Outer.{left_there, left_elsewhere}
use Rattle.views.proofs.view.outside.Goals as goal

pub full-all-requires : goal.full-all-requires
full-all-requires c = let e = ap (count_of c.args.t.now) c.kind_at-kind.ensures in omega (arith, c.count_of.ensures, e, c.requires.few)

pub returns-then-left : goal.returns-then-left
returns-then-left c = left_there _ _ _ _ _ _ _ c.if-left.true c.kind_at-kind.ensures c.count_of.ensures c.full-all.ensures c.minus-allowed.ensures

pub returns-else-left : goal.returns-else-left
returns-else-left c = left_elsewhere _ _ _ _ _ _ c.if-left.false c.kind_at-kind.ensures c.count_of.ensures c.full-all.ensures
