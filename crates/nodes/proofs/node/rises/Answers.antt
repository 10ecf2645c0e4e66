use Prim.Native.Nat.{◌-◌, ◌<◌}
use native.Mathlib.Omega.{arith}
use lib.ListN.{length, length-take}
use Rattle.signature.specs.Limits.{last_level}
use Rattle.std.proofs.lemmas.List.{get_or-take}
use Rattle.nodes.proofs.EndLaws.{too_high}
use Rattle.nodes.proofs.node.rises.Goals as goal

pub returns-then-e-ge-LAST_LEVEL : goal.returns-then-e-ge-LAST_LEVEL
returns-then-e-ge-LAST_LEVEL c =
    let l = c.loop-e in
    let n = length c.args.es.now - 1 in
    let below : l.e-index < n = omega (arith, length-take n c.args.es.now) in
    too_high last_level c.args.es.now l.e-index l.least l.invariant (omega arith) (omega (arith, get_or-take n c.args.es.now l.e-index 0 below))
