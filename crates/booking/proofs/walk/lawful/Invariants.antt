use mathlib.Core.Path.{◌≡◌}
use Prim.Native.Nat.{◌≤◌}
use lib.ListN.{length, drop}
use Rattle.signature.specs.Decoded.{Known, kinds_of}
use Rattle.booking.specs.Walk.{open_limit, Nested, walk, first_due, due_after}
use Rattle.booking.proofs.walk.lawful.Given as goal

abbrev pub invariant-loop-i : goal.invariant-loop-i
invariant-loop-i l = (length l.words ≡ open_limit) × (l.at ≤ open_limit) × Nested l.t (kinds_of l.t) (drop l.at l.words) × (l.i ≤ length l.b) × ((g : Known l.t) → walk g.sig first_due l.b ≡ walk g.sig (due_after l.t l.i (drop l.at l.words)) (drop l.i l.b))
