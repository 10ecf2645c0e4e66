use mathlib.Core.Path.{◌≡◌}
use Prim.Native.Nat.{◌+◌, ◌≤◌}
use lib.ListN.{length}
use Rattle.signature.specs.Limits.{booking_limit}
use Rattle.run.specs.Parts.{Booked}
use Rattle.run.proofs.WalkLaws.{Here}
use Rattle.run.proofs.walk_in.Given as goal

abbrev pub invariant-loop-p : goal.invariant-loop-p
invariant-loop-p l = (l.n ≤ l.place) × (l.place + length l.b ≡ length l.book) × (length l.book ≤ booking_limit) × (length l.book ≤ length l.visits) × (length l.visits ≡ length l.initial.visits) × (l.node + length l.t ≡ length l.tree) × ((k : Booked l.table l.book) → Here k l.tree l.visits l.n l.t l.node l.b l.place)

abbrev pub decreases-loop-p : goal.decreases-loop-p
decreases-loop-p l = length l.t
