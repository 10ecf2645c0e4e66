use Prim.Native.Nat.{◌≤◌}
use lib.ListN.{length}
use Rattle.pattern.specs.Word.{form_of}
use Rattle.reading.proofs.Steps.{Left}
use Rattle.reading.proofs.read.+read_one.Given as goal

abbrev pub decreases-read_one : goal.decreases-read_one
decreases-read_one l = length l.p.now

abbrev pub invariant-loop-j : goal.invariant-loop-j
invariant-loop-j l = (1 ≤ l.at) × (l.at ≤ length l.p) × (l.j ≤ l.n) × Left l.t l.k (form_of l.w) l.p l.at l.j
