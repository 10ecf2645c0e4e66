use Prim.Native.Nat.{◌+◌, ◌*◌, ◌≤◌}
use Rattle.search.proofs.hint.weigh.Given as goal

abbrev pub invariant-loop-r : goal.invariant-loop-r
invariant-loop-r l = (1 ≤ l.w) × (l.w ≤ 1 + 2 * l.r) × (l.r ≤ l.n)
