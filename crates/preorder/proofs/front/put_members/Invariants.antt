use mathlib.Core.Path.{◌≡◌}
use Prim.Native.Nat.{◌≤◌}
use lib.ListN.{length}
use Rattle.sets.specs.Heads.{number_of}
use Rattle.preorder.proofs.FrontLaws.{Put}
use Rattle.preorder.proofs.front.put_members.Given as goal

abbrev pub invariant-loop-i : goal.invariant-loop-i
invariant-loop-i l = (l.i ≤ l.m) × (length l.out ≡ length l.initial.out) × Put (number_of l.initial.left) l.initial.out l.i (number_of l.left) l.out
