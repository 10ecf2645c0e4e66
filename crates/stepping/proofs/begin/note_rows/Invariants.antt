use mathlib.Core.Path.{◌≡◌}
use Prim.Native.Nat.{◌+◌, ◌*◌, ◌≤◌}
use lib.ListN.{length}
use Rattle.signature.specs.Decoded.{Known, stride}
use Rattle.signature.specs.Limits.{constructor_limit}
use Rattle.stepping.proofs.BeginLaws.{Rows}
use Rattle.stepping.proofs.begin.note_rows.Given as goal

abbrev pub invariant-loop-c : goal.invariant-loop-c
invariant-loop-c l = (l.c ≤ l.n) × (l.n ≤ constructor_limit) × (l.at ≤ 1 + stride * l.c) × (length l.st ≡ length l.initial.st) × ((g : Known l.t) → Rows g.sig l.initial.st l.at l.c l.st)
