use mathlib.Core.Path.{◌≡◌}
use Prim.Native.Nat.{◌*◌, ◌≤◌}
use lib.ListN.{length}
use Rattle.signature.specs.Decoded.{Known}
use Rattle.signature.specs.Limits.{kind_limit}
use Rattle.stepping.specs.State.{heads_at, head_word}
use Rattle.stepping.proofs.BeginLaws.{Noted}
use Rattle.stepping.proofs.begin.note_heads.Given as goal

abbrev pub invariant-loop-k : goal.invariant-loop-k
invariant-loop-k l = (l.k ≤ l.n) × (l.n ≤ kind_limit) × (length l.st ≡ length l.initial.st) × ((g : Known l.t) → Noted heads_at (2 * l.k) (head_word g.sig) l.initial.st l.st)
