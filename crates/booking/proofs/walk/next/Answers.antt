use native.Mathlib.Omega.{arith}
use Rattle.booking.proofs.NextLaws.{nothing_open}
use Rattle.booking.proofs.walk.next.Goals as goal

pub returns-then-words-at-lt2 : goal.returns-then-words-at-lt2
returns-then-words-at-lt2 c = nothing_open _ c.args.words.now c.args.at c.args.count (λ e. omega arith) (omega arith)
