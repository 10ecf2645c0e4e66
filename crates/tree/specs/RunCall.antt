-- 01, Turned down: the call run, "1, 13 and 15".
use Rattle.std.specs.Prelude.{◌≡◌, List, [], ℕ, replicate, length}
use Rattle.std.proofs.Math.Option.{Option, none, some}
use Rattle.signature.specs.Read.{read_booking, read_signature}
use Rattle.signature.specs.Signature.{Signature}
use Rattle.signature.specs.Value.{Value, vcons, vnil}
use Rattle.pattern.specs.Limits.{variable_count}
use Rattle.tree.specs.Answer.{Answer}
use Rattle.tree.specs.Run.{run}

-- "A refusal gives its number, other results 0"
abbrev pub refusal : ℕ → ℕ × Answer
refusal n = (n, record { rule = 0; plan = 0; places = replicate variable_count 0 })

-- 15: the tree is broken. "Success gives 0 as its number."
abbrev pub run_at : Option Answer → ℕ × Answer
run_at none = refusal 15
run_at (some a) = (0, a)

-- 13: the booking is unlawful
abbrev pub run_booking : Signature → List ℕ → Option Value → ℕ × Answer
run_booking sig tree none = refusal 13
run_booking sig tree (some v) = run_at (run (length tree) sig tree 0 (vcons v vnil) 0 [])

-- 1: the signature is unlawful
abbrev pub run_signature : Option Signature → List ℕ → List ℕ → ℕ × Answer
run_signature none tree bs = refusal 1
run_signature (some sig) tree bs = run_booking sig tree (read_booking sig bs)

-- run: what it is given, the number and the answer
pub record RunCall (ss tree bs : List ℕ) (number : ℕ) (a : Answer) : Type 0 where
  pub result_is : (number, a) ≡ run_signature (read_signature ss) tree bs
