-- 01, Turned down: 7 to 10, and the weight of a pattern that passes them; 02, job 1: 18 "stands directly after 7".
use Rattle.std.specs.Prelude.{List, cond, ℕ, Result, Ok, Err, ◌≤◌, eqb, length}
use Rattle.std.proofs.Math.Option.{Option}
use Rattle.signature.specs.Decoded.{Known}
use Rattle.signature.specs.Signature.{Signature}
use Rattle.pattern.specs.Pattern.{Pattern}
use Rattle.pattern.specs.Read.{read_pattern}
use Rattle.pattern.specs.Weight.{weight_by}
use Rattle.row.specs.Admitted.{refusal_by}
use Rattle.builder.specs.Build.{words_room}

-- the table of a signature, and two slices with room for the rows of the words
pub record GivenWords (t ws : List ℕ) (n m : ℕ) : Type 0 where
  pub known : Known t
  pub room : words_room (length ws) ≤ n
  pub work_room : words_room (length ws) ≤ m

-- the first refusal of 7, 18 and 8 to 10 that applies to these words, or what they weigh
abbrev pub admission_by : Signature → Option Pattern → Result ℕ ℕ
admission_by sig o = cond (eqb (refusal_by sig o) 0) (Ok (weight_by o)) (Err (refusal_by sig o))

abbrev pub admission_of : Signature → List ℕ → Result ℕ ℕ
admission_of sig ws = admission_by sig (read_pattern sig ws)
