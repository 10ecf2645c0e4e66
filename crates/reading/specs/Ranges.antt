-- The ranges of a pattern, in the terms of the walk over its words.
use Rattle.std.specs.Prelude.{◌≡◌, List, Bool, true, ℕ, get_or}
use Rattle.std.proofs.Math.Option.{some}
use Rattle.signature.specs.Signature.{Signature}
use Rattle.pattern.specs.Pattern.{Pattern}
use Rattle.pattern.specs.Range.{right_range}
use Rattle.pattern.specs.Read.{Form, is_head, is_var, is_and, is_or, is_wild, is_absurd, is_not, is_range, is_other, read_pattern}

-- the words are a pattern, past refusal 7
pub record Readable (ws : List ℕ) : Type 0 where
  pub sig : Signature
  pub pattern : Pattern
  pub read : read_pattern sig ws ≡ some pattern

-- words that begin with a pattern of this form begin with no range, or with a right one
abbrev pub right_front : Form → List ℕ → Bool
right_front (is_head c) ws = true
right_front (is_var x) ws = true
right_front is_and ws = true
right_front is_or ws = true
right_front is_wild ws = true
right_front is_absurd ws = true
right_front is_not ws = true
right_front is_range ws = right_range (get_or ws 1 0) (get_or ws 2 0)
right_front is_other ws = true
