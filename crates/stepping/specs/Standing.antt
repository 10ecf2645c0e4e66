-- What the code finds of a word: its row, and whether it may stand where a value is due.
use Rattle.std.specs.Prelude.{◌≡◌, List, cond, ℕ, ◌+◌, ◌<◌, leb, drop, Option, None, Some}
use Rattle.std.proofs.Math.Option.{some, none}
use Rattle.signature.specs.Limits.{depth_limit, level_base}
use Rattle.booking.specs.Walk.{step_by, opened, rest, Waiting}
use Rattle.stepping.specs.State.{row_in, count_in, has_row, state_view}
use Rattle.stepping.specs.declared.step.Head.{Head}

-- of a level there are no arguments
abbrev pub row_as : List ℕ → List ℕ → ℕ → Option (ℕ × ℕ)
row_as ss st w = cond (has_row ss st w) (cond (leb level_base w) (Some (0, 0)) (Some (row_in st w + 2, count_in ss st w))) None

-- i words are read, and what is open begins at a place
abbrev pub HeadAs : Option Head → List ℕ → List ℕ → ℕ → ℕ → ℕ → Type 0
HeadAs (Some h) ss st at i w = (step_by (state_view ss st) i (drop at st) w ≡ some (opened h.place h.count h.deep (rest i (drop at st)))) × (h.count < depth_limit) × (h.deep < depth_limit) × Waiting i at st
HeadAs None ss st at i w = step_by (state_view ss st) i (drop at st) w ≡ none
