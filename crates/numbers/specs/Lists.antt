-- Lists of numbers that were read, and where they stand.
use Rattle.std.specs.Prelude.{◌≡◌, List, ◌++◌, ℕ, length, drop, Option as Answer, Some, None}
use Rattle.std.proofs.Math.Option.{Option, none, some}

-- how many numbers were read, or that the format is broken
abbrev pub count_of : Option (List ℕ) → Answer ℕ
count_of none = None
count_of (some ns) = Some (length ns)

-- the numbers that were read stand first, and the rest is untouched
abbrev pub Filled : Option (List ℕ) → List ℕ → List ℕ → Type 0
Filled read entry exit = (ns : List ℕ) → read ≡ some ns → exit ≡ ns ++ drop (length ns) entry
