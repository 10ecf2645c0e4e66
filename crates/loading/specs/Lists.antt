-- Lists of rows of several patterns, as words.
use Rattle.std.specs.Prelude.{List, [], ℕ}
use Rattle.std.proofs.Math.Option.{Option, none, some}
use Rattle.signature.specs.Signature.{Signature}
use Rattle.pattern.specs.Pattern.{Pattern}
use Rattle.pattern.specs.Read.{read_pattern}
use Rattle.row.specs.Row.{Row, rows_plus}
use Rattle.cell.specs.Coded.{kinds_of}
use Rattle.cell.specs.RowList.{list_code, each_with}

-- the rows of the pattern that was read
abbrev pub rows_by : Signature → Option Pattern → List Row
rows_by sig none = []
rows_by sig (some p) = rows_plus sig 0 p

-- the rows of the pattern that the words are
abbrev pub rows_for : Signature → List ℕ → List Row
rows_for sig ws = rows_by sig (read_pattern sig ws)

-- the words of their list
abbrev pub list_for : Signature → List ℕ → List ℕ
list_for sig ws = list_code (kinds_of sig) 0 (rows_for sig ws)

-- list behind list, each behind the number of its words
abbrev pub lists_for : Signature → List (List ℕ) → List ℕ
lists_for sig wss = each_with (list_for sig) wss
