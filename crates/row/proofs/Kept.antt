-- What a row that may be dropped fits, and the arguments' rows.
use mathlib.Core.List.{List}
use mathlib.Core.Option.{Option, none, some}
use mathlib.Core.Bool.{Bool, false}
use Rattle.signature.specs.Lists.{any}
use Rattle.signature.specs.Value.{Value, Values}
use Rattle.row.specs.Row.{Row, Rows}
use Rattle.row.specs.RowFits.{row_fits, rows_fit}

-- a row that is not dropped fits a value
abbrev pub kept_fits : Option Row → Value → Bool
kept_fits none v = false
kept_fits (some r) v = row_fits r v

-- the same of the arguments' rows
abbrev pub kept_fit : Option Rows → Values → Bool
kept_fit none vs = false
kept_fit (some rs) vs = rows_fit rs vs

-- the same of lists of the arguments' rows
abbrev pub fits_somes : List Rows → Values → Bool
fits_somes rss vs = any (λ rs. rows_fit rs vs) rss
