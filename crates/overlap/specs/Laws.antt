-- The laws of overlap. The function `laws` promises them.
use Rattle.std.specs.Prelude.{◌↔◌, ◌≡◌, List, ◌++◌, true, not, ℕ}
use Rattle.signature.specs.Decoded.{Known}
use Rattle.signature.specs.Lists.{is_empty, somes}
use Rattle.pattern.specs.Pattern.{Pattern}
use Rattle.pattern.specs.WellFormed.{PatternWords}
use Rattle.cell.specs.Coded.{kinds_of}
use Rattle.row.specs.Overlap.{Shared}
use Rattle.row.specs.Row.{combine, each, rows_plus}
use Rattle.cell.specs.RowList.{list_code}
use Rattle.overlap.specs.Lists.{TwoLists}

-- x and y begin with the rows of two patterns of a lawful signature
pub record TwoPatterns (t x y : List ℕ) : Type 0 where
  pub known : Known t
  pub us : List ℕ
  pub ws : List ℕ
  pub p : Pattern
  pub q : Pattern
  pub words_p : PatternWords known.sig us p
  pub words_q : PatternWords known.sig ws q
  pub rest_x : List ℕ
  pub rest_y : List ℕ
  pub code_x : x ≡ list_code (kinds_of known.sig) 0 (rows_plus known.sig 0 p) ++ rest_x
  pub code_y : y ≡ list_code (kinds_of known.sig) 0 (rows_plus known.sig 0 q) ++ rest_y

pub record Laws : Type 0 where
  -- 12: their lists meet exactly where some lawful booking fits both
  pub lists_shared : (t x y : List ℕ) (g : TwoPatterns t x y) → (h : TwoLists t x y) × ((not (is_empty (somes (each combine h.rs h.ss))) ≡ true) ↔ (Shared g.known.sig g.p g.q))
