-- The rows of all rules of a table, each in the table of rows, as the tree's writer asks for them.
use Rattle.std.specs.Prelude.{◌≡◌, List, [], ◌∷◌, ◌++◌, map, ℕ, ◌+◌, ◌*◌, ◌≤◌, ◌<◌, length, drop}
use Rattle.std.proofs.Math.Option.{some}
use Rattle.std.proofs.Math.ListN.{get_elem?}
use Rattle.signature.specs.Decoded.{Known}
use Rattle.signature.specs.Lists.{All}
use Rattle.signature.specs.Signature.{Signature}
use Rattle.row.specs.Row.{Row}
use Rattle.cell.specs.Coded.{kinds_of}
use Rattle.cell.specs.RowList.{entries}
use Rattle.path.specs.State.{row_stride, default_in}
use Rattle.signature.specs.Limits.{word_limit}
use Rattle.path.specs.Rows.{RuleRow, Fit, Before, RowKept, RowsKept}
use Rattle.rowset.specs.Limits.{row_limit}
use Rattle.table.specs.Rule.{Rule, default_of}
use Rattle.loading.specs.Lists.{rows_for, lists_for}
use Rattle.loading.specs.Load.{InForce, patterns}

-- a row of the rule of this number and plan
abbrev pub row_of : ℕ → ℕ → Row → RuleRow
row_of number plan w = record { rule = number; plan = plan; row = w }

-- the rows of a rule, with its number and plan
abbrev pub rule_rows : Signature → Rule → List RuleRow
rule_rows sig r = map (row_of r.number r.plan) (rows_for sig r.pattern)

-- "Each product is a row": of all rules, in the order of the table
abbrev pub rows_all : Signature → List Rule → List RuleRow
rows_all sig [] = []
rows_all sig (r ∷ rs) = rule_rows sig r ++ rows_all sig rs

-- a list of rows that begins at a word, and room for them from row r of the table of rows on
pub record GivenList (t a : List ℕ) (from r room : ℕ) : Type 0 where
  pub known : Known t
  pub ws : List Row
  pub rest : List ℕ
  pub code_is : drop from a ≡ entries (kinds_of known.sig) 0 ws ++ (0 ∷ rest)
  pub within : from ≤ length a
  pub near : from + length (entries (kinds_of known.sig) 0 ws) < word_limit
  pub fit : All (λ w. Fit known.sig t (row_of 0 0 w)) ws
  pub room_is : row_stride * (r + length ws) ≤ room

-- they are in it as rows of one rule, q is the row behind the last, and the rows before r are as they were
pub record ListIndexed (sig : Signature) (t a : List ℕ) (ws : List Row) (number plan r q : ℕ) (tab tab' : List ℕ) : Type 0 where
  pub many : q ≡ r + length ws
  pub placed : (j : ℕ) (w : Row) → get_elem? ws j ≡ some w → RowKept sig t a tab' (r + j) (row_of number plan w)
  pub kept : Before (row_stride * r) tab tab'

-- rules in force with their lists of rows, and room for all rows and the default's plan
pub record GivenRules (t table lists : List ℕ) (room : ℕ) : Type 0 where
  pub used : ℕ
  pub total : ℕ
  pub force : InForce t table used total lists
  pub near : length (lists_for force.known.sig (patterns force.rs)) < word_limit
  pub fit : All (Fit force.known.sig t) (rows_all force.known.sig force.rs)
  pub few : length (rows_all force.known.sig force.rs) ≤ row_limit
  pub room_is : row_stride * row_limit < room

-- all rows are in it, so many
pub record RulesIndexed (sig : Signature) (t lists : List ℕ) (rs : List Rule) (n : ℕ) (tab : List ℕ) : Type 0 where
  pub many : n ≡ length (rows_all sig rs)
  pub placed : RowsKept sig t lists tab (rows_all sig rs)

-- and behind them the plan of the table's default
pub record TableIndexed (sig : Signature) (t table lists : List ℕ) (rs : List Rule) (n : ℕ) (tab : List ℕ) : Type 0 where
  pub rows : RulesIndexed sig t lists rs n tab
  pub default_is : default_in tab ≡ default_of table
