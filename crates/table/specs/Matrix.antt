-- 01, Tree: the matrix of rules, and their tree.
use Rattle.std.specs.Prelude.{List, [], map, ◌∷◌, ◌++◌, ℕ}
use Rattle.std.proofs.Math.Option.{Option, none, some}
use Rattle.signature.specs.Signature.{Signature}
use Rattle.pattern.specs.Pattern.{Pattern}
use Rattle.pattern.specs.Read.{read_pattern}
use Rattle.row.specs.Row.{rcons, rnil, rows_plus}
use Rattle.tree.specs.Tree.{Line, Tree, compile}
use Rattle.tree.specs.Words.{layout}
use Rattle.table.specs.Limits.{visit_bound}
use Rattle.table.specs.Rule.{Rule}

-- "Each product is a row"
abbrev pub lines_by : Signature → Rule → Option Pattern → List Line
lines_by sig r none = []
lines_by sig r (some p) = map (λ w. record { rule = r.number; plan = r.plan; binds = []; cells = rcons w rnil }) (rows_plus sig 0 p)

-- the rows of all rules; the default is no row
abbrev pub lines : Signature → List Rule → List Line
lines sig [] = []
lines sig (r ∷ rs) = lines_by sig r (read_pattern sig r.pattern) ++ lines sig rs

module _ (dft : ℕ) where
  -- the tree of rules
  unfoldable pub tree : Signature → List Rule → Tree
  tree sig rs = compile dft visit_bound sig (0 ∷ []) (lines sig rs) 0

  -- and its words from index 0
  unfoldable pub tree_words : Signature → List Rule → List ℕ
  tree_words sig rs = layout (tree sig rs) 0
