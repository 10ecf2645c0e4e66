-- The rows of a sound table's rules: their lines in the matrix, how many, and that they can be written.
use mathlib.Core.Path.{◌≡◌, refl, sym, ap, ap₂, subst, ◌∙◌}
use mathlib.Core.List.{List, [], ◌∷◌, ◌++◌, map, map-append}
use mathlib.Core.Option.{Option, none, some}
use mathlib.Core.Bool.{Bool, true, false, ◌&&◌}
use Prim.Native.Nat.{ℕ, ◌+◌, ◌*◌, ◌≤◌}
use native.Mathlib.Omega.{arith}
use lib.Dec.{eqb, leb}
use lib.ListN.{length, length-append, length-map}
use Rattle.signature.specs.Decoded.{Known}
use Rattle.signature.specs.Lists.{All, none_left, all}
use Rattle.signature.specs.Signature.{Signature}
use Rattle.signature.proofs.Booleans.{and_left, and_right}
use Rattle.signature.proofs.ListFacts.{all_append, all_map}
use Rattle.signature.proofs.Tests.{eqb_eq, true≢false}
use Rattle.pattern.specs.Limits.{pattern_limit}
use Rattle.pattern.specs.Pattern.{Pattern, pattern_code}
use Rattle.pattern.specs.Read.{read_pattern}
use Rattle.pattern.specs.Weight.{weight_by}
use Rattle.pattern.proofs.PatternBack.{pattern_words}
use Rattle.row.specs.Admitted.{refusal_of_pattern, Passed}
use Rattle.row.specs.Row.{Row, rcons, rnil, rows_plus}
use Rattle.row.proofs.PassedFacts.{passed_of}
use Rattle.row.proofs.RowCount.{plus_count}
use Rattle.cell.specs.Coded.{kinds_of, row_code}
use Rattle.rowlist.proofs.Kinded.{kind_zero}
use Rattle.tree.specs.Tree.{Line}
use Rattle.table.specs.Limits.{limits}
use Rattle.table.specs.Matrix.{lines, lines_by}
use Rattle.table.specs.Rule.{Rule, total_weight}
use Rattle.table.specs.Sound.{no_shared}
use Rattle.path.specs.Standing.{RowStands}
use Rattle.path.specs.Rows.{line_of, Fit}
use Rattle.writer.proofs.RowsFit.{rows_fit}
use Rattle.loading.specs.Lists.{rows_by, rows_for}
use Rattle.loading.proofs.Tested.{tests}
use Rattle.indexing.specs.Indexing.{row_of, rule_rows, rows_all}

module _ (sig : Signature) where
  rule_lines : (r : Rule) (o : Option Pattern) → map line_of (map (row_of r.number r.plan) (rows_by sig o)) ≡ lines_by sig r o
  rule_lines r none = refl
  rule_lines r (some p) = go (rows_plus sig 0 p)
    where
      go : (ws : List Row) → map line_of (map (row_of r.number r.plan) ws) ≡ map (λ w. record { rule = r.number; plan = r.plan; binds = []; cells = rcons w rnil }) ws
      go [] = refl
      go (w ∷ ws) = ap (λ (z : List Line). line_of (row_of r.number r.plan w) ∷ z) (go ws)

  -- their lines in the matrix, in the order of the table
  pub lines_are : (rs : List Rule) → map line_of (rows_all sig rs) ≡ lines sig rs
  lines_are [] = refl
  lines_are (r ∷ rs) = map-append line_of (rule_rows sig r) (rows_all sig rs) ∙ ap₂ (λ (x y : List Line). x ++ y) (rule_lines r (read_pattern sig r.pattern)) (lines_are rs)

  -- no more rows than the rules weigh
  pub few_rows : (rs : List Rule) → length (rows_all sig rs) ≤ total_weight sig rs
  few_rows [] = omega arith
  few_rows (r ∷ rs) = omega (arith, length-append (rule_rows sig r) (rows_all sig rs), length-map (rows_for sig r.pattern) (row_of r.number r.plan), go (read_pattern sig r.pattern), few_rows rs)
    where
      go : (o : Option Pattern) → length (rows_by sig o) ≤ weight_by o
      go none = omega arith
      go (some p) = plus_count sig p 0

first_of : (a b c : Bool) → (a && b && c) ≡ true → a ≡ true
first_of true b c e = refl
first_of false true c e = true≢false (sym e)
first_of false false c e = true≢false (sym e)

module _ {t : List ℕ} (g : Known t) where
  passed_fit : (r : Rule) → Passed g.sig r.pattern → All (Fit g.sig t) (rule_rows g.sig r)
  passed_fit r h =
      let w = pattern_words g.sig r.pattern h.pat h.read in
      let n : length (pattern_code h.pat) ≤ pattern_limit = omega (arith, ap length w.is_code, w.at_most) in
      subst (λ (o : Option Pattern). All (Fit g.sig t) (map (row_of r.number r.plan) (rows_by g.sig o))) (sym h.read)
      (all_map (row_of r.number r.plan) (λ (x : Row) (k : RowStands g.sig t x 0 × (length (row_code (kinds_of g.sig) x 0) ≤ 3 * pattern_limit)). record { good = k.0; short = k.1 }) (rows_fit g h.pat w.well_formed (kind_zero g) h.linear n))

  all_fit : (rs : List Rule) → all (λ r. eqb (refusal_of_pattern g.sig r.pattern) 0) rs ≡ true → All (Fit g.sig t) (rows_all g.sig rs)
  all_fit [] e = none_left
  all_fit (r ∷ rs) e =
      let a = eqb (refusal_of_pattern g.sig r.pattern) 0 in
      let b = all (λ (s : Rule). eqb (refusal_of_pattern g.sig s.pattern) 0) rs in
      all_append (passed_fit r (passed_of g.sig r.pattern (eqb_eq (refusal_of_pattern g.sig r.pattern) 0 (and_left a b e)))) (all_fit rs (and_right a b e))

  pub rows_are_fit : (rs : List Rule) → tests g.sig rs ≡ true → All (Fit g.sig t) (rows_all g.sig rs)
  rows_are_fit rs e = all_fit rs (first_of (all (λ r. eqb (refusal_of_pattern g.sig r.pattern) 0) rs) (leb (total_weight g.sig rs) limits.weight) (no_shared g.sig rs) e)
