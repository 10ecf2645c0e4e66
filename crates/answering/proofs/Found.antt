-- What the functions over lines say where the lines are known.
use mathlib.Core.Path.{◌≡◌, ap, ◌∙◌}
use mathlib.Core.List.{List}
use mathlib.Core.Option.{some}
use Prim.Native.Nat.{ℕ}
use lib.ListN.{length, take, drop}
use lib.Seq.{take_at}
use Rattle.std.specs.Prelude.{Option as Answer, Some, None}
use Rattle.table.specs.Rule.{Rule}
use Rattle.lines.specs.Answers.{count_line_of, rule_of, LineFilled, RuleFilled}
use Rattle.lines.specs.Lines.{list_line, rule_lines}
use Rattle.lines.specs.declared.line.CountLine.{CountLine}
use Rattle.lines.specs.declared.line.RuleLines.{RuleLines}

-- a list that stands there
module _ (key t ns : List ℕ) (used : ℕ) (line : list_line key t ≡ some (ns, used)) where
  module _ (x : Answer CountLine) (r : x ≡ count_line_of (list_line key t)) where
    is : x ≡ Some (record { count = length ns; used = used })
    is = r ∙ ap count_line_of line

    pub list_found : x ≡ None → ⊥
    list_found e = let f = is in cc

    pub list_values : (y : CountLine) → x ≡ Some y → (length ns ≡ y.count) × (used ≡ y.used)
    list_values y e = let f = is in let z : ◌≡◌ {A = CountLine} (record { count = length ns; used = used }) y = cc in (ap (λ v. v.count) z, ap (λ v. v.used) z)

  pub list_first : (entry exit : List ℕ) (m : ℕ) → length ns ≡ m → LineFilled (list_line key t) entry exit → take m exit ≡ ns
  list_first entry exit m e f = ap (take m) (f (ns, used) line) ∙ take_at ns (drop (length ns) entry) m e

-- the lines of a rule that stand there
module _ (t : List ℕ) (q : Rule) (used : ℕ) (lines : rule_lines t ≡ some (q, used)) where
  module _ (x : Answer RuleLines) (r : x ≡ rule_of (rule_lines t)) where
    rule_is : x ≡ Some (record { number = q.number; plan = q.plan; count = length q.pattern; used = used })
    rule_is = r ∙ ap rule_of lines

    pub rule_found : x ≡ None → ⊥
    rule_found e = let f = rule_is in cc

    pub rule_values : (y : RuleLines) → x ≡ Some y → (q.number ≡ y.number) × (q.plan ≡ y.plan) × (length q.pattern ≡ y.count) × (used ≡ y.used)
    rule_values y e = let f = rule_is in let z : ◌≡◌ {A = RuleLines} (record { number = q.number; plan = q.plan; count = length q.pattern; used = used }) y = cc in (ap (λ v. v.number) z, ap (λ v. v.plan) z, ap (λ v. v.count) z, ap (λ v. v.used) z)

  pub pattern_first : (entry exit : List ℕ) (m : ℕ) → length q.pattern ≡ m → RuleFilled (rule_lines t) entry exit → take m exit ≡ q.pattern
  pattern_first entry exit m e f = ap (take m) (f (q, used) lines) ∙ take_at q.pattern (drop (length q.pattern) entry) m e
