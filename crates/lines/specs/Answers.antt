-- What the functions over lines hand back, by what was read.
use Rattle.std.specs.Prelude.{◌≡◌, List, ◌++◌, ℕ, length, drop, Option as Answer, Some, None}
use Rattle.std.proofs.Math.Option.{Option, none, some}
use Rattle.table.specs.Rule.{Rule}
use Rattle.lines.specs.declared.line.WordLine.{WordLine}
use Rattle.lines.specs.declared.line.CountLine.{CountLine}
use Rattle.lines.specs.declared.line.RuleLines.{RuleLines}

abbrev pub word_line_of : Option (ℕ × ℕ) → Answer WordLine
word_line_of none = None
word_line_of (some r) = Some (record { word = r.0; used = r.1 })

abbrev pub count_line_of : Option (List ℕ × ℕ) → Answer CountLine
count_line_of none = None
count_line_of (some r) = Some (record { count = length r.0; used = r.1 })

abbrev pub rule_of : Option (Rule × ℕ) → Answer RuleLines
rule_of none = None
rule_of (some r) = Some (record { number = r.0.number; plan = r.0.plan; count = length r.0.pattern; used = r.1 })

-- the numbers of the line stand first, and the rest is untouched
abbrev pub LineFilled : Option (List ℕ × ℕ) → List ℕ → List ℕ → Type 0
LineFilled read entry exit = (r : List ℕ × ℕ) → read ≡ some r → exit ≡ r.0 ++ drop (length r.0) entry

-- the words of the rule's pattern stand first, and the rest is untouched
abbrev pub RuleFilled : Option (Rule × ℕ) → List ℕ → List ℕ → Type 0
RuleFilled read entry exit = (r : Rule × ℕ) → read ≡ some r → exit ≡ r.0.pattern ++ drop (length r.0.pattern) entry
