-- 01, Turned down: 7 to 10, and 18, the refusals of a pattern by itself.
use Rattle.std.specs.Prelude.{◌≡◌, List, cond, not, true, ℕ}
use Rattle.std.proofs.Math.Option.{Option, none, some}
use Rattle.signature.specs.Signature.{Signature}
use Rattle.pattern.specs.Ambiguous.{Ambiguous}
use Rattle.pattern.specs.Linear.{linear_plus}
use Rattle.pattern.specs.Pattern.{Pattern}
use Rattle.pattern.specs.Ranged.{ranged}
use Rattle.pattern.specs.Read.{read_pattern}
use Rattle.pattern.specs.Weight.{light_plus}
use Rattle.row.specs.Overlap.{ambiguous_plus}

-- 02, job 1: "18, a range whose low exceeds its high or whose high exceeds 100, stands directly after 7"; "8. It is not linear-plus. 9. Some part weighs over 64. 10. It is ambiguous.": the first that applies, 0 for none
abbrev pub refusal_by : Signature → Option Pattern → ℕ
refusal_by sig none = 7
refusal_by sig (some p) = cond (not (ranged p)) 18 (cond (not (linear_plus p)) 8 (cond (not (light_plus p)) 9 (cond (ambiguous_plus sig 0 p) 10 0)))

-- "7. The pattern is malformed."
abbrev pub refusal_of_pattern : Signature → List ℕ → ℕ
refusal_of_pattern sig ws = refusal_by sig (read_pattern sig ws)

module _ (sig : Signature) where
  -- a pattern that none of 7, 18 and 8 to 10 applies to
  pub record Passed (ws : List ℕ) : Type 0 where
    pub pat : Pattern
    pub read : read_pattern sig ws ≡ some pat
    pub ranges : ranged pat ≡ true
    pub linear : linear_plus pat ≡ true
    pub light : light_plus pat ≡ true
    pub plain : Ambiguous sig 0 pat → ⊥
