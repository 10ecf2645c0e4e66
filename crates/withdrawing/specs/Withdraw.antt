-- A rule taken out of the rules of a table.
use Rattle.std.specs.Prelude.{List, cond, ℕ, eqb}
use Rattle.table.specs.Limits.{limits}
use Rattle.table.specs.Refusals.{withdrawal_refusal}
use Rattle.table.specs.Rule.{Rule, default_of, stored, take_out}

-- the table afterwards: on a refusal it stays
abbrev pub withdrawn : ℕ → List Rule → List ℕ → List ℕ
withdrawn n rs before = cond (eqb (withdrawal_refusal n rs) 0) (stored limits (default_of before) (take_out n rs) before) before
