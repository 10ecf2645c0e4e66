-- Outcomes in the code's terms.
use Rattle.std.specs.Prelude.{Bool, true, false}
use Rattle.pattern.specs.Decide.{Out, fit, fail, swap, both}
use Rattle.pattern.specs.Match.{Binds}

-- the bindings of a fit, or of a failure
abbrev pub bound : Out → Binds
bound (fit σ) = σ
bound (fail σ) = σ

-- two outcomes as one: "and", or "or"
abbrev pub join : Bool → Out → Out → Out
join true a b = both a b
join false a b = swap (both (swap a) (swap b))
