-- 02, job 1: refusal 18, "a range whose low exceeds its high or whose high exceeds 100", decided over every part. Laws says that it is WrongRange.
use Rattle.std.specs.Prelude.{Bool, true, ◌&&◌}
use Rattle.pattern.specs.Pattern.{Pattern, var, wild, absurd_pat, neg, and, or, head, range, Patterns, pnil, pcons}
use Rattle.pattern.specs.Range.{right_range}

-- no range is wrong
abbrev mutual
  pub ranged : Pattern → Bool
  ranged (var x) = true
  ranged wild = true
  ranged absurd_pat = true
  ranged (neg p) = ranged p
  ranged (and p q) = ranged p && ranged q
  ranged (or p q) = ranged p && ranged q
  ranged (head c ps) = all_ranged ps
  ranged (range low high) = right_range low high

  pub all_ranged : Patterns → Bool
  all_ranged pnil = true
  all_ranged (pcons p ps) = ranged p && all_ranged ps
