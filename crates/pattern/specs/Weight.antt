-- 01, Patterns: "Weight has a plus and a minus side, each defined by the other." (9)
use Rattle.std.specs.Prelude.{List, Bool, true, ◌&&◌, ℕ, ◌*◌, ◌+◌, suc, leb}
use Rattle.std.proofs.Math.Option.{Option, none, some}
use Rattle.signature.specs.Signature.{Signature}
use Rattle.pattern.specs.Limits.{part_weight_limit}
use Rattle.pattern.specs.Pattern.{Pattern, var, wild, absurd_pat, neg, and, or, head, range, Patterns, pnil, pcons}
use Rattle.pattern.specs.Read.{read_pattern}

-- "Plus/minus: variable and wildcard 1/0, absurd 0/1; not swaps; "and" product/sum; "or" sum/product; constructor product (1 without arguments) / 1 + sum of the minus sides."; 02, job 1: "a range weighs 1/1"
abbrev mutual
  pub weight_plus : Pattern → ℕ
  weight_plus (var x) = 1
  weight_plus wild = 1
  weight_plus absurd_pat = 0
  weight_plus (neg p) = weight_minus p
  weight_plus (and p q) = weight_plus p * weight_plus q
  weight_plus (or p q) = weight_plus p + weight_plus q
  weight_plus (head c ps) = product_plus ps
  weight_plus (range low high) = 1

  pub weight_minus : Pattern → ℕ
  weight_minus (var x) = 0
  weight_minus wild = 0
  weight_minus absurd_pat = 1
  weight_minus (neg p) = weight_plus p
  weight_minus (and p q) = weight_minus p + weight_minus q
  weight_minus (or p q) = weight_minus p * weight_minus q
  weight_minus (head c ps) = suc (sum_minus ps)
  weight_minus (range low high) = 1

  pub product_plus : Patterns → ℕ
  product_plus pnil = 1
  product_plus (pcons p ps) = weight_plus p * product_plus ps

  pub sum_minus : Patterns → ℕ
  sum_minus pnil = 0
  sum_minus (pcons p ps) = weight_minus p + sum_minus ps

-- "Each part, at the side on which it stands, weighs at most 64."
abbrev mutual
  pub light_plus : Pattern → Bool
  light_plus (var x) = true
  light_plus wild = true
  light_plus absurd_pat = true
  light_plus (neg p) = light_minus p
  light_plus (and p q) = leb (weight_plus p * weight_plus q) part_weight_limit && light_plus p && light_plus q
  light_plus (or p q) = leb (weight_plus p + weight_plus q) part_weight_limit && light_plus p && light_plus q
  light_plus (head c ps) = leb (product_plus ps) part_weight_limit && light_all_plus ps
  light_plus (range low high) = true

  pub light_minus : Pattern → Bool
  light_minus (var x) = true
  light_minus wild = true
  light_minus absurd_pat = true
  light_minus (neg p) = light_plus p
  light_minus (and p q) = leb (weight_minus p + weight_minus q) part_weight_limit && light_minus p && light_minus q
  light_minus (or p q) = leb (weight_minus p * weight_minus q) part_weight_limit && light_minus p && light_minus q
  light_minus (head c ps) = leb (suc (sum_minus ps)) part_weight_limit && light_all_minus ps
  light_minus (range low high) = true

  pub light_all_plus : Patterns → Bool
  light_all_plus pnil = true
  light_all_plus (pcons p ps) = light_plus p && light_all_plus ps

  pub light_all_minus : Patterns → Bool
  light_all_minus pnil = true
  light_all_minus (pcons p ps) = light_minus p && light_all_minus ps

-- a rule weighs what its pattern weighs on the plus side
abbrev pub weight_by : Option Pattern → ℕ
weight_by none = 0
weight_by (some p) = weight_plus p

-- the weight of the pattern that the words are
abbrev pub weight : Signature → List ℕ → ℕ
weight sig ws = weight_by (read_pattern sig ws)
