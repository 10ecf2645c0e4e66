-- 01, Bookings: values as trees, and their words.
use Rattle.std.specs.Prelude.{List, ◌∷◌, [], ◌++◌, ℕ, suc, ◌+◌, max}

-- "A value is its constructor, then its arguments"
mutual
  pub data Value : Type 0 where
    con : ℕ → Values → Value

  pub data Values : Type 0 where
    vnil : Values
    vcons : Value → Values → Values

-- how many words it has
abbrev mutual
  pub size : Value → ℕ
  size (con c vs) = suc (sizes vs)

  pub sizes : Values → ℕ
  sizes vnil = 0
  sizes (vcons v vs) = size v + sizes vs

-- its words, "(preorder)"
abbrev mutual
  pub code : Value → List ℕ
  code (con c vs) = c ∷ codes vs

  pub codes : Values → List ℕ
  codes vnil = []
  codes (vcons v vs) = code v ++ codes vs

-- how deep it is nested: "a value without arguments is 1 deep"
abbrev mutual
  pub depth : Value → ℕ
  depth (con c vs) = suc (depths vs)

  pub depths : Values → ℕ
  depths vnil = 0
  depths (vcons v vs) = max (depth v) (depths vs)
