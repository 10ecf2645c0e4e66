-- 01, Tree: "The answer is rule, plan and 16 places".
use Rattle.std.specs.Prelude.{List, ℕ}
use Rattle.pattern.specs.Places.{unbound}

-- rule, plan and the places of variables 0 to 15
pub record Answer : Type 0 where
  pub rule : ℕ
  pub plan : ℕ
  pub places : List ℕ

module _ (dft : ℕ) where
  -- "the default is rule 0, .. and 16 unbound places", with its plan
  abbrev pub no_rule : Answer
  no_rule = record { rule = 0; plan = dft; places = unbound }
