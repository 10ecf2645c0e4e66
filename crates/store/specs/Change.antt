-- What putting in and taking out are given.
use Rattle.std.specs.Prelude.{List, ℕ, ◌<◌, ◌≤◌, length}
use Rattle.signature.specs.Lists.{All}
use Rattle.pattern.specs.Limits.{pattern_limit}
use Rattle.table.specs.Limits.{limits}
use Rattle.table.specs.Rule.{Rule}
use Rattle.store.specs.Laid.{Holds}
use Rattle.store.specs.Place.{FreeAt, HeldAt}

-- room for a rule that is not held
pub record GivenPut (table : List ℕ) (at number : ℕ) (pattern : List ℕ) : Type 0 where
  pub rs : List Rule
  pub holds : Holds limits table rs
  pub free : FreeAt number rs at
  pub few : length rs < limits.rules
  pub short : All (λ r. length r.pattern ≤ pattern_limit) rs
  pub short_new : length pattern ≤ pattern_limit

-- a rule that is held
pub record GivenTake (table : List ℕ) (at : ℕ) : Type 0 where
  pub rs : List Rule
  pub holds : Holds limits table rs
  pub number : ℕ
  pub held : HeldAt number rs at
