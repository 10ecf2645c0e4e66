-- 01, Table: "that layout", and the rules that the words of a table hold, whatever their patterns are.
use Rattle.std.specs.Prelude.{◌≡◌, List, [], ◌∷◌, ◌&&◌, ℕ, ◌≤◌, leb, length, take}
use Rattle.std.proofs.Math.Option.{Option, none}
use Rattle.signature.specs.Lists.{◌>>=◌, require}
use Rattle.table.specs.Limits.{Limits, table_length, rules_length}
use Rattle.table.specs.Rule.{Rule, default_of, table_words, Rises}
use Rattle.table.specs.Sound.{read_rules}

module _ (l : Limits) where
  -- the rules of a table with that layout
  abbrev pub laid : List ℕ → Option (List Rule)
  laid [] = none
  laid (n ∷ []) = none
  laid (n ∷ (d ∷ ws)) = do
    _ ← require (leb (rules_length l) (length ws) && leb n l.rules)
    read_rules n 0 (take (rules_length l) ws)

  -- the same said without reading
  pub record Holds (table : List ℕ) (rs : List Rule) : Type 0 where
    pub long : table_length l ≤ length table
    pub layout : take (table_length l) table ≡ table_words l (default_of table) rs
    pub rises : Rises 0 rs
    pub few : length rs ≤ l.rules
