-- 01, Table: "Sound", said without reading, and the reading of a sound table.
use Rattle.std.specs.Prelude.{◌≡◌, List, [], ◌∷◌, ◌&&◌, Bool, true, not, ℕ, zero, suc, ◌≤◌, eqb, ltb, leb, length, take}
use Rattle.std.proofs.Math.Option.{Option, some, none}
use Rattle.signature.specs.Lists.{require, all, ◌>>=◌, split, In}
use Rattle.signature.specs.Signature.{Signature}
use Rattle.row.specs.Admitted.{refusal_of_pattern, Passed}
use Rattle.row.specs.Overlap.{shares, SharesBooking}
use Rattle.tree.specs.Limits.{last_number}
use Rattle.table.specs.Limits.{Limits, table_length, rules_length}
use Rattle.table.specs.Rule.{Rule, total_weight, default_of, table_words, Rises}

-- n rules rising from number m, then zeros
abbrev pub read_rules : ℕ → ℕ → List ℕ → Option (List Rule)
read_rules zero m ws = require (all (λ w. eqb w 0) ws) >>= λ u. some []
read_rules (suc n) m [] = none
read_rules (suc n) m (a ∷ []) = none
read_rules (suc n) m (a ∷ (b ∷ [])) = none
read_rules (suc n) m (a ∷ (b ∷ (l ∷ ws))) = do
  _ ← require (ltb m a && leb a last_number)
  s ← split l ws
  rs ← read_rules n a s.1
  some (record { number = a; plan = b; pattern = s.0 } ∷ rs)

-- decides Apart
abbrev pub no_shared : Signature → List Rule → Bool
no_shared sig [] = true
no_shared sig (r ∷ rs) = all (λ s. not (shares sig r.pattern s.pattern)) rs && no_shared sig rs

module _ (sig : Signature) where
  -- "no two taking one lawful booking"
  pub data Apart : List Rule → Type 0 where
    apart_nil : Apart []
    apart_cons : {r : Rule} {rs : List Rule} → ((s : Rule) → In s rs → SharesBooking sig r.pattern s.pattern → ⊥) → Apart rs → Apart (r ∷ rs)

module _ (l : Limits) where
  -- the rules of a sound table, whatever its default; else refusal 3
  abbrev pub sound : Signature → List ℕ → Option (List Rule)
  sound sig [] = none
  sound sig (n ∷ []) = none
  sound sig (n ∷ (d ∷ ws)) = do
    _ ← require (leb (rules_length l) (length ws) && leb n l.rules)
    rs ← read_rules n 0 (take (rules_length l) ws)
    _ ← require (all (λ r. eqb (refusal_of_pattern sig r.pattern) 0) rs && leb (total_weight sig rs) l.weight && no_shared sig rs)
    some rs

module _ (l : Limits) (sig : Signature) where
  -- "Sound: that layout, every rule numbered 1 to 999 and past refusals 7 to 10, at most 64 rules weighing at most 256 in all, no two taking one lawful booking."; any word is a default
  pub record SoundTable (table : List ℕ) (rs : List Rule) : Type 0 where
    pub long : table_length l ≤ length table
    pub layout : take (table_length l) table ≡ table_words l (default_of table) rs
    pub rises : Rises 0 rs
    pub passed : (r : Rule) → In r rs → Passed sig r.pattern
    pub few : length rs ≤ l.rules
    pub light : total_weight sig rs ≤ l.weight
    pub apart : Apart sig rs
