-- 02, job 4: gaps of a few tables, over Case T's signature and over levels. The function `gap_cases` promises them.
use Rattle.std.specs.Prelude.{◌≡◌, ◌↔◌, List, [], ◌∷◌, ℕ}
use Rattle.signature.specs.Cases.{T, L}
use Rattle.signature.specs.Lists.{In}
use Rattle.signature.specs.Signature.{Signature}
use Rattle.table.specs.Cases.{rules_T, sole}
use Rattle.table.specs.Gap.{Gap}
use Rattle.table.specs.Rule.{Rule}

-- these bookings are gaps, and no other is
abbrev pub GapsAre : Signature → List Rule → List (List ℕ) → Type 0
GapsAre sig rs bookings = (bs : List ℕ) → (In bs bookings ↔ ((g : Gap sig rs) × (g.booking ≡ bs)))

-- two rules
abbrev pub both : List ℕ → List ℕ → List Rule
both us ws = record { number = 1; plan = 2; pattern = us } ∷ record { number = 3; plan = 4; pattern = ws } ∷ []

-- T's bookings
abbrev pub all_T : List (List ℕ)
all_T = (0 ∷ 1 ∷ 4 ∷ []) ∷ (0 ∷ 1 ∷ 5 ∷ []) ∷ (0 ∷ 2 ∷ 4 ∷ []) ∷ (0 ∷ 2 ∷ 5 ∷ []) ∷ (0 ∷ 3 ∷ 4 ∷ []) ∷ (0 ∷ 3 ∷ 5 ∷ []) ∷ []

pub record GapCases : Type 0 where
  -- Case T's rules leave 0 2 4 and 0 3 4
  pub rules_of_T : GapsAre T rules_T ((0 ∷ 2 ∷ 4 ∷ []) ∷ (0 ∷ 3 ∷ 4 ∷ []) ∷ [])
  -- no rule, and a rule that takes nothing, leave all
  pub no_rules : GapsAre T [] all_T
  pub takes_none : GapsAre T (sole (260 ∷ 261 ∷ [])) all_T
  -- a wildcard leaves none, and so does the only constructor of a kind, by its name
  pub wildcard : GapsAre T (sole (258 ∷ [])) []
  pub only_constructor : GapsAre T (sole (0 ∷ 258 ∷ 258 ∷ [])) []
  -- two exclusions that together cover the kind; one, and what it excludes
  pub exclusions : GapsAre T (sole (0 ∷ 257 ∷ 260 ∷ 1 ∷ 260 ∷ 2 ∷ 258 ∷ [])) []
  pub excluded : GapsAre T (both (0 ∷ 260 ∷ 1 ∷ 258 ∷ []) (0 ∷ 1 ∷ 258 ∷ [])) []
  -- "Levels count as their kind's members.": ranges that leave one level, or none
  pub level_left : GapsAre L (both (0 ∷ 258 ∷ 280 ∷ 0 ∷ 49 ∷ []) (0 ∷ 258 ∷ 280 ∷ 51 ∷ 100 ∷ [])) ((0 ∷ 1 ∷ 1050 ∷ []) ∷ (0 ∷ 2 ∷ 1050 ∷ []) ∷ [])
  pub no_level_left : GapsAre L (both (0 ∷ 258 ∷ 280 ∷ 0 ∷ 49 ∷ []) (0 ∷ 258 ∷ 280 ∷ 50 ∷ 100 ∷ [])) []
