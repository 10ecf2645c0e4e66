-- The laws of rows. The function `laws` promises them.
use Rattle.std.specs.Prelude.{◌↔◌, ◌≡◌, List, ◌++◌, true, ℕ, suc, ◌+◌, ◌*◌, ◌≤◌, length}
use Rattle.signature.specs.Lawful.{OfKind}
use Rattle.signature.specs.Limits.{small_size}
use Rattle.signature.specs.Lists.{In}
use Rattle.signature.specs.Read.{Signed}
use Rattle.signature.specs.Signature.{Signature}
use Rattle.signature.specs.Value.{Value, size, depth}
use Rattle.pattern.specs.Ambiguous.{Ambiguous}
use Rattle.pattern.specs.Linear.{linear_plus}
use Rattle.pattern.specs.Match.{Binds, Fits, Fails}
use Rattle.pattern.specs.Pattern.{Pattern, pattern_code}
use Rattle.pattern.specs.Places.{binds}
use Rattle.pattern.specs.Weight.{weight_plus, weight_minus}
use Rattle.pattern.specs.WellFormed.{WellFormed, PatternWords}
use Rattle.row.specs.Admitted.{refusal_of_pattern, Passed}
use Rattle.row.specs.Limits.{place_words}
use Rattle.row.specs.Overlap.{overlap, ambiguous_plus, shares, SharesBooking, Shared}
use Rattle.row.specs.Row.{Row, rows_plus, rows_minus}
use Rattle.row.specs.RowFits.{row_fits, row_binds, place_count}

pub record Laws : Type 0 where
  -- a value fits a pattern exactly where a row of the pattern takes it, and fails exactly where a row of its negation does
  pub fits_row : (sig : Signature) (k i : ℕ) (p : Pattern) (v : Value) → WellFormed sig k p → OfKind sig k v → (((σ : Binds) × Fits p v i σ) ↔ ((r : Row) × In r (rows_plus sig k p) × (row_fits r v ≡ true)))
  pub fails_row : (sig : Signature) (k i : ℕ) (p : Pattern) (v : Value) → WellFormed sig k p → OfKind sig k v → (((σ : Binds) × Fails p v i σ) ↔ ((r : Row) × In r (rows_minus sig k p) × (row_fits r v ≡ true)))
  -- and with the same places: a row that takes it binds as some fit does; and as each fit does, where the pattern is linear-plus without ambiguous part
  pub row_binds_so : (sig : Signature) (k i : ℕ) (p : Pattern) (v : Value) (r : Row) → In r (rows_plus sig k p) → row_fits r v ≡ true → (σ : Binds) × Fits p v i σ × ((x j : ℕ) → binds x j σ ≡ row_binds r v i x j)
  pub fit_binds_so : (sig : Signature) (k i : ℕ) (p : Pattern) (v : Value) (σ : Binds) → WellFormed sig k p → OfKind sig k v → linear_plus p ≡ true → (Ambiguous sig k p → ⊥) → Fits p v i σ → (r : Row) × In r (rows_plus sig k p) × (row_fits r v ≡ true) × ((x j : ℕ) → binds x j σ ≡ row_binds r v i x j)
  -- rows at most the weight, places at most the words
  pub few_rows : (sig : Signature) (k : ℕ) (p : Pattern) → (length (rows_plus sig k p) ≤ weight_plus p) × (length (rows_minus sig k p) ≤ weight_minus p)
  pub few_places : (sig : Signature) (k : ℕ) (p : Pattern) (r : Row) → WellFormed sig k p → In r (rows_plus sig k p) → place_count r ≤ length (pattern_code p)
  -- 12: two patterns' rows combine exactly where some lawful booking fits both
  pub overlap_shared : (sig : Signature) → Signed sig → (us ws : List ℕ) (p q : Pattern) → PatternWords sig us p → PatternWords sig ws q → ((overlap sig 0 p q ≡ true) ↔ (Shared sig p q))
  -- and then one of at most 25 words a place is found
  pub shown_bound : (sig : Signature) → Signed sig → (p q : Pattern) → WellFormed sig 0 p → WellFormed sig 0 q → overlap sig 0 p q ≡ true → (v : Value) × OfKind sig 0 v × ((σ : Binds) × Fits p v 0 σ) × ((σ : Binds) × Fits q v 0 σ) × (size v ≤ place_words * suc (length (pattern_code p ++ pattern_code q))) × (depth v ≤ suc (length (pattern_code p ++ pattern_code q)) + small_size)
  pub shares_booking : (sig : Signature) → Signed sig → (us ws : List ℕ) → ((shares sig us ws ≡ true) ↔ (SharesBooking sig us ws))
  pub shares_either_way : (sig : Signature) (us ws : List ℕ) → shares sig us ws ≡ shares sig ws us
  -- 10: the decision finds exactly the ambiguous patterns
  pub ambiguous : (sig : Signature) → Signed sig → (p : Pattern) → WellFormed sig 0 p → ((ambiguous_plus sig 0 p ≡ true) ↔ (Ambiguous sig 0 p))
  -- 7, 18 and 8 to 10: none applies exactly to the patterns that pass
  pub passed : (sig : Signature) → Signed sig → (ws : List ℕ) → ((refusal_of_pattern sig ws ≡ 0) ↔ (Passed sig ws))
