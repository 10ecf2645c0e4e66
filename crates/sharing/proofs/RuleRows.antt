-- The rows of rules, one rule behind the other.
use mathlib.Core.Path.{◌≡◌, refl, sym, ap, ◌∙◌}
use mathlib.Core.List.{List, [], ◌∷◌, ◌++◌, map, append_assoc}
use Prim.Native.Nat.{ℕ}
use Rattle.signature.specs.Lists.{any}
use Rattle.signature.specs.Signature.{Signature}
use Rattle.row.specs.Overlap.{shares}
use Rattle.row.specs.Row.{Row}
use Rattle.row.proofs.Symmetric.{lists_flip}
use Rattle.table.specs.Rule.{Rule}
use Rattle.meeting.specs.Lists.{rows_in}
use Rattle.loading.specs.Lists.{rows_for}
use Rattle.loading.specs.Load.{patterns}
use Rattle.loading.proofs.Shared.{shares_rows}
use Rattle.sharing.specs.Lowest.{met_by}

module _ (sig : Signature) where
  -- all rows of rules
  abbrev pub rules_rows : List Rule → List Row
  rules_rows rs = rows_in (map (rows_for sig) (patterns rs))

  pub rules_append : (before after : List Rule) → rules_rows (before ++ after) ≡ rules_rows before ++ rules_rows after
  rules_append [] after = refl
  rules_append (r ∷ before) after = ap (λ (l : List Row). rows_for sig r.pattern ++ l) (rules_append before after) ∙ sym (append_assoc (rows_for sig r.pattern) (rules_rows before) (rules_rows after))

  -- two patterns share a booking where some row of the second is met
  pub shares_met : (us ws : List ℕ) → shares sig us ws ≡ any (met_by (rows_for sig us)) (rows_for sig ws)
  shares_met us ws = sym (shares_rows sig us ws) ∙ lists_flip (rows_for sig us) (rows_for sig ws)
