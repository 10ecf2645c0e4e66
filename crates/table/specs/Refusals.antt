-- 01, Turned down, in checking order: the refusals of entries and withdrawals, 4 to 12, and 18 behind 7.
use Rattle.std.specs.Prelude.{List, [], ◌∷◌, cond, not, ◌&&◌, ◌||◌, ℕ, ◌+◌, leb, eqb, ltb, length}
use Rattle.signature.specs.Lists.{any, In}
use Rattle.signature.specs.Signature.{Signature}
use Rattle.pattern.specs.Weight.{weight}
use Rattle.row.specs.Admitted.{refusal_of_pattern}
use Rattle.row.specs.Overlap.{shares, SharesBooking}
use Rattle.tree.specs.Limits.{last_number}
use Rattle.table.specs.Limits.{Limits}
use Rattle.table.specs.Rule.{Rule, held, total_weight}

module _ (l : Limits) where
  -- the first refusal of an entry that applies, other than 1, 2 and 3; 0 for none:
  -- "4. The rule number is not 1 to 999. 5. The number to enter is held. 7, 18, 8 to 10. 11. 64 rules are held, or weights would total over 256. 12. It shares a booking with a held rule"
  abbrev pub entry_refusal : Signature → ℕ → List ℕ → List Rule → ℕ
  entry_refusal sig n ws rs =
      cond (not (leb 1 n && leb n last_number)) 4
      (cond (held n rs) 5
      (let q = refusal_of_pattern sig ws in
      cond (not (eqb q 0)) q
      (cond (leb l.rules (length rs) || ltb l.weight (weight sig ws + total_weight sig rs)) 11
      (cond (any (λ r. shares sig ws r.pattern) rs) 12 0))))

-- 12: some lawful booking is taken by the pattern and by a rule in force
pub record SharesHeld (sig : Signature) (ws : List ℕ) (rs : List Rule) : Type 0 where
  pub rule : Rule
  pub held : In rule rs
  pub shared : SharesBooking sig ws rule.pattern

-- 12: "the lowest such number"
abbrev pub sharer : Signature → List ℕ → List Rule → ℕ
sharer sig ws [] = 0
sharer sig ws (r ∷ rs) = cond (shares sig ws r.pattern) r.number (sharer sig ws rs)

-- the same of a withdrawal: "4", "6. The number to withdraw is not held."
abbrev pub withdrawal_refusal : ℕ → List Rule → ℕ
withdrawal_refusal n rs = cond (not (leb 1 n && leb n last_number)) 4 (cond (not (held n rs)) 6 0)
