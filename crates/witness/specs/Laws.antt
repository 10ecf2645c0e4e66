-- The laws of a shown booking. The function `laws` promises them.
use Rattle.std.specs.Prelude.{◌≡◌, ◌↔◌, List, ℕ, ◌≤◌, Option as CodeOption, Some}
use Rattle.signature.specs.Read.{Signed}
use Rattle.signature.specs.Signature.{Signature}
use Rattle.pattern.specs.Pattern.{Pattern}
use Rattle.pattern.specs.WellFormed.{PatternWords}
use Rattle.row.specs.Overlap.{Shared, SharesBooking}
use Rattle.witness.specs.Lists.{Shown}

pub record Laws : Type 0 where
  -- words are shown exactly where a booking is shared
  pub exact : (sig : Signature) (p q : Pattern) (res : CodeOption ℕ) (o o' : List ℕ) → Shown (Shared sig p q) (λ s. s.words) res o o' → (((n : ℕ) × (1 ≤ n) × (res ≡ Some n)) ↔ (Shared sig p q))
  -- 12, of the words of two patterns: what is shown is taken by both, and where nothing is they share no booking
  pub words_shown : (sig : Signature) → Signed sig → (us ws : List ℕ) (p q : Pattern) → PatternWords sig us p → PatternWords sig ws q → (res : CodeOption ℕ) (o o' : List ℕ)
      → Shown (Shared sig p q) (λ s. s.words) res o o' → Shown (SharesBooking sig us ws) (λ s. s.words) res o o'
