-- 01, Patterns: the parts of a pattern, each with its kind and the side on which it stands.
use Rattle.std.specs.Prelude.{◌≡◌, List, ◌∷◌, Bool, ◌⊎◌, ℕ, ◌<◌}
use Rattle.std.proofs.Math.Option.{some}
use Rattle.signature.specs.Limits.{last_level}
use Rattle.signature.specs.Signature.{arguments_at, Signature}
use Rattle.pattern.specs.Limits.{part_weight_limit}
use Rattle.pattern.specs.Pattern.{Pattern, Patterns, head, and, or, neg, range, pcons}
use Rattle.pattern.specs.Weight.{weight_plus, weight_minus, light_plus, light_minus}

pub data Side : Type 0 where
  plus minus : Side

abbrev pub other : Side → Side
other plus = minus
other minus = plus

abbrev pub weight_at : Side → Pattern → ℕ
weight_at plus p = weight_plus p
weight_at minus p = weight_minus p

-- each part of a part at a side weighs at most 64 at the side on which it stands
abbrev pub light_at : Side → Pattern → Bool
light_at plus p = light_plus p
light_at minus p = light_minus p

module _ (sig : Signature) where
  -- the parts of a pattern: in the part p of kind k at side s stands the part q, of kind j at side r
  mutual
    pub data Stands : Side → ℕ → Pattern → Side → ℕ → Pattern → Type 0 where
      itself : {s : Side} {k : ℕ} {p : Pattern} → Stands s k p s k p
      in_not : {s r : Side} {k j : ℕ} {p q : Pattern} → Stands (other s) k p r j q → Stands s k (neg p) r j q
      in_and_left : {s r : Side} {k j : ℕ} {p p' q : Pattern} → Stands s k p r j q → Stands s k (and p p') r j q
      in_and_right : {s r : Side} {k j : ℕ} {p p' q : Pattern} → Stands s k p' r j q → Stands s k (and p p') r j q
      in_or_left : {s r : Side} {k j : ℕ} {p p' q : Pattern} → Stands s k p r j q → Stands s k (or p p') r j q
      in_or_right : {s r : Side} {k j : ℕ} {p p' q : Pattern} → Stands s k p' r j q → Stands s k (or p p') r j q
      in_head : {s r : Side} {k j c : ℕ} {ks : List ℕ} {ps : Patterns} {q : Pattern} → arguments_at sig k c ≡ some ks → StandsIn s ks ps r j q → Stands s k (head c ps) r j q

    pub data StandsIn : Side → List ℕ → Patterns → Side → ℕ → Pattern → Type 0 where
      in_first : {s r : Side} {k j : ℕ} {ks : List ℕ} {p q : Pattern} {ps : Patterns} → Stands s k p r j q → StandsIn s (k ∷ ks) (pcons p ps) r j q
      in_rest : {s r : Side} {k j : ℕ} {ks : List ℕ} {p q : Pattern} {ps : Patterns} → StandsIn s ks ps r j q → StandsIn s (k ∷ ks) (pcons p ps) r j q

  -- 9: "Some part weighs over 64", at the side on which it stands
  abbrev pub TooHeavy : ℕ → Pattern → Type 0
  TooHeavy k p = (r : Side) × (j : ℕ) × (q : Pattern) × Stands plus k p r j q × (part_weight_limit < weight_at r q)

  -- 18: "a range whose low exceeds its high or whose high exceeds 100"
  abbrev pub WrongRange : ℕ → Pattern → Type 0
  WrongRange k p = (r : Side) × (j low high : ℕ) × Stands plus k p r j (range low high) × ((high < low) ⊎ (last_level < high))
