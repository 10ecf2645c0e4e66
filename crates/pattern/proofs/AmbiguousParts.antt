-- Ambiguous at either side, and an ambiguous part of a part.
use mathlib.Core.Path.{◌≡◌}
use mathlib.Core.List.{List, ◌∷◌}
use mathlib.Core.Option.{some}
use Prim.Native.Nat.{ℕ}
use Rattle.signature.specs.Signature.{arguments_at, Signature}
use Rattle.pattern.specs.Ambiguous.{AmbiguousPart}
use Rattle.pattern.specs.Pattern.{Pattern, Patterns, head, and, or, neg, pcons}
use Rattle.pattern.specs.Side.{Side, other, Stands, StandsIn, itself, in_not, in_and_left, in_and_right, in_or_left, in_or_right, in_head, in_first, in_rest}

module _ (sig : Signature) where
  abbrev pub AmbiguousAt : Side → ℕ → Pattern → Type 0
  AmbiguousAt s k p = (r : Side) × (j : ℕ) × (q : Pattern) × Stands sig s k p r j q × AmbiguousPart sig r j q

  abbrev pub AmbiguousIn : Side → List ℕ → Patterns → Type 0
  AmbiguousIn s ks ps = (r : Side) × (j : ℕ) × (q : Pattern) × StandsIn sig s ks ps r j q × AmbiguousPart sig r j q

module _ {sig : Signature} {s : Side} {k : ℕ} where
  pub here : {p : Pattern} → AmbiguousPart sig s k p → AmbiguousAt sig s k p
  here {p} a = (s, k, p, itself, a)

  pub under_not : {p : Pattern} → AmbiguousAt sig (other s) k p → AmbiguousAt sig s k (neg p)
  under_not (r, j, q, h, a) = (r, j, q, in_not h, a)

  pub left_of_and : {p p' : Pattern} → AmbiguousAt sig s k p → AmbiguousAt sig s k (and p p')
  left_of_and (r, j, q, h, a) = (r, j, q, in_and_left h, a)

  pub right_of_and : {p p' : Pattern} → AmbiguousAt sig s k p' → AmbiguousAt sig s k (and p p')
  right_of_and (r, j, q, h, a) = (r, j, q, in_and_right h, a)

  pub left_of_or : {p p' : Pattern} → AmbiguousAt sig s k p → AmbiguousAt sig s k (or p p')
  left_of_or (r, j, q, h, a) = (r, j, q, in_or_left h, a)

  pub right_of_or : {p p' : Pattern} → AmbiguousAt sig s k p' → AmbiguousAt sig s k (or p p')
  right_of_or (r, j, q, h, a) = (r, j, q, in_or_right h, a)

  pub under_head : {c : ℕ} {ks : List ℕ} {ps : Patterns} → arguments_at sig k c ≡ some ks → AmbiguousIn sig s ks ps → AmbiguousAt sig s k (head c ps)
  under_head e (r, j, q, h, a) = (r, j, q, in_head e h, a)

  pub as_first : {ks : List ℕ} {p : Pattern} {ps : Patterns} → AmbiguousAt sig s k p → AmbiguousIn sig s (k ∷ ks) (pcons p ps)
  as_first (r, j, q, h, a) = (r, j, q, in_first h, a)

  pub as_later : {ks : List ℕ} {p : Pattern} {ps : Patterns} → AmbiguousIn sig s ks ps → AmbiguousIn sig s (k ∷ ks) (pcons p ps)
  as_later (r, j, q, h, a) = (r, j, q, in_rest h, a)
