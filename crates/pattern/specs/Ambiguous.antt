-- 01, Patterns: "Ambiguous" (10), as existence: of a value of the part's kind, whether or not a booking gets there.
use Rattle.std.specs.Prelude.{◌≡◌, false, ℕ}
use Rattle.signature.specs.Lawful.{OfKind}
use Rattle.signature.specs.Lists.{is_empty}
use Rattle.signature.specs.Signature.{Signature}
use Rattle.signature.specs.Value.{Value}
use Rattle.pattern.specs.Linear.{E, O}
use Rattle.pattern.specs.Match.{Binds, Fits, Fails}
use Rattle.pattern.specs.Pattern.{Pattern, or, and}
use Rattle.pattern.specs.Side.{Side, plus, minus, Stands}

module _ (sig : Signature) where
  -- a part, of kind k at its side: "an "or" on the plus side with E not empty and a value of its kind that fits both sides, or an "and" on the minus side with O not empty and a value that fails both"
  pub data AmbiguousPart : Side → ℕ → Pattern → Type 0 where
    an_or : {k i : ℕ} {p q : Pattern} {v : Value} {σ τ : Binds} → is_empty (E (or p q)) ≡ false → OfKind sig k v → Fits p v i σ → Fits q v i τ → AmbiguousPart plus k (or p q)
    an_and : {k i : ℕ} {p q : Pattern} {v : Value} {σ τ : Binds} → is_empty (O (and p q)) ≡ false → OfKind sig k v → Fails p v i σ → Fails q v i τ → AmbiguousPart minus k (and p q)

  -- some part of the pattern p of kind k is
  abbrev pub Ambiguous : ℕ → Pattern → Type 0
  Ambiguous k p = (r : Side) × (j : ℕ) × (q : Pattern) × Stands sig plus k p r j q × AmbiguousPart r j q
