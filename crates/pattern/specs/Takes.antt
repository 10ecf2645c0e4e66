-- 01: a rule takes a booking when its pattern fits it at place 0, and does not take it when its pattern fails on it.
use Rattle.std.specs.Prelude.{◌≡◌, List, ℕ}
use Rattle.std.proofs.Math.Option.{some}
use Rattle.signature.specs.Read.{read_booking}
use Rattle.signature.specs.Signature.{Signature}
use Rattle.signature.specs.Value.{Value}
use Rattle.pattern.specs.Match.{Binds, Fits, Fails}
use Rattle.pattern.specs.Pattern.{Pattern}
use Rattle.pattern.specs.Read.{read_pattern}

-- the pattern of the words ws fits the lawful booking bs, with these bindings
abbrev pub Takes : Signature → List ℕ → List ℕ → Binds → Type 0
Takes sig ws bs σ = (p : Pattern) × (v : Value) × (read_pattern sig ws ≡ some p) × (read_booking sig bs ≡ some v) × Fits p v 0 σ

-- the pattern of the words ws fails on the lawful booking bs, with these bindings
abbrev pub TakesNot : Signature → List ℕ → List ℕ → Binds → Type 0
TakesNot sig ws bs σ = (p : Pattern) × (v : Value) × (read_pattern sig ws ≡ some p) × (read_booking sig bs ≡ some v) × Fails p v 0 σ
