-- The part at a place, as its length or its refusal.
use Rattle.std.specs.Prelude.{◌≡◌, List, [], ℕ, Result, Ok, Err, ◌+◌, ◌≤◌, length, take, drop}
use Rattle.signature.specs.Part.{part_call}
use Rattle.signature.specs.Refusal.{number_of}
use Rattle.signature.specs.declared.refusals.Refusal.{Refusal}

-- the part has so many words from its place on; or the refusal, and then it is empty
abbrev pub FoundAs : List ℕ → List ℕ → ℕ → Result ℕ Refusal → Type 0
FoundAs ss bs place (Ok n) = (place + n ≤ length bs) × ((part_call ss bs place).0 ≡ 0) × ((part_call ss bs place).1 ≡ take n (drop place bs))
FoundAs ss bs place (Err r) = ((part_call ss bs place).0 ≡ number_of r) × ((part_call ss bs place).1 ≡ [])
