-- 01, Bookings: "One call hands back the part of the booking that begins at a given place".
use Rattle.std.specs.Prelude.{◌≡◌, List, [], cond, ℕ, suc, ◌+◌, zero, ◌-◌, ltb, length}
use Rattle.std.proofs.Math.Option.{Option, some, none}
use Rattle.signature.specs.Read.{read_booking, read_signature}
use Rattle.signature.specs.Signature.{Signature}
use Rattle.signature.specs.Value.{Value, Values, con, vcons, size, vnil, code}

-- u is the part of v that begins at a place; "A place is an index into it."
mutual
  pub data Begins : Value → ℕ → Value → Type 0 where
    begins_here : {v : Value} → Begins v 0 v
    begins_in : {c i : ℕ} {vs : Values} {u : Value} → BeginsIn vs i u → Begins (con c vs) (suc i) u

  pub data BeginsIn : Values → ℕ → Value → Type 0 where
    in_first : {i : ℕ} {v u : Value} {vs : Values} → Begins v i u → BeginsIn (vcons v vs) i u
    in_later : {i j : ℕ} {v u : Value} {vs : Values} → j ≡ size v + i → BeginsIn vs i u → BeginsIn (vcons v vs) j u

-- the same, as a function
abbrev mutual
  pub part_at : Value → ℕ → Option Value
  part_at (con c vs) zero = some (con c vs)
  part_at (con c vs) (suc i) = part_in vs i

  pub part_in : Values → ℕ → Option Value
  part_in vnil i = none
  part_in (vcons v vs) i = cond (ltb i (size v)) (part_at v i) (part_in vs (i - size v))

-- "on a refusal that part is empty"
abbrev pub part_words : Option Value → List ℕ
part_words none = []
part_words (some u) = code u

-- 13: the booking is unlawful; 16: the place is not below the booking's length
abbrev pub part_booking : List ℕ → ℕ → Option Value → ℕ × List ℕ
part_booking bs place none = (13, [])
part_booking bs place (some v) = cond (ltb place (length bs)) (0, part_words (part_at v place)) (16, [])

-- 1: the signature is unlawful
abbrev pub part_signature : Option Signature → List ℕ → ℕ → ℕ × List ℕ
part_signature none bs place = (1, [])
part_signature (some sig) bs place = part_booking bs place (read_booking sig bs)

-- the part at a place, on every input: the companion call's number, and the part handed back
abbrev pub part_call : List ℕ → List ℕ → ℕ → ℕ × List ℕ
part_call ss bs place = part_signature (read_signature ss) bs place
