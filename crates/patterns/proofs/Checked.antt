-- What the checks before a call give it.
use mathlib.Core.Path.{◌≡◌, refl, sym}
use mathlib.Core.Bool.{Bool, true, false, not}
use mathlib.Core.List.{List}
use mathlib.Core.Option.{Option, some, none}
use Prim.Native.Nat.{ℕ}
use Rattle.signature.specs.Decoded.{Known}
use Rattle.signature.specs.Lists.{is_some}
use Rattle.signature.specs.Read.{read_booking}
use Rattle.signature.proofs.Tests.{true≢false}
use Rattle.pattern.specs.Given.{Patterned}
use Rattle.pattern.specs.Read.{read_pattern}
use Rattle.reading.specs.Ranges.{Readable}
use Rattle.matching.specs.Asked.{Asked}

there : {A : Type 0} (r : Bool) (o : Option A) → r ≡ is_some o → not r ≡ false → (a : A) × (o ≡ some a)
there true none e h = true≢false e
there true (some a) e h = (a, refl)
there false o e h = true≢false h

pub patterned : {t ws : List ℕ} (g : Known t) (r : Bool) → r ≡ is_some (read_pattern g.sig ws) → not r ≡ false → Patterned t ws
patterned {t} {ws} g r e h = let (p, i) = there r (read_pattern g.sig ws) e h in record { known = g; pattern = p; read = i }

pub readable : {t ws : List ℕ} (g : Known t) (r : Bool) → r ≡ is_some (read_pattern g.sig ws) → not r ≡ false → Readable ws
readable {t} {ws} g r e h = let (p, i) = there r (read_pattern g.sig ws) e h in record { sig = g.sig; pattern = p; read = i }

pub asked : {t ws bs : List ℕ} (g : Known t) (r q : Bool) → r ≡ is_some (read_pattern g.sig ws) → not r ≡ false → q ≡ is_some (read_booking g.sig bs) → not q ≡ false → Asked t ws bs
asked {t} {ws} {bs} g r q e h f k =
    let (p, i) = there r (read_pattern g.sig ws) e h in
    let (v, j) = there q (read_booking g.sig bs) f k in
    record { known = g; pattern = p; read = i; value = v; booked = j }

pub taken : (r b : Bool) → r ≡ b → not r ≡ false → b ≡ true
taken true b e h = sym e
taken false b e h = true≢false h
