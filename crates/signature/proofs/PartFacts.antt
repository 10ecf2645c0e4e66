-- The part at a place: there is one, it is the only one, and its words stand there.
use mathlib.Core.Path.{◌≡◌, refl, ap, sym, ◌∙◌, subst}
use mathlib.Core.List.{List, ◌++◌, append-nil, [], append_assoc}
use mathlib.Core.Option.{some}
use Prim.Native.Nat.{ℕ, ◌<◌, zero, suc, ◌-◌, ◌+◌, ◌≤◌}
use native.Mathlib.Decide.{dec_le}
use native.Mathlib.Omega.{arith}
use lib.ListN.{length, length-append, drop, take}
use lib.Seq.{drop-append-le, drop-drop, drop-append_seam, take-append_seam}
use Rattle.signature.specs.Part.{part_at, Begins, begins_here, begins_in, part_in, BeginsIn, in_first, in_later, part_call}
use Rattle.signature.specs.Read.{read_signature, read_booking}
use Rattle.signature.specs.Signature.{Signature}
use Rattle.signature.specs.Value.{Value, size, con, Values, sizes, vnil, vcons, code, codes}
use Rattle.signature.proofs.Tests.{ltb_yes, ltb_no}
use Rattle.signature.proofs.Values.{some_size, booking_lawful}

-- every place below the booking's length begins a part
mutual
  pub part_there : (v : Value) (i : ℕ) → i < size v → (u : Value) × (part_at v i ≡ some u) × Begins v i u
  part_there (con c vs) zero l = (con c vs, refl, begins_here)
  part_there (con c vs) (suc i) l = let (u, e, b) = part_in_there vs i (omega arith) in (u, e, begins_in b)

  part_in_there : (vs : Values) (i : ℕ) → i < sizes vs → (u : Value) × (part_in vs i ≡ some u) × BeginsIn vs i u
  part_in_there vnil i l = absurd (omega arith)
  part_in_there (vcons v vs) i l = go (dec_le (suc i) (size v)) (λ m. part_there v i m) (λ m. part_in_there vs (i - size v) m)
    where
      go : Dec (i < size v) → (i < size v → (u : Value) × (part_at v i ≡ some u) × Begins v i u) → (i - size v < sizes vs → (u : Value) × (part_in vs (i - size v) ≡ some u) × BeginsIn vs (i - size v) u) → (u : Value) × (part_in (vcons v vs) i ≡ some u) × BeginsIn (vcons v vs) i u
      go (yes h) f g = let (u, e, b) = f h in (u, rw (ltb_yes i (size v) h) e, in_first b)
      go (no h) f g =
          let (u, e, b) = g (omega arith) in
          let q : i ≡ size v + (i - size v) = omega arith in
          (u, rw (ltb_no i (size v) (omega arith)) e, in_later q b)

mutual
  code_size : (v : Value) → length (code v) ≡ size v
  code_size (con c vs) = ap suc (codes_size vs)

  codes_size : (vs : Values) → length (codes vs) ≡ sizes vs
  codes_size vnil = refl
  codes_size (vcons v vs) = simp length-append (omega (arith, code_size v, codes_size vs))

mutual
  pub begins_place : {v : Value} {i : ℕ} {u : Value} → Begins v i u → i + size u ≤ size v
  begins_place begins_here = omega arith
  begins_place (begins_in b) = omega (arith, begins_in_place b)

  begins_in_place : {vs : Values} {i : ℕ} {u : Value} → BeginsIn vs i u → i + size u ≤ sizes vs
  begins_in_place (in_first b) = omega (arith, begins_place b)
  begins_in_place (in_later q b) = omega (arith, begins_in_place b)

-- and its words stand there
mutual
  pub begins_words : {v : Value} {i : ℕ} {u : Value} → Begins v i u → (rest : List ℕ) × (drop i (code v) ≡ code u ++ rest)
  begins_words (begins_here {v = v}) = ([], sym (append-nil (code v)))
  begins_words (begins_in b) = begins_in_words b

  begins_in_words : {vs : Values} {i : ℕ} {u : Value} → BeginsIn vs i u → (rest : List ℕ) × (drop i (codes vs) ≡ code u ++ rest)
  begins_in_words (in_first {i = i} {v = v} {u = u} {vs = vs} b) =
      let (rest, e) = begins_words b in
      let l : i ≤ length (code v) = omega (arith, code_size v, begins_place b) in
      (rest ++ codes vs, drop-append-le i (code v) (codes vs) l ∙ ap (λ x. x ++ codes vs) e ∙ append_assoc (code u) rest (codes vs))
  begins_in_words (in_later {i = i} {j = j} {v = v} {u = u} {vs = vs} q b) =
      let (rest, e) = begins_in_words b in
      let n : j ≡ length (code v) + i = omega (arith, code_size v) in
      (rest, ap (λ m. drop m (code v ++ codes vs)) n ∙ sym (drop-drop i (length (code v)) (code v ++ codes vs)) ∙ ap (drop i) (drop-append_seam (code v) (codes vs)) ∙ e)

-- one part at a place
mutual
  pub begins_only : {v : Value} {i : ℕ} {u w : Value} → Begins v i u → Begins v i w → u ≡ w
  begins_only begins_here begins_here = refl
  begins_only (begins_in a) (begins_in b) = begins_in_only a b

  begins_in_only : {vs : Values} {i : ℕ} {u w : Value} → BeginsIn vs i u → BeginsIn vs i w → u ≡ w
  begins_in_only (in_first a) (in_first b) = begins_only a b
  begins_in_only (in_first {v = v} {u = u} a) (in_later q b) = absurd (omega (arith, begins_place a, some_size u))
  begins_in_only (in_later q b) (in_first {v = v} {u = u} a) = absurd (omega (arith, begins_place a, some_size u))
  begins_in_only (in_later {i = i} {v = v} {u = u} {vs = vs} p a) (in_later {i = j} {u = w} q b) =
      let e : j ≡ i = omega arith in
      begins_in_only a (subst (λ m. BeginsIn vs m w) e b)

-- on a lawful booking and a place below its length: the words of the part that begins there, which are the booking's own words from that place on
pub part_given : (ss : List ℕ) (sig : Signature) (bs : List ℕ) (v : Value) (place : ℕ) → read_signature ss ≡ some sig → read_booking sig bs ≡ some v → place < length bs → (u : Value) × Begins v place u × (part_call ss bs place ≡ (0, code u)) × (code u ≡ take (size u) (drop place bs))
part_given ss sig bs v place e b l =
    let h = booking_lawful sig bs v b in
    let n : length bs ≡ size v = ap length (sym h.is_code) ∙ code_size v in
    let (u, a, w) = part_there v place (omega arith) in
    let (rest, d) = begins_words w in
    (u, w, rw (e, b, ltb_yes place (length bs) l, a), sym (ap (λ x. take (size u) (drop place x)) (sym h.is_code) ∙ ap (take (size u)) d ∙ ap (λ m. take m (code u ++ rest)) (sym (code_size u)) ∙ take-append_seam (code u) rest))

pub part_refused_16 : (ss : List ℕ) (sig : Signature) (bs : List ℕ) (v : Value) (place : ℕ) → read_signature ss ≡ some sig → read_booking sig bs ≡ some v → length bs ≤ place → part_call ss bs place ≡ (16, [])
part_refused_16 ss sig bs v place e b l = rw (e, b, ltb_no place (length bs) l)
