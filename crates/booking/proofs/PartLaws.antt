-- The part at a place, from what was decoded and read on the way.
use mathlib.Core.Path.{◌≡◌, refl, sym, ap, subst, ◌∙◌}
use mathlib.Core.List.{List, []}
use mathlib.Core.Option.{Option, some, none}
use mathlib.Core.Bool.{true, false}
use Prim.Native.Nat.{ℕ, ◌+◌, ◌-◌, ◌≤◌, ◌<◌}
use native.Mathlib.Omega.{arith}
use lib.ListN.{length, drop, take, length-drop}
use lib.Seq.{take_all}
use Rattle.signature.specs.Decoded.{Decoded, Known, Starts}
use Rattle.signature.specs.Lawful.{OfKind, of_kind, OfKinds, of_kinds_cons}
use Rattle.signature.specs.Lists.{is_some}
use Rattle.booking.specs.Found.{FoundAs}
use Rattle.std.specs.Prelude.{Result, Ok, Err}
use Rattle.signature.specs.Refusal.{number_of, number_in}
use Rattle.signature.specs.declared.refusals.Refusal.{Refusal}
use Rattle.signature.specs.Part.{part_call, Begins, begins_here, begins_in, BeginsIn, in_first, in_later}
use Rattle.signature.specs.Read.{read_signature, read_booking}
use Rattle.signature.specs.Signature.{Signature}
use Rattle.signature.specs.Value.{Value, Values, size}
use Rattle.signature.proofs.PartFacts.{begins_words, begins_place, part_given, part_refused_16}
use Rattle.signature.proofs.Tests.{true≢false}
use Rattle.signature.proofs.Values.{booking_lawful, length_code}

pub there : {A : Type 0} (o : Option A) → true ≡ is_some o → (a : A) × (o ≡ some a)
there none e = true≢false e
there (some a) e = (a, refl)

pub missing : {A : Type 0} (o : Option A) → false ≡ is_some o → o ≡ none
missing none e = refl
missing (some a) e = true≢false (sym e)

-- a part of a value of a kind is of a kind
module _ (sig : Signature) where
  mutual
    part_kind : {k : ℕ} {v : Value} {i : ℕ} {u : Value} → Begins v i u → OfKind sig k v → (j : ℕ) × OfKind sig j u
    part_kind {k = k} begins_here h = (k, h)
    part_kind (begins_in b) (of_kind e p) = part_kinds b p

    part_kinds : {ks : List ℕ} {vs : Values} {i : ℕ} {u : Value} → BeginsIn vs i u → OfKinds sig ks vs → (j : ℕ) × OfKind sig j u
    part_kinds (in_first b) (of_kinds_cons h p) = part_kind b h
    part_kinds (in_later q b) (of_kinds_cons h p) = part_kinds b p

-- the signature that was decoded
pub record Of (ss t : List ℕ) : Type 0 where
  pub known : Known t
  pub read : read_signature ss ≡ some known.sig

pub decoded_of : (ss t : List ℕ) → true ≡ is_some (read_signature ss) → ((sig : Signature) → read_signature ss ≡ some sig → Decoded sig t) → Of ss t
decoded_of ss t e f = let (sig, r) = there (read_signature ss) e in record { known = record { sig = sig; signed = (ss, r); decoded = f sig r }; read = r }

-- refusals
pub refused_1 : (ss bs : List ℕ) (place : ℕ) → false ≡ is_some (read_signature ss) → part_call ss bs place ≡ (1, [])
refused_1 ss bs place e = rw (missing (read_signature ss) e)

module _ {ss t : List ℕ} (o : Of ss t) (bs : List ℕ) (place : ℕ) where
  pub refused_13 : false ≡ is_some (read_booking o.known.sig bs) → part_call ss bs place ≡ (13, [])
  refused_13 e = rw (o.read, missing (read_booking o.known.sig bs) e)

  pub refused_16 : true ≡ is_some (read_booking o.known.sig bs) → length bs ≤ place → part_call ss bs place ≡ (16, [])
  refused_16 e l = let (v, r) = there (read_booking o.known.sig bs) e in part_refused_16 ss o.known.sig bs v place o.read r l

  -- the part and its words
  pub record Here : Type 0 where
    pub starts : Starts t (take (length bs - place) (drop place bs))
    pub fits : place + size starts.value ≤ length bs
    pub number : (part_call ss bs place).0 ≡ 0
    pub words : (part_call ss bs place).1 ≡ take (size starts.value) (drop place bs)

  pub here : true ≡ is_some (read_booking o.known.sig bs) → place < length bs → Here
  here e l =
      let (v, r) = there (read_booking o.known.sig bs) e in
      let h = booking_lawful o.known.sig bs v r in
      let (u, b, call, words) = part_given ss o.known.sig bs v place o.read r l in
      let (rest, d) = begins_words b in
      let (j, k) = part_kind o.known.sig b h.kind_0 in
      let all : take (length bs - place) (drop place bs) ≡ drop place bs = take_all (length bs - place) (drop place bs) (omega (arith, length-drop place bs)) in
      record {
        starts = record { known = o.known; kind = j; value = u; kinded = k; rest = rest; words = all ∙ ap (drop place) (sym h.is_code) ∙ d };
        fits = omega (arith, begins_place b, length_code v, ap length h.is_code);
        number = ap (λ z. z.0) call;
        words = ap (λ z. z.1) call ∙ words;
      }

-- what is found, by its words
pub found_here : {ss t : List ℕ} {o : Of ss t} {bs : List ℕ} {place : ℕ} (h : Here o bs place) (n : ℕ) → n ≡ size h.starts.value → FoundAs ss bs place (Ok n)
found_here {bs = bs} {place = place} h n e = (omega (arith, h.fits, e), h.number, h.words ∙ ap (λ k. take k (drop place bs)) (sym e))

module _ (ss bs : List ℕ) (place : ℕ) (r : Result ℕ Refusal) (f : FoundAs ss bs place r) where
  pub found_part : (n : ℕ) → r ≡ Ok n → FoundAs ss bs place (Ok n)
  found_part n e = subst (FoundAs ss bs place) e f

  pub found_number : number_in r ≡ (part_call ss bs place).0
  found_number = go r f
    where
      go : (x : Result ℕ Refusal) → FoundAs ss bs place x → number_in x ≡ (part_call ss bs place).0
      go (Ok n) h = sym h.1
      go (Err q) h = sym h.0

  -- where it is no part, it is empty
  pub found_none : ((n : ℕ) → r ≡ Ok n → ⊥) → (part_call ss bs place).1 ≡ []
  found_none g = go r refl f
    where
      go : (x : Result ℕ Refusal) → r ≡ x → FoundAs ss bs place x → (part_call ss bs place).1 ≡ []
      go (Ok n) e h = absurd (g n e)
      go (Err q) e h = h.1
