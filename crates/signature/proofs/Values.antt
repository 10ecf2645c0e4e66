-- Values and bookings are read back from their words, and what was read was there.
use mathlib.Core.Path.{◌≡◌, refl, subst, ◌∙◌, ap, sym}
use mathlib.Core.List.{List, ◌++◌, append_assoc, [], ◌∷◌, append-nil}
use mathlib.Core.Option.{some}
use Prim.Native.Nat.{ℕ, ◌≤◌, zero, suc}
use native.Mathlib.Omega.{arith}
use lib.Dec.{leb, leb→le}
use lib.ListN.{length, length-append}
use Rattle.signature.specs.Lawful.{OfKind, of_kind, OfKinds, of_kinds_nil, of_kinds_cons, LawfulBooking}
use Rattle.signature.specs.Limits.{booking_limit, depth_limit}
use Rattle.signature.specs.Lists.{whole, require}
use Rattle.signature.specs.Read.{read_value, read_values, read_booking}
use Rattle.signature.specs.Signature.{Signature, arguments_at}
use Rattle.signature.specs.Value.{Value, depth, code, Values, depths, codes, vnil, vcons, con, size, sizes}
use Rattle.signature.proofs.Tests.{some_inj, bind_some, none≢some, T_of, require_some, leb_yes}

module _ (sig : Signature) where
  -- values
  mutual
    pub value_code : {k : ℕ} {v : Value} → OfKind sig k v → (d : ℕ) (rest : List ℕ) → depth v ≤ d → read_value sig d k (code v ++ rest) ≡ some (v, rest)
    value_code (of_kind e h) zero rest l = absurd (omega arith)
    value_code (of_kind e h) (suc d) rest l = rw (e, values_code h d rest (omega arith))

    pub values_code : {ks : List ℕ} {vs : Values} → OfKinds sig ks vs → (d : ℕ) (rest : List ℕ) → depths vs ≤ d → read_values (λ j us. read_value sig d j us) ks (codes vs ++ rest) ≡ some (vs, rest)
    values_code of_kinds_nil d rest l = refl
    values_code (of_kinds_cons {v = v} {vs = vs} h g) d rest l = rw (append_assoc (code v) (codes vs) rest, value_code h d (codes vs ++ rest) (omega arith), values_code g d rest (omega arith))

-- what reading gives was there
module _ (sig : Signature) where
  abbrev pub Was : ℕ → ℕ → List ℕ → Value × List ℕ → Type 0
  Was d k ws r = OfKind sig k r.0 × (depth r.0 ≤ d) × (code r.0 ++ r.1 ≡ ws)

  abbrev pub WasAll : ℕ → List ℕ → List ℕ → Values × List ℕ → Type 0
  WasAll d ks ws r = OfKinds sig ks r.0 × (depths r.0 ≤ d) × (codes r.0 ++ r.1 ≡ ws)

  values_were : (d : ℕ) → ((k : ℕ) (ws : List ℕ) (r : Value × List ℕ) → read_value sig d k ws ≡ some r → Was d k ws r) → (ks ws : List ℕ) (r : Values × List ℕ) → read_values (λ j us. read_value sig d j us) ks ws ≡ some r → WasAll d ks ws r
  values_were d one [] ws r e = subst (WasAll d [] ws) (some_inj (vnil, ws) r e) (of_kinds_nil, omega arith, refl)
  values_were d one (k ∷ ks) ws r e =
      let (a, e₁, f₁) = bind_some (read_value sig d k ws) _ r e in
      let (b, e₂, f₂) = bind_some (read_values (λ j us. read_value sig d j us) ks a.1) _ r f₁ in
      let (p, q, h) = one k ws a e₁ in
      let (p', q', h') = values_were d one ks a.1 b e₂ in
      subst (WasAll d (k ∷ ks) ws) (some_inj (vcons a.0 b.0, b.1) r f₂) (of_kinds_cons p p', omega arith, append_assoc (code a.0) (codes b.0) b.1 ∙ ap (λ x. code a.0 ++ x) h' ∙ h)

  pub value_was : (d k : ℕ) (ws : List ℕ) (r : Value × List ℕ) → read_value sig d k ws ≡ some r → Was d k ws r
  value_was zero k ws r e = none≢some e
  value_was (suc d) k [] r e = none≢some e
  value_was (suc d) k (c ∷ ws) r e =
      let (ks, e₁, f₁) = bind_some (arguments_at sig k c) _ r e in
      let (b, e₂, f₂) = bind_some (read_values (λ j us. read_value sig d j us) ks ws) _ r f₁ in
      let (p, q, h) = values_were d (λ k' ws' r' e'. value_was d k' ws' r' e') ks ws b e₂ in
      subst (Was (suc d) k (c ∷ ws)) (some_inj (con c b.0, b.1) r f₂) (of_kind e₁ p, omega arith, ap (λ x. c ∷ x) h)

pub whole_some : {A : Type 0} (r : A × List ℕ) (a : A) → whole r ≡ some a → (r.0 ≡ a) × (r.1 ≡ [])
whole_some (b, []) a e = (some_inj b a e, refl)
whole_some (b, w ∷ ws) a e = none≢some e

mutual
  pub length_code : (v : Value) → length (code v) ≡ size v
  length_code (con c vs) = ap suc (length_codes vs)

  pub length_codes : (vs : Values) → length (codes vs) ≡ sizes vs
  length_codes vnil = refl
  length_codes (vcons v vs) = simp length-append (omega (arith, length_code v, length_codes vs))

pub some_size : (v : Value) → 1 ≤ size v
some_size (con c vs) = omega arith

module _ (sig : Signature) where
  pub booking_lawful : (ws : List ℕ) (v : Value) → read_booking sig ws ≡ some v → LawfulBooking sig ws v
  booking_lawful ws v e =
      let (u, e₁, f₁) = bind_some (require (leb (length ws) booking_limit)) _ v e in
      let (r, e₂, f₂) = bind_some (read_value sig depth_limit 0 ws) _ v f₁ in
      let (s, q, h) = value_was sig depth_limit 0 ws r e₂ in
      let (a, b) = whole_some r v f₂ in
      let c : code r.0 ≡ ws = sym (append-nil (code r.0)) ∙ ap (λ x. code r.0 ++ x) (sym b) ∙ h in
      let n : length ws ≡ size r.0 = ap length (sym c) ∙ length_code r.0 in
      record { kind_0 = subst (OfKind sig 0) a s; is_code = ap code (sym a) ∙ c; some_words = omega (arith, some_size r.0); at_most = leb→le (length ws) booking_limit (T_of (leb (length ws) booking_limit) (require_some (leb (length ws) booking_limit) u e₁)); deep = subst (λ x. depth x ≤ depth_limit) a q }

  pub lawful_booking : (ws : List ℕ) (v : Value) → LawfulBooking sig ws v → read_booking sig ws ≡ some v
  lawful_booking ws v h =
      let e : read_value sig depth_limit 0 ws ≡ some (v, []) = rw (← h.is_code, ← append-nil (code v)) (value_code sig h.kind_0 depth_limit [] h.deep) in
      rw (leb_yes (length ws) booking_limit h.at_most, e)

mutual
  pub depth_size : (v : Value) → depth v ≤ size v
  depth_size (con c vs) = omega (arith, depths_sizes vs)

  depths_sizes : (vs : Values) → depths vs ≤ sizes vs
  depths_sizes vnil = omega arith
  depths_sizes (vcons v vs) = omega (arith, depth_size v, depths_sizes vs)
