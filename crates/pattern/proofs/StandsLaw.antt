-- `light_plus` says of each part that it weighs at most 64 at the side on which it stands.
use mathlib.Core.Logic.{◌↔◌}
use mathlib.Core.Path.{◌≡◌, refl}
use mathlib.Core.List.{List, ◌∷◌}
use mathlib.Core.Option.{some}
use mathlib.Core.Bool.{Bool, true, false, ◌&&◌}
use Prim.Native.Nat.{ℕ, ◌≤◌, ◌<◌}
use native.Mathlib.Omega.{arith}
use lib.Dec.{leb}
use Rattle.signature.specs.Signature.{Signature, arguments_at}
use Rattle.signature.proofs.Booleans.{and_left, and_right}
use Rattle.signature.proofs.Tests.{le_of, lt_of_not, true≢false}
use Rattle.pattern.specs.Limits.{part_weight_limit}
use Rattle.pattern.specs.Pattern.{Pattern, Patterns, pnil, pcons, head, and, or, wild, absurd_pat, neg, var, range}
use Rattle.pattern.specs.Side.{Side, TooHeavy, plus, minus, other, weight_at, light_at, Stands, StandsIn, itself, in_not, in_and_left, in_and_right, in_or_left, in_or_right, in_head, in_first, in_rest}
use Rattle.pattern.proofs.Sides.{light_all}
use Rattle.pattern.specs.Weight.{light_plus}
use Rattle.pattern.specs.WellFormed.{WellFormed, AllWellFormed, well_not, well_and, well_or, well_head, well_cons}

both : (a b : Bool) → a ≡ true → b ≡ true → (a && b) ≡ true
both a b e f = rw (e, f)

three : (a b c : Bool) → a ≡ true → b ≡ true → c ≡ true → ((a && b) && c) ≡ true
three a b c e f g = rw (e, f, g)

first_of : (a b c : Bool) → ((a && b) && c) ≡ true → a ≡ true
first_of a b c e = and_left a b (and_left (a && b) c e)

second_of : (a b c : Bool) → ((a && b) && c) ≡ true → b ≡ true
second_of a b c e = and_right a b (and_left (a && b) c e)

third_of : (a b c : Bool) → ((a && b) && c) ≡ true → c ≡ true
third_of a b c e = and_right (a && b) c e

abbrev fits : Side → Pattern → Bool
fits s p = leb (weight_at s p) part_weight_limit

-- a light part weighs at most 64
pub light_weight : (s : Side) (p : Pattern) → light_at s p ≡ true → weight_at s p ≤ part_weight_limit
light_weight s (var x) e = leaf s
  where
    leaf : (r : Side) → weight_at r (var x) ≤ part_weight_limit
    leaf plus = omega arith
    leaf minus = omega arith
light_weight s wild e = leaf s
  where
    leaf : (r : Side) → weight_at r wild ≤ part_weight_limit
    leaf plus = omega arith
    leaf minus = omega arith
light_weight s absurd_pat e = leaf s
  where
    leaf : (r : Side) → weight_at r absurd_pat ≤ part_weight_limit
    leaf plus = omega arith
    leaf minus = omega arith
light_weight s (range low high) e = leaf s
  where
    leaf : (r : Side) → weight_at r (range low high) ≤ part_weight_limit
    leaf plus = omega arith
    leaf minus = omega arith
light_weight plus (neg p) e = light_weight minus p e
light_weight minus (neg p) e = light_weight plus p e
light_weight plus (and p q) e = le_of (weight_at plus (and p q)) part_weight_limit (first_of (fits plus (and p q)) (light_at plus p) (light_at plus q) e)
light_weight minus (and p q) e = le_of (weight_at minus (and p q)) part_weight_limit (first_of (fits minus (and p q)) (light_at minus p) (light_at minus q) e)
light_weight plus (or p q) e = le_of (weight_at plus (or p q)) part_weight_limit (first_of (fits plus (or p q)) (light_at plus p) (light_at plus q) e)
light_weight minus (or p q) e = le_of (weight_at minus (or p q)) part_weight_limit (first_of (fits minus (or p q)) (light_at minus p) (light_at minus q) e)
light_weight plus (head c ps) e = le_of (weight_at plus (head c ps)) part_weight_limit (and_left (fits plus (head c ps)) (light_all plus ps) e)
light_weight minus (head c ps) e = le_of (weight_at minus (head c ps)) part_weight_limit (and_left (fits minus (head c ps)) (light_all minus ps) e)

-- which of them is false
pub either : {A : Type 0} (a b : Bool) → (a && b) ≡ false → (a ≡ false → A) → (b ≡ false → A) → A
either true b e f g = g e
either false b e f g = f refl

module _ (sig : Signature) where
  mutual
    light_parts : {s r : Side} {k j : ℕ} {p q : Pattern} → Stands sig s k p r j q → light_at s p ≡ true → weight_at r q ≤ part_weight_limit
    light_parts (itself {s} {k} {p}) e = light_weight s p e
    light_parts (in_not {s = plus} h) e = light_parts h e
    light_parts (in_not {s = minus} h) e = light_parts h e
    light_parts (in_and_left {s = plus} {p = p} {p' = q} h) e = light_parts h (second_of (fits plus (and p q)) (light_at plus p) (light_at plus q) e)
    light_parts (in_and_left {s = minus} {p = p} {p' = q} h) e = light_parts h (second_of (fits minus (and p q)) (light_at minus p) (light_at minus q) e)
    light_parts (in_and_right {s = plus} {p = p} {p' = q} h) e = light_parts h (third_of (fits plus (and p q)) (light_at plus p) (light_at plus q) e)
    light_parts (in_and_right {s = minus} {p = p} {p' = q} h) e = light_parts h (third_of (fits minus (and p q)) (light_at minus p) (light_at minus q) e)
    light_parts (in_or_left {s = plus} {p = p} {p' = q} h) e = light_parts h (second_of (fits plus (or p q)) (light_at plus p) (light_at plus q) e)
    light_parts (in_or_left {s = minus} {p = p} {p' = q} h) e = light_parts h (second_of (fits minus (or p q)) (light_at minus p) (light_at minus q) e)
    light_parts (in_or_right {s = plus} {p = p} {p' = q} h) e = light_parts h (third_of (fits plus (or p q)) (light_at plus p) (light_at plus q) e)
    light_parts (in_or_right {s = minus} {p = p} {p' = q} h) e = light_parts h (third_of (fits minus (or p q)) (light_at minus p) (light_at minus q) e)
    light_parts (in_head {s = plus} {c = c} {ps = ps} a h) e = light_arguments h (and_right (fits plus (head c ps)) (light_all plus ps) e)
    light_parts (in_head {s = minus} {c = c} {ps = ps} a h) e = light_arguments h (and_right (fits minus (head c ps)) (light_all minus ps) e)

    light_arguments : {s r : Side} {ks : List ℕ} {j : ℕ} {ps : Patterns} {q : Pattern} → StandsIn sig s ks ps r j q → light_all s ps ≡ true → weight_at r q ≤ part_weight_limit
    light_arguments (in_first {s = plus} {p = p} {ps = ps} h) e = light_parts h (and_left (light_at plus p) (light_all plus ps) e)
    light_arguments (in_first {s = minus} {p = p} {ps = ps} h) e = light_parts h (and_left (light_at minus p) (light_all minus ps) e)
    light_arguments (in_rest {s = plus} {p = p} {ps = ps} h) e = light_arguments h (and_right (light_at plus p) (light_all plus ps) e)
    light_arguments (in_rest {s = minus} {p = p} {ps = ps} h) e = light_arguments h (and_right (light_at minus p) (light_all minus ps) e)

  -- some part at its side is over the limit
  abbrev SomeHeavy : Side → ℕ → Pattern → Type 0
  SomeHeavy s k p = (r : Side) × (j : ℕ) × (q : Pattern) × Stands sig s k p r j q × (part_weight_limit < weight_at r q)

  abbrev SomeHeavyIn : Side → List ℕ → Patterns → Type 0
  SomeHeavyIn s ks ps = (r : Side) × (j : ℕ) × (q : Pattern) × StandsIn sig s ks ps r j q × (part_weight_limit < weight_at r q)

  heavy_itself : (s : Side) (k : ℕ) (p : Pattern) → fits s p ≡ false → SomeHeavy s k p
  heavy_itself s k p e = (s, k, p, itself, lt_of_not (weight_at s p) part_weight_limit e)

  heavy_left : {s : Side} {k : ℕ} {p : Pattern} (q : Pattern) → SomeHeavy s k p → SomeHeavy s k (and p q) × SomeHeavy s k (or p q)
  heavy_left q (r, j, x, h, l) = ((r, j, x, in_and_left h, l), (r, j, x, in_or_left h, l))

  heavy_right : {s : Side} {k : ℕ} (p : Pattern) {q : Pattern} → SomeHeavy s k q → SomeHeavy s k (and p q) × SomeHeavy s k (or p q)
  heavy_right p (r, j, x, h, l) = ((r, j, x, in_and_right h, l), (r, j, x, in_or_right h, l))

  heavy_not : {s : Side} {k : ℕ} {p : Pattern} → SomeHeavy (other s) k p → SomeHeavy s k (neg p)
  heavy_not (r, j, x, h, l) = (r, j, x, in_not h, l)

  heavy_head : {s : Side} {k c : ℕ} {ks : List ℕ} {ps : Patterns} → arguments_at sig k c ≡ some ks → SomeHeavyIn s ks ps → SomeHeavy s k (head c ps)
  heavy_head e (r, j, x, h, l) = (r, j, x, in_head e h, l)

  heavy_first : {s : Side} {k : ℕ} {ks : List ℕ} {p : Pattern} (ps : Patterns) → SomeHeavy s k p → SomeHeavyIn s (k ∷ ks) (pcons p ps)
  heavy_first ps (r, j, x, h, l) = (r, j, x, in_first h, l)

  heavy_rest : {s : Side} {k : ℕ} {ks : List ℕ} (p : Pattern) {ps : Patterns} → SomeHeavyIn s ks ps → SomeHeavyIn s (k ∷ ks) (pcons p ps)
  heavy_rest p (r, j, x, h, l) = (r, j, x, in_rest h, l)

  mutual
    find_heavy : (p : Pattern) (s : Side) {k : ℕ} → WellFormed sig k p → light_at s p ≡ false → SomeHeavy s k p
    find_heavy (var x) plus w e = true≢false e
    find_heavy (var x) minus w e = true≢false e
    find_heavy wild plus w e = true≢false e
    find_heavy wild minus w e = true≢false e
    find_heavy absurd_pat plus w e = true≢false e
    find_heavy absurd_pat minus w e = true≢false e
    find_heavy (range low high) plus w e = true≢false e
    find_heavy (range low high) minus w e = true≢false e
    find_heavy (neg p) plus (well_not w) e = heavy_not (find_heavy p minus w e)
    find_heavy (neg p) minus (well_not w) e = heavy_not (find_heavy p plus w e)
    find_heavy (and p q) plus {k} (well_and v w) e = either (fits plus (and p q) && light_at plus p) (light_at plus q) e (λ f. either (fits plus (and p q)) (light_at plus p) f (heavy_itself plus k (and p q)) (λ a. (heavy_left q (find_heavy p plus v a)).0)) (λ a. (heavy_right p (find_heavy q plus w a)).0)
    find_heavy (and p q) minus {k} (well_and v w) e = either (fits minus (and p q) && light_at minus p) (light_at minus q) e (λ f. either (fits minus (and p q)) (light_at minus p) f (heavy_itself minus k (and p q)) (λ a. (heavy_left q (find_heavy p minus v a)).0)) (λ a. (heavy_right p (find_heavy q minus w a)).0)
    find_heavy (or p q) plus {k} (well_or v w) e = either (fits plus (or p q) && light_at plus p) (light_at plus q) e (λ f. either (fits plus (or p q)) (light_at plus p) f (heavy_itself plus k (or p q)) (λ a. (heavy_left q (find_heavy p plus v a)).1)) (λ a. (heavy_right p (find_heavy q plus w a)).1)
    find_heavy (or p q) minus {k} (well_or v w) e = either (fits minus (or p q) && light_at minus p) (light_at minus q) e (λ f. either (fits minus (or p q)) (light_at minus p) f (heavy_itself minus k (or p q)) (λ a. (heavy_left q (find_heavy p minus v a)).1)) (λ a. (heavy_right p (find_heavy q minus w a)).1)
    find_heavy (head c ps) plus {k} (well_head l g w) e = either (fits plus (head c ps)) (light_all plus ps) e (heavy_itself plus k (head c ps)) (λ a. heavy_head g (find_heavy_in ps plus w a))
    find_heavy (head c ps) minus {k} (well_head l g w) e = either (fits minus (head c ps)) (light_all minus ps) e (heavy_itself minus k (head c ps)) (λ a. heavy_head g (find_heavy_in ps minus w a))

    find_heavy_in : (ps : Patterns) (s : Side) {ks : List ℕ} → AllWellFormed sig ks ps → light_all s ps ≡ false → SomeHeavyIn s ks ps
    find_heavy_in pnil plus w e = true≢false e
    find_heavy_in pnil minus w e = true≢false e
    find_heavy_in (pcons p ps) plus (well_cons v w) e = either (light_at plus p) (light_all plus ps) e (λ a. heavy_first ps (find_heavy p plus v a)) (λ a. heavy_rest p (find_heavy_in ps plus w a))
    find_heavy_in (pcons p ps) minus (well_cons v w) e = either (light_at minus p) (light_all minus ps) e (λ a. heavy_first ps (find_heavy p minus v a)) (λ a. heavy_rest p (find_heavy_in ps minus w a))

  -- 01, refusal 9: some part weighs over 64
  pub heavy_is_some : {k : ℕ} (p : Pattern) → WellFormed sig k p → ((light_plus p ≡ false) ↔ TooHeavy sig k p)
  heavy_is_some {k} p w = (find_heavy p plus w, back)
    where
      back : SomeHeavy plus k p → light_plus p ≡ false
      back (r, j, q, h, l) = go (light_plus p) refl
        where
          go : (b : Bool) → light_plus p ≡ b → b ≡ false
          go false e = refl
          go true e = absurd (let z : weight_at r q ≤ part_weight_limit = light_parts h e in omega arith)

  -- 01, Patterns: each part, at the side on which it stands, weighs at most 64
  pub light_is_each : {k : ℕ} (p : Pattern) → WellFormed sig k p → ((light_plus p ≡ true) ↔ ((r : Side) (j : ℕ) (q : Pattern) → Stands sig plus k p r j q → weight_at r q ≤ part_weight_limit))
  light_is_each {k} p w = (λ e r j q h. light_parts h e, back (light_plus p) refl)
    where
      back : (b : Bool) → light_plus p ≡ b → ((r : Side) (j : ℕ) (q : Pattern) → Stands sig plus k p r j q → weight_at r q ≤ part_weight_limit) → b ≡ true
      back true e f = refl
      back false e f = let (r, j, q, h, l) = find_heavy p plus w e in absurd (let z = f r j q h in omega arith)
