-- `ranged` says of each range that it is right.
use mathlib.Core.Logic.{◌↔◌, ◌⊎◌, inl, inr}
use mathlib.Core.Path.{◌≡◌, refl}
use mathlib.Core.List.{List}
use mathlib.Core.Bool.{Bool, true, false}
use Prim.Native.Nat.{ℕ, ◌<◌}
use native.Mathlib.Omega.{arith}
use lib.Dec.{leb}
use Rattle.signature.specs.Limits.{last_level}
use Rattle.signature.specs.Signature.{Signature}
use Rattle.signature.proofs.Booleans.{and_left, and_right}
use Rattle.signature.proofs.Tests.{le_of, lt_of_not, true≢false}
use Rattle.pattern.specs.Pattern.{Pattern, Patterns, pnil, pcons, head, and, or, wild, absurd_pat, neg, var, range}
use Rattle.pattern.specs.Range.{right_range}
use Rattle.pattern.specs.Ranged.{ranged, all_ranged}
use Rattle.pattern.specs.Side.{Side, WrongRange, plus, other, Stands, StandsIn, itself, in_not, in_and_left, in_and_right, in_or_left, in_or_right, in_head, in_first, in_rest}
use Rattle.pattern.specs.WellFormed.{WellFormed, AllWellFormed, well_not, well_and, well_or, well_head, well_cons}
use Rattle.pattern.proofs.StandsLaw.{either}

module _ (low high : ℕ) where
  wrong_ends : right_range low high ≡ false → (high < low) ⊎ (last_level < high)
  wrong_ends e = either (leb low high) (leb high last_level) e (λ a. inl (lt_of_not low high a)) (λ a. inr (lt_of_not high last_level a))

  not_right : right_range low high ≡ true → (high < low) ⊎ (last_level < high) → ⊥
  not_right e (inl l) = omega (arith, le_of low high (and_left (leb low high) (leb high last_level) e))
  not_right e (inr l) = omega (arith, le_of high last_level (and_right (leb low high) (leb high last_level) e))

module _ (sig : Signature) where
  -- every part of a pattern with right ranges has right ranges
  mutual
    ranged_part : {s r : Side} {k j : ℕ} {p q : Pattern} → Stands sig s k p r j q → ranged p ≡ true → ranged q ≡ true
    ranged_part itself e = e
    ranged_part (in_not h) e = ranged_part h e
    ranged_part (in_and_left {p = p} {p' = q} h) e = ranged_part h (and_left (ranged p) (ranged q) e)
    ranged_part (in_and_right {p = p} {p' = q} h) e = ranged_part h (and_right (ranged p) (ranged q) e)
    ranged_part (in_or_left {p = p} {p' = q} h) e = ranged_part h (and_left (ranged p) (ranged q) e)
    ranged_part (in_or_right {p = p} {p' = q} h) e = ranged_part h (and_right (ranged p) (ranged q) e)
    ranged_part (in_head a h) e = ranged_argument h e

    ranged_argument : {s r : Side} {ks : List ℕ} {j : ℕ} {ps : Patterns} {q : Pattern} → StandsIn sig s ks ps r j q → all_ranged ps ≡ true → ranged q ≡ true
    ranged_argument (in_first {p = p} {ps = ps} h) e = ranged_part h (and_left (ranged p) (all_ranged ps) e)
    ranged_argument (in_rest {p = p} {ps = ps} h) e = ranged_argument h (and_right (ranged p) (all_ranged ps) e)

  -- a range that is wrong
  mutual
    find_wrong : {A : Type 0} (p : Pattern) (s : Side) {k : ℕ} → WellFormed sig k p → ranged p ≡ false → ((r : Side) (j low high : ℕ) → Stands sig s k p r j (range low high) → right_range low high ≡ false → A) → A
    find_wrong (var x) s w e f = true≢false e
    find_wrong wild s w e f = true≢false e
    find_wrong absurd_pat s w e f = true≢false e
    find_wrong (range low high) s {k} w e f = f s k low high itself e
    find_wrong (neg p) s (well_not w) e f = find_wrong p (other s) w e (λ r j x y h. f r j x y (in_not h))
    find_wrong (and p q) s (well_and v w) e f = either (ranged p) (ranged q) e (λ a. find_wrong p s v a (λ r j x y h. f r j x y (in_and_left h))) (λ a. find_wrong q s w a (λ r j x y h. f r j x y (in_and_right h)))
    find_wrong (or p q) s (well_or v w) e f = either (ranged p) (ranged q) e (λ a. find_wrong p s v a (λ r j x y h. f r j x y (in_or_left h))) (λ a. find_wrong q s w a (λ r j x y h. f r j x y (in_or_right h)))
    find_wrong (head c ps) s (well_head l g w) e f = find_wrong_in ps s w e (λ r j x y h. f r j x y (in_head g h))

    find_wrong_in : {A : Type 0} (ps : Patterns) (s : Side) {ks : List ℕ} → AllWellFormed sig ks ps → all_ranged ps ≡ false → ((r : Side) (j low high : ℕ) → StandsIn sig s ks ps r j (range low high) → right_range low high ≡ false → A) → A
    find_wrong_in pnil s w e f = true≢false e
    find_wrong_in (pcons p ps) s (well_cons v w) e f = either (ranged p) (all_ranged ps) e (λ a. find_wrong p s v a (λ r j x y h. f r j x y (in_first h))) (λ a. find_wrong_in ps s w a (λ r j x y h. f r j x y (in_rest h)))

  -- 02, refusal 18: some range is wrong
  pub wrong_is_some : {k : ℕ} (p : Pattern) → WellFormed sig k p → ((ranged p ≡ false) ↔ WrongRange sig k p)
  wrong_is_some {k} p w = (λ e. find_wrong p plus w e (λ r j low high h x. (r, j, low, high, h, wrong_ends low high x)), back)
    where
      back : WrongRange sig k p → ranged p ≡ false
      back (r, j, low, high, h, x) = go (ranged p) refl
        where
          go : (b : Bool) → ranged p ≡ b → b ≡ false
          go false e = refl
          go true e = absurd (not_right low high (ranged_part h e) x)
