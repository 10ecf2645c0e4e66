-- The tests of a sound table, one rule after the other.
use mathlib.Core.Path.{◌≡◌, refl, sym, ap, ◌∙◌}
use mathlib.Core.List.{List, [], ◌∷◌, ◌++◌}
use mathlib.Core.Bool.{Bool, true, false, ◌&&◌}
use Prim.Native.Nat.{◌+◌, ◌≤◌}
use native.Mathlib.Omega.{arith}
use lib.Dec.{eqb, leb}
use Rattle.signature.specs.Lists.{all}
use Rattle.signature.specs.Signature.{Signature}
use Rattle.signature.proofs.Booleans.{and_left, and_right}
use Rattle.signature.proofs.Tests.{eqb_eq, leb_yes, leb_no, true≢false, le_of, lt_of_not}
use Rattle.pattern.specs.Weight.{weight}
use Rattle.row.specs.Admitted.{refusal_of_pattern}
use Rattle.table.specs.Limits.{limits}
use Rattle.table.specs.Rule.{Rule, total_weight}
use Rattle.table.specs.Sound.{no_shared}
use Rattle.loading.specs.Add.{weights, goes_with}
use Rattle.loading.specs.Load.{patterns}

-- what each rule of a sound table is by itself, and what all weigh
abbrev pub passed : Signature → List Rule → Bool
passed sig rs = all (λ r. eqb (refusal_of_pattern sig r.pattern) 0) rs && leb (total_weight sig rs) limits.weight

-- what a sound table's rules are besides the layout
abbrev pub tests : Signature → List Rule → Bool
tests sig rs = passed sig rs && no_shared sig rs

module _ (sig : Signature) where
  pub same_weight : (rs : List Rule) → weights sig (patterns rs) ≡ total_weight sig rs
  same_weight [] = refl
  same_weight (r ∷ rs) = ap (λ z. weight sig r.pattern + z) (same_weight rs)

  weight_more : (before later : List Rule) → total_weight sig (before ++ later) ≡ total_weight sig before + total_weight sig later
  weight_more [] later = omega arith
  weight_more (r ∷ before) later = omega (arith, weight_more before later)

  abbrev passes : Rule → Bool
  passes r = eqb (refusal_of_pattern sig r.pattern) 0

  all_more : (before later : List Rule) → all passes (before ++ later) ≡ (all passes before && all passes later)
  all_more [] later = refl
  all_more (r ∷ before) later = ap (λ z. passes r && z) (all_more before later) ∙ assoc (passes r) (all passes before) (all passes later)
    where
      assoc : (a b c : Bool) → (a && (b && c)) ≡ ((a && b) && c)
      assoc true b c = refl
      assoc false b c = refl

  last_false : (b : Bool) {c : Bool} → c ≡ false → (b && c) ≡ false
  last_false true e = e
  last_false false e = refl

  reached : (f : Rule → Bool) (rs : List Rule) (r : Rule) (later : List Rule) → f r ≡ false → all f (rs ++ (r ∷ later)) ≡ false
  reached f [] r later e = rw e
  reached f (w ∷ rs) r later e = last_false (f w) (reached f rs r later e)

  both : {a b : Bool} → a ≡ true → b ≡ true → (a && b) ≡ true
  both x y = rw (x, y)

  not_both : (a b : Bool) {x y : Bool} → (a && b) ≡ false → (a ≡ false → x ≡ false) → (b ≡ false → y ≡ false) → (x && y) ≡ false
  not_both false b e f g = rw (f refl)
  not_both true false {x} e f g = last_false x (g refl)
  not_both true true e f g = true≢false e

  pub passed_more : (before : List Rule) (r : Rule) → passed sig before ≡ true → goes_with sig (patterns before) r.pattern ≡ true → passed sig (before ++ (r ∷ [])) ≡ true
  passed_more before r h e =
      let a = and_left (all passes before) (leb (total_weight sig before) limits.weight) h in
      let x = and_left (passes r) (leb (weight sig r.pattern + weights sig (patterns before)) limits.weight) e in
      let y = and_right (passes r) (leb (weight sig r.pattern + weights sig (patterns before)) limits.weight) e in
      both
      (all_more before (r ∷ []) ∙ (rw (a, x)))
      (leb_yes (total_weight sig (before ++ (r ∷ []))) limits.weight (omega (arith, weight_more before (r ∷ []), same_weight before, le_of (weight sig r.pattern + weights sig (patterns before)) limits.weight y)))

  pub tests_none : (before : List Rule) (r : Rule) (later : List Rule) → goes_with sig (patterns before) r.pattern ≡ false → tests sig (before ++ (r ∷ later)) ≡ false
  tests_none before r later e =
      ap (λ (b : Bool). b && no_shared sig (before ++ (r ∷ later)))
      (not_both (passes r) (leb (weight sig r.pattern + weights sig (patterns before)) limits.weight) e
      (λ h. reached passes before r later h)
      (λ h. leb_no (total_weight sig (before ++ (r ∷ later))) limits.weight (omega (arith, weight_more before (r ∷ later), same_weight before, lt_of_not (weight sig r.pattern + weights sig (patterns before)) limits.weight h))))

  pub weight_last : (before : List Rule) (r : Rule) → weight sig r.pattern + weights sig (patterns before) ≡ total_weight sig (before ++ (r ∷ []))
  weight_last before r = omega (arith, weight_more before (r ∷ []), same_weight before)

  pub passed_light : (rs : List Rule) → passed sig rs ≡ true → total_weight sig rs ≤ limits.weight
  passed_light rs h = le_of (total_weight sig rs) limits.weight (and_right (all passes rs) (leb (total_weight sig rs) limits.weight) h)

  pub tests_light : (rs : List Rule) → tests sig rs ≡ true → total_weight sig rs ≤ limits.weight
  tests_light rs h = passed_light rs (and_left (passed sig rs) (no_shared sig rs) h)

  -- each rule of a sound table passes 7 to 10
  pub passed_at : (before : List Rule) (r : Rule) (later : List Rule) → tests sig (before ++ (r ∷ later)) ≡ true → refusal_of_pattern sig r.pattern ≡ 0
  passed_at before r later h =
      let rs = before ++ (r ∷ later) in
      let t = and_left (all passes rs) (leb (total_weight sig rs) limits.weight) (and_left (passed sig rs) (no_shared sig rs) h) in
      eqb_eq (refusal_of_pattern sig r.pattern) 0 (and_left (passes r) (all passes later) (and_right (all passes before) (all passes (r ∷ later)) (sym (all_more before (r ∷ later)) ∙ t)))
