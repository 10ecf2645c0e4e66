-- How many cells a view has, and how high it is; and two rows as one.
use mathlib.Core.Path.{◌≡◌, subst}
use mathlib.Core.List.{List, [], ◌∷◌, ◌++◌}
use mathlib.Core.Option.{Option, some}
use mathlib.Core.Bool.{Bool, true, false, cond, not}
use Prim.Native.Nat.{ℕ, suc, ◌+◌, ◌≤◌, max}
use native.Mathlib.Omega.{arith}
use lib.Dec.{eqb}
use Rattle.signature.specs.Lists.{memb, keep, is_empty}
use Rattle.signature.specs.Signature.{Signature, arguments}
use Rattle.signature.proofs.ListFacts.{Kept, kept, dropped, kept_bind, any_kept}
use Rattle.signature.proofs.Tests.{some_inj, none≢some}
use Rattle.row.specs.Row.{Row, named, free, Rows, rnil, rcons, combine, combines}
use Rattle.row.specs.RowFits.{place_count, places_count}
use Rattle.views.specs.View.{height, heights, outside, view, views}

-- a bound on a row and on what stands for it
either_row : (f : Row → ℕ) (n : ℕ) (b : Bool) (p q : Row) → f p ≤ n → f q ≤ n → f (cond b p q) ≤ n
either_row f n true p q l m = l
either_row f n false p q l m = m

module _ (sig : Signature) (kept : ℕ → Bool) (left : ℕ) where
  mutual
    pub few : (k i : ℕ) (r : Row) → place_count (view sig kept left k i r) ≤ place_count r
    few k i (named xs c rs) = either_row place_count (suc (places_count rs)) (kept i) (named xs c (views sig kept left (arguments sig c) (suc i) rs)) (free [] (outside sig kept left k i (c ∷ []))) (omega (arith, fews (arguments sig c) (suc i) rs)) (omega arith)
    few k i (free xs cs) = either_row place_count 1 (kept i) (free xs cs) (free [] (outside sig kept left k i cs)) (omega arith) (omega arith)

    fews : (ks : List ℕ) (i : ℕ) (rs : Rows) → places_count (views sig kept left ks i rs) ≤ places_count rs
    fews ks i rnil = omega arith
    fews [] i (rcons r rs) = omega arith
    fews (k ∷ ks) i (rcons r rs) = omega (arith, few k i r, fews ks (i + place_count r) rs)

  mutual
    pub low : (k i : ℕ) (r : Row) → height (view sig kept left k i r) ≤ height r
    low k i (named xs c rs) = either_row height (suc (heights rs)) (kept i) (named xs c (views sig kept left (arguments sig c) (suc i) rs)) (free [] (outside sig kept left k i (c ∷ []))) (omega (arith, lows (arguments sig c) (suc i) rs)) (omega arith)
    low k i (free xs cs) = either_row height 1 (kept i) (free xs cs) (free [] (outside sig kept left k i cs)) (omega arith) (omega arith)

    lows : (ks : List ℕ) (i : ℕ) (rs : Rows) → heights (views sig kept left ks i rs) ≤ heights rs
    lows ks i rnil = omega arith
    lows [] i (rcons r rs) = omega arith
    lows (k ∷ ks) i (rcons r rs) = omega (arith, low k i r, lows ks (i + place_count r) rs)

mutual
  pub low_places : (r : Row) → height r ≤ place_count r
  low_places (named xs c rs) = omega (arith, lows_places rs)
  low_places (free xs cs) = omega arith

  lows_places : (rs : Rows) → heights rs ≤ places_count rs
  lows_places rnil = omega arith
  lows_places (rcons r rs) = omega (arith, low_places r, lows_places rs)

mutual
  combine_low : (r s : Row) → Kept (λ t. height t ≤ max (height r) (height s)) (combine r s)
  combine_low (named xs c rs) (named ys d ss) = kept_bind _ (λ u w. kept_bind _ (λ ts l. kept (named (xs ++ ys) c ts) (omega arith)) (combines_low rs ss)) (any_kept (eqb c d))
  combine_low (named xs c rs) (free ys ds) = kept_bind _ (λ u w. kept (named (xs ++ ys) c rs) (omega arith)) (any_kept (memb c ds))
  combine_low (free xs cs) (named ys d ss) = kept_bind _ (λ u w. kept (named (xs ++ ys) d ss) (omega arith)) (any_kept (memb d cs))
  combine_low (free xs cs) (free ys ds) = kept_bind _ (λ u w. kept (free (xs ++ ys) (keep (λ c. memb c ds) cs)) (omega arith)) (any_kept (not (is_empty (keep (λ c. memb c ds) cs))))

  combines_low : (rs ss : Rows) → Kept (λ ts. heights ts ≤ max (heights rs) (heights ss)) (combines rs ss)
  combines_low rnil rnil = kept rnil (omega arith)
  combines_low rnil (rcons s ss) = dropped
  combines_low (rcons r rs) rnil = dropped
  combines_low (rcons r rs) (rcons s ss) = kept_bind _ (λ t l. kept_bind _ (λ ts m. kept (rcons t ts) (omega arith)) (combines_low rs ss)) (combine_low r s)

kept_there : {A : Type 0} {P : A → Type 0} {o : Option A} → Kept P o → (a : A) → o ≡ some a → P a
kept_there dropped a e = none≢some e
kept_there {P = P} (kept b p) a e = subst P (some_inj b a e) p

pub low_combined : (r s q : Row) → combine r s ≡ some q → height q ≤ max (height r) (height s)
low_combined r s q e = kept_there (combine_low r s) q e
