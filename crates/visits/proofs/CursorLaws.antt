-- Cursors raised and lowered one by one.
use mathlib.Core.Path.{◌≡◌, refl, sym, ap, ◌∙◌}
use mathlib.Core.List.{List}
use mathlib.Core.Bool.{Bool, true, false, ◌&&◌}
use Prim.Native.Nat.{ℕ, ◌+◌, ◌-◌, ◌*◌, ◌≤◌, ◌<◌, max}
use native.Mathlib.Omega.{arith}
use borrow.Author.Tests.{ltb-true, ltb-false}
use lib.Dec.{eqb, ltb}
use lib.ListN.{length, get_or, length-set}
use lib.Seq.{get_or-set_same, get_or-set_other}
use Rattle.signature.proofs.Tests.{eqb_eq, eqb_ne, true≢false}
use Rattle.pattern.specs.Limits.{pattern_limit}
use Rattle.rowset.specs.Member.{member, FirstIn, NextIn}
use Rattle.path.specs.State.{one_if, Lifted, Dropped, Raised, Lowered, visit_of, own_of}
use Rattle.visits.specs.Blank.{Blank}

-- the cursors before r are lowered
pub record Low (re : ℕ → Bool) (cur₀ cur : List ℕ) (r : ℕ) : Type 0 where
  pub len : length cur ≡ length cur₀
  pub done : (q : ℕ) → q < r → get_or cur q 0 ≡ get_or cur₀ q 0 - one_if (re q)
  pub todo : (q : ℕ) → r ≤ q → get_or cur q 0 ≡ get_or cur₀ q 0

pub low_start : (re : ℕ → Bool) (cur : List ℕ) → Low re cur cur 0
low_start re cur = record { len = refl; done = λ q l. absurd (omega arith); todo = λ q l. refl }

pub low_some : {re : ℕ → Bool} {cur₀ cur : List ℕ} {r : ℕ} → Low re cur₀ cur r → 0 < get_or cur₀ r 0 → 0 < get_or cur r 0
low_some {r = r} w h = omega (arith, w.todo r (omega arith))

one_dropped : (cur cur' : List ℕ) (r : ℕ) → r < length cur → Dropped r cur cur' → (length cur' ≡ length cur) × (get_or cur' r 0 ≡ get_or cur r 0 - 1) × ((q : ℕ) → ¬ (q ≡ r) → get_or cur' q 0 ≡ get_or cur q 0)
one_dropped cur cur' r l e = rw e (length-set cur r _, get_or-set_same cur r _ 0 l, λ q n. get_or-set_other cur r q _ 0 n)

pub low_next : (re : ℕ → Bool) {cur₀ cur cur' : List ℕ} {r : ℕ} → Low re cur₀ cur r → r < length cur → re r ≡ true → Dropped r cur cur' → Low re cur₀ cur' (r + 1)
low_next re {cur₀} {cur} {cur'} {r} w l h e = let d = one_dropped cur cur' r l e in record {
  len = d.0 ∙ w.len;
  done = λ q m. go d q m (eqb q r) refl;
  todo = λ q m. d.2 q (λ z. absurd (omega (arith, z))) ∙ w.todo q (omega arith);
}
  where
    go : (length cur' ≡ length cur) × (get_or cur' r 0 ≡ get_or cur r 0 - 1) × ((q : ℕ) → ¬ (q ≡ r) → get_or cur' q 0 ≡ get_or cur q 0)
        → (q : ℕ) → q < r + 1 → (b : Bool) → eqb q r ≡ b → get_or cur' q 0 ≡ get_or cur₀ q 0 - one_if (re q)
    go d q m true z = rw (eqb_eq q r z, h) (d.1 ∙ ap (λ (x : ℕ). x - 1) (w.todo r (omega arith)))
    go d q m false z = d.2 q (eqb_ne q r z) ∙ w.done q (omega (arith, eqb_ne q r z))

-- past rows that are not in the set
pub low_past : (re : ℕ → Bool) {cur₀ cur : List ℕ} {r : ℕ} (r' : ℕ) → Low re cur₀ cur r → r ≤ r' → ((q : ℕ) → r ≤ q → q < r' → re q ≡ false) → Low re cur₀ cur r'
low_past re {cur₀} {cur} {r} r' w l h = record { len = w.len; done = λ q m. go q m (ltb q r) refl; todo = λ q m. w.todo q (omega arith) }
  where
    go : (q : ℕ) → q < r' → (b : Bool) → ltb q r ≡ b → get_or cur q 0 ≡ get_or cur₀ q 0 - one_if (re q)
    go q m true e = w.done q (ltb-true q r e)
    go q m false e = let o : r ≤ q = ltb-false q r e in rw (h q o m) (omega (arith, w.todo q o))

pub low_all : {re : ℕ → Bool} {cur₀ cur : List ℕ} {r n : ℕ} → Low re cur₀ cur r → n ≤ r → r ≤ n → Lowered n re cur₀ cur
low_all w l m = record { cursor = λ q h. w.done q (omega arith); beyond = λ q h. w.todo q (omega arith) }

-- the cursors before r are raised, and the visits of their cells are v
pub record High (re : ℕ → Bool) (n v : ℕ) (cur₀ vis₀ cur vis : List ℕ) (r : ℕ) : Type 0 where
  pub len : length cur ≡ length cur₀
  pub long : length vis ≡ length vis₀
  pub done : (q : ℕ) → q < r → get_or cur q 0 ≡ get_or cur₀ q 0 + one_if (re q)
  pub todo : (q : ℕ) → r ≤ q → get_or cur q 0 ≡ get_or cur₀ q 0
  pub visit : (q : ℕ) → q < r → re q ≡ true → visit_of vis q (get_or cur₀ q 0) ≡ v
  pub others : (q p : ℕ) → q < n → p < get_or cur₀ q 0 → visit_of vis q p ≡ visit_of vis₀ q p

pub high_start : (re : ℕ → Bool) (n v : ℕ) (cur vis : List ℕ) → High re n v cur vis cur vis 0
high_start re n v cur vis = record { len = refl; long = refl; done = λ q l. absurd (omega arith); todo = λ q l. refl; visit = λ q l e. absurd (omega arith); others = λ q p l m. refl }

pub high_small : {re : ℕ → Bool} {n v : ℕ} {cur₀ vis₀ cur vis : List ℕ} {r : ℕ} → High re n v cur₀ vis₀ cur vis r → get_or cur₀ r 0 < pattern_limit → get_or cur r 0 < pattern_limit
high_small {r = r} w h = omega (arith, w.todo r (omega arith))

-- one row past its cell
record One (v r : ℕ) (cur vis cur' vis' : List ℕ) : Type 0 where
  len : length cur' ≡ length cur
  long : length vis' ≡ length vis
  here : get_or cur' r 0 ≡ get_or cur r 0 + 1
  there : (q : ℕ) → ¬ (q ≡ r) → get_or cur' q 0 ≡ get_or cur q 0
  visit : visit_of vis' r (get_or cur r 0) ≡ v
  others : (i : ℕ) → ¬ (i ≡ pattern_limit * r + get_or cur r 0) → get_or vis' i 0 ≡ get_or vis i 0

one_lifted : (v r : ℕ) (cur vis cur' vis' : List ℕ) → r < length cur → pattern_limit * r + get_or cur r 0 < length vis → Lifted v r cur vis cur' vis' → One v r cur vis cur' vis'
one_lifted v r cur vis cur' vis' l m e = rw (e.0, e.1) (record {
  len = length-set cur r _;
  long = length-set vis _ v;
  here = get_or-set_same cur r _ 0 l;
  there = λ q n. get_or-set_other cur r q _ 0 n;
  visit = get_or-set_same vis _ v 0 m;
  others = λ i n. get_or-set_other vis _ i v 0 n;
})

module _ (re : ℕ → Bool) (n v : ℕ) (cur₀ vis₀ cur vis cur' vis' : List ℕ) (r : ℕ) (w : High re n v cur₀ vis₀ cur vis r) (l : r < n) (low : (q : ℕ) → q < n → get_or cur₀ q 0 ≤ pattern_limit) (smalls : (q : ℕ) → q < n → re q ≡ true → get_or cur₀ q 0 < pattern_limit) (in_set : re r ≡ true) where
  small : get_or cur₀ r 0 < pattern_limit
  small = smalls r l in_set

  next_one : One v r cur vis cur' vis' → High re n v cur₀ vis₀ cur' vis' (r + 1)
  next_one d = record {
    len = d.len ∙ w.len;
    long = d.long ∙ w.long;
    done = λ q m. cursor q m (eqb q r) refl;
    todo = λ q m. d.there q (λ z. absurd (omega (arith, z))) ∙ w.todo q (omega arith);
    visit = λ q m e. visited q m e (eqb q r) refl;
    others = λ q p m h. d.others (pattern_limit * q + p) (λ z. apart q p m h z (eqb q r) refl) ∙ w.others q p m h;
  }
    where
      here : get_or cur r 0 ≡ get_or cur₀ r 0
      here = w.todo r (omega arith)

      apart : (q p : ℕ) → q < n → p < get_or cur₀ q 0 → pattern_limit * q + p ≡ pattern_limit * r + get_or cur r 0 → (b : Bool) → eqb q r ≡ b → ⊥
      apart q p m h z true i = let j : q ≡ r = eqb_eq q r i in absurd (omega (arith, here, z, j, ap (λ (x : ℕ). get_or cur₀ x 0) j))
      apart q p m h z false i = absurd (omega (arith, eqb_ne q r i, here, z, low q m, small))

      cursor : (q : ℕ) → q < r + 1 → (b : Bool) → eqb q r ≡ b → get_or cur' q 0 ≡ get_or cur₀ q 0 + one_if (re q)
      cursor q m true z = rw (eqb_eq q r z, in_set) (d.here ∙ ap (λ (x : ℕ). x + 1) here)
      cursor q m false z = d.there q (eqb_ne q r z) ∙ w.done q (omega (arith, eqb_ne q r z))

      visited : (q : ℕ) → q < r + 1 → re q ≡ true → (b : Bool) → eqb q r ≡ b → visit_of vis' q (get_or cur₀ q 0) ≡ v
      visited q m e true z = rw (eqb_eq q r z, ← here) d.visit
      visited q m e false z =
          let n' : ¬ (q ≡ r) = eqb_ne q r z in
          d.others (pattern_limit * q + get_or cur₀ q 0) (λ y. absurd (omega (arith, n', here, y, low r l, smalls q (omega (arith, n')) e, small))) ∙ w.visit q (omega (arith, n')) e

  pub high_next : r < length cur → pattern_limit * n ≤ length vis → Lifted v r cur vis cur' vis' → High re n v cur₀ vis₀ cur' vis' (r + 1)
  high_next h m e = next_one (one_lifted v r cur vis cur' vis' h (omega (arith, small, w.todo r (omega arith))) e)

-- past rows that are not in the set
pub high_past : (re : ℕ → Bool) {n v : ℕ} {cur₀ vis₀ cur vis : List ℕ} {r : ℕ} (r' : ℕ) → High re n v cur₀ vis₀ cur vis r → r ≤ r' → ((q : ℕ) → r ≤ q → q < r' → re q ≡ false) → High re n v cur₀ vis₀ cur vis r'
high_past re {n} {v} {cur₀} {vis₀} {cur} {vis} {r} r' w l h = record { len = w.len; long = w.long; done = λ q m. go q m (ltb q r) refl; todo = λ q m. w.todo q (omega arith); visit = λ q m e. seen q m e (ltb q r) refl; others = w.others }
  where
    go : (q : ℕ) → q < r' → (b : Bool) → ltb q r ≡ b → get_or cur q 0 ≡ get_or cur₀ q 0 + one_if (re q)
    go q m true e = w.done q (ltb-true q r e)
    go q m false e = let o : r ≤ q = ltb-false q r e in rw (h q o m) (omega (arith, w.todo q o))

    seen : (q : ℕ) → q < r' → re q ≡ true → (b : Bool) → ltb q r ≡ b → visit_of vis q (get_or cur₀ q 0) ≡ v
    seen q m e true f = w.visit q (ltb-true q r f) e
    seen q m e false f = true≢false (sym e ∙ h q (ltb-false q r f) m)

pub high_all : {re : ℕ → Bool} {n v : ℕ} {cur₀ vis₀ cur vis : List ℕ} {r : ℕ} → High re n v cur₀ vis₀ cur vis r → n ≤ r → r ≤ n → Raised n re v cur₀ vis₀ cur vis
high_all w l m = record { cursor = λ q h. w.done q (omega arith); beyond = λ q h. w.todo q (omega arith); visit = λ q h e. w.visit q (omega arith) e; others = w.others }

-- a row of the set, and one that is not, in the first column

pub real_in : (b : Bool) (m o n : ℕ) → b ≡ true → m ≡ o → eqb m n ≡ (b && eqb o n)
real_in b m o n e h = rw (e, h)

pub real_out : (b z : Bool) → b ≡ false → b ≡ (b && z)
real_out b z e = rw e

-- the columns before the first cell

-- m is the most columns of the rows before r
pub record Top (rows s cur : List ℕ) (n ncols m r : ℕ) : Type 0 where
  pub most : m ≤ ncols
  pub above : (q : ℕ) → q < r → member s q ≡ true → own_of rows q (get_or cur q 0) ≤ m

pub top_start : (rows s cur : List ℕ) (n ncols r : ℕ) → FirstIn s n r → Top rows s cur n ncols 0 r
top_start rows s cur n ncols r f = record { most = omega arith; above = λ q l e. true≢false (sym e ∙ f.before q l) }

pub top_next : (rows s cur : List ℕ) (n ncols m r o r' : ℕ) → Top rows s cur n ncols m r → o ≡ own_of rows r (get_or cur r 0) → o ≤ ncols → NextIn s (r + 1) n r' → Top rows s cur n ncols (max m o) r'
top_next rows s cur n ncols m r o r' w e h x = record { most = omega (arith, w.most); above = λ q l a. go q l a (ltb q r) refl }
  where
    go : (q : ℕ) → q < r' → member s q ≡ true → (b : Bool) → ltb q r ≡ b → own_of rows q (get_or cur q 0) ≤ max m o
    go q l a true i = omega (arith, w.above q (ltb-true q r i) a)
    go q l a false i = here (eqb q r) refl
      where
        here : (b : Bool) → eqb q r ≡ b → own_of rows q (get_or cur q 0) ≤ max m o
        here true j = rw (eqb_eq q r j) (omega (arith, e))
        here false j = true≢false (sym a ∙ x.between q (omega (arith, eqb_ne q r j, ltb-false q r i)) l)

pub top_all : (rows s cur : List ℕ) (n ncols m r f : ℕ) → Top rows s cur n ncols m r → n ≤ r → f < n → FirstIn s n f → Blank rows n s cur ncols (ncols - m)
top_all rows s cur n ncols m r f w l h x = record {
  most = omega arith;
  virt = λ q i e. omega (arith, w.above q (omega arith) e, w.most);
  some = λ i. (f, h, x);
}

pub blank_none : (rows s cur : List ℕ) (n ncols r : ℕ) → r ≡ n → FirstIn s n r → Blank rows n s cur ncols 0
blank_none rows s cur n ncols r i x = record { most = omega arith; virt = λ q l e. true≢false (sym e ∙ x.before q (omega arith)); some = λ l. absurd (omega arith) }
