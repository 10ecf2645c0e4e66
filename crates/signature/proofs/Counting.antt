-- Lists made by counting: 0, 1, .. n - 1 and what stands at each.
use mathlib.Core.Path.{◌≡◌, refl, sym, ap, ap₂, ◌∙◌}
use mathlib.Core.List.{List, [], ◌∷◌, ◌++◌, map}
use mathlib.Core.Bool.{Bool, true, false}
use Prim.Native.Nat.{ℕ, zero, suc, ◌+◌, ◌-◌, ◌≤◌, ◌<◌}
use native.Mathlib.Nat.{add-zero, add-suc, suc-add, zero-add}
use native.Mathlib.Numerals.{add-one}
use native.Mathlib.Omega.{arith}
use lib.ListN.{length, get_or, set}
use lib.Seq.{get_or-set_same, get_or-set_other}
use Rattle.signature.specs.Lists.{count_up, all}
use Rattle.signature.proofs.Tests.{true≢false}
use Rattle.signature.proofs.ListFacts.{test_at, at_count, count_all, all_count}

pub count_one : (k n : ℕ) → k < n → count_up k (n - k) ≡ k ∷ count_up (k + 1) (n - (k + 1))
count_one k n l =
    let e : n - k ≡ suc (n - (k + 1)) = omega arith in
    rw (e, add-one)

pub count_one_from : (b j n : ℕ) → j < n → count_up (b + j) (n - j) ≡ (b + j) ∷ count_up (b + (j + 1)) (n - (j + 1))
count_one_from b j n l =
    let e : n - j ≡ suc (n - (j + 1)) = omega arith in
    let f : suc (b + j) ≡ b + (j + 1) = omega arith in
    rw e (ap (λ z. (b + j) ∷ count_up z (n - (j + 1))) f)

pub count_none : (b k n : ℕ) → n ≤ k → count_up b (n - k) ≡ []
count_none b k n l =
    let e : n - k ≡ 0 = omega arith in
    rw e

module _ {A : Type 0} where
  pub counted_same : (g h : ℕ → A) (i n : ℕ) → ((j : ℕ) → j < n → g (i + j) ≡ h (i + j)) → map g (count_up i n) ≡ map h (count_up i n)
  counted_same g h i zero e = refl
  counted_same g h i (suc n) e = ap₂ (λ x xs. x ∷ xs) (rw (add-zero i) at (e 0 (omega arith))) (counted_same g h (suc i) n (λ j l. rw (suc-add i j, ← add-suc i j) (e (suc j) (omega arith))))

  pub counted_more : (g : ℕ → A) (i n : ℕ) → map g (count_up i (n + 1)) ≡ map g (count_up i n) ++ (g (i + n) ∷ [])
  counted_more g i zero = rw add-zero
  counted_more g i (suc n) =
      let e : suc n + 1 ≡ suc (n + 1) = omega arith in
      rw (e, add-suc i n, ← suc-add i n) (ap (λ xs. g i ∷ xs) (counted_more g (suc i) n))

  pub counted_length : (g : ℕ → A) (i n : ℕ) → length (map g (count_up i n)) ≡ n
  counted_length g i zero = refl
  counted_length g i (suc n) = ap suc (counted_length g (suc i) n)

  -- a test of all, by a test of each
  pub counted_all : (f : A → Bool) (g : ℕ → A) (i n : ℕ) → ((j : ℕ) → j < n → f (g (i + j)) ≡ true) → all f (map g (count_up i n)) ≡ true
  counted_all f g i zero h = refl
  counted_all f g i (suc n) h =
      let a : f (g i) ≡ true = rw (add-zero i) at (h 0 (omega arith)) in
      rw a (counted_all f g (suc i) n (λ j l. rw (suc-add i j, ← add-suc i j) (h (suc j) (omega arith))))

  pub counted_not : (f : A → Bool) (g : ℕ → A) (i n j : ℕ) → j < n → f (g (i + j)) ≡ false → all f (map g (count_up i n)) ≡ false
  counted_not f g i n j l e = go (all f (map g (count_up i n))) refl
    where
      go : (b : Bool) → all f (map g (count_up i n)) ≡ b → all f (map g (count_up i n)) ≡ false
      go true q = true≢false (sym (test_at f (map g (count_up i n)) j (g (i + j)) q (at_count g i n j l)) ∙ e)
      go false q = q

pub count_not : (f : ℕ → Bool) (n j : ℕ) → j < n → f j ≡ false → all f (count_up 0 n) ≡ false
count_not f n j l e = go (all f (count_up 0 n)) refl
  where
    go : (b : Bool) → all f (count_up 0 n) ≡ b → all f (count_up 0 n) ≡ false
    go true q = true≢false (sym (rw (zero-add j) at (count_all f 0 n q j l)) ∙ e)
    go false q = q

pub getD_counted : (g : ℕ → ℕ) (i n j : ℕ) → j < n → get_or (map g (count_up i n)) j 0 ≡ g (i + j)
getD_counted g i zero j l = absurd (omega arith)
getD_counted g i (suc n) zero l = rw (add-zero i)
getD_counted g i (suc n) (suc j) l = rw (add-suc i j, ← suc-add i j) (getD_counted g (suc i) n j (omega arith))

-- a word that was set, and the others
pub set_is : (t : List ℕ) (i j v : ℕ) → i < length t → j ≡ i → get_or (set t i v) j 0 ≡ v
set_is t i j v l e = rw e (get_or-set_same t i v 0 l)

pub set_apart : (t : List ℕ) (i j v : ℕ) → (j < i) → get_or (set t i v) j 0 ≡ get_or t j 0
set_apart t i j v l = get_or-set_other t i j v 0 (λ e. omega arith)

-- the loops that test: the turns below k passed, or turn k fails
pub count_passed : (f : ℕ → Bool) (k n : ℕ) → n ≤ k → ((j : ℕ) → j < k → f j ≡ true) → true ≡ all f (count_up 0 n)
count_passed f k n l h = sym (all_count f 0 n (λ j m. rw (zero-add j) (h j (omega arith))))

pub count_failed : (f : ℕ → Bool) (k n : ℕ) → k < n → f k ≡ false → false ≡ all f (count_up 0 n)
count_failed f k n l e = sym (count_not f n k l e)

module _ {A : Type 0} (f : A → Bool) (g : ℕ → A) where
  pub counted_passed : (b k n : ℕ) → n ≤ k → ((j : ℕ) → j < k → f (g (b + j)) ≡ true) → true ≡ all f (map g (count_up b n))
  counted_passed b k n l h = sym (counted_all f g b n (λ j m. h j (omega arith)))

  pub counted_failed : (b k n : ℕ) → k < n → f (g (b + k)) ≡ false → false ≡ all f (map g (count_up b n))
  counted_failed b k n l e = sym (counted_not f g b n k l e)

  pub counted_passed_0 : (k n : ℕ) → n ≤ k → ((j : ℕ) → j < k → f (g j) ≡ true) → true ≡ all f (map g (count_up 0 n))
  counted_passed_0 k n l h = counted_passed 0 k n l (λ j m. rw (zero-add j) (h j m))

  pub counted_failed_0 : (k n : ℕ) → k < n → f (g k) ≡ false → false ≡ all f (map g (count_up 0 n))
  counted_failed_0 k n l e = counted_failed 0 k n l (rw (zero-add k) e)
