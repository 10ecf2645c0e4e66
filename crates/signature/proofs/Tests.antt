-- Tests of numbers and options, with what they say.
use mathlib.Core.Path.{◌≡◌, sym, refl, subst, ◌∙◌, ap}
use mathlib.Core.Option.{none, some, Option}
use mathlib.Core.Bool.{true, false, Bool, cond, not}
use Prim.Native.Nat.{ℕ, ◌≤◌, ◌<◌, suc, ◌*◌, zero}
use native.Mathlib.Decide.{dec_le}
use native.Mathlib.Nat.{zero-mul, suc-mul}
use native.Mathlib.Omega.{arith}
use lib.Dec.{T, eqb, eqb_refl, eqb→eq, leb, le→leb, leb→le, ltb}
use Rattle.signature.specs.Lists.{◌>>=◌, require}

-- a test of two numbers, with what it says
pub true≢false : {A : Type 0} → true ≡ false → A
true≢false p = absurd (let z : ◌≡◌ {A = ℕ} 0 1 = cc in omega arith)

pub T_of : (b : Bool) → b ≡ true → T b
T_of true e = tt
T_of false e = true≢false (sym e)

pub of_T : (b : Bool) → T b → b ≡ true
of_T true t = refl
of_T false t = absurd t

pub eqb_self : (n : ℕ) → eqb n n ≡ true
eqb_self n = of_T (eqb n n) (eqb_refl n)

pub eqb_eq : (m n : ℕ) → eqb m n ≡ true → m ≡ n
eqb_eq m n e = eqb→eq m n (T_of (eqb m n) e)

pub eqb_ne : (m n : ℕ) → eqb m n ≡ false → ¬ (m ≡ n)
eqb_ne m n e p = true≢false (sym (of_T (eqb m n) (subst (λ x. T (eqb m x)) p (eqb_refl m))) ∙ e)

of_not_T : (b : Bool) → (T b → ⊥) → b ≡ false
of_not_T true f = absurd (f tt)
of_not_T false f = refl

pub eqb_no : (m n : ℕ) → ¬ (m ≡ n) → eqb m n ≡ false
eqb_no m n h = of_not_T (eqb m n) (λ t. h (eqb→eq m n t))

pub leb_yes : (m n : ℕ) → m ≤ n → leb m n ≡ true
leb_yes m n h = of_T (leb m n) (le→leb m n h)

pub leb_no : (m n : ℕ) → n < m → leb m n ≡ false
leb_no m n h = of_not_T (leb m n) (λ t. let g : m ≤ n = leb→le m n t in omega arith)

pub ltb_yes : (m n : ℕ) → m < n → ltb m n ≡ true
ltb_yes m n h = leb_yes (suc m) n h

pub ltb_no : (m n : ℕ) → n ≤ m → ltb m n ≡ false
ltb_no m n h = leb_no (suc m) n (omega arith)

pub none≢some : {A C : Type 0} {a : A} → none ≡ some a → C
none≢some e = absurd (let z : ◌≡◌ {A = ℕ} 0 1 = cc in omega arith)

-- a bind that gives something: what its first part gave
pub bind_some : {A B : Type 0} (m : Option A) (f : A → Option B) (b : B) → (m >>= f) ≡ some b → (a : A) × (m ≡ some a) × (f a ≡ some b)
bind_some none f b e = none≢some e
bind_some (some a) f b e = (a, refl, e)

pub require_some : (b : Bool) (u : Unit {0}) → require b ≡ some u → b ≡ true
require_some true u e = refl
require_some false u e = none≢some e

pub some_inj : {A : Type 0} (a b : A) → some a ≡ some b → a ≡ b
some_inj a b p = cc

pub same_some : {A : Type 0} (a b : A) (o : Option A) → o ≡ some a → o ≡ some b → a ≡ b
same_some a b o p q = cc

pub times_less : (a b c d : ℕ) → a ≤ b → c ≤ d → a * c ≤ b * d
times_less a b c d l m = go b l
  where
    first : (e : ℕ) → e * c ≤ e * d
    first zero = rw (zero-mul c, zero-mul d) (omega arith)
    first (suc e) = rw (suc-mul e c, suc-mul e d) (omega (arith, first e))

    go : (b : ℕ) → a ≤ b → a * c ≤ b * d
    go zero l' = let z : a ≡ 0 = omega arith in rw (z, zero-mul c) (omega arith)
    go (suc b) l' = on (dec_le a b) (go b)
      where
        on : Dec (a ≤ b) → (a ≤ b → a * c ≤ b * d) → a * c ≤ suc b * d
        on (yes h) f = rw (suc-mul b d) (omega (arith, f h))
        on (no h) f = let z : a ≡ suc b = omega arith in rw z (first (suc b))

pub eqb_sym : (m n : ℕ) → eqb m n ≡ eqb n m
eqb_sym m n = go (eqb m n) refl
  where
    go : (b : Bool) → eqb m n ≡ b → eqb m n ≡ eqb n m
    go true e = rw (eqb_eq m n e)
    go false e = e ∙ sym (eqb_no n m (λ p. eqb_ne m n e (sym p)))

pub bind_same : {A B : Type 0} (m : Option A) (f g : A → Option B) → ((a : A) → f a ≡ g a) → (m >>= f) ≡ (m >>= g)
bind_same none f g h = refl
bind_same (some a) f g h = h a

pub when_same : {B : Type 0} (b : Bool) (x y : Option B) → (b ≡ true → x ≡ y) → (require b >>= λ u. x) ≡ (require b >>= λ u. y)
when_same true x y h = h refl
when_same false x y h = refl

-- a refusal that does not apply
pub pass : (b : Bool) (n m : ℕ) → (n ≡ 0 → ⊥) → cond b n m ≡ 0 → (b ≡ false) × (m ≡ 0)
pass true n m h e = absurd (h e)
pass false n m h e = (refl, e)

pub pass_own : (q m : ℕ) → cond (not (eqb q 0)) q m ≡ 0 → (q ≡ 0) × (m ≡ 0)
pass_own q m e = go (eqb q 0) refl
  where
    go : (b : Bool) → eqb q 0 ≡ b → (q ≡ 0) × (m ≡ 0)
    go true h = (eqb_eq q 0 h, rw h at e)
    go false h = absurd (eqb_ne q 0 h (rw h at e))

pub le_of : (m n : ℕ) → leb m n ≡ true → m ≤ n
le_of m n e = leb→le m n (T_of (leb m n) e)

pub lt_of_not : (m n : ℕ) → leb m n ≡ false → n < m
lt_of_not m n e = go (dec_le m n)
  where
    go : Dec (m ≤ n) → n < m
    go (yes h) = true≢false (sym (leb_yes m n h) ∙ e)
    go (no h) = omega arith

-- a refusal that does not apply
pub past : (b : Bool) (n m k : ℕ) → (n ≡ k → ⊥) → cond b n m ≡ k → (b ≡ false) × (m ≡ k)
past true n m k h e = absurd (h e)
past false n m k h e = (refl, e)

pub past_own : (q m k : ℕ) → (q ≡ k → ⊥) → cond (not (eqb q 0)) q m ≡ k → (q ≡ 0) × (m ≡ k)
past_own q m k h e = go (eqb q 0) refl
  where
    go : (b : Bool) → eqb q 0 ≡ b → (q ≡ 0) × (m ≡ k)
    go true z = (eqb_eq q 0 z, rw z at e)
    go false z = absurd (h (rw z at e))

pub none_of : (b : Bool) (n m k : ℕ) → (n ≡ k → ⊥) → (m ≡ k → ⊥) → cond b n m ≡ k → ⊥
none_of true n m k f g e = f e
none_of false n m k f g e = g e

pub pair_first : {A B : Type 0} {a a' : A} {b b' : B} → ◌≡◌ {A = A × B} (a, b) (a', b') → a ≡ a'
pair_first e = ap (λ z. z.0) e

pub pair_second : {A B : Type 0} {a a' : A} {b b' : B} → ◌≡◌ {A = A × B} (a, b) (a', b') → b ≡ b'
pair_second e = ap (λ z. z.1) e
