-- Options by number, and those that are there.
use mathlib.Core.Path.{◌≡◌, refl, sym, ap, ◌∙◌}
use mathlib.Core.List.{List, [], ◌∷◌, map}
use mathlib.Core.Option.{Option, none, some}
use mathlib.Core.Bool.{Bool, true, false}
use Prim.Native.Nat.{ℕ, zero, suc, ◌+◌, ◌≤◌, ◌<◌}
use native.Mathlib.Omega.{arith}
use lib.Dec.{eqb}
use Rattle.signature.specs.Lists.{◌>>=◌, somes, any}
use Rattle.signature.proofs.Booleans.{or_true}
use Rattle.signature.proofs.Tests.{eqb_eq, eqb_ne, none≢some, some_inj}
use Rattle.path.specs.State.{options}

module _ {A : Type 0} where
  -- a step of each of those that are there
  pub somes_step : (f : ℕ → Option A) (g : A → Option A) (i n : ℕ) → somes (map g (somes (options f i n))) ≡ somes (options (λ r. f r >>= g) i n)
  somes_step f g i zero = refl
  somes_step f g i (suc n) = go (f i) (somes_step f g (suc i) n)
    where
      cons : (o : Option A) → somes (map g (somes (options f (suc i) n))) ≡ somes (options (λ r. f r >>= g) (suc i) n) → somes (o ∷ map g (somes (options f (suc i) n))) ≡ somes (o ∷ options (λ r. f r >>= g) (suc i) n)
      cons none h = h
      cons (some a) h = ap (λ (l : List A). a ∷ l) h

      go : (o : Option A) → somes (map g (somes (options f (suc i) n))) ≡ somes (options (λ r. f r >>= g) (suc i) n)
          → somes (map g (somes (o ∷ options f (suc i) n))) ≡ somes ((o >>= g) ∷ options (λ r. f r >>= g) (suc i) n)
      go none h = h
      go (some a) h = cons (g a) h

  pub somes_none : (f : ℕ → Option A) (i n : ℕ) → ((r : ℕ) → i ≤ r → r < i + n → f r ≡ none) → somes (options f i n) ≡ []
  somes_none f i zero h = refl
  somes_none f i (suc n) h = rw (h i (omega arith) (omega arith)) (somes_none f (suc i) n (λ r a b. h r (omega arith) (omega arith)))

  pub record FirstIs (a : A) (l : List A) : Type 0 where
    pub rest : List A
    pub is : l ≡ a ∷ rest

  pub somes_first : (f : ℕ → Option A) (i n r : ℕ) (a : A) → i ≤ r → r < i + n → f r ≡ some a → ((q : ℕ) → i ≤ q → q < r → f q ≡ none) → FirstIs a (somes (options f i n))
  somes_first f i zero r a h g e z = absurd (omega arith)
  somes_first f i (suc n) r a h g e z = go (eqb i r) refl (λ l. somes_first f (suc i) n r a l (omega arith) e (λ q x y. z q (omega arith) y))
    where
      go : (b : Bool) → eqb i r ≡ b → (suc i ≤ r → FirstIs a (somes (options f (suc i) n))) → FirstIs a (somes (f i ∷ options f (suc i) n))
      go true q ih = rw (eqb_eq i r q, e) (record { rest = somes (options f (suc r) n); is = refl })
      go false q ih = let l : suc i ≤ r = omega (arith, eqb_ne i r q) in rw (z i (omega arith) l) (ih l)

  -- a test of those that are there
  pub any_no : (p : A → Bool) (f : ℕ → Option A) (i n : ℕ) → ((r : ℕ) (a : A) → i ≤ r → r < i + n → f r ≡ some a → p a ≡ false) → any p (somes (options f i n)) ≡ false
  any_no p f i zero h = refl
  any_no p f i (suc n) h = go (f i) refl (any_no p f (suc i) n (λ r a x y. h r a (omega arith) (omega arith)))
    where
      go : (o : Option A) → f i ≡ o → any p (somes (options f (suc i) n)) ≡ false → any p (somes (o ∷ options f (suc i) n)) ≡ false
      go none e g = g
      go (some a) e g = rw (h i a (omega arith) (omega arith) e) g

  pub any_yes : (p : A → Bool) (f : ℕ → Option A) (i n r : ℕ) (a : A) → i ≤ r → r < i + n → f r ≡ some a → p a ≡ true → any p (somes (options f i n)) ≡ true
  any_yes p f i zero r a h g e t = absurd (omega arith)
  any_yes p f i (suc n) r a h g e t = go (eqb i r) refl (f i) refl (λ l. any_yes p f (suc i) n r a l (omega arith) e t)
    where
      go : (b : Bool) → eqb i r ≡ b → (o : Option A) → f i ≡ o → (suc i ≤ r → any p (somes (options f (suc i) n)) ≡ true) → any p (somes (o ∷ options f (suc i) n)) ≡ true
      go true q none z ih = none≢some (sym z ∙ ap f (eqb_eq i r q) ∙ e)
      go true q (some b) z ih =
          let w : p b ≡ true = ap p (some_inj b a (sym z ∙ ap f (eqb_eq i r q) ∙ e)) ∙ t in
          rw w
      go false q none z ih = ih (omega (arith, eqb_ne i r q))
      go false q (some b) z ih = rw (ih (omega (arith, eqb_ne i r q))) (or_true (p b))
