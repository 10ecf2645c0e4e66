-- Laws of membership and of tests over lists.
use mathlib.Core.Path.{◌≡◌, refl, ap, ◌∙◌, sym, ap₂}
use mathlib.Core.List.{List, ◌++◌, [], ◌∷◌, map}
use mathlib.Core.Option.{Option, none, some}
use mathlib.Core.Bool.{Bool, true, false, ◌&&◌, not, cond, ◌||◌}
use Prim.Native.Nat.{ℕ}
use lib.Dec.{eqb}
use Rattle.signature.specs.Lists.{memb, is_empty, all, keep, any, All, none_left, also, somes, is_some, require, ◌>>=◌}
use Rattle.signature.proofs.Booleans.{or_assoc, Imp, imp_left, imp_right, and_right, and_left, and_false, or_true, and_or}
use Rattle.signature.proofs.Tests.{true≢false, eqb_eq, eqb_self, eqb_sym}

pub memb_append : (x : ℕ) (xs ys : List ℕ) → memb x (xs ++ ys) ≡ (memb x xs || memb x ys)
memb_append x [] ys = refl
memb_append x (y ∷ xs) ys = ap (λ z. eqb x y || z) (memb_append x xs ys) ∙ sym (or_assoc (eqb x y) (memb x xs) (memb x ys))

pub imp_append_left : (b : Bool) (x : ℕ) (xs ys : List ℕ) → Imp b (memb x xs) → Imp b (memb x (xs ++ ys))
imp_append_left b x xs ys f = rw (memb_append x xs ys) (imp_left b (memb x xs) (memb x ys) f)

pub imp_append_right : (b : Bool) (x : ℕ) (xs ys : List ℕ) → Imp b (memb x ys) → Imp b (memb x (xs ++ ys))
imp_append_right b x xs ys f = rw (memb_append x xs ys) (imp_right b (memb x xs) (memb x ys) f)

-- where there is no variable, nothing is bound
pub not_bound_in : (x : ℕ) (xs : List ℕ) (b : Bool) → is_empty xs ≡ true → Imp b (memb x xs) → b ≡ false
not_bound_in x [] true e f = sym (f refl)
not_bound_in x [] false e f = refl
not_bound_in x (y ∷ ys) b e f = true≢false (sym e)

pub empty_left : (xs ys : List ℕ) → is_empty (xs ++ ys) ≡ true → is_empty xs ≡ true
empty_left [] ys e = refl
empty_left (x ∷ xs) ys e = e

pub empty_right : (xs ys : List ℕ) → is_empty (xs ++ ys) ≡ true → is_empty ys ≡ true
empty_right [] ys e = e
empty_right (x ∷ xs) ys e = true≢false (sym e)

pub all_memb : (f : ℕ → Bool) (c : ℕ) (ds : List ℕ) → all f ds ≡ true → memb c ds ≡ true → f c ≡ true
all_memb f c [] e m = true≢false (sym m)
all_memb f c (d ∷ ds) e m = go (eqb c d) refl (all_memb f c ds (and_right (f d) (all f ds) e))
  where
    go : (b : Bool) → eqb c d ≡ b → (memb c ds ≡ true → f c ≡ true) → f c ≡ true
    go true q h = ap f (eqb_eq c d q) ∙ and_left (f d) (all f ds) e
    go false q h = h (rw q at m)

pub memb_keep : (f : ℕ → Bool) (x : ℕ) (cs : List ℕ) → memb x (keep f cs) ≡ (memb x cs && f x)
memb_keep f x [] = refl
memb_keep f x (c ∷ cs) = go (eqb x c) (f c) refl refl (memb_keep f x cs)
  where
    go : (a b : Bool) → eqb x c ≡ a → f c ≡ b → memb x (keep f cs) ≡ (memb x cs && f x) → memb x (keep f (c ∷ cs)) ≡ (memb x (c ∷ cs) && f x)
    go true true p q h = rw (q, p, ap f (eqb_eq x c p), q)
    go true false p q h = rw (q, h, p, ap f (eqb_eq x c p), q) (and_false (memb x cs))
    go false true p q h = rw (q, p, h)
    go false false p q h = rw (q, p, h)

pub memb_empty : (x : ℕ) (cs : List ℕ) → is_empty cs ≡ true → memb x cs ≡ false
memb_empty x [] e = refl
memb_empty x (c ∷ cs) e = true≢false (sym e)

module _ {A : Type 0} where
  pub any_append : (f : A → Bool) (xs ys : List A) → any f (xs ++ ys) ≡ (any f xs || any f ys)
  any_append f [] ys = refl
  any_append f (x ∷ xs) ys = ap (λ b. f x || b) (any_append f xs ys) ∙ sym (or_assoc (f x) (any f xs) (any f ys))

pub all_of : {P : ℕ → Type 0} (cs : List ℕ) → ((d : ℕ) → memb d cs ≡ true → P d) → All P cs
all_of [] f = none_left
all_of (c ∷ cs) f = also c (f c (rw (eqb_self c))) (all_of cs (λ d m. f d (rw m (or_true (eqb d c)))))

pub vars_join : (x j i : ℕ) (xs ys : List ℕ) → (memb x (xs ++ ys) && eqb j i) ≡ ((memb x xs && eqb j i) || (memb x ys && eqb j i))
vars_join x j i xs ys = ap (λ b. b && eqb j i) (memb_append x xs ys) ∙ and_or (memb x xs) (memb x ys) (eqb j i)

module _ {A : Type 0} where
  any_nothing : (xs : List A) → any (λ x. false) xs ≡ false
  any_nothing [] = refl
  any_nothing (x ∷ xs) = any_nothing xs

  any_or : (f g : A → Bool) (xs : List A) → any (λ x. f x || g x) xs ≡ (any f xs || any g xs)
  any_or f g [] = refl
  any_or f g (x ∷ xs) = ap (λ b. (f x || g x) || b) (any_or f g xs) ∙ or_mix (f x) (g x) (any f xs) (any g xs)
    where
      or_mix : (a b c d : Bool) → ((a || b) || (c || d)) ≡ ((a || c) || (b || d))
      or_mix true b c d = refl
      or_mix false true true d = refl
      or_mix false true false d = refl
      or_mix false false c d = refl

module _ {A B : Type 0} where
  pub any_swap : (P : A → B → Bool) (xs : List A) (ys : List B) → any (λ x. any (λ y. P x y) ys) xs ≡ any (λ y. any (λ x. P x y) xs) ys
  any_swap P [] ys = sym (any_nothing ys)
  any_swap P (x ∷ xs) ys = ap (λ b. any (λ y. P x y) ys || b) (any_swap P xs ys) ∙ sym (any_or (λ y. P x y) (λ y. any (λ z. P z y) xs) ys)

pub any_ext : {A : Type 0} (f g : A → Bool) → ((a : A) → f a ≡ g a) → (xs : List A) → any f xs ≡ any g xs
any_ext f g h [] = refl
any_ext f g h (x ∷ xs) = ap₂ ◌||◌ (h x) (any_ext f g h xs)

pub any_map : {A B : Type 0} (f : B → Bool) (g : A → B) (xs : List A) → any f (map g xs) ≡ any (λ x. f (g x)) xs
any_map f g [] = refl
any_map f g (x ∷ xs) = ap (λ b. f (g x) || b) (any_map f g xs)

pub somes_some : {A : Type 0} (os : List (Option A)) → not (is_empty (somes os)) ≡ any is_some os
somes_some [] = refl
somes_some (none ∷ os) = somes_some os
somes_some (some a ∷ os) = refl

-- two sets meet
keep_some : (f : ℕ → Bool) (cs : List ℕ) → not (is_empty (keep f cs)) ≡ any f cs
keep_some f [] = refl
keep_some f (c ∷ cs) = go (f c) (keep_some f cs)
  where
    go : (b : Bool) → not (is_empty (keep f cs)) ≡ any f cs → not (is_empty (cond b (c ∷ keep f cs) (keep f cs))) ≡ (b || any f cs)
    go true h = refl
    go false h = h

memb_any : (c : ℕ) (ds : List ℕ) → memb c ds ≡ any (λ d. eqb c d) ds
memb_any c [] = refl
memb_any c (d ∷ ds) = ap (λ b. eqb c d || b) (memb_any c ds)

pub meet_sym : (cs ds : List ℕ) → not (is_empty (keep (λ c. memb c ds) cs)) ≡ not (is_empty (keep (λ d. memb d cs) ds))
meet_sym cs ds =
    keep_some (λ c. memb c ds) cs ∙ any_ext (λ c. memb c ds) (λ c. any (λ d. eqb c d) ds) (λ c. memb_any c ds) cs ∙ any_swap eqb cs ds
    ∙ any_ext (λ d. any (λ c. eqb c d) cs) (λ d. memb d cs) (λ d. any_ext (λ c. eqb c d) (λ c. eqb d c) (λ c. eqb_sym c d) cs ∙ sym (memb_any d cs)) ds
    ∙ sym (keep_some (λ d. memb d cs) ds)

pub some_when : {A : Type 0} (b : Bool) (a : A) → is_some (require b >>= λ u. some a) ≡ b
some_when true a = refl
some_when false a = refl

some_then : {A B : Type 0} (o : Option A) (f : A → B) → is_some (o >>= λ a. some (f a)) ≡ is_some o
some_then none f = refl
some_then (some a) f = refl

pub some_both : {A B C : Type 0} (o : Option A) (u : Option B) (f : A → B → C) → is_some (o >>= λ a. u >>= λ b. some (f a b)) ≡ (is_some o && is_some u)
some_both none u f = refl
some_both (some a) none f = refl
some_both (some a) (some b) f = refl

pub all_self : (cs ds : List ℕ) → All (λ c. memb c ds ≡ true) cs → all (λ c. memb c ds) cs ≡ true
all_self [] ds none_left = refl
all_self (c ∷ cs) ds (also x e h) = rw e (all_self cs ds h)

-- a pattern's variables are 0 to 15
pub no_either : (x : ℕ) (xs ys : List ℕ) → memb x xs ≡ false → memb x ys ≡ false → memb x (xs ++ ys) ≡ false
no_either x xs ys a b = memb_append x xs ys ∙ rw (a, b)
