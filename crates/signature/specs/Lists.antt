-- What all layers say of options, tests and lists.
use Rattle.std.specs.Prelude.{List, [], ◌∷◌, Bool, true, false, ◌&&◌, ◌||◌, cond, ℕ, zero, suc, eqb}
use Rattle.std.proofs.Math.Option.{Option, none, some}

-- go on where something was read
infixl 20 ◌>>=◌
abbrev pub ◌>>=◌ : {A B : Type 0} → Option A → (A → Option B) → Option B
none >>= f = none
some a >>= f = f a

-- `require b` goes on only where the test b passes
abbrev pub require : Bool → Option (Unit {0})
require true = some tt
require false = none

-- x is one of the list
abbrev pub memb : ℕ → List ℕ → Bool
memb x [] = false
memb x (y ∷ ys) = eqb x y || memb x ys

module _ {A : Type 0} where
  -- the test passes for each
  abbrev pub all : (A → Bool) → List A → Bool
  all f [] = true
  all f (x ∷ xs) = f x && all f xs

  -- the test passes for some
  abbrev pub any : (A → Bool) → List A → Bool
  any f [] = false
  any f (x ∷ xs) = f x || any f xs

  -- the first n elements and the others, where there are n
  abbrev pub split : ℕ → List A → Option (List A × List A)
  split zero xs = some ([], xs)
  split (suc n) [] = none
  split (suc n) (x ∷ xs) = split n xs >>= λ r. some (x ∷ r.0, r.1)

-- something was read
abbrev pub is_some : {A : Type 0} → Option A → Bool
is_some none = false
is_some (some a) = true

-- the list has none
abbrev pub is_empty : {A : Type 0} → List A → Bool
is_empty [] = true
is_empty (x ∷ xs) = false

-- those that are there
abbrev pub somes : {A : Type 0} → List (Option A) → List A
somes [] = []
somes (none ∷ os) = somes os
somes (some a ∷ os) = a ∷ somes os

-- those that pass the test
abbrev pub keep : {A : Type 0} → (A → Bool) → List A → List A
keep f [] = []
keep f (x ∷ xs) = cond (f x) (x ∷ keep f xs) (keep f xs)

-- i, i + 1, .. : n numbers
abbrev pub count_up : ℕ → ℕ → List ℕ
count_up i zero = []
count_up i (suc n) = i ∷ count_up (suc i) n

-- nothing is left over
abbrev pub whole : {A : Type 0} → A × List ℕ → Option A
whole r = elim r.1 [ [] ↦ some r.0 | w ∷ ws ↦ none ]

-- the first of a list, 0 where it is empty
abbrev pub first : List ℕ → ℕ
first [] = 0
first (c ∷ cs) = c

-- P holds of each
pub data All {A : Type 0} (P : A → Type 0) : List A → Type 0 where
  none_left : All P []
  also : (x : A) {xs : List A} → P x → All P xs → All P (x ∷ xs)

-- one of a list
pub data In {A : Type 0} (x : A) : List A → Type 0 where
  in_here : {xs : List A} → In x (x ∷ xs)
  in_there : {y : A} {xs : List A} → In x xs → In x (y ∷ xs)
