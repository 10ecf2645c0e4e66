-- Laws of All, In, at, split and of lists that are kept in part.
use mathlib.Core.Path.{◌≡◌, refl, ap₂, ap, sym, ◌∙◌, subst}
use mathlib.Core.Logic.{◌⊎◌, inl, inr}
use mathlib.Core.List.{List, ◌++◌, map, [], ◌∷◌}
use mathlib.Core.Option.{Option, none, some}
use mathlib.Core.Bool.{Bool, true, false, cond, ◌&&◌, ◌||◌}
use Prim.Native.Nat.{ℕ, ◌≤◌, ◌<◌, suc, zero, ◌+◌}
use native.Mathlib.Nat.{add-zero, add-suc, suc-add, zero-add}
use native.Mathlib.Omega.{arith}
use lib.Dec.{eqb}
use lib.ListN.{length, get_or, replicate, drop, take, get_elem?}
use Rattle.signature.specs.Lists.{All, none_left, also, somes, ◌>>=◌, require, keep, split, count_up, all, any, In, in_here, in_there}
use Rattle.signature.proofs.Booleans.{and_left, and_right, or_left, or_right}
use Rattle.signature.proofs.Tests.{true≢false, some_inj, none≢some, bind_some, eqb_eq}

module _ {A : Type 0} {P : A → Type 0} where
  pub all_append : {xs ys : List A} → All P xs → All P ys → All P (xs ++ ys)
  all_append none_left q = q
  all_append (also x p ps) q = also x p (all_append ps q)

pub all_map : {A B : Type 0} {P : A → Type 0} {Q : B → Type 0} (f : A → B) → ((a : A) → P a → Q (f a)) → {xs : List A} → All P xs → All Q (map f xs)
all_map f g none_left = none_left
all_map f g (also x p ps) = also (f x) (g x p) (all_map f g ps)

pub data Kept {A : Type 0} (P : A → Type 0) : Option A → Type 0 where
  dropped : Kept P none
  kept : (a : A) → P a → Kept P (some a)

pub all_somes : {A : Type 0} {P : A → Type 0} {os : List (Option A)} → All (Kept P) os → All P (somes os)
all_somes none_left = none_left
all_somes (also o dropped ps) = all_somes ps
all_somes (also o (kept a p) ps) = also a p (all_somes ps)

pub kept_bind : {A B : Type 0} {P : A → Type 0} {Q : B → Type 0} (f : A → Option B) → ((a : A) → P a → Kept Q (f a)) → {o : Option A} → Kept P o → Kept Q (o >>= f)
kept_bind f g dropped = dropped
kept_bind f g (kept a p) = g a p

pub kept_map : {A : Type 0} {P Q : A → Type 0} → ((a : A) → P a → Q a) → {o : Option A} → Kept P o → Kept Q o
kept_map g dropped = dropped
kept_map g (kept a p) = kept a (g a p)

pub any_kept : (b : Bool) → Kept {A = Unit {0}} (λ u. Unit {0}) (require b)
any_kept true = kept tt tt
any_kept false = dropped

pub weaker : {A : Type 0} (f : A → ℕ) (m n : ℕ) → m ≤ n → {xs : List A} → All (λ x. f x ≤ m) xs → All (λ x. f x ≤ n) xs
weaker f m n l none_left = none_left
weaker f m n l (also x p ps) = also x (omega arith) (weaker f m n l ps)

pub same_lists : (cs bs : List ℕ) → length cs ≡ length bs → ((x : ℕ) → x < length cs → get_or cs x 0 ≡ get_or bs x 0) → cs ≡ bs
same_lists [] [] e h = refl
same_lists [] (b ∷ bs) e h = absurd (omega arith)
same_lists (a ∷ cs) [] e h = absurd (omega arith)
same_lists (a ∷ cs) (b ∷ bs) e h = ap₂ (λ x xs. x ∷ xs) (h 0 (omega arith)) (same_lists cs bs (omega arith) (λ x l. h (suc x) (omega arith)))

pub getD_rep : (n x a d : ℕ) → x < n → get_or (replicate n a) x d ≡ a
getD_rep zero x a d l = absurd (omega arith)
getD_rep (suc n) zero a d l = refl
getD_rep (suc n) (suc x) a d l = getD_rep n x a d (omega arith)

-- products are good
pub keep_all : {P : ℕ → Type 0} (f : ℕ → Bool) {cs : List ℕ} → All P cs → All P (keep f cs)
keep_all {P} f none_left = none_left
keep_all {P} f (also c {xs = cs} p ps) = go (f c) (keep_all f ps)
  where
    go : (b : Bool) → All P (keep f cs) → All P (cond b (c ∷ keep f cs) (keep f cs))
    go true q = also c p q
    go false q = q

pub kept_if : {A : Type 0} {P : A → Type 0} (b : Bool) (a : A) → (b ≡ true → P a) → Kept P (require b >>= λ u. some a)
kept_if true a f = kept a (f refl)
kept_if false a f = dropped

-- at most four arguments
pub length_split : {A : Type 0} (n : ℕ) (xs : List A) (r : List A × List A) → split n xs ≡ some r → length r.0 ≡ n
length_split zero xs r e = ap (λ z. length z.0) (sym (some_inj ([], xs) r e))
length_split (suc n) [] r e = none≢some e
length_split (suc n) (x ∷ xs) r e =
    let (a, e₁, e₂) = bind_some (split n xs) _ r e in
    ap (λ z. length z.0) (sym (some_inj (x ∷ a.0, a.1) r e₂)) ∙ ap suc (length_split n xs a e₁)

-- small values
pub at_count_is : {A : Type 0} (f : ℕ → A) (i n j : ℕ) (a : A) → get_elem? (map f (count_up i n)) j ≡ some a → f (i + j) ≡ a
at_count_is f i zero j a e = none≢some e
at_count_is f i (suc n) zero a e = rw (add-zero i) (some_inj (f i) a e)
at_count_is f i (suc n) (suc j) a e = rw (add-suc i j, ← suc-add i j) (at_count_is f (suc i) n j a e)

pub at_count : {A : Type 0} (f : ℕ → A) (i n j : ℕ) → j < n → get_elem? (map f (count_up i n)) j ≡ some (f (i + j))
at_count f i zero j l = absurd (omega arith)
at_count f i (suc n) zero l = rw (add-zero i)
at_count f i (suc n) (suc j) l = rw (add-suc i j, ← suc-add i j) (at_count f (suc i) n j (omega arith))

pub all_at : {A : Type 0} {P : A → Type 0} {xs : List A} → All P xs → (i : ℕ) (a : A) → get_elem? xs i ≡ some a → P a
all_at none_left i a e = none≢some e
all_at {P = P} (also x p ps) zero a e = subst P (some_inj x a e) p
all_at (also x p ps) (suc i) a e = all_at ps i a e

pub test_at : {A : Type 0} (f : A → Bool) (xs : List A) (i : ℕ) (a : A) → all f xs ≡ true → get_elem? xs i ≡ some a → f a ≡ true
test_at f [] i a h e = none≢some e
test_at f (x ∷ xs) zero a h e = ap f (sym (some_inj x a e)) ∙ and_left (f x) (all f xs) h
test_at f (x ∷ xs) (suc i) a h e = test_at f xs i a (and_right (f x) (all f xs) h) e

pub all_count_map : (f : ℕ → Bool) (g : ℕ → ℕ) (i m : ℕ) → ((j : ℕ) → j < m → f (g (i + j)) ≡ true) → all f (map g (count_up i m)) ≡ true
all_count_map f g i zero h = refl
all_count_map f g i (suc m) h =
    let a : f (g i) ≡ true = rw (add-zero i) at (h 0 (omega arith)) in
    rw a (all_count_map f g (suc i) m (λ j l. rw (suc-add i j, ← add-suc i j) (h (suc j) (omega arith))))

pub all_first : {P : ℕ → Type 0} {k : ℕ} {ks : List ℕ} → All P (k ∷ ks) → P k × All P ks
all_first (also k p ps) = (p, ps)

-- the constructors' words
pub split_append : {A : Type 0} (xs ys : List A) → split (length xs) (xs ++ ys) ≡ some (xs, ys)
split_append [] ys = refl
split_append (x ∷ xs) ys = rw (split_append xs ys)

-- tests of all
pub all_is : {A : Type 0} {P : A → Type 0} (f : A → Bool) → ((a : A) → f a ≡ true → P a) → (xs : List A) → all f xs ≡ true → All P xs
all_is f g [] e = none_left
all_is f g (x ∷ xs) e = also x (g x (and_left (f x) (all f xs) e)) (all_is f g xs (and_right (f x) (all f xs) e))

pub is_all : {A : Type 0} {P : A → Type 0} (f : A → Bool) → ((a : A) → P a → f a ≡ true) → {xs : List A} → All P xs → all f xs ≡ true
is_all f g none_left = refl
is_all f g (also x {xs = xs} p ps) = ap₂ ◌&&◌ (g x p) (is_all f g ps)

pub count_all : (f : ℕ → Bool) (i m : ℕ) → all f (count_up i m) ≡ true → (j : ℕ) → j < m → f (i + j) ≡ true
count_all f i zero e j l = absurd (omega arith)
count_all f i (suc m) e zero l = rw (add-zero i) (and_left (f i) (all f (count_up (suc i) m)) e)
count_all f i (suc m) e (suc j) l = rw (add-suc i j, ← suc-add i j) (count_all f (suc i) m (and_right (f i) (all f (count_up (suc i) m)) e) j (omega arith))

pub all_count : (f : ℕ → Bool) (i m : ℕ) → ((j : ℕ) → j < m → f (i + j) ≡ true) → all f (count_up i m) ≡ true
all_count f i zero h = refl
all_count f i (suc m) h =
    let a : f i ≡ true = rw (add-zero i) at (h 0 (omega arith)) in
    rw a (all_count f (suc i) m (λ j l. rw (suc-add i j, ← add-suc i j) (h (suc j) (omega arith))))

pub kept_when : {A : Type 0} {P : A → Type 0} (b : Bool) (a : A) → P a → Kept P (require b >>= λ u. some a)
kept_when true a p = kept a p
kept_when false a p = dropped

pub all_imp : {A : Type 0} {P Q : A → Type 0} → ((a : A) → P a → Q a) → {xs : List A} → All P xs → All Q xs
all_imp f none_left = none_left
all_imp f (also x p ps) = also x (f x p) (all_imp f ps)

pub length_somes : {A : Type 0} (os : List (Option A)) → length (somes os) ≤ length os
length_somes [] = omega arith
length_somes (none ∷ os) = omega (arith, length_somes os)
length_somes (some a ∷ os) = omega (arith, length_somes os)

pub all_with : {A : Type 0} {P Q : A → Type 0} (f : A → Bool) → ((a : A) → P a → f a ≡ false → Q a) → {xs : List A} → All P xs → any f xs ≡ false → All Q xs
all_with f g none_left e = none_left
all_with f g (also x {xs = xs} p ps) e = also x (g x p (or_left (f x) (any f xs) e)) (all_with f g ps (or_right (f x) (any f xs) e))

pub at_drop : {A : Type 0} (l : List A) (i m : ℕ) → get_elem? l (i + m) ≡ get_elem? (drop i l) m
at_drop l zero m = rw (zero-add m)
at_drop [] (suc i) m = refl
at_drop (x ∷ xs) (suc i) m = rw (suc-add i m) (at_drop xs i m)

pub at_getD : (l : List ℕ) (i : ℕ) → i < length l → get_elem? l i ≡ some (get_or l i 0)
at_getD [] i h = absurd (omega arith)
at_getD (x ∷ xs) zero h = refl
at_getD (x ∷ xs) (suc i) h = at_getD xs i (omega arith)

pub at_left : {A : Type 0} (xs ys : List A) (i : ℕ) (a : A) → get_elem? xs i ≡ some a → get_elem? (xs ++ ys) i ≡ some a
at_left [] ys i a e = none≢some e
at_left (x ∷ xs) ys zero a e = e
at_left (x ∷ xs) ys (suc i) a e = at_left xs ys i a e

pub at_out : {A : Type 0} (xs : List A) (i : ℕ) → length xs ≤ i → get_elem? xs i ≡ none
at_out [] i l = refl
at_out (x ∷ xs) zero l = absurd (omega arith)
at_out (x ∷ xs) (suc i) l = at_out xs i (omega arith)

pub zeros : (n : ℕ) → all (λ w. eqb w 0) (replicate n 0) ≡ true
zeros zero = refl
zeros (suc n) = zeros n

pub take_exact : {A : Type 0} (n : ℕ) (xs ys : List A) → length xs ≡ n → take n (xs ++ ys) ≡ xs
take_exact zero [] ys e = refl
take_exact zero (x ∷ xs) ys e = absurd (omega arith)
take_exact (suc n) [] ys e = absurd (omega arith)
take_exact (suc n) (x ∷ xs) ys e = ap (λ l. x ∷ l) (take_exact n xs ys (omega arith))

pub drop_exact : {A : Type 0} (n : ℕ) (xs ys : List A) → length xs ≡ n → drop n (xs ++ ys) ≡ ys
drop_exact zero [] ys e = refl
drop_exact zero (x ∷ xs) ys e = absurd (omega arith)
drop_exact (suc n) [] ys e = absurd (omega arith)
drop_exact (suc n) (x ∷ xs) ys e = drop_exact n xs ys (omega arith)

kept_with : {A : Type 0} {P Q : A → Type 0} (a : A) → P a → Kept Q (some a) → Kept (λ x. P x × Q x) (some a)
kept_with a p (kept b q) = kept b (p, q)

pub kept_both : {A : Type 0} {P Q : A → Type 0} {o : Option A} → Kept P o → Kept Q o → Kept (λ a. P a × Q a) o
kept_both dropped h = dropped
kept_both (kept a p) h = kept_with a p h

pub all_both : {A : Type 0} {P Q : A → Type 0} {xs : List A} → All P xs → All Q xs → All (λ a. P a × Q a) xs
all_both none_left none_left = none_left
all_both (also x p ps) (also y q qs) = also x (p, q) (all_both ps qs)

-- members
pub in_cases : {A : Type 0} {x y : A} {ys : List A} → In x (y ∷ ys) → (x ≡ y) ⊎ In x ys
in_cases in_here = inl refl
in_cases (in_there i) = inr i

pub no_in : {A B : Type 0} {x : A} → In x [] → B
no_in i = elim i [ ]

pub all_in : {A : Type 0} {P : A → Type 0} {x : A} {xs : List A} → All P xs → In x xs → P x
all_in {A = A} {P = P} none_left x4 = elim x4 [ ]
all_in (also y p ps) in_here = p
all_in (also y p ps) (in_there i) = all_in ps i

pub in_all : {A : Type 0} {P : A → Type 0} (xs : List A) → ((x : A) → In x xs → P x) → All P xs
in_all [] f = none_left
in_all (x ∷ xs) f = also x (f x in_here) (in_all xs (λ y i. f y (in_there i)))

either_in : {A : Type 0} {x y : A} {xs ys : List A} → In x xs ⊎ In x ys → In x (y ∷ xs) ⊎ In x ys
either_in (inl j) = inl (in_there j)
either_in (inr j) = inr j

pub in_append : {A : Type 0} {x : A} (xs ys : List A) → In x (xs ++ ys) → In x xs ⊎ In x ys
in_append [] ys i = inr i
in_append (y ∷ xs) ys in_here = inl in_here
in_append (y ∷ xs) ys (in_there i) = either_in (in_append xs ys i)

map_later : {A B : Type 0} (f : A → B) (x : A) {xs : List A} {y : B} → (w : A) × In w xs × (y ≡ f w) → (w : A) × In w (x ∷ xs) × (y ≡ f w)
map_later f x (w, l, e) = (w, in_there l, e)

pub in_map : {A B : Type 0} (f : A → B) (xs : List A) {y : B} → In y (map f xs) → (x : A) × In x xs × (y ≡ f x)
in_map f [] i = no_in i
in_map f (x ∷ xs) in_here = (x, in_here, refl)
in_map f (x ∷ xs) (in_there i) = map_later f x (in_map f xs i)

pub first_of : {P : ℕ → Type 0} {k : ℕ} {ks : List ℕ} → All P (k ∷ ks) → P k
first_of (also k p ps) = p

pub rest_of : {P : ℕ → Type 0} {k : ℕ} {ks : List ℕ} → All P (k ∷ ks) → All P ks
rest_of (also k p ps) = ps

-- reading the rules back: they were written there
pub split_was : {A : Type 0} (n : ℕ) (xs : List A) (r : List A × List A) → split n xs ≡ some r → (length r.0 ≡ n) × (xs ≡ r.0 ++ r.1)
split_was zero xs r e = (ap (λ z. length z.0) (sym (some_inj ([], xs) r e)), ap (λ z. z.0 ++ z.1) (some_inj ([], xs) r e))
split_was (suc n) [] r e = none≢some e
split_was (suc n) (x ∷ xs) r e =
    let (a, e₁, e₂) = bind_some (split n xs) _ r e in
    let (p, q) = split_was n xs a e₁ in
    let w : (x ∷ a.0, a.1) ≡ r = some_inj (x ∷ a.0, a.1) r e₂ in
    (ap (λ z. length z.0) (sym w) ∙ ap suc p, ap (λ z. x ∷ z) q ∙ ap (λ z. z.0 ++ z.1) w)

pub zeros_were : (ws : List ℕ) → all (λ w. eqb w 0) ws ≡ true → ws ≡ replicate (length ws) 0
zeros_were [] e = refl
zeros_were (w ∷ ws) e = ap₂ (λ x xs. x ∷ xs) (eqb_eq w 0 (and_left (eqb w 0) (all (λ x. eqb x 0) ws) e)) (zeros_were ws (and_right (eqb w 0) (all (λ x. eqb x 0) ws) e))

-- a test that some element passes, and which
pub any_in : {A : Type 0} (f : A → Bool) (rs : List A) → any f rs ≡ true → (r : A) × In r rs × (f r ≡ true)
any_in {A} f [] e = true≢false (sym e)
any_in {A} f (r ∷ rs) e = go (f r) refl (any_in f rs)
  where
    go : (b : Bool) → f r ≡ b → (any f rs ≡ true → (s : A) × In s rs × (f s ≡ true)) → (s : A) × In s (r ∷ rs) × (f s ≡ true)
    go true q k = (r, in_here, q)
    go false q k = let (s, i, z) = k (rw q at e) in (s, in_there i, z)

pub in_any : {A : Type 0} (f : A → Bool) (rs : List A) (r : A) → In r rs → f r ≡ true → any f rs ≡ true
in_any {A = A} f [] r x'' e = elim x'' [ ]
in_any f (s ∷ rs) r in_here e = rw e
in_any f (s ∷ rs) r (in_there i) e = rw (in_any f rs r i e) (go (f s))
  where
    go : (b : Bool) → (b || true) ≡ true
    go true = refl
    go false = refl

-- the first n of a list, where there are n
pub split_some : (m : ℕ) (ws : List ℕ) → m ≤ length ws → split m ws ≡ some (take m ws, drop m ws)
split_some zero ws l = refl
split_some (suc m) [] l = absurd (omega arith)
split_some (suc m) (w ∷ ws) l = rw (split_some m ws (omega arith))

pub split_none : (m : ℕ) (ws : List ℕ) → length ws < m → split m ws ≡ none
split_none zero ws l = absurd (omega arith)
split_none (suc m) [] l = refl
split_none (suc m) (w ∷ ws) l = rw (split_none m ws (omega arith))
