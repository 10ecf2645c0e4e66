-- The sizes of all kinds up to the limit are those of the signature's kinds, as far as these go.
use mathlib.Core.Path.{◌≡◌, refl, sym, ap, ap₂, ◌∙◌}
use mathlib.Core.List.{List, [], ◌∷◌, map}
use mathlib.Core.Option.{Option, none, some}
use mathlib.Core.Bool.{Bool, true, cond, ◌&&◌}
use Prim.Native.Nat.{ℕ, zero, suc, ◌+◌, ◌-◌, ◌≤◌, ◌<◌, min}
use native.Mathlib.Nat.{zero-add, add-zero, add-suc, suc-add}
use native.Mathlib.Omega.{arith}
use lib.ListN.{get_or, get_elem?}
use lib.Dec.{eqb, ltb, leb}
use Rattle.signature.specs.Limits.{kind_limit, over_small, small_size}
use Rattle.signature.specs.Lists.{all, first, keep, count_up}
use Rattle.signature.specs.Read.{best, least, total, with_arg}
use Rattle.signature.specs.Signature.{Signature, Constructor, numbers, arguments}
use Rattle.signature.specs.Decoded.{least_size}
use Rattle.decoding.specs.Decoding.{sizes_after, lowest}
use Rattle.signature.proofs.Booleans.{and_left, and_right}
use Rattle.signature.proofs.ListFacts.{at_count, test_at}
use Rattle.signature.proofs.Tests.{le_of, none≢some, some_inj}

-- argument kinds exist
abbrev pub Exist : ℕ → Signature → Type 0
Exist n sig = all (λ c. all (λ k. ltb k n) c.args) sig ≡ true

module _ (n : ℕ) (a b : List ℕ) (same : (k : ℕ) → k < n → get_elem? a k ≡ get_elem? b k) where
  total_same : (ks : List ℕ) → all (λ k. ltb k n) ks ≡ true → total a ks ≡ total b ks
  total_same [] h = refl
  total_same (k ∷ ks) h =
      ap₂ with_arg (same k (le_of (suc k) n (and_left (ltb k n) (all (λ j. ltb j n) ks) h))) (total_same ks (and_right (ltb k n) (all (λ j. ltb j n) ks) h))

  best_same : (cs : Signature) (k : ℕ) → Exist n cs → best cs a k ≡ best cs b k
  best_same [] k h = refl
  best_same (c ∷ cs) k h =
      let e = total_same c.args (and_left (all (λ j. ltb j n) c.args) (all (λ d. all (λ j. ltb j n) d.args) cs) h) in
      let f = best_same cs k (and_right (all (λ j. ltb j n) c.args) (all (λ d. all (λ j. ltb j n) d.args) cs) h) in
      ap₂ (λ x y. cond (eqb c.kind k) (min (suc x) y) y) e f

  arguments_same : (sig : Signature) (c : ℕ) → Exist n sig → total a (arguments sig c) ≡ total b (arguments sig c)
  arguments_same sig c h = go (get_elem? sig c) refl
    where
      go : (o : Option Constructor) → get_elem? sig c ≡ o → total a (arguments sig c) ≡ total b (arguments sig c)
      go none e = rw e
      go (some d) e = rw e (total_same d.args (test_at (λ x. all (λ j. ltb j n) x.args) sig c d h e))

module _ (sig : Signature) (n m : ℕ) (exist : Exist n sig) (most : n ≤ m) where
  narrow : (d k : ℕ) → k < n → get_elem? (least d sig m) k ≡ get_elem? (least d sig n) k
  narrow zero k l = at_count (λ j. over_small) 0 m k (omega arith) ∙ sym (at_count (λ j. over_small) 0 n k l)
  narrow (suc d) k l =
      at_count (λ j. min over_small (best sig (least d sig m) j)) 0 m k (omega arith)
      ∙ ap (λ z. some (min over_small z)) (best_same n (least d sig m) (least d sig n) (λ i p. narrow d i p) sig (0 + k) exist)
      ∙ sym (at_count (λ j. min over_small (best sig (least d sig n) j)) 0 n k l)

get_d_at : (xs : List ℕ) (i a : ℕ) → get_elem? xs i ≡ some a → get_or xs i 0 ≡ a
get_d_at [] i a e = none≢some e
get_d_at (x ∷ xs) zero a e = some_inj x a e
get_d_at (x ∷ xs) (suc i) a e = get_d_at xs i a e

all_counted : (f g : ℕ → Bool) (h : ℕ → ℕ) (i n : ℕ) → ((j : ℕ) → j < n → f (h (i + j)) ≡ g (i + j)) → all f (map h (count_up i n)) ≡ all g (count_up i n)
all_counted f g h i zero e = refl
all_counted f g h i (suc n) e = ap₂ ◌&&◌ (rw (add-zero i) at (e 0 (omega arith))) (all_counted f g h (suc i) n (λ j l. rw (suc-add i j, ← add-suc i j) (e (suc j) (omega arith))))

keep_same : (f g : ℕ → Bool) → ((x : ℕ) → f x ≡ g x) → (xs : List ℕ) → keep f xs ≡ keep g xs
keep_same f g e [] = refl
keep_same f g e (x ∷ xs) = ap₂ (λ b ys. cond b (x ∷ ys) ys) (e x) (keep_same f g e xs)

-- the lowest row of a kind that reaches its least size
abbrev pub least_number : Signature → ℕ → ℕ → ℕ
least_number sig n k = first (keep (λ c. eqb (suc (total (least small_size sig n) (arguments sig c))) (least_size sig n k)) (numbers sig k))

module _ (sig : Signature) (n m : ℕ) (exist : Exist n sig) (most : n ≤ m) where
  size_there : (k : ℕ) → k < n → get_or (least small_size sig n) k 0 ≡ min over_small (best sig (least (small_size - 1) sig n) (0 + k))
  size_there k l = get_d_at (least small_size sig n) k _ (at_count (λ j. min over_small (best sig (least (small_size - 1) sig n) j)) 0 n k l)

  size_narrow : (k : ℕ) → k < n → get_or (least small_size sig m) k 0 ≡ least_size sig n k
  size_narrow k l =
      let e : get_elem? (least small_size sig n) k ≡ some (min over_small (best sig (least (small_size - 1) sig n) (0 + k))) = at_count (λ j. min over_small (best sig (least (small_size - 1) sig n) j)) 0 n k l in
      get_d_at (least small_size sig m) k _ (narrow sig n m exist most small_size k l ∙ e) ∙ sym (size_there k l)

  all_narrow : all (λ j. leb j small_size) (least small_size sig n) ≡ all (λ k. leb (get_or (least small_size sig m) k 0) small_size) (count_up 0 n)
  all_narrow = all_counted (λ j. leb j small_size) (λ k. leb (get_or (least small_size sig m) k 0) small_size) (λ j. min over_small (best sig (least (small_size - 1) sig n) j)) 0 n each
    where
      each : (j : ℕ) → j < n → leb (min over_small (best sig (least (small_size - 1) sig n) (0 + j))) small_size ≡ leb (get_or (least small_size sig m) (0 + j) 0) small_size
      each j l = ap (λ z. leb z small_size) (sym (size_there j l) ∙ sym (size_narrow j l) ∙ ap (λ z. get_or (least small_size sig m) z 0) (sym (zero-add j)))

  head_narrow : (k : ℕ) → k < n → lowest sig (least small_size sig m) k ≡ least_number sig n k
  head_narrow k l = ap first (keep_same (λ c. eqb (suc (total (least small_size sig m) (arguments sig c))) (get_or (least small_size sig m) k 0)) (λ c. eqb (suc (total (least small_size sig n) (arguments sig c))) (least_size sig n k)) (λ c. ap₂ (λ x y. eqb (suc x) y) (arguments_same n (least small_size sig m) (least small_size sig n) (λ i p. narrow sig n m exist most small_size i p) sig c exist) (size_narrow k l)) (numbers sig k))

-- the same of the sizes that six rounds leave
module _ (sig : Signature) (n : ℕ) (exist : Exist n sig) (most : n ≤ kind_limit) where
  pub size_same : (k : ℕ) → k < n → get_or (sizes_after small_size sig) k 0 ≡ least_size sig n k
  unfolding sizes_after
  size_same k l = size_narrow sig n kind_limit exist most k l

  pub small_same : all (λ j. leb j small_size) (least small_size sig n) ≡ all (λ k. leb (get_or (sizes_after small_size sig) k 0) small_size) (count_up 0 n)
  unfolding sizes_after
  small_same = all_narrow sig n kind_limit exist most

  pub head_same : (k : ℕ) → k < n → lowest sig (sizes_after small_size sig) k ≡ least_number sig n k
  unfolding sizes_after
  head_same k l = head_narrow sig n kind_limit exist most k l
