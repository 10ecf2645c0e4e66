-- What the table of a signature says of a kind's heads.
use mathlib.Core.Path.{◌≡◌, refl, sym, ap, ap₂, ◌∙◌, subst}
use mathlib.Core.Logic.{◌⊎◌, inl, inr}
use mathlib.Core.List.{List, [], ◌∷◌}
use mathlib.Core.Bool.{Bool, true, false, ◌||◌}
use mathlib.Core.Option.{some}
use Prim.Native.Nat.{ℕ, zero, suc, ◌+◌, ◌-◌, ◌≤◌, ◌<◌}
use native.Mathlib.Omega.{arith}
use lib.Dec.{eqb}
use lib.ListN.{length}
use Rattle.signature.specs.Decoded.{Known, first_of, count_of, kind_of, head_arity}
use Rattle.signature.specs.Limits.{kind_limit, argument_limit, constructor_limit, heads_limit, level_base, last_level}
use Rattle.signature.specs.Lists.{memb, first, count_up, All, is_empty}
use Rattle.signature.specs.Signature.{heads, arguments, arguments_at, is_level, is_number_kind}
use Rattle.signature.proofs.Heads.{Consecutive, consecutive_nil, consecutive_cons, consecutive_of, kind_of_head, args_same, level_is}
use Rattle.signature.proofs.KnownFacts.{words_of, is_constructor, few_constructors, head_is, head_arity_is, few_of_head}
use Rattle.signature.proofs.Tests.{eqb_self}
use Rattle.rowlist.proofs.Kinded.{kinds_same, few_heads, open_kind}
use Rattle.rowlist.proofs.Typing.{args_there}

run_counts : {f : ℕ} {xs : List ℕ} → Consecutive f xs → xs ≡ count_up f (length xs)
run_counts consecutive_nil = refl
run_counts (consecutive_cons {f = f} {xs = xs} r) = ap (λ (l : List ℕ). f ∷ l) (run_counts r)

run_first : {f : ℕ} {xs : List ℕ} → Consecutive f xs → is_empty xs ≡ false → first xs ≡ f
run_first consecutive_nil e = absurd (let z : ◌≡◌ {A = ℕ} 0 1 = cc in omega arith)
run_first (consecutive_cons r) e = refl

memb_up : (f j m : ℕ) → j < m → memb (f + j) (count_up f m) ≡ true
memb_up f j zero h = absurd (omega arith)
memb_up f zero (suc m) h = let q : f + 0 ≡ f = omega arith in rw (q, eqb_self f)
memb_up f (suc j) (suc m) h = let q : f + suc j ≡ suc f + j = omega arith in subst (λ z. memb z (count_up f (suc m)) ≡ true) (sym q) (go (eqb (suc f + j) f) (memb_up (suc f) j m (omega arith)))
  where
    go : (b : Bool) → memb (suc f + j) (count_up (suc f) m) ≡ true → (b || memb (suc f + j) (count_up (suc f) m)) ≡ true
    go true e = refl
    go false e = e

module _ {t : List ℕ} (g : Known t) (k : ℕ) (l : k < g.decoded.n) where
  pub kind_below : k < kind_limit
  kind_below = omega (arith, kinds_same g, (words_of g).few_kinds)

  -- the heads follow on each other from the first
  pub heads_are : heads g.sig k ≡ count_up (first_of t k) (count_of t k)
  heads_are =
      let q = consecutive_of g.sig k g.decoded.n g.decoded.kinds_are in
      let f : first_of t k ≡ q.0 = g.decoded.first_head k l ∙ run_first q.1 (open_kind g k l).some in
      run_counts q.1 ∙ ap₂ count_up (sym f) (sym (g.decoded.head_count k l))

  pub heads_few : count_of t k ≤ heads_limit
  heads_few = omega (arith, g.decoded.head_count k l, few_heads g k l)

  module _ (j : ℕ) (h : j < count_of t k) where
    pub head_there : memb (first_of t k + j) (heads g.sig k) ≡ true
    head_there = rw heads_are (memb_up (first_of t k) j (count_of t k) h)

    pub head_low : first (heads g.sig k) ≤ first_of t k + j
    head_low = omega (arith, g.decoded.first_head k l)

    pub head_number : first_of t k + j - first (heads g.sig k) ≡ j
    head_number = omega (arith, g.decoded.first_head k l)

    head_at : (js : List ℕ) × (arguments_at g.sig k (first_of t k + j) ≡ some js)
    head_at = kind_of_head g.sig k (first_of t k + j) head_there

    pub head_below : first_of t k + j < level_base → first_of t k + j < constructor_limit
    head_below b = omega (arith, is_constructor g k (first_of t k + j) head_at.0 b head_at.1, few_constructors g)

    -- a head is a word
    pub head_word : first_of t k + j ≤ level_base + last_level
    head_word = go (head_is g k (first_of t k + j) head_at.0 head_at.1)
      where
        go : ((first_of t k + j < length g.sig) × (is_number_kind g.sig k ≡ false) × (kind_of t (first_of t k + j) ≡ k)) ⊎ ((is_level (first_of t k + j) ≡ true) × (is_number_kind g.sig k ≡ true) × (head_at.0 ≡ [])) → first_of t k + j ≤ level_base + last_level
        go (inl (a, n, q)) = omega (arith, few_constructors g)
        go (inr (v, n, q)) = (level_is (first_of t k + j) v).1

    pub head_columns : head_arity t (first_of t k + j) ≡ length (arguments g.sig (first_of t k + j))
    head_columns = head_arity_is g k (first_of t k + j) head_at.0 head_at.1 ∙ ap length (sym (args_same g.sig k (first_of t k + j) head_at.0 head_at.1))

    pub head_arguments : head_arity t (first_of t k + j) ≤ argument_limit
    head_arguments = omega (arith, head_arity_is g k (first_of t k + j) head_at.0 head_at.1, few_of_head g k (first_of t k + j) head_at.0 head_at.1)

    pub head_kinds : All (λ i. i < g.decoded.n) (arguments g.sig (first_of t k + j))
    head_kinds = rw (args_same g.sig k (first_of t k + j) head_at.0 head_at.1) (args_there g k (first_of t k + j) head_at.0 head_at.1)
