-- Sets of variables in a number.
use mathlib.Core.Path.{◌≡◌, refl, sym, ap, ap₂, ◌∙◌}
use mathlib.Core.List.{List, [], ◌∷◌, ◌++◌}
use mathlib.Core.Bool.{Bool, true, false, not, ◌||◌, cond}
use Prim.Native.Nat.{ℕ, ◌<◌, ◌^◌, min, max}
use native.Mathlib.Omega.{arith}
use lib.Dec.{eqb}
use Rattle.signature.specs.Lists.{memb, all, is_empty}
use Rattle.sets.specs.Set.{bit}
use Rattle.signature.proofs.Booleans.{and_left, and_right, not_true, both_ways}
use Rattle.signature.proofs.ListFacts.{is_all}
use Rattle.signature.proofs.Members.{memb_append, all_memb, all_of}
use Rattle.sets.proofs.SetLaws.{bit_zero, no_member}
use Rattle.sets.proofs.SetLaws as sets
use Rattle.signature.proofs.Tests.{eqb_self, eqb_no, true≢false}
use Rattle.pattern.specs.Linear.{disjoint, same_set}
use Rattle.linearity.specs.Linearity.{Holds, own_vars}
use Rattle.pattern.specs.Linearity.{side_of}
use Rattle.pattern.specs.Places.{tick}
use Rattle.pattern.specs.Word.{form_of}
use Rattle.pattern.specs.declared.token.Word.{Word}
use Rattle.pattern.specs.declared.token.Word.TheVariants.{Head, And, Or, Wild, Absurd, Not, Var, Range, Other}
use Rattle.pattern.specs.Read.{Form, is_var}

tick_or : (a b : Bool) → max (tick a) (tick b) ≡ tick (a || b)
tick_or true true = refl
tick_or true false = refl
tick_or false true = refl
tick_or false false = refl

tick_same : (a b : Bool) → tick a ≡ tick b → a ≡ b
tick_same true true e = refl
tick_same true false e = absurd (omega (arith, e))
tick_same false true e = absurd (omega (arith, e))
tick_same false false e = refl

pub holds_none : Holds 0 []
holds_none x = bit_zero x

pub holds_one : (r i : ℕ) → ((j : ℕ) → bit r j ≡ cond (eqb j i) 1 0) → Holds r (i ∷ [])
holds_one r i h x = h x ∙ go (eqb x i)
  where
    go : (b : Bool) → cond b 1 0 ≡ tick (b || false)
    go true = refl
    go false = refl

pub holds_join : (r a b : ℕ) (xs ys : List ℕ) → ((j : ℕ) → bit r j ≡ max (bit a j) (bit b j)) → Holds a xs → Holds b ys → Holds r (xs ++ ys)
holds_join r a b xs ys h f g x = h x ∙ ap₂ max (f x) (g x) ∙ tick_or (memb x xs) (memb x ys) ∙ ap tick (sym (memb_append x xs ys))

pub holds_same : (s : ℕ) (xs ys : List ℕ) → Holds s xs → ((x : ℕ) → memb x ys ≡ memb x xs) → Holds s ys
holds_same s xs ys h e x = h x ∙ ap tick (sym (e x))

-- a test of two numbers is this one
decided : (b : Bool) (m n : ℕ) → (b ≡ true → m ≡ n) → (m ≡ n → b ≡ true) → eqb m n ≡ b
decided true m n f g = rw (f refl) (eqb_self n)
decided false m n f g = eqb_no m n (λ e. true≢false (sym (g e)))

test_all : (f : ℕ → Bool) (xs : List ℕ) → ((x : ℕ) → memb x xs ≡ true → f x ≡ true) → all f xs ≡ true
test_all f xs h = is_all f (λ a e. e) (all_of xs h)

-- disjoint sets
apart_bit : (a b : Bool) → (a ≡ true → b ≡ false) → min (tick a) (tick b) ≡ 0
apart_bit true b h = rw (h refl)
apart_bit false true h = refl
apart_bit false false h = refl

bit_apart : (a b : Bool) → min (tick a) (tick b) ≡ 0 → a ≡ true → not b ≡ true
bit_apart true true e h = absurd (omega (arith, e))
bit_apart true false e h = refl
bit_apart false b e h = true≢false (sym h)

pub apart_is : (v a b : ℕ) (xs ys : List ℕ) → v < 2 ^ 64 → ((j : ℕ) → bit v j ≡ min (bit a j) (bit b j)) → Holds a xs → Holds b ys → eqb v 0 ≡ disjoint xs ys
apart_is v a b xs ys l h f g = decided (disjoint xs ys) v 0 to back
  where
    bits : (x : ℕ) → bit v x ≡ min (tick (memb x xs)) (tick (memb x ys))
    bits x = h x ∙ ap₂ min (f x) (g x)

    to : disjoint xs ys ≡ true → v ≡ 0
    to d = no_member v l (λ x m. bits x ∙ apart_bit (memb x xs) (memb x ys) (λ e. not_true (memb x ys) (all_memb (λ y. not (memb y ys)) x xs d e)))

    back : v ≡ 0 → disjoint xs ys ≡ true
    back e = test_all (λ x. not (memb x ys)) xs (λ x m. bit_apart (memb x xs) (memb x ys) (sym (bits x) ∙ ap (λ z. bit z x) e ∙ bit_zero x) m)

-- equal sets
pub alike_is : (a b : ℕ) (xs ys : List ℕ) → a < 2 ^ 64 → b < 2 ^ 64 → Holds a xs → Holds b ys → eqb a b ≡ same_set xs ys
alike_is a b xs ys la lb f g = decided (same_set xs ys) a b to back
  where
    to : same_set xs ys ≡ true → a ≡ b
    to d = sets.same_set a b la lb (λ x m. f x ∙ ap tick (both_ways (memb x xs) (memb x ys)
        (all_memb (λ y. memb y ys) x xs (and_left (all (λ y. memb y ys) xs) (all (λ y. memb y xs) ys) d))
        (all_memb (λ y. memb y xs) x ys (and_right (all (λ y. memb y ys) xs) (all (λ y. memb y xs) ys) d))) ∙ sym (g x))

    same : a ≡ b → (x : ℕ) → memb x xs ≡ memb x ys
    same e x = tick_same (memb x xs) (memb x ys) (sym (f x) ∙ ap (λ z. bit z x) e ∙ g x)

    back : a ≡ b → same_set xs ys ≡ true
    back e = rw (test_all (λ y. memb y ys) xs (λ x m. sym (same e x) ∙ m), test_all (λ y. memb y xs) ys (λ x m. same e x ∙ m))

-- the empty set
first_in : (y : ℕ) (ys : List ℕ) → memb y (y ∷ ys) ≡ true
first_in y ys = rw (eqb_self y)

pub bare_is : (a : ℕ) (xs : List ℕ) → a < 2 ^ 64 → Holds a xs → eqb a 0 ≡ is_empty xs
bare_is a [] l f = rw (no_member a l (λ x m. f x))
bare_is a (y ∷ ys) l f = eqb_no a 0 (λ e. omega (arith, ap tick (first_in y ys), sym (f y) ∙ ap (λ z. bit z y) e ∙ bit_zero y))

-- a word's own variable
pub own_minus : (b : Bool) (f : Form) → b ≡ false → Holds 0 (own_vars (side_of b) f)
own_minus true f e = true≢false e
own_minus false f e = holds_none

pub own_none : (b : Bool) (w : Word) → ((x : ℕ) → w ≡ Var x → ⊥) → Holds 0 (own_vars (side_of b) (form_of w))
own_none false w e = holds_none
own_none true (Head c) e = holds_none
own_none true (Var x) e = absurd (e x refl)
own_none true And e = holds_none
own_none true Or e = holds_none
own_none true Wild e = holds_none
own_none true Absurd e = holds_none
own_none true Not e = holds_none
own_none true Range e = holds_none
own_none true Other e = holds_none

pub own_var : (b : Bool) (x r : ℕ) → b ≡ true → ((j : ℕ) → bit r j ≡ cond (eqb j x) 1 0) → Holds r (own_vars (side_of b) (is_var x))
own_var true x r e h = holds_one r x h
own_var false x r e h = true≢false (sym e)
