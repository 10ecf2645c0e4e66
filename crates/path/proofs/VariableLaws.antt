-- Variables bound in any order are bound rising.
use mathlib.Core.Path.{◌≡◌, refl, sym, ap, ◌∙◌}
use mathlib.Core.List.{List, [], ◌∷◌}
use mathlib.Core.Bool.{Bool, true, false, cond}
use Prim.Native.Nat.{ℕ, zero, suc, ◌+◌, ◌-◌, ◌^◌, ◌≤◌, ◌<◌}
use native.Mathlib.Nat.{zero-add}
use native.Mathlib.Omega.{arith}
use lib.Bits.{bit_or}
use lib.Dec.{eqb, leb}
use Rattle.sets.specs.Set.{bit, set_of, Within}
use Rattle.sets.proofs.SetLaws.{bit_of_or, bit_one_same, bit_one_other, bit_lt, bit_zero}
use Rattle.signature.proofs.Tests.{eqb_eq, eqb_ne, leb_yes, leb_no, le_of, lt_of_not}
use Rattle.pattern.specs.Limits.{variable_count}
use Rattle.sets.proofs.ListSets.{bit_set_of, set_nil}
use Rattle.tree.specs.Tree.{insert, inserts}
use Rattle.path.specs.Variables.{variables, variables_from, Once}

-- the smaller of two variables comes first, whichever is put in first
insert_both : (x y t u : ℕ) (bs : List (ℕ × ℕ)) → x < y → insert (x, t) (insert (y, u) bs) ≡ insert (y, u) (insert (x, t) bs)
insert_both x y t u [] l = rw (leb_yes x y (omega arith), leb_no y x l)
insert_both x y t u (b ∷ bs) l = go (leb x b.0) (leb y b.0) refl refl (insert_both x y t u bs l)
  where
    go : (p q : Bool) → leb x b.0 ≡ p → leb y b.0 ≡ q → insert (x, t) (insert (y, u) bs) ≡ insert (y, u) (insert (x, t) bs) → insert (x, t) (insert (y, u) (b ∷ bs)) ≡ insert (y, u) (insert (x, t) (b ∷ bs))
    go true true e f h = rw (e, f, leb_yes x y (omega arith), leb_no y x l)
    go true false e f h = rw (e, f, leb_no y x l, e)
    go false true e f h = absurd (omega (arith, lt_of_not x b.0 e, le_of y b.0 f))
    go false false e f h = rw (f, e, f, h)

insert_order : (x y t u : ℕ) (bs : List (ℕ × ℕ)) → ¬ (x ≡ y) → insert (x, t) (insert (y, u) bs) ≡ insert (y, u) (insert (x, t) bs)
insert_order x y t u bs n = go (leb x y) refl
  where
    go : (b : Bool) → leb x y ≡ b → insert (x, t) (insert (y, u) bs) ≡ insert (y, u) (insert (x, t) bs)
    go true e = insert_both x y t u bs (omega (arith, le_of x y e))
    go false e = sym (insert_both y x u t bs (lt_of_not x y e))

-- one variable more in a set
or_same : (x m : ℕ) → bit (bit_or (2 ^ x) m) x ≡ 1
or_same x m = rw (bit_of_or, bit_one_same x) (omega (arith, bit_lt m x))

or_other : (x m i : ℕ) → ¬ (i ≡ x) → bit (bit_or (2 ^ x) m) i ≡ bit m i
or_other x m i n = rw (bit_of_or, bit_one_other x i n) (omega arith)

above : (x m i n : ℕ) → x < i → variables_from (bit_or (2 ^ x) m) i n ≡ variables_from m i n
above x m i zero l = refl
above x m i (suc n) l = rw (or_other x m i (λ z. absurd (omega (arith, z))), above x m (suc i) n (omega arith))

put_from : (t x m i n : ℕ) (bs : List (ℕ × ℕ)) → bit m x ≡ 0 → i ≤ x → x < i + n → insert (x, t) (inserts t (variables_from m i n) bs) ≡ inserts t (variables_from (bit_or (2 ^ x) m) i n) bs
put_from t x m i zero bs z l h = absurd (omega arith)
put_from t x m i (suc n) bs z l h = go (eqb i x) refl (λ k. put_from t x m (suc i) n bs z k (omega arith))
  where
    later : (b : Bool) → ¬ (i ≡ x) → insert (x, t) (inserts t (variables_from m (suc i) n) bs) ≡ inserts t (variables_from (bit_or (2 ^ x) m) (suc i) n) bs
        → insert (x, t) (inserts t (cond b (i ∷ variables_from m (suc i) n) (variables_from m (suc i) n)) bs) ≡ inserts t (cond b (i ∷ variables_from (bit_or (2 ^ x) m) (suc i) n) (variables_from (bit_or (2 ^ x) m) (suc i) n)) bs
    later true d ih = insert_order x i t t (inserts t (variables_from m (suc i) n) bs) (λ e. d (sym e)) ∙ ap (insert (i, t)) ih
    later false d ih = ih

    go : (b : Bool) → eqb i x ≡ b → (suc i ≤ x → insert (x, t) (inserts t (variables_from m (suc i) n) bs) ≡ inserts t (variables_from (bit_or (2 ^ x) m) (suc i) n) bs)
        → insert (x, t) (inserts t (variables_from m i (suc n)) bs) ≡ inserts t (variables_from (bit_or (2 ^ x) m) i (suc n)) bs
    go true e ih =
        let q : i ≡ x = eqb_eq i x e in
        rw (q, z, or_same x m, above x m (suc x) n (omega arith))
    go false e ih =
        let d : ¬ (i ≡ x) = eqb_ne i x e in
        rw (or_other x m i d) (later (eqb (bit m i) 1) d (ih (omega (arith, d))))

once_within : (vs : List ℕ) → Once vs → Within 0 vs
once_within [] o = tt
once_within (x ∷ vs) o = (omega arith, omega (arith, o.0), once_within vs o.2)

none_from : (i n : ℕ) → variables_from 0 i n ≡ []
none_from i zero = refl
none_from i (suc n) = rw (bit_zero i) (none_from (suc i) n)

variables_are : (m : ℕ) → variables m ≡ variables_from m 0 variable_count
unfolding variables
variables_are m = refl

pub no_variables : variables 0 ≡ []
no_variables = variables_are 0 ∙ none_from 0 variable_count

mask_more : (x : ℕ) (vs : List ℕ) → set_of 0 (x ∷ vs) ≡ bit_or (2 ^ x) (set_of 0 vs)
unfolding set_of
mask_more x vs = let q : x - 0 ≡ x = omega arith in rw q

pub once_rising : (t : ℕ) (vs : List ℕ) (bs : List (ℕ × ℕ)) → Once vs → inserts t vs bs ≡ inserts t (variables (set_of 0 vs)) bs
once_rising t [] bs o = rw (set_nil 0, no_variables)
once_rising t (x ∷ vs) bs o =
    let z : bit (set_of 0 vs) x ≡ 0 = bit_set_of 0 x vs (once_within vs o.2) ∙ (rw (zero-add x, o.1)) in
    ap (insert (x, t)) (once_rising t vs bs o.2 ∙ ap (λ (ws : List ℕ). inserts t ws bs) (variables_are (set_of 0 vs)))
    ∙ put_from t x (set_of 0 vs) 0 variable_count bs z (omega arith) (omega (arith, o.0))
    ∙ ap (λ (ws : List ℕ). inserts t ws bs) (sym (variables_are (bit_or (2 ^ x) (set_of 0 vs))) ∙ ap variables (sym (mask_more x vs)))
