-- Laws of and, or and not.
use mathlib.Core.Path.{◌≡◌, refl, sym, ap, ◌∙◌}
use mathlib.Core.Logic.{◌⊎◌, inl, inr}
use mathlib.Core.Bool.{Bool, ◌&&◌, true, false, not, ◌||◌}
use Prim.Native.Nat.{ℕ}
use lib.Dec.{eqb}
use Rattle.signature.proofs.Tests.{true≢false, eqb_no, eqb_ne, eqb_eq}

pub and_left : (a b : Bool) → (a && b) ≡ true → a ≡ true
and_left true b e = refl
and_left false b e = e

pub and_right : (a b : Bool) → (a && b) ≡ true → b ≡ true
and_right true b e = e
and_right false b e = true≢false (sym e)

pub or_assoc : (a b c : Bool) → ((a || b) || c) ≡ (a || (b || c))
or_assoc true b c = refl
or_assoc false b c = refl

-- a ≤ b of tests
abbrev pub Imp : Bool → Bool → Type 0
Imp a b = a ≡ true → b ≡ true

pub imp_or : (a b c d : Bool) → Imp a c → Imp b d → Imp (a || b) (c || d)
imp_or true b c d f g e = ap (λ z. z || d) (f refl)
imp_or false b true d f g e = refl
imp_or false b false d f g e = g e

pub imp_left : (a c d : Bool) → Imp a c → Imp a (c || d)
imp_left a true d f e = refl
imp_left a false d f e = true≢false (sym (f e))

pub imp_right : (a c d : Bool) → Imp a d → Imp a (c || d)
imp_right a true d f e = refl
imp_right a false d f e = f e

pub one_in : (a b : Bool) → Imp ((a && b) || false) (a || false)
one_in true b e = refl
one_in false b e = e

pub not_true : (b : Bool) → not b ≡ true → b ≡ false
not_true true e = sym e
not_true false e = refl

pub and_false : (a : Bool) → (a && false) ≡ false
and_false true = refl
and_false false = refl

pub and_true : (a : Bool) → (a && true) ≡ a
and_true true = refl
and_true false = refl

pub and_both : (a x y : Bool) → (a && (x && y)) ≡ ((a && x) && (a && y))
and_both true x y = refl
and_both false x y = refl

pub and_pairs : (a b x y : Bool) → ((a && b) && (x && y)) ≡ ((a && x) && (b && y))
and_pairs true true x y = refl
and_pairs true false true y = refl
and_pairs true false false y = refl
and_pairs false b x y = refl

pub and_comm : (a b : Bool) → (a && b) ≡ (b && a)
and_comm true b = sym (and_true b)
and_comm false b = sym (and_false b)

pub apart : (c d e : ℕ) (x y : Bool) → eqb c d ≡ false → ((eqb c e && x) && (eqb d e && y)) ≡ false
apart c d e x y q = go (eqb c e) refl
  where
    go : (b : Bool) → eqb c e ≡ b → ((eqb c e && x) && (eqb d e && y)) ≡ false
    go true p = rw (p, eqb_no d e (λ r. eqb_ne c d q (eqb_eq c e p ∙ sym r))) (and_false x)
    go false p = rw p

pub and_or : (a b c : Bool) → ((a || b) && c) ≡ ((a && c) || (b && c))
and_or true b true = refl
and_or true true false = refl
and_or true false false = refl
and_or false b c = refl

pub or_and : (c a b : Bool) → (c && (a || b)) ≡ ((c && a) || (c && b))
or_and true a b = refl
or_and false a b = refl

pub or_true : (a : Bool) → (a || true) ≡ true
or_true true = refl
or_true false = refl

pub or_false : (a : Bool) → (a || false) ≡ a
or_false true = refl
or_false false = refl

-- two rows as one bind what both bind
pub or_mix : (a b c d : Bool) → ((a || b) || (c || d)) ≡ ((a || c) || (b || d))
or_mix true b c d = refl
or_mix false true true d = refl
or_mix false true false d = refl
or_mix false false c d = refl

pub or_last : (a b c : Bool) → ((a || b) || c) ≡ ((a || c) || b)
or_last true b c = refl
or_last false true true = refl
or_last false true false = refl
or_last false false c = sym (or_false c)

pub and_or_false : (a b : Bool) → ((a && b) || false) ≡ ((a || false) && b)
and_or_false true b = or_false b
and_or_false false b = refl

pub not_false : (b : Bool) → not b ≡ false → b ≡ true
not_false true e = refl
not_false false e = true≢false e

pub either : (a b : Bool) → (a || b) ≡ true → (a ≡ true) ⊎ (b ≡ true)
either true b e = inl refl
either false b e = inr e

pub or_true_left : (a b : Bool) → a ≡ true → (a || b) ≡ true
or_true_left a b e = rw e

pub or_true_right : (a b : Bool) → b ≡ true → (a || b) ≡ true
or_true_right a b e = rw e (or_true a)

pub and_assoc : (a b c : Bool) → (a && (b && c)) ≡ ((a && b) && c)
and_assoc true b c = refl
and_assoc false b c = refl

pub or_left : (a b : Bool) → (a || b) ≡ false → a ≡ false
or_left true b e = true≢false e
or_left false b e = refl

pub or_right : (a b : Bool) → (a || b) ≡ false → b ≡ false
or_right true b e = true≢false e
or_right false b e = e

-- what a row binds by itself is what it binds as a relation
pub or_swap : (a b c : Bool) → (a || (b || c)) ≡ (b || (a || c))
or_swap true true c = refl
or_swap true false c = refl
or_swap false b c = refl

pub split_and : (a b c d : Bool) → ((a && c) || ((b && c) || d)) ≡ (((a || b) && c) || d)
split_and true b true d = refl
split_and true true false d = refl
split_and true false false d = refl
split_and false b c d = refl

pub or_turn : (a b c : Bool) → (a || (b || c)) ≡ ((b || a) || c)
or_turn true true c = refl
or_turn true false c = refl
or_turn false true c = refl
or_turn false false c = refl

pub not_of : (b : Bool) → (b ≡ true → ⊥) → not b ≡ true
not_of true f = absurd (f refl)
not_of false f = refl

-- each gives the other
pub both_ways : (a b : Bool) → (a ≡ true → b ≡ true) → (b ≡ true → a ≡ true) → a ≡ b
both_ways true b f g = sym (f refl)
both_ways false true f g = g refl
both_ways false false f g = refl
