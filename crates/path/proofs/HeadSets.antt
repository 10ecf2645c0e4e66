-- The heads that a place allows, as a list and as a set in a word.
use mathlib.Core.Path.{◌≡◌, refl, sym, ap, ◌∙◌}
use mathlib.Core.List.{List, [], ◌∷◌}
use mathlib.Core.Bool.{Bool, true, false}
use Prim.Native.Nat.{ℕ, ◌+◌, ◌-◌, ◌≤◌, ◌<◌}
use native.Mathlib.Omega.{arith}
use borrow.Author.Tests.{eq-eqb}
use lib.Dec.{eqb}
use lib.ListN.{length}
use Rattle.signature.specs.Lists.{memb, all}
use Rattle.sets.specs.Set.{bit, members, set_of, Within}
use Rattle.signature.specs.Signature.{heads}
use Rattle.signature.proofs.Booleans.{or_false, both_ways}
use Rattle.signature.proofs.Members.{all_memb, all_of, all_self}
use Rattle.signature.proofs.Tests.{eqb_eq}
use Rattle.sets.proofs.ListSets.{one_if, bit_set_of, same_bits, set_lt, within_one}
use Rattle.sets.proofs.SetLaws.{size_among}
use Rattle.signature.specs.Limits.{heads_limit}
use Rattle.path.specs.Standing.{Among}

pub one_yes : (b : Bool) → one_if b ≡ 1 → b ≡ true
one_yes true e = refl
one_yes false e = absurd (omega (arith, e))

pub one_no : (b : Bool) → one_if b ≡ 0 → b ≡ false
one_no true e = absurd (omega (arith, e))
one_no false e = refl

-- whether c is a member, by the bit of its number
pub bit_memb : (f c : ℕ) (cs : List ℕ) → Within f cs → f ≤ c → bit (set_of f cs) (c - f) ≡ one_if (memb c cs)
bit_memb f c cs w l = let q : f + (c - f) ≡ c = omega arith in bit_set_of f (c - f) cs w ∙ (rw q)

pub bit_only : (f c d : ℕ) → f ≤ d → d < f + heads_limit → f ≤ c → bit (set_of f (d ∷ [])) (c - f) ≡ one_if (eqb c d)
bit_only f c d l h m = bit_memb f c (d ∷ []) (l, h, tt) m ∙ ap one_if (or_false (eqb c d))

-- a set that has all that the other has is the other
same_sets : (f : ℕ) (cs ds : List ℕ) → Within f cs → Within f ds → Among cs ds → all (λ c. memb c cs) ds ≡ true → set_of f cs ≡ set_of f ds
same_sets f cs ds w z a h = same_bits _ _ (λ i. bit_set_of f i cs w ∙ ap one_if (both_ways (memb (f + i) cs) (memb (f + i) ds) (λ e. a (f + i) e) (λ e. all_memb (λ c. memb c cs) (f + i) ds h e)) ∙ sym (bit_set_of f i ds z))

one_inj : (a b : Bool) → one_if a ≡ one_if b → a ≡ b
one_inj true true e = refl
one_inj true false e = absurd (omega (arith, e))
one_inj false true e = absurd (omega (arith, e))
one_inj false false e = refl

sets_same : (f : ℕ) (cs ds : List ℕ) → Within f cs → Within f ds → set_of f cs ≡ set_of f ds → all (λ c. memb c cs) ds ≡ true
sets_same f cs ds w z e = all_self ds cs (all_of ds (λ c h.
    one_inj (memb c cs) true (sym (bit_memb f c cs w (within_one f c ds z h).0) ∙ ap (λ (n : ℕ). bit n (c - f)) e ∙ bit_memb f c ds z (within_one f c ds z h).0 ∙ ap one_if h)))

-- a place allows all heads of its kind exactly where its set has as many members
pub full_is : (f : ℕ) (cs ds : List ℕ) → Within f cs → Within f ds → Among cs ds → length (members (set_of f ds)) ≡ length ds → eqb (length (members (set_of f cs))) (length ds) ≡ all (λ c. memb c cs) ds
full_is f cs ds w z a n = both_ways _ _
    (λ e. sets_same f cs ds w z (size_among _ _ (set_lt f cs w) (set_lt f ds z) bits (eqb_eq _ _ e ∙ sym n)))
    (λ e. eq-eqb _ _ (ap (λ (s : ℕ). length (members s)) (same_sets f cs ds w z a e) ∙ n))
  where
    less : (a b : Bool) → (a ≡ true → b ≡ true) → one_if a ≤ one_if b
    less true b h = rw (h refl) (omega arith)
    less false b h = omega arith

    bits : (i : ℕ) → bit (set_of f cs) i ≤ bit (set_of f ds) i
    bits i = rw (bit_set_of f i cs w, bit_set_of f i ds z) (less (memb (f + i) cs) (memb (f + i) ds) (a (f + i)))
