-- The two parts behind a word that both may take a value.
use mathlib.Core.Path.{◌≡◌, refl, sym, ap, ◌∙◌}
use mathlib.Core.List.{List, ◌∷◌, ◌++◌, append_assoc}
use mathlib.Core.Bool.{Bool, true, false, ◌&&◌}
use Prim.Native.Nat.{ℕ, ◌+◌, ◌≤◌}
use native.Mathlib.Omega.{arith}
use lib.Dec.{leb}
use lib.ListN.{length, drop, get_or, length-append}
use Rattle.signature.specs.Signature.{Signature}
use Rattle.signature.proofs.Booleans.{and_left, and_right}
use Rattle.signature.proofs.Tests.{true≢false}
use Rattle.pattern.specs.Limits.{part_weight_limit}
use Rattle.pattern.specs.Pattern.{Pattern, head, and, or, wild, absurd_pat, neg, var, range, pattern_code}
use Rattle.pattern.specs.Ranged.{ranged}
use Rattle.pattern.specs.Read.{Form, form, is_head, is_var, is_and, is_or, is_wild, is_absurd, is_not, is_range, is_other}
use Rattle.pattern.specs.Word.{own_words}
use Rattle.pattern.specs.Weight.{weight_plus, weight_minus, light_plus, light_minus}
use Rattle.pattern.specs.WellFormed.{WellFormed, well_and, well_or}
use Rattle.pattern.proofs.Opened.{shape, shape_is, word_there}
use Rattle.cell.specs.RowList.{from}
use Rattle.cell.proofs.Walk.{from_is}
use Rattle.builder.specs.Build.{light_of, GivenPart}
use Rattle.ambiguity.specs.Ambiguity.{doubles, taken_twice}
use Rattle.ambiguity.specs.Parts.{GivenTwo, meets}
use Rattle.ambiguity.proofs.Turns.{as_opens}

-- a word with two parts has no other words of its own
pub double_own : (b : Bool) (f : Form) → doubles b f ≡ true → own_words f ≡ 1
double_own b (is_head c) e = refl
double_own b (is_var x) e = refl
double_own b is_and e = refl
double_own b is_or e = refl
double_own b is_wild e = refl
double_own b is_absurd e = refl
double_own b is_not e = refl
double_own b is_range e = true≢false (sym e)
double_own b is_other e = refl

module _ (sig : Signature) (k : ℕ) where
  record TwoOf (b : Bool) (p : Pattern) : Type 0 where
    pub first : Pattern
    pub second : Pattern
    pub word : ℕ
    pub code_is : pattern_code p ≡ word ∷ (pattern_code first ++ pattern_code second)
    pub wells : WellFormed sig k first × WellFormed sig k second
    pub lights : (light_of b first ≡ true) × (light_of b second ≡ true)
    pub ranges : (ranged first ≡ true) × (ranged second ≡ true)
    pub twice : taken_twice b sig k p ≡ meets b sig k first second

  two_light : (a b c : Bool) → (a && b && c) ≡ true → (b ≡ true) × (c ≡ true)
  two_light true true true e = (refl, refl)
  two_light true true false e = (refl, e)
  two_light true false c e = (e, true≢false (sym e))
  two_light false b c e = true≢false (sym e)

  two_of : (b : Bool) (p : Pattern) → WellFormed sig k p → light_of b p ≡ true → ranged p ≡ true → doubles b (shape p) ≡ true → TwoOf b p
  two_of b (head c ps) w l y e = true≢false (sym e)
  two_of true (and p q) w l y e = true≢false (sym e)
  two_of false (and p q) (well_and h i) l y e = record { first = p; second = q; word = 256; code_is = refl; wells = (h, i); lights = two_light (leb (weight_minus p + weight_minus q) part_weight_limit) (light_minus p) (light_minus q) l; ranges = (and_left (ranged p) (ranged q) y, and_right (ranged p) (ranged q) y); twice = refl }
  two_of true (or p q) (well_or h i) l y e = record { first = p; second = q; word = 257; code_is = refl; wells = (h, i); lights = two_light (leb (weight_plus p + weight_plus q) part_weight_limit) (light_plus p) (light_plus q) l; ranges = (and_left (ranged p) (ranged q) y, and_right (ranged p) (ranged q) y); twice = refl }
  two_of false (or p q) w l y e = true≢false (sym e)
  two_of b wild w l y e = true≢false (sym e)
  two_of b absurd_pat w l y e = true≢false (sym e)
  two_of b (neg p) w l y e = true≢false (sym e)
  two_of b (var x) w l y e = true≢false (sym e)
  two_of b (range low high) w l y e = true≢false (sym e)

module _ {t : List ℕ} {k : ℕ} {w : List ℕ} {b : Bool} {n m : ℕ} (g : GivenPart t k w b n m) where
  pub some_word : 1 ≤ length w
  some_word = word_there (as_opens g)

  module _ (vars : Bool) where
    module _ (f : Form) (f_is : f ≡ form (get_or w 0 0)) (q : Bool) (q_is : q ≡ doubles b f) where
      by_shape : q ≡ doubles b (shape g.pattern)
      by_shape = q_is ∙ ap (doubles b) (shape_is (as_opens g) f f_is)

      module _ (e : q ≡ true) where
        abbrev two : TwoOf g.known.sig k b g.pattern
        two = two_of g.known.sig k b g.pattern g.well g.light g.ranges (sym by_shape ∙ e)

        size : length (pattern_code g.pattern) ≡ 1 + (length (pattern_code two.first) + length (pattern_code two.second))
        size = ap length two.code_is ∙ simp length-append (omega arith)

        pub two_given : GivenTwo t k (from w 1) b n m
        two_given = record {
          known = g.known;
          there = g.there;
          first = two.first;
          second = two.second;
          rest = g.rest;
          words = from_is w 1 ∙ ap (drop 1) (g.words ∙ ap (λ x. x ++ g.rest) two.code_is) ∙ append_assoc (pattern_code two.first) (pattern_code two.second) g.rest;
          few = omega (arith, g.few, size);
          well_first = two.wells.0;
          well_second = two.wells.1;
          light_first = two.lights.0;
          light_second = two.lights.1;
          ranges_first = two.ranges.0;
          ranges_second = two.ranges.1;
          room = omega (arith, g.room, size);
          work_room = omega (arith, g.work_room, size);
        }

        pub taken : (r : Bool) → vars ≡ true → ((o : GivenTwo t k (from w 1) b n m) → r ≡ meets b o.known.sig k o.first o.second) → r ≡ (vars && taken_twice b g.known.sig k g.pattern)
        unfolding two_given
        taken r h gave = gave two_given ∙ sym two.twice ∙ sym (ap (λ x. x && taken_twice b g.known.sig k g.pattern) h)
