-- A pattern by its first word and the parts behind it.
use mathlib.Core.Path.{◌≡◌, refl, sym, ap, subst, ◌∙◌}
use mathlib.Core.List.{List, [], ◌∷◌, ◌++◌}
use mathlib.Core.Bool.{Bool, true, false, not, ◌&&◌, ◌||◌}
use Prim.Native.Nat.{ℕ, zero, suc, ◌+◌, ◌*◌, ◌<◌}
use native.Mathlib.Omega.{arith}
use lib.Dec.{leb}
use lib.ListN.{length, get_or}
use Rattle.signature.specs.Decoded.{Known}
use Rattle.signature.specs.Lists.{All, none_left, also, is_empty}
use Rattle.signature.specs.Signature.{Signature}
use Rattle.signature.proofs.Booleans.{and_right, or_false}
use Rattle.signature.proofs.Heads.{args_same}
use Rattle.signature.proofs.KnownFacts.{argument_is, is_constructor}
use Rattle.signature.proofs.Tests.{true≢false}
use Rattle.pattern.specs.Limits.{part_weight_limit}
use Rattle.pattern.specs.Linear.{E, O, E_all, O_all}
use Rattle.pattern.specs.Linearity.{side_of, behind}
use Rattle.pattern.specs.Pattern.{Pattern, Patterns, pnil, pcons, head, and, or, wild, absurd_pat, neg, var, range}
use Rattle.pattern.specs.Ranged.{ranged, all_ranged}
use Rattle.pattern.specs.Read.{Form, is_head, is_var, is_and, is_or, is_wild, is_absurd, is_not, is_range, is_other}
use Rattle.pattern.specs.Word.{kind_behind}
use Rattle.pattern.specs.Side.{Side, plus, minus}
use Rattle.pattern.specs.Weight.{weight_plus, weight_minus, product_plus, sum_minus, light_plus, light_minus, light_all_plus, light_all_minus}
use Rattle.pattern.specs.WellFormed.{WellFormed, AllWellFormed, well_head, well_and, well_or, well_not, well_nil, well_cons}
use Rattle.pattern.proofs.Opened.{shape, inner}
use Rattle.row.specs.Overlap.{any_plus, any_minus}
use Rattle.builder.specs.Arguments.{lights_of}
use Rattle.builder.specs.Build.{light_of}
use Rattle.rowlist.proofs.Typing.{args_there}
use Rattle.ambiguity.specs.Ambiguity.{ambiguous_of, has_vars, taken_twice, own_variable}

-- the side of the parts behind a word
abbrev pub side_at : Bool → Form → Bool
side_at b (is_head c) = b
side_at b (is_var x) = b
side_at b is_and = b
side_at b is_or = b
side_at b is_wild = b
side_at b is_absurd = b
side_at b is_not = not b
side_at b is_range = b
side_at b is_other = b

pub side_is : (r b : Bool) (f : Form) → side_of r ≡ behind f (side_of b) → r ≡ side_at b f
side_is r b f e = sym (round r) ∙ ap is_plus (e ∙ at_behind f b) ∙ round (side_at b f)
  where
    is_plus : Side → Bool
    is_plus plus = true
    is_plus minus = false

    round : (c : Bool) → is_plus (side_of c) ≡ c
    round true = refl
    round false = refl

    at_behind : (f : Form) (b : Bool) → behind f (side_of b) ≡ side_of (side_at b f)
    at_behind (is_head c) b = refl
    at_behind (is_var x) b = refl
    at_behind is_and b = refl
    at_behind is_or b = refl
    at_behind is_wild b = refl
    at_behind is_absurd b = refl
    at_behind is_not true = refl
    at_behind is_not false = refl
    at_behind is_range b = refl
    at_behind is_other b = refl

abbrev pub any_of : Bool → Signature → List ℕ → Patterns → Bool
any_of true sig ks ps = any_plus sig ks ps
any_of false sig ks ps = any_minus sig ks ps

pub any_cons : (b : Bool) (sig : Signature) (k : ℕ) (ks : List ℕ) (p : Pattern) (ps : Patterns) → any_of b sig (k ∷ ks) (pcons p ps) ≡ (ambiguous_of b sig k p || any_of b sig ks ps)
any_cons true sig k ks p ps = refl
any_cons false sig k ks p ps = refl

pub any_none : (b : Bool) (sig : Signature) (ks : List ℕ) → any_of b sig ks pnil ≡ false
any_none true sig ks = refl
any_none false sig ks = refl

-- variables in some of the parts
abbrev pub some_vars : Bool → Patterns → Bool
some_vars b pnil = false
some_vars b (pcons p ps) = has_vars b p || some_vars b ps

no_and : (a : Bool) → (a && false) ≡ false
no_and true = refl
no_and false = refl

last_none : (a b : Bool) → (a || b) ≡ (a || (b || false))
last_none a b = ap (λ z. a || z) (sym (or_false b))

or_three : (a b c : Bool) → ((a || b) || c) ≡ (a || (b || (c || false)))
or_three true b c = refl
or_three false b c = last_none b c

some_append : (xs ys : List ℕ) → not (is_empty (xs ++ ys)) ≡ (not (is_empty xs) || not (is_empty ys))
some_append [] ys = refl
some_append (x ∷ xs) ys = refl

two_vars : (xs ys : List ℕ) → not (is_empty (xs ++ ys)) ≡ (not (is_empty xs) || (not (is_empty ys) || false))
two_vars xs ys = some_append xs ys ∙ last_none (not (is_empty xs)) (not (is_empty ys))

even_vars : (ps : Patterns) → not (is_empty (E_all ps)) ≡ some_vars true ps
even_vars pnil = refl
even_vars (pcons p ps) = some_append (E p) (E_all ps) ∙ ap (λ z. not (is_empty (E p)) || z) (even_vars ps)

odd_vars : (ps : Patterns) → not (is_empty (O_all ps)) ≡ some_vars false ps
odd_vars pnil = refl
odd_vars (pcons p ps) = some_append (O p) (O_all ps) ∙ ap (λ z. not (is_empty (O p)) || z) (odd_vars ps)

-- a && (b && c)
both_light : (a b c : Bool) → (a && b && c) ≡ true → (b && (c && true)) ≡ true
both_light true true true e = refl
both_light true true false e = e
both_light true false c e = e
both_light false b c e = true≢false (sym e)

two_ranged : (a b : Bool) → (a && b) ≡ true → (a && (b && true)) ≡ true
two_ranged true true e = refl
two_ranged true false e = e
two_ranged false b e = e

same_kinds : (k : ℕ) (i : ℕ) → i < 2 → k ≡ get_or (k ∷ (k ∷ [])) i 0
same_kinds k zero h = refl
same_kinds k (suc zero) h = refl
same_kinds k (suc (suc i)) h = absurd (omega arith)

one_kind : (k : ℕ) (i : ℕ) → i < 1 → k ≡ get_or (k ∷ []) i 0
one_kind k zero h = refl
one_kind k (suc i) h = absurd (omega arith)

module _ {t : List ℕ} (g : Known t) where
  pub record Parts (b : Bool) (k : ℕ) (p : Pattern) : Type 0 where
    pub ks : List ℕ
    pub well : AllWellFormed g.sig ks (inner p)
    pub there : All (λ j. j < g.decoded.n) ks
    pub light : lights_of (side_at b (shape p)) (inner p) ≡ true
    pub ranges : all_ranged (inner p) ≡ true
    pub kinds : (i : ℕ) → i < length ks → kind_behind t (shape p) k i ≡ get_or ks i 0
    pub ambiguous : ambiguous_of b g.sig k p ≡ ((has_vars b p && taken_twice b g.sig k p) || any_of (side_at b (shape p)) g.sig ks (inner p))
    pub vars : has_vars b p ≡ (own_variable b (shape p) || some_vars (side_at b (shape p)) (inner p))

  none_behind : (k : ℕ) (i : ℕ) → i < 0 → k ≡ get_or [] i 0
  none_behind k i h = absurd (omega arith)

  pub parts_behind : (b : Bool) (k : ℕ) (p : Pattern) → k < g.decoded.n → WellFormed g.sig k p → light_of b p ≡ true → ranged p ≡ true → Parts b k p
  parts_behind true k (head c ps) l (well_head {ks = ks} s e w) h y = record { ks = ks; well = w; there = args_there g k c ks e; light = and_right (leb (product_plus ps) part_weight_limit) (light_all_plus ps) h; ranges = y; kinds = λ i j. argument_is g c (is_constructor g k c ks (omega (arith, s)) e) i (subst (λ z. i < length z) (sym (args_same g.sig k c ks e)) j) ∙ ap (λ z. get_or z i 0) (args_same g.sig k c ks e); ambiguous = ap (λ z. any_plus g.sig z ps) (args_same g.sig k c ks e) ∙ sym (ap (λ z. z || any_plus g.sig ks ps) (no_and (not (is_empty (E_all ps))))); vars = even_vars ps }
  parts_behind false k (head c ps) l (well_head {ks = ks} s e w) h y = record { ks = ks; well = w; there = args_there g k c ks e; light = and_right (leb (suc (sum_minus ps)) part_weight_limit) (light_all_minus ps) h; ranges = y; kinds = λ i j. argument_is g c (is_constructor g k c ks (omega (arith, s)) e) i (subst (λ z. i < length z) (sym (args_same g.sig k c ks e)) j) ∙ ap (λ z. get_or z i 0) (args_same g.sig k c ks e); ambiguous = ap (λ z. any_minus g.sig z ps) (args_same g.sig k c ks e) ∙ sym (ap (λ z. z || any_minus g.sig ks ps) (no_and (not (is_empty (O_all ps))))); vars = odd_vars ps }
  parts_behind true k (and p q) l (well_and s w) h y = record { ks = k ∷ (k ∷ []); well = well_cons s (well_cons w well_nil); there = also k l (also k l none_left); light = both_light (leb (weight_plus p * weight_plus q) part_weight_limit) (light_plus p) (light_plus q) h; ranges = two_ranged (ranged p) (ranged q) y; kinds = same_kinds k; ambiguous = rw (no_and (not (is_empty (E p ++ E q)))) (last_none (ambiguous_of true g.sig k p) (ambiguous_of true g.sig k q)); vars = two_vars (E p) (E q) }
  parts_behind false k (and p q) l (well_and s w) h y = record { ks = k ∷ (k ∷ []); well = well_cons s (well_cons w well_nil); there = also k l (also k l none_left); light = both_light (leb (weight_minus p + weight_minus q) part_weight_limit) (light_minus p) (light_minus q) h; ranges = two_ranged (ranged p) (ranged q) y; kinds = same_kinds k; ambiguous = or_three (has_vars false (and p q) && taken_twice false g.sig k (and p q)) (ambiguous_of false g.sig k p) (ambiguous_of false g.sig k q); vars = two_vars (O p) (O q) }
  parts_behind true k (or p q) l (well_or s w) h y = record { ks = k ∷ (k ∷ []); well = well_cons s (well_cons w well_nil); there = also k l (also k l none_left); light = both_light (leb (weight_plus p + weight_plus q) part_weight_limit) (light_plus p) (light_plus q) h; ranges = two_ranged (ranged p) (ranged q) y; kinds = same_kinds k; ambiguous = or_three (has_vars true (or p q) && taken_twice true g.sig k (or p q)) (ambiguous_of true g.sig k p) (ambiguous_of true g.sig k q); vars = two_vars (E p) (E q) }
  parts_behind false k (or p q) l (well_or s w) h y = record { ks = k ∷ (k ∷ []); well = well_cons s (well_cons w well_nil); there = also k l (also k l none_left); light = both_light (leb (weight_minus p * weight_minus q) part_weight_limit) (light_minus p) (light_minus q) h; ranges = two_ranged (ranged p) (ranged q) y; kinds = same_kinds k; ambiguous = rw (no_and (not (is_empty (O p ++ O q)))) (last_none (ambiguous_of false g.sig k p) (ambiguous_of false g.sig k q)); vars = two_vars (O p) (O q) }
  parts_behind true k wild l h s y = record { ks = []; well = well_nil; there = none_left; light = refl; ranges = refl; kinds = none_behind k; ambiguous = refl; vars = refl }
  parts_behind false k wild l h s y = record { ks = []; well = well_nil; there = none_left; light = refl; ranges = refl; kinds = none_behind k; ambiguous = refl; vars = refl }
  parts_behind true k absurd_pat l h s y = record { ks = []; well = well_nil; there = none_left; light = refl; ranges = refl; kinds = none_behind k; ambiguous = refl; vars = refl }
  parts_behind false k absurd_pat l h s y = record { ks = []; well = well_nil; there = none_left; light = refl; ranges = refl; kinds = none_behind k; ambiguous = refl; vars = refl }
  parts_behind true k (neg p) l (well_not w) h y = record { ks = k ∷ []; well = well_cons w well_nil; there = also k l none_left; light = rw h; ranges = rw y; kinds = one_kind k; ambiguous = rw (no_and (not (is_empty (O p)))) (sym (or_false (ambiguous_of false g.sig k p))); vars = sym (or_false (not (is_empty (O p)))) }
  parts_behind false k (neg p) l (well_not w) h y = record { ks = k ∷ []; well = well_cons w well_nil; there = also k l none_left; light = rw h; ranges = rw y; kinds = one_kind k; ambiguous = rw (no_and (not (is_empty (E p)))) (sym (or_false (ambiguous_of true g.sig k p))); vars = sym (or_false (not (is_empty (E p)))) }
  parts_behind true k (var x) l h s y = record { ks = []; well = well_nil; there = none_left; light = refl; ranges = refl; kinds = none_behind k; ambiguous = refl; vars = refl }
  parts_behind false k (var x) l h s y = record { ks = []; well = well_nil; there = none_left; light = refl; ranges = refl; kinds = none_behind k; ambiguous = refl; vars = refl }
  parts_behind true k (range low high) l h s y = record { ks = []; well = well_nil; there = none_left; light = refl; ranges = refl; kinds = none_behind k; ambiguous = refl; vars = refl }
  parts_behind false k (range low high) l h s y = record { ks = []; well = well_nil; there = none_left; light = refl; ranges = refl; kinds = none_behind k; ambiguous = refl; vars = refl }
