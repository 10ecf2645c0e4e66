-- What the steps of weighing show, at either side.
use Rattle.std.specs.Prelude.{Option, None, Some}
use Rattle.std.proofs.lemmas.Option.{none-some, some_pair_parts}
use mathlib.Core.Path.{◌≡◌, refl, sym, ap, subst, ◌∙◌}
use mathlib.Core.List.{List, append-nil}
use mathlib.Core.Bool.{Bool, true, false, ◌&&◌, cond}
use Prim.Native.Nat.{ℕ, zero, suc, ◌+◌, ◌-◌, ◌*◌, ◌≤◌, ◌<◌, min}
use native.Mathlib.Nat.{add_assoc, mul_assoc, mul-one, one-mul, mul-zero, mul-le-mul, add-zero}
use native.Mathlib.Omega.{arith}
use lib.Dec.{ltb, leb}
use lib.ListN.{length, drop, get_or, length-append, length-drop}
use lib.Seq.{drop-drop}
use borrow.Author.Tests.{ltb-true, ltb-false}
use Rattle.signature.proofs.Booleans.{and_true}
use Rattle.signature.proofs.Tests.{leb_yes, leb_no}
use Rattle.pattern.specs.Given.{Opens}
use Rattle.pattern.specs.Limits.{part_weight_limit}
use Rattle.pattern.specs.Pattern.{Pattern, Patterns, pnil, pcons, head, and, or, wild, absurd_pat, neg, var, range, pattern_code, patterns_code}
use Rattle.pattern.specs.Read.{Form, form}
use Rattle.pattern.specs.Side.{Side, plus, minus, other, weight_at, light_at}
use Rattle.pattern.proofs.Sides.{light_all}
use Rattle.pattern.specs.Weight.{weight_plus, weight_minus, product_plus, sum_minus}
use Rattle.weighing.specs.Weighing.{weighed, part_weighed, head_at, op_of, joined, over_weight}
use Rattle.pattern.specs.Word.{own_words, part_count}
use Rattle.pattern.proofs.Opened.{shape, inner, inner_length, OpensAll, Uncons, uncons, none_open, opened, shape_is, fits_in, to_part, first_open}
use Rattle.pattern.proofs.ReadSteps.{part}
use Rattle.pattern.proofs.StandsLaw.{light_weight}

abbrev unit : Bool → ℕ
unit true = 1
unit false = 0

-- the parts' weights, joined
abbrev fold : Bool → Side → Patterns → ℕ
fold b s pnil = unit b
fold b s (pcons p ps) = op_of b (weight_at s p) (fold b s ps)

product_fold : (ps : Patterns) → product_plus ps ≡ fold true plus ps
product_fold pnil = refl
product_fold (pcons p ps) = ap (λ n. weight_plus p * n) (product_fold ps)

sum_fold : (ps : Patterns) → sum_minus ps ≡ fold false minus ps
sum_fold pnil = refl
sum_fold (pcons p ps) = ap (λ n. weight_minus p + n) (sum_fold ps)

-- a weight over 64 counts as 65
big_mul : (a b : ℕ) → over_weight ≤ a → min (over_weight * b) over_weight ≡ min (a * b) over_weight
big_mul a zero h = rw mul-zero
big_mul a (suc b) h = omega (arith, mul-le-mul {n₁ = over_weight} {m₁ = suc b} {n₂ = a} {m₂ = suc b} h (omega arith))

sat_mul : (u : Bool) (a b : ℕ) → ltb a over_weight ≡ u → min (min a over_weight * b) over_weight ≡ min (a * b) over_weight
sat_mul true a b e = let h : a < over_weight = ltb-true a over_weight e in let m : min a over_weight ≡ a = omega arith in rw m
sat_mul false a b e = let h : over_weight ≤ a = ltb-false a over_weight e in let m : min a over_weight ≡ over_weight = omega arith in rw m (big_mul a b h)

sat_left : (b : Bool) (m n : ℕ) → min (op_of b (min m over_weight) n) over_weight ≡ min (op_of b m n) over_weight
sat_left true m n = sat_mul (ltb m over_weight) m n refl
sat_left false m n = omega arith

op_assoc : (b : Bool) (x y z : ℕ) → op_of b (op_of b x y) z ≡ op_of b x (op_of b y z)
op_assoc true x y z = mul_assoc x y z
op_assoc false x y z = add_assoc x y z

op_unit : (b : Bool) (n : ℕ) → op_of b n (unit b) ≡ n
op_unit true n = mul-one n
op_unit false n = add-zero n

-- one part more
sat_more : (b : Bool) (n m x : ℕ) → min (op_of b n (op_of b m x)) over_weight ≡ min (op_of b (joined b n m) x) over_weight
sat_more b n m x = sym (sat_left b (op_of b n m) x ∙ ap (λ z. min z over_weight) (op_assoc b n m x))

-- a pattern by what its first word asks for
abbrev Weighs : Side → Pattern → Option (ℕ × Bool) → Type 0
Weighs s p (Some h) = (weight_at s p ≡ op_of h.1 h.0 (fold h.1 s (inner p))) × (light_at s p ≡ (leb (weight_at s p) part_weight_limit && light_all s (inner p))) × (h.0 ≤ 1)
Weighs s p None = (q : Pattern) × (inner p ≡ pcons q pnil) × (weight_at s p ≡ weight_at (other s) q) × (light_at s p ≡ light_at (other s) q)

and_three : (a b c : Bool) → ((a && b) && c) ≡ (a && (b && (c && true)))
and_three true true true = refl
and_three true true false = refl
and_three true false c = refl
and_three false b c = refl

two_times : (x y : ℕ) → x * y ≡ 1 * (x * (y * 1))
two_times x y = rw (mul-one y, one-mul (x * y))

weighs : (s : Side) (p : Pattern) → Weighs s p (head_at s (shape p))
weighs plus (head c ps) = (product_fold ps ∙ sym (one-mul (fold true plus ps)), refl, omega arith)
weighs plus (and p q) = (two_times (weight_plus p) (weight_plus q), and_three (leb (weight_at plus (and p q)) part_weight_limit) (light_at plus p) (light_at plus q), omega arith)
weighs plus (or p q) = (omega arith, and_three (leb (weight_at plus (or p q)) part_weight_limit) (light_at plus p) (light_at plus q), omega arith)
weighs plus wild = (refl, refl, omega arith)
weighs plus absurd_pat = (refl, refl, omega arith)
weighs plus (neg p) = (p, refl, refl, refl)
weighs plus (var x) = (refl, refl, omega arith)
weighs plus (range low high) = (refl, refl, omega arith)
weighs minus (head c ps) = (omega (arith, sum_fold ps), refl, omega arith)
weighs minus (and p q) = (omega arith, and_three (leb (weight_at minus (and p q)) part_weight_limit) (light_at minus p) (light_at minus q), omega arith)
weighs minus (or p q) = (two_times (weight_minus p) (weight_minus q), and_three (leb (weight_at minus (or p q)) part_weight_limit) (light_at minus p) (light_at minus q), omega arith)
weighs minus wild = (refl, refl, omega arith)
weighs minus absurd_pat = (refl, refl, omega arith)
weighs minus (neg p) = (p, refl, refl, refl)
weighs minus (var x) = (refl, refl, omega arith)
weighs minus (range low high) = (refl, refl, omega arith)

-- behind i words and some parts: what the parts that are left make of the weight so far
pub record Left (s : Side) (t ws : List ℕ) (p : Pattern) (b : Bool) (n i left : ℕ) : Type 0 where
  pub ps : Patterns
  pub front : OpensAll t (drop i ws) left ps
  pub ends : i + length (patterns_code ps) ≡ length (pattern_code p)
  pub weight : min (weight_at s p) over_weight ≡ min (op_of b n (fold b s ps)) over_weight
  pub light : light_at s p ≡ (leb (weight_at s p) part_weight_limit && light_all s ps)

module _ (s : Side) {t ws : List ℕ} (g : Opens t ws) (f : Form) (f_is : f ≡ form (get_or ws 0 0)) where
  weighs_so : (h : Option (ℕ × Bool)) → h ≡ head_at s f → Weighs s g.pattern h
  weighs_so h e = subst (Weighs s g.pattern) (ap (head_at s) (sym (shape_is g f f_is)) ∙ sym e) (weighs s g.pattern)

  own_and_inner : own_words f + length (patterns_code (inner g.pattern)) ≡ length (pattern_code g.pattern)
  own_and_inner = ap (λ x. own_words x + length (patterns_code (inner g.pattern))) (shape_is g f f_is) ∙ inner_length g.pattern

  pub start : (a k : ℕ) (b : Bool) → Some (a, b) ≡ head_at s f → k ≡ part_count t f → Left s t ws g.pattern b a (own_words f) (k - 0)
  start a k b e m =
      let w = weighs_so (Some (a, b)) e in
      record { ps = inner g.pattern; front = subst (λ x. OpensAll t (drop (own_words f) ws) x (inner g.pattern)) (omega (arith, m)) (opened g f f_is); ends = own_and_inner; weight = ap (λ x. min x over_weight) w.0; light = w.1 }

  pub start_low : (a : ℕ) (b : Bool) → Some (a, b) ≡ head_at s f → a ≤ 1
  start_low a b e = (weighs_so (Some (a, b)) e).2

  module _ (e : None ≡ head_at s f) where
    -- a not: the part behind it, at the other side
    behind : (o : Opens t (part ws (own_words f))) × (weight_at s g.pattern ≡ weight_at (other s) o.pattern) × (light_at s g.pattern ≡ light_at (other s) o.pattern) × (length (pattern_code g.pattern) ≡ own_words f + length (pattern_code o.pattern))
    behind =
        let (q, i, x, y) = weighs_so None e in
        let (o, z) = first_open (part_count t f) q pnil (subst (OpensAll t (drop (own_words f) ws) (part_count t f)) i (opened g f f_is)) in (
          to_part ws (own_words f) o,
          x ∙ ap (weight_at (other s)) (sym z),
          y ∙ ap (light_at (other s)) (sym z),
          sym own_and_inner ∙ ap (λ v. own_words f + length (patterns_code v)) i ∙ ap (λ v. own_words f + length v) (append-nil (pattern_code q)) ∙ ap (λ v. own_words f + length (pattern_code v)) (sym z),
        )

    pub behind_not : Opens t (part ws (own_words f))
    behind_not = behind.0

    swapped : (r : Option (ℕ × ℕ)) → ((o : Opens t (part ws (own_words f))) → r ≡ part_weighed (other s) o.pattern) → (b : Bool) → light_at s g.pattern ≡ b → r ≡ cond b (Some (weight_at s g.pattern, length (pattern_code behind.0.pattern))) None
    swapped r gave b q = let (o, x, y, z) = behind in gave o ∙ (rw (← y, ← x, q))

    pub swap_is : (a used : ℕ) → ((o : Opens t (part ws (own_words f))) → Some (a, used) ≡ part_weighed (other s) o.pattern) → (Some (a, own_words f + used) ≡ part_weighed s g.pattern) × (own_words f + used ≤ length ws)
    swap_is a used gave = go (light_at s g.pattern) refl
      where
        go : (b : Bool) → light_at s g.pattern ≡ b → (Some (a, own_words f + used) ≡ part_weighed s g.pattern) × (own_words f + used ≤ length ws)
        go true m =
            let (i, j) = some_pair_parts a (weight_at s g.pattern) used (length (pattern_code behind.0.pattern)) (swapped (Some (a, used)) gave true m) in
            let k : own_words f + used ≡ length (pattern_code g.pattern) = omega (arith, behind.3) in
            (rw (m, i, k), omega (arith, fits_in g))
        go false m = absurd (none-some (a, used) (sym (swapped (Some (a, used)) gave false m)))

    pub swap_heavy : ((o : Opens t (part ws (own_words f))) → None ≡ part_weighed (other s) o.pattern) → None ≡ part_weighed s g.pattern
    swap_heavy gave = go (light_at s g.pattern) refl
      where
        go : (b : Bool) → light_at s g.pattern ≡ b → None ≡ part_weighed s g.pattern
        go false m = rw m
        go true m = absurd (none-some _ (swapped None gave true m))

-- what an answer says
is_light : (s : Side) (p : Pattern) (m used : ℕ) → Some (m, used) ≡ part_weighed s p → (light_at s p ≡ true) × (m ≡ weight_at s p) × (used ≡ length (pattern_code p))
is_light s p m used e = go (light_at s p) refl
  where
    go : (b : Bool) → light_at s p ≡ b → (light_at s p ≡ true) × (m ≡ weight_at s p) × (used ≡ length (pattern_code p))
    go true l = let (x, y) = some_pair_parts m (weight_at s p) used (length (pattern_code p)) (rw l at e) in (l, x, y)
    go false l = absurd (none-some (m, used) (sym (rw l at e)))

is_heavy : (s : Side) (p : Pattern) → None ≡ part_weighed s p → light_at s p ≡ false
is_heavy s p e = go (light_at s p) refl
  where
    go : (b : Bool) → light_at s p ≡ b → light_at s p ≡ false
    go false l = l
    go true l = absurd (none-some _ (rw l at e))

light_cons : (s : Side) (p : Pattern) (ps : Patterns) → light_all s (pcons p ps) ≡ (light_at s p && light_all s ps)
light_cons plus p ps = refl
light_cons minus p ps = refl

and_no : (a b : Bool) → (a && (false && b)) ≡ false
and_no true b = refl
and_no false b = refl

-- the j-th of k parts
module _ (s : Side) {t ws : List ℕ} {p : Pattern} {b : Bool} {n i : ℕ} (k j : ℕ) (l : Left s t ws p b n i (k - j)) (below : j < k) where
  abbrev first_part : Uncons t (drop i ws) (k - j) l.ps
  first_part = uncons (k - j) l.ps (omega arith) l.front

  abbrev pub part_open : Opens t (part ws i)
  part_open = to_part ws i first_part.one

  said : (r : Option (ℕ × ℕ)) → ((o : Opens t (part ws i)) → r ≡ part_weighed s o.pattern) → r ≡ part_weighed s first_part.first
  said r gave = gave part_open ∙ ap (part_weighed s) first_part.one_is

  module _ (m used : ℕ) (gave : (o : Opens t (part ws i)) → Some (m, used) ≡ part_weighed s o.pattern) where
    pub part_le : i ≤ length ws → (m ≤ part_weight_limit) × (i + used ≤ length ws)
    part_le h =
        let (a, c, d) = is_light s first_part.first m used (said (Some (m, used)) gave) in
        let o = first_part.one in
        (rw c (light_weight s first_part.first a), omega (arith, ap (λ q. length (pattern_code q)) first_part.one_is, fits_in o, length-drop i ws, d))

    pub turn : Left s t ws p b (joined b n m) (i + used) (k - (j + 1))
    turn =
        let u = first_part in
        let (a, c, d) = is_light s u.first m used (said (Some (m, used)) gave) in
        record {
          ps = u.others;
          front = subst (λ w. OpensAll t w (k - (j + 1)) u.others) (drop-drop used i ws) (u.more used (k - (j + 1)) d (omega arith));
          ends = omega (arith, l.ends, d, ap (λ q. length (patterns_code q)) u.are, length-append (pattern_code u.first) (patterns_code u.others));
          weight = l.weight ∙ ap (λ q. min (op_of b n (fold b s q)) over_weight) u.are ∙ sat_more b n (weight_at s u.first) (fold b s u.others) ∙ ap (λ x. min (op_of b (joined b n x) (fold b s u.others)) over_weight) (sym c);
          light = l.light ∙ ap (λ q. leb (weight_at s p) part_weight_limit && light_all s q) u.are ∙ ap (λ x. leb (weight_at s p) part_weight_limit && x) (light_cons s u.first u.others ∙ ap (λ x. x && light_all s u.others) a);
        }

  pub turn_heavy : ((o : Opens t (part ws i)) → None ≡ part_weighed s o.pattern) → None ≡ part_weighed s p
  turn_heavy gave =
      let u = first_part in
      let a = is_heavy s u.first (said None gave) in
      let h : light_at s p ≡ false = l.light ∙ ap (λ q. leb (weight_at s p) part_weight_limit && light_all s q) u.are ∙ ap (λ x. leb (weight_at s p) part_weight_limit && x) (light_cons s u.first u.others ∙ ap (λ x. x && light_all s u.others) a) ∙ and_no (leb (weight_at s p) part_weight_limit) (light_all s u.others) in
      rw h

-- all parts are weighed
module _ (s : Side) {t ws : List ℕ} {p : Pattern} {b : Bool} {n i : ℕ} (k j : ℕ) (l : Left s t ws p b n i (k - j)) (done : k ≤ j) (small : n ≤ over_weight) where
  all_weighed : (min (weight_at s p) over_weight ≡ n) × (i ≡ length (pattern_code p)) × (light_at s p ≡ leb (weight_at s p) part_weight_limit)
  all_weighed =
      let e : l.ps ≡ pnil = none_open (k - j) l.ps (omega arith) l.front in (
        l.weight ∙ ap (λ q. min (op_of b n (fold b s q)) over_weight) e ∙ ap (λ x. min x over_weight) (op_unit b n) ∙ omega arith,
        omega (arith, l.ends, ap (λ q. length (patterns_code q)) e),
        l.light ∙ ap (λ q. leb (weight_at s p) part_weight_limit && light_all s q) e ∙ none_light s (leb (weight_at s p) part_weight_limit),
      )
    where
      none_light : (r : Side) (x : Bool) → (x && light_all r pnil) ≡ x
      none_light plus x = and_true x
      none_light minus x = and_true x

  pub ends_heavy : part_weight_limit < n → None ≡ part_weighed s p
  ends_heavy h =
      let (a, c, d) = all_weighed in
      rw (d, leb_no (weight_at s p) part_weight_limit (omega (arith, a)))

  pub ends_light : n ≤ part_weight_limit → Some (n, i) ≡ part_weighed s p
  ends_light h =
      let (a, c, d) = all_weighed in
      let w : n ≡ weight_at s p = omega (arith, a) in
      rw (d, leb_yes (weight_at s p) part_weight_limit (omega (arith, w)), w, c)

-- the whole pattern
pub whole_light : (p : Pattern) (n used : ℕ) → Some (n, used) ≡ part_weighed plus p → Some n ≡ weighed p
whole_light p n used e = let (a, c, d) = is_light plus p n used e in rw (a, c)

pub whole_heavy : (p : Pattern) → None ≡ part_weighed plus p → None ≡ weighed p
whole_heavy p e = rw (is_heavy plus p e)
