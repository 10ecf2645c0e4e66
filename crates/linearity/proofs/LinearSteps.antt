-- What the steps of the check of linearity show, at either side.
use Rattle.std.specs.Prelude.{Option, None, Some, is_some}
use mathlib.Core.Path.{◌≡◌, refl, sym, ap, ap₂, subst, ◌∙◌}
use mathlib.Core.List.{List, [], ◌∷◌, ◌++◌, append_assoc, append-nil}
use mathlib.Core.Bool.{Bool, true, false, ◌&&◌, not, ◌||◌}
use Prim.Native.Nat.{ℕ, suc, ◌+◌, ◌-◌, ◌≤◌, ◌<◌, max}
use native.Mathlib.Numerals.{add-one}
use native.Mathlib.Omega.{arith}
use lib.ListN.{length, drop, get_or, length-append, length-drop}
use lib.Seq.{drop-drop}
use Rattle.signature.specs.Lists.{memb, is_empty}
use Rattle.sets.specs.Set.{bit}
use Rattle.signature.proofs.Booleans.{and_true}
use Rattle.signature.proofs.Members.{memb_append}
use Rattle.pattern.specs.Given.{Opens}
use Rattle.pattern.specs.Linear.{E, O, E_all, O_all, linear_plus, linear_minus, all_plus, all_minus, disjoint, same_set}
use Rattle.pattern.specs.Linearity.{vars_at, behind}
use Rattle.linearity.specs.Linearity.{linear_at, Holds, Judged, joint_at, joins, own_vars}
use Rattle.pattern.specs.Pattern.{Pattern, Patterns, pnil, pcons, head, and, or, wild, absurd_pat, neg, var, range, pattern_code, patterns_code}
use Rattle.pattern.specs.Read.{Form, form}
use Rattle.pattern.specs.Side.{Side, plus, minus}
use Rattle.pattern.specs.Word.{own_words, part_count}
use Rattle.linearity.specs.declared.linear.Joint.{Joint}
use Rattle.linearity.specs.declared.linear.Joint.TheVariants.{Apart, Bare}
use Rattle.pattern.proofs.Opened.{shape, inner, inner_length, OpensAll, Uncons, uncons, none_open, opened, shape_is, fits_in, to_part}
use Rattle.pattern.proofs.ReadSteps.{part}
use Rattle.linearity.proofs.VarSets.{holds_join, holds_same}

-- the parts from the j-th on, after the variables xs of those before
abbrev linear_from : Side → Joint → ℕ → List ℕ → Patterns → Bool
linear_from s jt j xs pnil = true
linear_from s jt j xs (pcons p ps) = linear_at s p && (joins jt j xs (vars_at s p) && linear_from s jt (suc j) (xs ++ vars_at s p) ps)

abbrev gathered : Side → List ℕ → Patterns → List ℕ
gathered s xs pnil = xs
gathered s xs (pcons p ps) = gathered s (xs ++ vars_at s p) ps

-- booleans in the order of the code
and_three : (a b c : Bool) → ((a && b) && c) ≡ (a && (b && (c && true)))
and_three true true c = sym (and_true c)
and_three true false c = refl
and_three false b c = refl

and_last : (a b c : Bool) → ((a && b) && c) ≡ (a && (c && b))
and_last true true true = refl
and_last true true false = refl
and_last true false true = refl
and_last true false false = refl
and_last false b c = refl

and_mix : (a b c d e : Bool) → (a && (d && (b && (e && c)))) ≡ (((a && b) && c) && (d && e))
and_mix true true true true true = refl
and_mix true true true true false = refl
and_mix true true true false e = refl
and_mix true true false true true = refl
and_mix true true false true false = refl
and_mix true true false false e = refl
and_mix true false c true e = refl
and_mix true false c false e = refl
and_mix false b c d e = refl

-- disjoint from two lists
not_either : (a b : Bool) → not (a || b) ≡ (not a && not b)
not_either true b = refl
not_either false b = refl

and_swap : (a b c d : Bool) → ((a && b) && (c && d)) ≡ ((a && c) && (b && d))
and_swap true true c d = refl
and_swap true false true d = refl
and_swap true false false d = refl
and_swap false b c d = refl

disjoint_left : (xs ys zs : List ℕ) → disjoint (xs ++ ys) zs ≡ (disjoint xs zs && disjoint ys zs)
disjoint_left [] ys zs = refl
disjoint_left (x ∷ xs) ys zs = ap (λ b. not (memb x zs) && b) (disjoint_left xs ys zs) ∙ go (not (memb x zs))
  where
    go : (a : Bool) → (a && (disjoint xs zs && disjoint ys zs)) ≡ ((a && disjoint xs zs) && disjoint ys zs)
    go true = refl
    go false = refl

disjoint_right : (xs ys zs : List ℕ) → disjoint xs (ys ++ zs) ≡ (disjoint xs ys && disjoint xs zs)
disjoint_right [] ys zs = refl
disjoint_right (x ∷ xs) ys zs =
    ap₂ ◌&&◌ (ap not (memb_append x ys zs) ∙ not_either (memb x ys) (memb x zs)) (disjoint_right xs ys zs)
    ∙ and_swap (not (memb x ys)) (not (memb x zs)) (disjoint xs ys) (disjoint xs zs)

-- the arguments of a constructor
plus_from : (ps : Patterns) (j : ℕ) (xs : List ℕ) → linear_from plus Apart j xs ps ≡ (all_plus ps && disjoint xs (E_all ps))
plus_from pnil j xs = sym (disjoint_none xs)
  where
    disjoint_none : (ys : List ℕ) → disjoint ys [] ≡ true
    disjoint_none [] = refl
    disjoint_none (y ∷ ys) = disjoint_none ys
plus_from (pcons p ps) j xs =
    ap (λ b. linear_plus p && (disjoint xs (E p) && b)) (plus_from ps (suc j) (xs ++ E p) ∙ ap (λ b. all_plus ps && b) (disjoint_left xs (E p) (E_all ps)))
    ∙ and_mix (linear_plus p) (all_plus ps) (disjoint (E p) (E_all ps)) (disjoint xs (E p)) (disjoint xs (E_all ps))
    ∙ ap (λ b. ((linear_plus p && all_plus ps) && disjoint (E p) (E_all ps)) && b) (sym (disjoint_right xs (E p) (E_all ps)))

minus_from : (ps : Patterns) (j : ℕ) (xs : List ℕ) → linear_from minus Bare j xs ps ≡ all_minus ps
minus_from pnil j xs = refl
minus_from (pcons p ps) j xs =
    ap (λ b. linear_minus p && (is_empty (O p) && b)) (minus_from ps (suc j) (xs ++ O p)) ∙ sym (and_last (linear_minus p) (all_minus ps) (is_empty (O p)))

gathered_plus : (ps : Patterns) (xs : List ℕ) → gathered plus xs ps ≡ xs ++ E_all ps
gathered_plus pnil xs = sym (append-nil xs)
gathered_plus (pcons p ps) xs = gathered_plus ps (xs ++ E p) ∙ append_assoc xs (E p) (E_all ps)

gathered_minus : (ps : Patterns) (xs : List ℕ) → gathered minus xs ps ≡ xs ++ O_all ps
gathered_minus pnil xs = sym (append-nil xs)
gathered_minus (pcons p ps) xs = gathered_minus ps (xs ++ O p) ∙ append_assoc xs (O p) (O_all ps)

-- a pattern by its first word
abbrev ByWord : Side → Pattern → Form → Type 0
ByWord s p f = (linear_at s p ≡ linear_from (behind f s) (joint_at s f) 0 (own_vars s f) (inner p)) × (vars_at s p ≡ gathered (behind f s) (own_vars s f) (inner p))

by_word : (s : Side) (p : Pattern) → ByWord s p (shape p)
by_word plus (head c ps) = (sym (plus_from ps 0 [] ∙ and_true (all_plus ps)), sym (gathered_plus ps []))
by_word plus (and p q) = (and_three (linear_plus p) (linear_plus q) (disjoint (E p) (E q)), refl)
by_word plus (or p q) = (and_three (linear_plus p) (linear_plus q) (same_set (E p) (E q)), refl)
by_word plus wild = (refl, refl)
by_word plus absurd_pat = (refl, refl)
by_word plus (neg p) = (sym (and_true (linear_minus p)), refl)
by_word plus (var x) = (refl, refl)
by_word plus (range low high) = (refl, refl)
by_word minus (head c ps) = (sym (minus_from ps 0 []), sym (gathered_minus ps []))
by_word minus (and p q) = (and_three (linear_minus p) (linear_minus q) (same_set (O p) (O q)), refl)
by_word minus (or p q) = (and_three (linear_minus p) (linear_minus q) (disjoint (O p) (O q)), refl)
by_word minus wild = (refl, refl)
by_word minus absurd_pat = (refl, refl)
by_word minus (neg p) = (sym (and_true (linear_plus p)), refl)
by_word minus (var x) = (refl, refl)
by_word minus (range low high) = (refl, refl)

-- behind i words and j parts, with their variables in `set`
pub record Left (s : Side) (t ws : List ℕ) (p : Pattern) (s' : Side) (jt : Joint) (set i left j : ℕ) : Type 0 where
  pub xs : List ℕ
  pub ps : Patterns
  pub front : OpensAll t (drop i ws) left ps
  pub ends : i + length (patterns_code ps) ≡ length (pattern_code p)
  pub holds : Holds set xs
  pub linear : linear_at s p ≡ linear_from s' jt j xs ps
  pub vars : vars_at s p ≡ gathered s' xs ps

pub start : (s : Side) {t ws : List ℕ} (g : Opens t ws) (f : Form) → f ≡ form (get_or ws 0 0) → (s' : Side) (jt : Joint) (set k : ℕ) → s' ≡ behind f s → jt ≡ joint_at s f → Holds set (own_vars s f) → k ≡ part_count t f → Left s t ws g.pattern s' jt set (own_words f) (k - 0) 0
start s {t} {ws} g f f_is s' jt set k a b h m =
    let w = subst (ByWord s g.pattern) (sym (shape_is g f f_is)) (by_word s g.pattern) in
    record {
      xs = own_vars s f;
      ps = inner g.pattern;
      front = subst (λ x. OpensAll t (drop (own_words f) ws) x (inner g.pattern)) (omega (arith, m)) (opened g f f_is);
      ends = ap (λ x. own_words x + length (patterns_code (inner g.pattern))) (shape_is g f f_is) ∙ inner_length g.pattern;
      holds = h;
      linear = rw (a, b) w.0;
      vars = rw a w.1;
    }

-- the j-th of k parts
module _ (s : Side) {t ws : List ℕ} {p : Pattern} {s' : Side} {jt : Joint} {set i : ℕ} (k j : ℕ) (l : Left s t ws p s' jt set i (k - j) j) (below : j < k) where
  abbrev first_part : Uncons t (drop i ws) (k - j) l.ps
  first_part = uncons (k - j) l.ps (omega arith) l.front

  abbrev pub part_open : Opens t (part ws i)
  part_open = to_part ws i first_part.one

  opened_so : linear_at s p ≡ linear_from s' jt j l.xs (pcons first_part.first first_part.others)
  opened_so = l.linear ∙ ap (linear_from s' jt j l.xs) first_part.are

  module _ (r : Option (ℕ × ℕ)) (gave : (o : Opens t (part ws i)) → Judged s' o.pattern r) where
    said : Judged s' first_part.first r
    said = subst (λ q. Judged s' q r) first_part.one_is (gave part_open)

  pub turn_not : ((o : Opens t (part ws i)) → Judged s' o.pattern None) → Judged s p None
  turn_not gave = let h : linear_at s' first_part.first ≡ false = said None gave in opened_so ∙ (rw h)

  module _ (m used : ℕ) (gave : (o : Opens t (part ws i)) → Judged s' o.pattern (Some (m, used))) where
    so : Judged s' first_part.first (Some (m, used))
    so = said (Some (m, used)) gave

    pub part_le : i ≤ length ws → i + used ≤ length ws
    part_le h = omega (arith, ap (λ q. length (pattern_code q)) first_part.one_is, fits_in first_part.one, length-drop i ws, so.2)

    module _ (b : Bool) (goes : (xs ys : List ℕ) → Holds set xs → Holds m ys → b ≡ joins jt j xs ys) where
      test : b ≡ joins jt j l.xs (vars_at s' first_part.first)
      test = goes l.xs (vars_at s' first_part.first) l.holds so.1

      pub turn_joint : b ≡ false → Judged s p None
      turn_joint h = let q : joins jt j l.xs (vars_at s' first_part.first) ≡ false = sym test ∙ h in opened_so ∙ (rw (so.0, q))

      pub turn : (v : ℕ) → b ≡ true → ((x : ℕ) → bit v x ≡ max (bit set x) (bit m x)) → Left s t ws p s' jt v (i + used) (k - (j + 1)) (j + 1)
      turn v h bits =
          let u = first_part in
          let q : joins jt j l.xs (vars_at s' u.first) ≡ true = sym test ∙ h in
          record {
            xs = l.xs ++ vars_at s' u.first;
            ps = u.others;
            front = subst (λ w. OpensAll t w (k - (j + 1)) u.others) (drop-drop used i ws) (u.more used (k - (j + 1)) so.2 (omega arith));
            ends = omega (arith, l.ends, so.2, ap (λ z. length (patterns_code z)) u.are, length-append (pattern_code u.first) (patterns_code u.others));
            holds = holds_join v set m l.xs (vars_at s' u.first) bits l.holds so.1;
            linear = opened_so ∙ (rw (so.0, q, add-one j));
            vars = l.vars ∙ ap (gathered s' l.xs) u.are;
          }

-- no part is left
pub ends_linear : (s : Side) {t ws : List ℕ} {p : Pattern} {s' : Side} {jt : Joint} {set i : ℕ} (k j : ℕ) → Left s t ws p s' jt set i (k - j) j → k ≤ j → Judged s p (Some (set, i))
ends_linear s {t} {ws} {p} {s'} {jt} {set} {i} k j l h =
    let e : l.ps ≡ pnil = none_open (k - j) l.ps (omega arith) l.front in (
      l.linear ∙ ap (linear_from s' jt j l.xs) e,
      holds_same set l.xs (vars_at s p) l.holds (λ x. ap (memb x) (l.vars ∙ ap (gathered s' l.xs) e)),
      omega (arith, l.ends, ap (λ z. length (patterns_code z)) e),
    )

-- the whole pattern
pub whole_told : (p : Pattern) (r : Option (ℕ × ℕ)) → Judged plus p r → is_some r ≡ linear_plus p
whole_told p (Some r) h = sym h.0
whole_told p None h = sym h
