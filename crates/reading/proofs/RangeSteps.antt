-- What the walk over the ranges of a pattern shows.
use mathlib.Core.Path.{◌≡◌, refl, sym, ap, ap₂, ◌∙◌}
use mathlib.Core.List.{List, [], ◌∷◌, ◌++◌, append-nil}
use mathlib.Core.Bool.{Bool, true, false, ◌&&◌}
use Prim.Native.Nat.{ℕ, ◌+◌, ◌≤◌, ◌<◌}
use native.Mathlib.Omega.{arith}
use lib.Dec.{leb}
use lib.ListN.{length, drop, get_or, length-append, length-drop}
use Rattle.signature.specs.Limits.{last_level}
use Rattle.signature.specs.Signature.{Signature}
use Rattle.signature.proofs.Booleans.{and_true, and_assoc}
use Rattle.signature.proofs.Tests.{leb_yes, leb_no}
use Rattle.pattern.specs.Pattern.{Pattern, Patterns, pnil, pcons, head, and, or, wild, absurd_pat, neg, var, range, pattern_code, patterns_code}
use Rattle.pattern.specs.Range.{right_range}
use Rattle.pattern.specs.Ranged.{ranged, all_ranged}
use Rattle.pattern.specs.Read.{Form, form}
use Rattle.pattern.specs.WellFormed.{AllWellFormed, well_nil, well_cons}
use Rattle.pattern.specs.Word.{own_words}
use Rattle.pattern.proofs.Opened.{shape, inner, own_rest, code_word, some_own, inner_well}
use Rattle.pattern.proofs.PatternBack.{pattern_words}
use Rattle.pattern.proofs.ReadSteps.{part, to_end}
use Rattle.pattern.proofs.Walk.{then, then_well, front_length, front_words, front_form, behind_front}
use Rattle.reading.specs.Ranges.{Readable, right_front}

-- the ends of a range, as the code compares them
module _ (low high : ℕ) where
  pub falling_range : high < low → false ≡ right_range low high
  falling_range l = rw (leb_no low high l)

  pub rising_range : low ≤ high → leb high last_level ≡ right_range low high
  rising_range l = rw (leb_yes low high l)

-- a pattern is right where it is no wrong range itself and its parts are right
abbrev own_right : Pattern → Bool
own_right (head c ps) = true
own_right (and p q) = true
own_right (or p q) = true
own_right wild = true
own_right absurd_pat = true
own_right (neg p) = true
own_right (var x) = true
own_right (range low high) = right_range low high

by_parts : (p : Pattern) → ranged p ≡ (own_right p && all_ranged (inner p))
by_parts (head c ps) = refl
by_parts (and p q) = ap (λ b. ranged p && b) (sym (and_true (ranged q)))
by_parts (or p q) = ap (λ b. ranged p && b) (sym (and_true (ranged q)))
by_parts wild = refl
by_parts absurd_pat = refl
by_parts (neg p) = sym (and_true (ranged p))
by_parts (var x) = refl
by_parts (range low high) = sym (and_true (right_range low high))

then_ranged : (ps qs : Patterns) → all_ranged (then ps qs) ≡ (all_ranged ps && all_ranged qs)
then_ranged pnil qs = refl
then_ranged (pcons p ps) qs = ap (λ b. ranged p && b) (then_ranged ps qs) ∙ and_assoc (ranged p) (all_ranged ps) (all_ranged qs)

all_by_parts : (p : Pattern) (ps : Patterns) → (ranged p && all_ranged ps) ≡ (own_right p && all_ranged (then (inner p) ps))
all_by_parts p ps = ap (λ b. b && all_ranged ps) (by_parts p) ∙ sym (and_assoc (own_right p) (all_ranged (inner p)) (all_ranged ps)) ∙ ap (λ b. own_right p && b) (sym (then_ranged (inner p) ps))

front_is : (p : Pattern) (us : List ℕ) → right_front (shape p) (code_word p ∷ (own_rest p ++ us)) ≡ own_right p
unfolding code_word
front_is (head c ps) us = refl
front_is (and p q) us = refl
front_is (or p q) us = refl
front_is wild us = refl
front_is absurd_pat us = refl
front_is (neg p) us = refl
front_is (var x) us = refl
front_is (range low high) us = refl

-- patterns stand from `at` on to the end, and the whole is right where they are
pub record Walked (sig : Signature) (ws : List ℕ) (p : Pattern) (at : ℕ) : Type 0 where
  pub kinds : List ℕ
  pub patterns : Patterns
  pub well : AllWellFormed sig kinds patterns
  pub words : drop at ws ≡ patterns_code patterns ++ []
  pub so : ranged p ≡ all_ranged patterns

pub walk_start : {ws : List ℕ} (g : Readable ws) → Walked g.sig ws g.pattern 0
walk_start {ws} g =
    let w = pattern_words g.sig ws g.pattern g.read in
    record {
      kinds = 0 ∷ [];
      patterns = pcons g.pattern pnil;
      well = well_cons w.well_formed well_nil;
      words = sym w.is_code ∙ sym (append-nil (pattern_code g.pattern)) ∙ sym (append-nil (pattern_code g.pattern ++ []));
      so = sym (and_true (ranged g.pattern));
    }

pub walk_end : {sig : Signature} {ws : List ℕ} {p : Pattern} {at : ℕ} → length ws ≤ at → Walked sig ws p at → true ≡ ranged p
walk_end {sig} {ws} {p} {at} l w = go w.well w.words w.so
  where
    go : {ks : List ℕ} {ps : Patterns} → AllWellFormed sig ks ps → drop at ws ≡ patterns_code ps ++ [] → ranged p ≡ all_ranged ps → true ≡ ranged p
    go well_nil d e = sym e
    go (well_cons {p = q} {ps = qs} s u) d e = absurd (omega (arith, front_length q qs, ap length d, length-append (pattern_code q ++ patterns_code qs) [], length-drop at ws, some_own (shape q)))

-- the pattern at the front
pub record Front (sig : Signature) (ws : List ℕ) (p : Pattern) (at : ℕ) (f : Form) : Type 0 where
  pub long : own_words f ≤ length (part ws at)
  pub wrong : right_front f (part ws at) ≡ false → false ≡ ranged p
  pub inside : at + own_words f ≤ length ws
  pub next : right_front f (part ws at) ≡ true → Walked sig ws p (at + own_words f)

pub walk_front : {sig : Signature} {ws : List ℕ} {p : Pattern} {at : ℕ} (f : Form) → f ≡ form (get_or ws at 0) → at < length ws → Walked sig ws p at → Front sig ws p at f
walk_front {sig} {ws} {p} {at} f i l w = go w.well w.words w.so
  where
    go : {ks : List ℕ} {ps : Patterns} → AllWellFormed sig ks ps → drop at ws ≡ patterns_code ps ++ [] → ranged p ≡ all_ranged ps → Front sig ws p at f
    go well_nil d e = absurd (omega (arith, ap length d, length-drop at ws))
    go (well_cons {ks = ks} {p = q} {ps = qs} s u) d e =
        let (js, v) = inner_well sig s in
        let is : f ≡ shape q = i ∙ front_form q qs ws [] at d s in
        let own : own_words f ≡ own_words (shape q) = ap own_words is in
        let right : right_front f (part ws at) ≡ own_right q = ap₂ right_front is (to_end ws at ∙ front_words q qs ws [] at d) ∙ front_is q (patterns_code (then (inner q) qs) ++ []) in
        let so : ranged p ≡ (own_right q && all_ranged (then (inner q) qs)) = e ∙ all_by_parts q qs in
        let all : own_words f ≤ length (drop at ws) = omega (arith, own, front_length q qs, ap length d, length-append (pattern_code q ++ patterns_code qs) []) in
        record {
          long = omega (arith, ap length (to_end ws at));
          wrong = λ h. sym (so ∙ ap (λ b. b && all_ranged (then (inner q) qs)) (sym right ∙ h));
          inside = omega (arith, length-drop at ws);
          next = λ h. record {
            kinds = js ++ ks;
            patterns = then (inner q) qs;
            well = then_well v u;
            words = ap (λ n. drop (at + n) ws) own ∙ behind_front q qs ws [] at d;
            so = so ∙ ap (λ b. b && all_ranged (then (inner q) qs)) (sym right ∙ h);
          };
        }
