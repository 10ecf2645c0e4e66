-- Values that stand one after another, their words taken off one by one.
use mathlib.Core.Path.{◌≡◌, refl, sym, ap, ◌∙◌}
use mathlib.Core.List.{List, [], ◌∷◌, ◌++◌, append_assoc, append-nil}
use Prim.Native.Nat.{ℕ, ◌+◌, ◌-◌, ◌≤◌, ◌<◌}
use native.Mathlib.Nat.{add-zero}
use native.Mathlib.Omega.{arith}
use lib.ListN.{length, drop, get_or, length-append}
use lib.Seq.{drop-drop, get_or-drop}
use Rattle.signature.specs.Decoded.{Known, Starts, head_arity}
use Rattle.signature.specs.Limits.{level_base}
use Rattle.signature.specs.Lawful.{of_kind, OfKinds, of_kinds_nil, of_kinds_cons}
use Rattle.signature.specs.Signature.{Signature}
use Rattle.signature.specs.Value.{Values, vnil, vcons, code, codes, size, sizes}
use Rattle.signature.proofs.KnownFacts.{head_arity_is, is_constructor}
use Rattle.signature.proofs.Values.{length_code, some_size}

abbrev then : Values → Values → Values
then vnil us = us
then (vcons v vs) us = vcons v (then vs us)

then_codes : (vs us : Values) → codes (then vs us) ≡ codes vs ++ codes us
then_codes vnil us = refl
then_codes (vcons v vs) us = rw (then_codes vs us, append_assoc (code v) (codes vs) (codes us))

then_sizes : (vs us : Values) → sizes (then vs us) ≡ sizes vs + sizes us
then_sizes vnil us = omega arith
then_sizes (vcons v vs) us = omega (arith, then_sizes vs us)

module _ (sig : Signature) where
  then_kinds : {ks js : List ℕ} {vs us : Values} → OfKinds sig ks vs → OfKinds sig js us → OfKinds sig (ks ++ js) (then vs us)
  then_kinds of_kinds_nil q = q
  then_kinds (of_kinds_cons h p) q = of_kinds_cons h (then_kinds p q)

  -- each value has a word
  kinds_sizes : {ks : List ℕ} {vs : Values} → OfKinds sig ks vs → length ks ≤ sizes vs
  kinds_sizes of_kinds_nil = omega arith
  kinds_sizes (of_kinds_cons {v = v} h p) = omega (arith, kinds_sizes p, some_size v)

-- `left` values stand from `at` on, and end at n
pub record Left (sig : Signature) (b : List ℕ) (n left at : ℕ) : Type 0 where
  pub kinds : List ℕ
  pub values : Values
  pub rest : List ℕ
  pub kinded : OfKinds sig kinds values
  pub words : drop at b ≡ codes values ++ rest
  pub many : length kinds ≡ left
  pub ends : at + sizes values ≡ n
  pub inside : n ≤ length b

pub left_start : {t b : List ℕ} (s : Starts t b) → Left s.known.sig b (size s.value) 1 0
left_start {t} {b} s = record {
  kinds = s.kind ∷ [];
  values = vcons s.value vnil;
  rest = s.rest;
  kinded = of_kinds_cons s.kinded of_kinds_nil;
  words = rw (append-nil (code s.value)) s.words;
  many = refl;
  ends = omega arith;
  inside = omega (arith, ap length s.words, length-append (code s.value) s.rest, length_code s.value);
}

pub left_done : {sig : Signature} {b : List ℕ} {n left at : ℕ} → left ≤ 0 → Left sig b n left at → at ≡ n
left_done {sig} {b} {n} {left} {at} h l = go l.kinded l.many l.ends
  where
    go : {ks : List ℕ} {vs : Values} → OfKinds sig ks vs → length ks ≡ left → at + sizes vs ≡ n → at ≡ n
    go of_kinds_nil m e = omega arith
    go (of_kinds_cons p q) m e = absurd (omega arith)

-- the word at the front, and what is left behind it
pub record Next (t : List ℕ) (sig : Signature) (b : List ℕ) (n left at : ℕ) : Type 0 where
  pub below : at < n
  pub within : n ≤ length b
  pub constructor : get_or b at 0 < level_base → get_or b at 0 < length sig
  pub next : Left sig b n (left - 1 + head_arity t (get_or b at 0)) (at + 1)
  pub few : left - 1 + head_arity t (get_or b at 0) ≤ length b

pub left_next : {t b : List ℕ} {n left at : ℕ} (g : Known t) → 0 < left → Left g.sig b n left at → Next t g.sig b n left at
left_next {t} {b} {n} {left} {at} g h l = go l.kinded l.words l.many l.ends
  where
    go : {ks : List ℕ} {vs : Values} → OfKinds g.sig ks vs → drop at b ≡ codes vs ++ l.rest → length ks ≡ left → at + sizes vs ≡ n → Next t g.sig b n left at
    go of_kinds_nil d m e = absurd (omega arith)
    go (of_kinds_cons {k = k} {ks = ks} {vs = vs} (of_kind {c = c} {ks = js} {vs = us} a p) q) d m e =
        let all : drop at b ≡ c ∷ ((codes us ++ codes vs) ++ l.rest) = d in
        let word : get_or b at 0 ≡ c = ap (λ i. get_or b i 0) (sym (add-zero at)) ∙ sym (get_or-drop at b 0 0) ∙ ap (λ x. get_or x 0 0) all in
        let arity : head_arity t c ≡ length js = head_arity_is g k c js a in
        let kinds = then_kinds g.sig p q in
        let more : length (js ++ ks) ≡ left - 1 + head_arity t c = omega (arith, length-append js ks) in
        let sum : at + 1 + sizes (then us vs) ≡ n = omega (arith, then_sizes us vs) in
        record {
          below = omega arith;
          within = l.inside;
          constructor = λ l. rw word (is_constructor g k c js (rw word at l) a);
          next = rw word (record {
            kinds = js ++ ks;
            values = then us vs;
            rest = l.rest;
            kinded = kinds;
            words = sym (drop-drop 1 at b) ∙ ap (drop 1) all ∙ ap (λ x. x ++ l.rest) (sym (then_codes us vs));
            many = more;
            ends = sum;
            inside = l.inside;
          });
          few = rw word (omega (arith, more, kinds_sizes g.sig kinds, l.inside, sum));
        }
