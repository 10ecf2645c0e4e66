-- How many patterns are left, and where they end.
use mathlib.Core.Path.{◌≡◌, refl, sym, ap, ◌∙◌}
use mathlib.Core.List.{List, [], ◌∷◌, ◌++◌, append-nil}
use Prim.Native.Nat.{ℕ, ◌+◌, ◌-◌, ◌≤◌, ◌<◌}
use native.Mathlib.Omega.{arith}
use lib.ListN.{length, drop, get_or, length-append}
use Rattle.signature.specs.Decoded.{Known}
use Rattle.signature.specs.Signature.{Signature}
use Rattle.pattern.specs.Given.{Opens}
use Rattle.pattern.specs.Pattern.{Patterns, pnil, pcons, pattern_code, patterns_code}
use Rattle.pattern.specs.Read.{Form, form}
use Rattle.pattern.specs.WellFormed.{AllWellFormed, well_nil, well_cons}
use Rattle.pattern.specs.Word.{own_words, part_count}
use Rattle.pattern.proofs.Opened.{shape, inner, kind_count, inner_well, inner_count}
use Rattle.pattern.proofs.PatternBack.{some_pattern_word}
use Rattle.pattern.proofs.Walk.{then, then_well, front_form, front_length, behind_front}

module _ (sig : Signature) where
  -- each pattern has a word
  kinds_length : {ks : List ℕ} {ps : Patterns} → AllWellFormed sig ks ps → length ks ≤ length (patterns_code ps)
  kinds_length well_nil = omega arith
  kinds_length (well_cons {p = p} {ps = ps} h q) = omega (arith, kinds_length q, some_pattern_word p, length-append (pattern_code p) (patterns_code ps))

-- `left` patterns stand from `at` on, and end at n
pub record Left (sig : Signature) (ws : List ℕ) (n left at : ℕ) : Type 0 where
  pub kinds : List ℕ
  pub patterns : Patterns
  pub rest : List ℕ
  pub well : AllWellFormed sig kinds patterns
  pub words : drop at ws ≡ patterns_code patterns ++ rest
  pub many : length kinds ≡ left
  pub ends : at + length (patterns_code patterns) ≡ n
  pub inside : n ≤ length ws

pub left_start : {t ws : List ℕ} (o : Opens t ws) → Left o.known.sig ws (length (pattern_code o.pattern)) 1 0
left_start {t} {ws} o = record {
  kinds = o.kind ∷ [];
  patterns = pcons o.pattern pnil;
  rest = o.rest;
  well = well_cons o.well well_nil;
  words = rw (append-nil (pattern_code o.pattern)) o.words;
  many = refl;
  ends = rw (append-nil (pattern_code o.pattern)) (omega arith);
  inside = omega (arith, ap length o.words, length-append (pattern_code o.pattern) o.rest);
}

pub left_done : {sig : Signature} {ws : List ℕ} {n left at : ℕ} → left ≤ 0 → Left sig ws n left at → at ≡ n
left_done {sig} {ws} {n} {left} {at} h l = go l.well l.many l.ends
  where
    go : {ks : List ℕ} {ps : Patterns} → AllWellFormed sig ks ps → length ks ≡ left → at + length (patterns_code ps) ≡ n → at ≡ n
    go well_nil m e = omega arith
    go (well_cons p q) m e = absurd (omega arith)

-- the pattern at the front, and what is left behind the words of its own
pub record Next (t : List ℕ) (sig : Signature) (ws : List ℕ) (n left at : ℕ) (f : Form) : Type 0 where
  pub below : at + own_words f ≤ n
  pub within : n ≤ length ws
  pub next : Left sig ws n (left - 1 + part_count t f) (at + own_words f)
  pub few : left - 1 + part_count t f ≤ length ws

pub left_next : {t ws : List ℕ} {n left at : ℕ} (g : Known t) (f : Form) → f ≡ form (get_or ws at 0) → 0 < left → Left g.sig ws n left at → Next t g.sig ws n left at f
left_next {t} {ws} {n} {left} {at} g f i h l = go l.well l.words l.many l.ends
  where
    go : {ks : List ℕ} {ps : Patterns} → AllWellFormed g.sig ks ps → drop at ws ≡ patterns_code ps ++ l.rest → length ks ≡ left → at + length (patterns_code ps) ≡ n → Next t g.sig ws n left at f
    go well_nil d m e = absurd (omega arith)
    go (well_cons {k = k} {ks = ks} {p = p} {ps = ps} s u) d m e =
        let (js, v) = inner_well g.sig s in
        let is : f ≡ shape p = i ∙ front_form p ps ws l.rest at d s in
        let own : own_words f ≡ own_words (shape p) = ap own_words is in
        let count : length js ≡ part_count t f = sym (kind_count g.sig v) ∙ inner_count g s ∙ ap (part_count t) (sym is) in
        let wells = then_well v u in
        let more : length (js ++ ks) ≡ left - 1 + part_count t f = omega (arith, length-append js ks, count, m) in
        let sum : at + own_words f + length (patterns_code (then (inner p) ps)) ≡ n = omega (arith, e, own, front_length p ps) in
        record {
          below = omega (arith, sum);
          within = l.inside;
          next = record {
            kinds = js ++ ks;
            patterns = then (inner p) ps;
            rest = l.rest;
            well = wells;
            words = ap (λ m. drop (at + m) ws) own ∙ behind_front p ps ws l.rest at d;
            many = more;
            ends = sum;
            inside = l.inside;
          };
          few = omega (arith, more, kinds_length g.sig wells, l.inside, sum);
        }
