-- A pattern at the front of some words: its first word, and the patterns behind it.
use mathlib.Core.Path.{◌≡◌, refl, sym, ap, ◌∙◌}
use mathlib.Core.List.{List, [], ◌∷◌, ◌++◌, append_assoc, append-nil}
use mathlib.Core.Option.{some}
use Prim.Native.Nat.{ℕ, suc, ◌+◌, ◌-◌, ◌≤◌, ◌<◌}
use native.Mathlib.Omega.{arith}
use lib.ListN.{length, drop, get_or, length-append}
use lib.Seq.{drop_at}
use Rattle.signature.specs.Decoded.{Known, arity_of}
use Rattle.signature.specs.Signature.{Signature, arguments_at}
use Rattle.signature.proofs.Heads.{args_same}
use Rattle.signature.proofs.KnownFacts.{arity_is, is_constructor}
use Rattle.pattern.specs.Given.{Patterned, Opens}
use Rattle.pattern.specs.Limits.{range_word}
use Rattle.pattern.specs.Pattern.{Pattern, Patterns, pnil, pcons, head, and, or, wild, absurd_pat, neg, var, range, pattern_code, patterns_code}
use Rattle.pattern.specs.Read.{Form, is_head, is_var, is_and, is_or, is_wild, is_absurd, is_not, is_range, is_other, form}
use Rattle.pattern.specs.WellFormed.{WellFormed, AllWellFormed, well_head, well_and, well_or, well_not, well_wild, well_absurd, well_var, well_range, well_nil, well_cons}
use Rattle.pattern.specs.Word.{own_words, part_count}
use Rattle.pattern.proofs.Forms.{form_head, form_var}
use Rattle.pattern.proofs.PatternBack.{some_pattern_word, pattern_words}
use Rattle.pattern.proofs.ReadSteps.{part, to_end}

-- what the first word is
abbrev pub shape : Pattern → Form
shape (head c ps) = is_head c
shape (and p q) = is_and
shape (or p q) = is_or
shape wild = is_wild
shape absurd_pat = is_absurd
shape (neg p) = is_not
shape (var x) = is_var x
shape (range low high) = is_range

-- the patterns behind the words of its own
abbrev pub inner : Pattern → Patterns
inner (head c ps) = ps
inner (and p q) = pcons p (pcons q pnil)
inner (or p q) = pcons p (pcons q pnil)
inner wild = pnil
inner absurd_pat = pnil
inner (neg p) = pcons p pnil
inner (var x) = pnil
inner (range low high) = pnil

-- the words of its own behind the first one
abbrev pub own_rest : Pattern → List ℕ
own_rest (head c ps) = []
own_rest (and p q) = []
own_rest (or p q) = []
own_rest wild = []
own_rest absurd_pat = []
own_rest (neg p) = []
own_rest (var x) = []
own_rest (range low high) = low ∷ (high ∷ [])

abbrev pub count : Patterns → ℕ
count pnil = 0
count (pcons p ps) = suc (count ps)

-- the words begin with these patterns, n of them
pub record OpensAll (t ws : List ℕ) (n : ℕ) (ps : Patterns) : Type 0 where
  pub known : Known t
  pub kinds : List ℕ
  pub well : AllWellFormed known.sig kinds ps
  pub rest : List ℕ
  pub words : ws ≡ patterns_code ps ++ rest
  pub many : count ps ≡ n

unfoldable pub code_word : Pattern → ℕ
code_word (head c ps) = c
code_word (and p q) = 256
code_word (or p q) = 257
code_word wild = 258
code_word absurd_pat = 259
code_word (neg p) = 260
code_word (var x) = 261 + x
code_word (range low high) = range_word

pub code_split : (p : Pattern) → pattern_code p ≡ code_word p ∷ (own_rest p ++ patterns_code (inner p))
unfolding code_word
code_split (head c ps) = refl
code_split (and p q) = ap (λ z. 256 ∷ (pattern_code p ++ z)) (sym (append-nil (pattern_code q)))
code_split (or p q) = ap (λ z. 257 ∷ (pattern_code p ++ z)) (sym (append-nil (pattern_code q)))
code_split wild = refl
code_split absurd_pat = refl
code_split (neg p) = ap (λ z. 260 ∷ z) (sym (append-nil (pattern_code p)))
code_split (var x) = refl
code_split (range low high) = refl

-- how many words are its own
pub some_own : (f : Form) → 1 ≤ own_words f
some_own (is_head c) = omega arith
some_own (is_var x) = omega arith
some_own is_and = omega arith
some_own is_or = omega arith
some_own is_wild = omega arith
some_own is_absurd = omega arith
some_own is_not = omega arith
some_own is_range = omega arith
some_own is_other = omega arith

pub behind_own : (p : Pattern) (w : ℕ) (us : List ℕ) → drop (own_words (shape p)) (w ∷ (own_rest p ++ us)) ≡ us
behind_own (head c ps) w us = refl
behind_own (and p q) w us = refl
behind_own (or p q) w us = refl
behind_own wild w us = refl
behind_own absurd_pat w us = refl
behind_own (neg p) w us = refl
behind_own (var x) w us = refl
behind_own (range low high) w us = refl

pub own_length : (p : Pattern) → own_words (shape p) ≡ 1 + length (own_rest p)
own_length (head c ps) = refl
own_length (and p q) = refl
own_length (or p q) = refl
own_length wild = refl
own_length absurd_pat = refl
own_length (neg p) = refl
own_length (var x) = refl
own_length (range low high) = refl

pub inner_length : (p : Pattern) → own_words (shape p) + length (patterns_code (inner p)) ≡ length (pattern_code p)
inner_length p = omega (arith, own_length p, ap length (code_split p), length-append (own_rest p) (patterns_code (inner p)))

module _ (sig : Signature) where
  pub word_form : {k : ℕ} {p : Pattern} → WellFormed sig k p → form (code_word p) ≡ shape p
  unfolding code_word
  word_form (well_head {c = c} l e s) = form_head c l
  word_form (well_and s u) = refl
  word_form (well_or s u) = refl
  word_form (well_not s) = refl
  word_form well_wild = refl
  word_form well_absurd = refl
  word_form (well_range e) = refl
  word_form (well_var {x = x} l) = let back : 261 + x - 261 ≡ x = omega arith in form_var (261 + x) (omega arith) (omega arith) ∙ ap is_var back

  pub kind_count : {ks : List ℕ} {ps : Patterns} → AllWellFormed sig ks ps → count ps ≡ length ks
  kind_count well_nil = refl
  kind_count (well_cons s u) = ap suc (kind_count u)

  pub inner_well : {k : ℕ} {p : Pattern} → WellFormed sig k p → (ks : List ℕ) × AllWellFormed sig ks (inner p)
  inner_well (well_head {ks = ks} l e s) = (ks, s)
  inner_well (well_and {k = k} s u) = (k ∷ (k ∷ []), well_cons s (well_cons u well_nil))
  inner_well (well_or {k = k} s u) = (k ∷ (k ∷ []), well_cons s (well_cons u well_nil))
  inner_well (well_not {k = k} s) = (k ∷ [], well_cons s well_nil)
  inner_well well_wild = ([], well_nil)
  inner_well well_absurd = ([], well_nil)
  inner_well (well_var l) = ([], well_nil)
  inner_well (well_range e) = ([], well_nil)

-- the arguments of a constructor of a pattern, by the table
pub arity_there : {t : List ℕ} (g : Known t) (k c : ℕ) (ks : List ℕ) → c < 256 → arguments_at g.sig k c ≡ some ks → arity_of t c ≡ length ks
arity_there g k c ks l e = arity_is g c (is_constructor g k c ks (omega arith) e) ∙ ap length (args_same g.sig k c ks e)

pub inner_count : {t : List ℕ} (g : Known t) {k : ℕ} {p : Pattern} → WellFormed g.sig k p → count (inner p) ≡ part_count t (shape p)
inner_count g (well_head {k = k} {c = c} {ks = ks} l e s) = kind_count g.sig s ∙ sym (arity_there g k c ks l e)
inner_count g (well_and s u) = refl
inner_count g (well_or s u) = refl
inner_count g (well_not s) = refl
inner_count g well_wild = refl
inner_count g well_absurd = refl
inner_count g (well_var l) = refl
inner_count g (well_range e) = refl

module _ {t ws : List ℕ} (g : Opens t ws) where
  pub word_there : 0 < length ws
  word_there = omega (arith, some_pattern_word g.pattern, ap length g.words, length-append (pattern_code g.pattern) g.rest)

  pub fits_in : length (pattern_code g.pattern) ≤ length ws
  fits_in = omega (arith, ap length g.words, length-append (pattern_code g.pattern) g.rest)

  split_words : ws ≡ code_word g.pattern ∷ (own_rest g.pattern ++ (patterns_code (inner g.pattern) ++ g.rest))
  split_words = g.words ∙ ap (λ z. z ++ g.rest) (code_split g.pattern) ∙ ap (λ z. code_word g.pattern ∷ z) (append_assoc (own_rest g.pattern) (patterns_code (inner g.pattern)) g.rest)

  pub shape_is : (f : Form) → f ≡ form (get_or ws 0 0) → f ≡ shape g.pattern
  shape_is f e = e ∙ ap (λ z. form (get_or z 0 0)) split_words ∙ word_form g.known.sig g.well

  pub own_in : (f : Form) → f ≡ form (get_or ws 0 0) → own_words f ≤ length ws
  own_in f e = omega (arith, ap own_words (shape_is f e), inner_length g.pattern, fits_in)

  pub opened : (f : Form) → f ≡ form (get_or ws 0 0) → OpensAll t (drop (own_words f) ws) (part_count t f) (inner g.pattern)
  opened f e =
      let (ks, s) = inner_well g.known.sig g.well in
      record {
        known = g.known;
        kinds = ks;
        well = s;
        rest = g.rest;
        words = ap (λ n. drop (own_words n) ws) (shape_is f e) ∙ ap (drop (own_words (shape g.pattern))) split_words ∙ behind_own g.pattern (code_word g.pattern) (patterns_code (inner g.pattern) ++ g.rest);
        many = inner_count g.known g.well ∙ ap (part_count t) (sym (shape_is f e));
      }

-- none left, and one more
pub none_open : {t ws : List ℕ} (n : ℕ) (ps : Patterns) → n ≡ 0 → OpensAll t ws n ps → ps ≡ pnil
none_open n pnil h o = refl
none_open n (pcons p ps) h o = absurd (omega (arith, o.many))

pub record Uncons (t ws : List ℕ) (n : ℕ) (ps : Patterns) : Type 0 where
  pub first : Pattern
  pub others : Patterns
  pub are : ps ≡ pcons first others
  pub one : Opens t ws
  pub one_is : one.pattern ≡ first
  pub more : (m k : ℕ) → m ≡ length (pattern_code first) → suc k ≡ n → OpensAll t (drop m ws) k others

first_kind : {sig : Signature} {ks : List ℕ} {p : Pattern} {ps : Patterns} → AllWellFormed sig ks (pcons p ps) → (k : ℕ) × (js : List ℕ) × WellFormed sig k p × AllWellFormed sig js ps
first_kind (well_cons {k = k} {ks = ks} s u) = (k, ks, s, u)

pub uncons : {t ws : List ℕ} (n : ℕ) (ps : Patterns) → 0 < n → OpensAll t ws n ps → Uncons t ws n ps
uncons n pnil h o = absurd (omega (arith, o.many))
uncons {t} {ws} n (pcons p ps) h o =
    let (k, js, s, u) = first_kind o.well in
    let w : ws ≡ pattern_code p ++ (patterns_code ps ++ o.rest) = o.words ∙ append_assoc (pattern_code p) (patterns_code ps) o.rest in
    record {
      first = p;
      others = ps;
      are = refl;
      one = record { known = o.known; kind = k; pattern = p; well = s; rest = patterns_code ps ++ o.rest; words = w };
      one_is = refl;
      more = λ m k e h'. record { known = o.known; kinds = js; well = u; rest = o.rest; words = ap (drop m) w ∙ drop_at (pattern_code p) (patterns_code ps ++ o.rest) m (sym e); many = omega (arith, o.many) };
    }

pub first_open : {t ws : List ℕ} (n : ℕ) (p : Pattern) (ps : Patterns) → OpensAll t ws n (pcons p ps) → (o : Opens t ws) × (o.pattern ≡ p)
unfolding uncons
first_open n p ps o = let u = uncons n (pcons p ps) (omega (arith, o.many)) o in (u.one, u.one_is)

-- the whole pattern
abbrev pub opens_whole : {t ws : List ℕ} (g : Patterned t ws) → Opens t ws
opens_whole {t} {ws} g =
    let w = pattern_words g.known.sig ws g.pattern g.read in
    record { known = g.known; kind = 0; pattern = g.pattern; well = w.well_formed; rest = []; words = sym w.is_code ∙ sym (append-nil (pattern_code g.pattern)) }

-- a part of the words, as it is handed on
abbrev pub to_part : {t : List ℕ} (ws : List ℕ) (i : ℕ) → Opens t (drop i ws) → Opens t (part ws i)
to_part ws i o = record { known = o.known; kind = o.kind; pattern = o.pattern; well = o.well; rest = o.rest; words = to_end ws i ∙ o.words }
