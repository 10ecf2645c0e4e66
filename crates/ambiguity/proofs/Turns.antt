-- The parts behind a word, one after the other.
use Rattle.std.specs.Prelude.{Option, None, Some}
use mathlib.Core.Path.{◌≡◌, refl, sym, ap, ap₂, subst, ◌∙◌}
use mathlib.Core.List.{List, [], ◌∷◌, ◌++◌, append_assoc}
use mathlib.Core.Bool.{Bool, true, false, ◌&&◌, ◌||◌}
use Prim.Native.Nat.{ℕ, suc, ◌+◌, ◌-◌, ◌<◌, ◌≤◌}
use native.Mathlib.Omega.{arith}
use lib.ListN.{length, drop, get_or, length-append, length-drop}
use lib.Seq.{drop_at, drop-drop}
use Rattle.signature.specs.Signature.{Signature}
use Rattle.signature.specs.Lists.{All}
use Rattle.signature.specs.Limits.{argument_limit}
use Rattle.signature.proofs.KnownFacts.{is_constructor, arity_is, few_arguments}
use Rattle.signature.proofs.Booleans.{or_assoc, or_true, or_false}
use Rattle.pattern.specs.Given.{Opens}
use Rattle.pattern.specs.Linearity.{side_of, behind}
use Rattle.pattern.specs.Pattern.{Pattern, head, and, or, wild, absurd_pat, neg, var, range, Patterns, pnil, pattern_code, patterns_code}
use Rattle.pattern.specs.Read.{Form, form}
use Rattle.pattern.specs.WellFormed.{WellFormed, well_head, AllWellFormed, well_nil, well_cons}
use Rattle.pattern.specs.Ranged.{all_ranged}
use Rattle.pattern.specs.Word.{part_count, own_words, kind_behind}
use Rattle.pattern.proofs.Opened.{shape, inner, inner_length, kind_count, inner_count, shape_is, code_word, code_split, own_rest, behind_own}
use Rattle.pattern.proofs.ReadSteps.{part, to_end}
use Rattle.builder.specs.Arguments.{lights_of}
use Rattle.builder.specs.Build.{GivenPart}
use Rattle.builder.proofs.ArgSteps.{NextArg, next_arg}
use Rattle.ambiguity.specs.Ambiguity.{ambiguous_of, has_vars, taken_twice, own_variable, Judged}
use Rattle.ambiguity.proofs.Behind.{side_at, side_is, any_of, any_cons, any_none, some_vars, parts_behind}

abbrev pub as_opens : {t : List ℕ} {k : ℕ} {w : List ℕ} {b : Bool} {n m : ℕ} (g : GivenPart t k w b n m) → Opens t w
as_opens {k = k} g = record { known = g.known; kind = k; pattern = g.pattern; well = g.well; rest = g.rest; words = g.words }

module _ {t : List ℕ} {k : ℕ} {w : List ℕ} {b : Bool} {n m : ℕ} (g : GivenPart t k w b n m) where
  -- behind `at` words and j parts
  pub record Left (f : Form) (s vars : Bool) (at left j : ℕ) : Type 0 where
    pub ks : List ℕ
    pub ps : Patterns
    pub well : AllWellFormed g.known.sig ks ps
    pub there : All (λ i. i < g.known.decoded.n) ks
    pub light : lights_of s ps ≡ true
    pub ranges : all_ranged ps ≡ true
    pub kinds : (i : ℕ) → i < length ks → kind_behind t f k (j + i) ≡ get_or ks i 0
    pub many : length ks ≡ left
    pub words : drop at w ≡ patterns_code ps ++ g.rest
    pub ends : at + length (patterns_code ps) ≡ length (pattern_code g.pattern)
    pub ambiguous : ambiguous_of b g.known.sig k g.pattern ≡ ((has_vars b g.pattern && taken_twice b g.known.sig k g.pattern) || any_of s g.known.sig ks ps)
    pub vars_are : has_vars b g.pattern ≡ (vars || some_vars s ps)

  pub start : (f : Form) → f ≡ form (get_or w 0 0) → (s vars : Bool) (c : ℕ) → side_of s ≡ behind f (side_of b) → vars ≡ own_variable b f → c ≡ part_count t f → Left f s vars (own_words f) (c - 0) 0
  start f e s vars c a h m =
      let o = as_opens g in
      let z : f ≡ shape g.pattern = shape_is o f e in
      let q = parts_behind g.known b k g.pattern g.there g.well g.light g.ranges in
      let i : s ≡ side_at b (shape g.pattern) = side_is s b f a ∙ ap (side_at b) z in
      record {
        ks = q.ks;
        ps = inner g.pattern;
        well = q.well;
        there = q.there;
        light = subst (λ x. lights_of x (inner g.pattern) ≡ true) (sym i) q.light;
        ranges = q.ranges;
        kinds = λ j l. ap₂ (λ x y. kind_behind t x k y) z (omega arith) ∙ q.kinds j l;
        many = sym (kind_count g.known.sig q.well) ∙ inner_count g.known g.well ∙ ap (part_count t) (sym z) ∙ omega (arith, m);
        words = ap (λ x. drop (own_words x) w) z ∙ ap (drop (own_words (shape g.pattern))) (g.words ∙ ap (λ x. x ++ g.rest) (code_split g.pattern) ∙ ap (λ x. code_word g.pattern ∷ x) (append_assoc (own_rest g.pattern) (patterns_code (inner g.pattern)) g.rest)) ∙ behind_own g.pattern (code_word g.pattern) (patterns_code (inner g.pattern) ++ g.rest);
        ends = ap (λ x. own_words x + length (patterns_code (inner g.pattern))) z ∙ inner_length g.pattern;
        ambiguous = q.ambiguous ∙ ap (λ x. (has_vars b g.pattern && taken_twice b g.known.sig k g.pattern) || any_of x g.known.sig q.ks (inner g.pattern)) (sym i);
        vars_are = q.vars ∙ ap (λ x. own_variable b (shape g.pattern) || some_vars x (inner g.pattern)) (sym i) ∙ ap (λ x. own_variable b x || some_vars s (inner g.pattern)) (sym z) ∙ ap (λ x. x || some_vars s (inner g.pattern)) (sym h);
      }

cut : (ks : List ℕ) → 0 < length ks → ks ≡ get_or ks 0 0 ∷ drop 1 ks
cut [] h = absurd (omega arith)
cut (k ∷ ks) h = refl

next_kind : (ks : List ℕ) (i : ℕ) → get_or ks (suc i) 0 ≡ get_or (drop 1 ks) i 0
next_kind [] i = refl
next_kind (k ∷ ks) i = refl

module _ {t : List ℕ} {k : ℕ} {w : List ℕ} {b : Bool} {n m : ℕ} (g : GivenPart t k w b n m) {f : Form} {s vars : Bool} {at : ℕ} (c j : ℕ) (l : Left g f s vars at (c - j) j) (below : j < c) where
  some : 0 < length l.ks
  some = omega (arith, l.many)

  -- the kind of the j-th part
  abbrev first_kind : ℕ
  first_kind = get_or l.ks 0 0

  abbrev view : NextArg g.known.sig s g.known.decoded.n l.ks l.ps first_kind (drop 1 l.ks)
  view = next_arg g.known.sig s g.known.decoded.n first_kind (drop 1 l.ks) l.ks l.ps (cut l.ks some) l.well l.light l.ranges l.there

  size : length (patterns_code l.ps) ≡ length (pattern_code view.p) + length (patterns_code view.qs)
  size = ap (λ z. length (patterns_code z)) view.parts_are ∙ length-append (pattern_code view.p) (patterns_code view.qs)

  words_are : drop at w ≡ pattern_code view.p ++ (patterns_code view.qs ++ g.rest)
  words_are = l.words ∙ ap (λ z. patterns_code z ++ g.rest) view.parts_are ∙ append_assoc (pattern_code view.p) (patterns_code view.qs) g.rest

  module _ (kind : ℕ) (e : kind ≡ kind_behind t f k j) where
    kind_is : kind ≡ first_kind
    kind_is = e ∙ ap (kind_behind t f k) (omega arith) ∙ l.kinds 0 some

    abbrev given : (n' m' : ℕ) → n' ≡ n → m' ≡ m → GivenPart t first_kind (part w at) s n' m'
    given n' m' i i' = record {
      known = g.known;
      there = view.there;
      pattern = view.p;
      rest = patterns_code view.qs ++ g.rest;
      words = to_end w at ∙ words_are;
      few = omega (arith, g.few, l.ends, size);
      well = view.well;
      light = view.light;
      ranges = view.ranges.0;
      room = omega (arith, i, g.room, l.ends, size);
      work_room = omega (arith, i', g.work_room, l.ends, size);
    }

    pub part_given : (n' m' : ℕ) → n' ≡ n → m' ≡ m → GivenPart t kind (part w at) s n' m'
    part_given n' m' i i' = subst (λ z. GivenPart t z (part w at) s n' m') (sym kind_is) (given n' m' i i')

    module _ (n' m' : ℕ) (i : n' ≡ n) (i' : m' ≡ m) where
      said : (r : Option (Bool × ℕ)) → ((o : GivenPart t kind (part w at) s n' m') → Judged s o.known.sig kind o.pattern r) → Judged s g.known.sig first_kind view.p r
      said r gave = subst (λ z. (o : GivenPart t z (part w at) s n' m') → Judged s o.known.sig z o.pattern r) kind_is gave (given n' m' i i')

      any_first : any_of s g.known.sig l.ks l.ps ≡ (ambiguous_of s g.known.sig first_kind view.p || any_of s g.known.sig (drop 1 l.ks) view.qs)
      any_first = ap₂ (λ x y. any_of s g.known.sig x y) view.kinds_are view.parts_are ∙ any_cons s g.known.sig first_kind (drop 1 l.ks) view.p view.qs

      pub turn_ambiguous : ((o : GivenPart t kind (part w at) s n' m') → Judged s o.known.sig kind o.pattern None) → Judged b g.known.sig k g.pattern None
      turn_ambiguous gave =
          let h : ambiguous_of s g.known.sig first_kind view.p ≡ true = said None gave in
          l.ambiguous ∙ ap (λ x. (has_vars b g.pattern && taken_twice b g.known.sig k g.pattern) || x) (any_first ∙ ap (λ x. x || any_of s g.known.sig (drop 1 l.ks) view.qs) h) ∙ or_true (has_vars b g.pattern && taken_twice b g.known.sig k g.pattern)

      module _ (v : Bool) (used : ℕ) (gave : (o : GivenPart t kind (part w at) s n' m') → Judged s o.known.sig kind o.pattern (Some (v, used))) where
        so : Judged s g.known.sig first_kind view.p (Some (v, used))
        so = said (Some (v, used)) gave

        pub part_le : at + used ≤ length w
        part_le = omega (arith, so.2, size, l.ends, simp length-append at (ap length g.words))

        pub turn : (vars' : Bool) → vars' ≡ (vars || v) → Left g f s vars' (at + used) (c - (j + 1)) (j + 1)
        turn vars' h = record {
          ks = drop 1 l.ks;
          ps = view.qs;
          well = view.wells;
          there = view.theres;
          light = view.lights;
          ranges = view.ranges.1;
          kinds = λ x y. ap (kind_behind t f k) (omega arith) ∙ l.kinds (suc x) (omega (arith, y, length-drop 1 l.ks)) ∙ next_kind l.ks x;
          many = length-drop 1 l.ks ∙ omega (arith, l.many);
          words = sym (drop-drop used at w) ∙ ap (drop used) words_are ∙ drop_at (pattern_code view.p) (patterns_code view.qs ++ g.rest) used (sym so.2);
          ends = omega (arith, l.ends, size, so.2);
          ambiguous = l.ambiguous ∙ ap (λ x. (has_vars b g.pattern && taken_twice b g.known.sig k g.pattern) || x) (any_first ∙ ap (λ x. x || any_of s g.known.sig (drop 1 l.ks) view.qs) so.0);
          vars_are =
              l.vars_are
              ∙ ap (λ x. vars || some_vars s x) view.parts_are
              ∙ sym (or_assoc vars (has_vars s view.p) (some_vars s view.qs))
              ∙ ap (λ x. (vars || x) || some_vars s view.qs) (sym so.1)
              ∙ ap (λ x. x || some_vars s view.qs) (sym h);
        }

none_left : (sig : Signature) (ks : List ℕ) (ps : Patterns) → AllWellFormed sig ks ps → length ks ≡ 0 → ps ≡ pnil
none_left sig ks ps well_nil e = refl
none_left sig ks ps (well_cons w ws) e = absurd (omega (arith, e))

module _ {t : List ℕ} {k : ℕ} {w : List ℕ} {b : Bool} {n m : ℕ} (g : GivenPart t k w b n m) {f : Form} {s vars : Bool} {at : ℕ} (c j : ℕ) (l : Left g f s vars at (c - j) j) (over : c ≤ j) where
  none : l.ps ≡ pnil
  none = none_left g.known.sig l.ks l.ps l.well (omega (arith, l.many))

  ends_at : at ≡ length (pattern_code g.pattern)
  ends_at = omega (arith, l.ends, ap (λ z. length (patterns_code z)) none)

  vars_so : vars ≡ has_vars b g.pattern
  vars_so = sym (l.vars_are ∙ ap (λ x. vars || some_vars s x) none ∙ or_false vars)

  itself : ambiguous_of b g.known.sig k g.pattern ≡ (has_vars b g.pattern && taken_twice b g.known.sig k g.pattern)
  itself =
      let own = has_vars b g.pattern && taken_twice b g.known.sig k g.pattern in
      l.ambiguous ∙ ap (λ x. own || any_of s g.known.sig l.ks x) none ∙ ap (λ x. own || x) (any_none s g.known.sig l.ks) ∙ or_false own

  module _ (q : Bool) (h : q ≡ (vars && taken_twice b g.known.sig k g.pattern)) where
    is_q : ambiguous_of b g.known.sig k g.pattern ≡ q
    is_q = itself ∙ ap (λ x. x && taken_twice b g.known.sig k g.pattern) (sym vars_so) ∙ sym h

    pub ends_ambiguous : q ≡ true → Judged b g.known.sig k g.pattern None
    ends_ambiguous e = is_q ∙ e

    pub ends_clear : q ≡ false → Judged b g.known.sig k g.pattern (Some (vars, at))
    ends_clear e = (is_q ∙ e, vars_so, ends_at)

module _ {t : List ℕ} {k : ℕ} {w : List ℕ} {b : Bool} {n m : ℕ} (g : GivenPart t k w b n m) where
  -- no word has more parts than a constructor has arguments
  pub few_parts : (f : Form) → f ≡ form (get_or w 0 0) → part_count t f ≤ argument_limit
  few_parts f e = rw (shape_is (as_opens g) f e) (go g.pattern g.well)
    where
      go : (p : Pattern) → WellFormed g.known.sig k p → part_count t (shape p) ≤ argument_limit
      go (head c ps) (well_head {ks = ks} s i h) = let q = is_constructor g.known k c ks (omega (arith, s)) i in omega (arith, arity_is g.known c q, few_arguments g.known c q)
      go (and p q) h = omega arith
      go (or p q) h = omega arith
      go wild h = omega arith
      go absurd_pat h = omega arith
      go (neg p) h = omega arith
      go (var x) h = omega arith
      go (range low high) h = omega arith

  module _ (n' m' : ℕ) (i : n' ≡ n) (i' : m' ≡ m) where
    pub again : GivenPart t k w b n' m'
    again = record { known = g.known; there = g.there; pattern = g.pattern; rest = g.rest; words = g.words; few = g.few; well = g.well; light = g.light; ranges = g.ranges; room = omega (arith, i, g.room); work_room = omega (arith, i', g.work_room) }

    pub twice_so : (vars q : Bool) → ((o : GivenPart t k w b n' m') → q ≡ (vars && taken_twice b o.known.sig k o.pattern)) → q ≡ (vars && taken_twice b g.known.sig k g.pattern)
    unfolding again
    twice_so vars q f = f again
