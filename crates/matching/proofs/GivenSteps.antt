-- What each call of the matcher is given, from what its caller is given.
use mathlib.Core.Path.{◌≡◌, refl, sym, ap, ap₂, ◌∙◌, subst}
use mathlib.Core.Bool.{true, false, cond}
use mathlib.Core.List.{List, [], ◌∷◌, ◌++◌, append_assoc, append-nil}
use mathlib.Core.Option.{some}
use Prim.Native.Nat.{ℕ, ◌+◌, ◌-◌, ◌≤◌, ◌<◌}
use native.Mathlib.Omega.{arith}
use lib.ListN.{length, get_or, length-append}
use lib.Seq.{drop-append_seam}
use Rattle.signature.specs.Decoded.{Starts, arity_of}
use Rattle.signature.specs.Lawful.{OfKind, OfKinds, of_kind, of_kinds_nil, of_kinds_cons}
use Rattle.signature.specs.Limits.{constructor_limit, booking_limit}
use Rattle.signature.specs.Signature.{Signature, arguments_at}
use Rattle.signature.specs.Value.{Value, Values, con, code, codes, size}
use Rattle.signature.proofs.Heads.{same_args}
use Rattle.signature.proofs.Tests.{eqb_self, eqb_no}
use Rattle.signature.proofs.Values.{length_code, some_size, booking_lawful}
use Rattle.pattern.specs.Decide.{fit, fail, swap, both, decide, decides}
use Rattle.pattern.specs.Given.{Opens}
use Rattle.pattern.specs.Limits.{variable_count}
use Rattle.pattern.specs.Pattern.{Pattern, Patterns, head, and, or, wild, absurd_pat, neg, var, range, pattern_code, patterns_code}
use Rattle.pattern.specs.Range.{within}
use Rattle.pattern.specs.Read.{Form, is_head, is_var, is_and, is_or, is_wild, is_absurd, is_not, is_range, is_other, form}
use Rattle.pattern.specs.WellFormed.{WellFormed, AllWellFormed, well_head, well_and, well_or, well_not, well_var, well_nil, well_cons}
use Rattle.pattern.proofs.Opened.{shape, shape_is}
use Rattle.pattern.proofs.Opened as opened
use Rattle.pattern.proofs.PatternBack.{some_pattern_word, pattern_words}
use Rattle.pattern.proofs.ReadSteps.{part, to_end, small}
use Rattle.matching.specs.Asked.{Asked}
use Rattle.matching.specs.Bound.{join}
use Rattle.matching.specs.Given.{Given, GivenTwo, GivenAll}

pub behind : (ws xs ys : List ℕ) (n : ℕ) → ws ≡ xs ++ ys → n ≡ length xs → part ws n ≡ ys
behind ws xs ys n e h = to_end ws n ∙ (rw (e, h) (drop-append_seam xs ys))

-- the pattern's words and the value's
abbrev pub opens : {t ws bs : List ℕ} → Given t ws bs → Opens t ws
opens g = record { known = g.known; kind = g.kind; pattern = g.pattern; well = g.well; rest = g.pattern_rest; words = g.pattern_words }

abbrev pub starts : {t ws bs : List ℕ} → Given t ws bs → Starts t bs
starts g = record { known = g.known; kind = g.kind; value = g.value; kinded = g.kinded; rest = g.value_rest; words = g.value_words }

module _ {t ws bs : List ℕ} (g : Given t ws bs) where
  pub word_there : 0 < length ws
  word_there = opened.word_there (opens g)

  pub pattern_long : (n : ℕ) → n ≡ length (pattern_code g.pattern) → (0 < n) × (n ≤ length ws)
  pattern_long n e = (omega (arith, e, some_pattern_word g.pattern), omega (arith, e, opened.fits_in (opens g)))

  pub value_long : (n : ℕ) → n ≡ size g.value → (0 < n) × (n ≤ length bs)
  value_long n e = (omega (arith, e, some_size g.value), omega (arith, e, ap length g.value_words, length-append (code g.value) g.value_rest, length_code g.value))

  pub value_there : 0 < length bs
  value_there = let l = value_long (size g.value) refl in omega (arith, l.0, l.1)

-- the whole pattern and the whole booking
abbrev pub given_whole : {t ws bs : List ℕ} → Asked t ws bs → Given t ws bs
given_whole {t} {ws} {bs} g =
    let p = pattern_words g.known.sig ws g.pattern g.read in
    let b = booking_lawful g.known.sig bs g.value g.booked in
    record {
      known = g.known;
      kind = 0;
      pattern = g.pattern;
      value = g.value;
      well = p.well_formed;
      kinded = b.kind_0;
      pattern_rest = [];
      value_rest = [];
      pattern_words = sym p.is_code ∙ sym (append-nil (pattern_code g.pattern));
      value_words = sym b.is_code ∙ sym (append-nil (code g.value));
    }

pub booking_short : {t ws bs : List ℕ} → Asked t ws bs → 0 + length bs ≤ booking_limit
booking_short {t} {ws} {bs} g = let b = booking_lawful g.known.sig bs g.value g.booked in omega (arith, b.at_most)

-- a pattern by its first word
abbrev View : Form → Pattern → Type 0
View (is_head c) p = (ps : Patterns) × (p ≡ head c ps)
View (is_var x) p = p ≡ var x
View is_and p = (q : Pattern) × (r : Pattern) × (p ≡ and q r)
View is_or p = (q : Pattern) × (r : Pattern) × (p ≡ or q r)
View is_wild p = p ≡ wild
View is_absurd p = p ≡ absurd_pat
View is_not p = (q : Pattern) × (p ≡ neg q)
View is_range p = (low : ℕ) × (high : ℕ) × (p ≡ range low high)
View is_other p = ⊥

view : (p : Pattern) → View (shape p) p
view (head c ps) = (ps, refl)
view (and p q) = (p, q, refl)
view (or p q) = (p, q, refl)
view wild = refl
view absurd_pat = refl
view (neg p) = (p, refl)
view (var x) = refl
view (range low high) = (low, high, refl)

module _ {t ws bs : List ℕ} (g : Given t ws bs) where
  pub seen : (f : Form) → form (get_or ws 0 0) ≡ f → View f g.pattern
  seen f e = subst (λ (x : Form). View x g.pattern) (sym (shape_is (opens g) f (sym e))) (view g.pattern)

  -- the words and the form of the pattern, by another name for it
  named_words : (p : Pattern) → g.pattern ≡ p → ws ≡ pattern_code p ++ g.pattern_rest
  named_words p e = g.pattern_words ∙ ap (λ (x : Pattern). pattern_code x ++ g.pattern_rest) e

  named_well : (p : Pattern) → g.pattern ≡ p → WellFormed g.known.sig g.kind p
  named_well p e = subst (λ (x : Pattern). WellFormed g.known.sig g.kind x) e g.well

module _ {sig : Signature} {k : ℕ} where
  not_well : {p : Pattern} → WellFormed sig k (neg p) → WellFormed sig k p
  not_well (well_not s) = s

  and_well : {p q : Pattern} → WellFormed sig k (and p q) → WellFormed sig k p × WellFormed sig k q
  and_well (well_and s u) = (s, u)

  or_well : {p q : Pattern} → WellFormed sig k (or p q) → WellFormed sig k p × WellFormed sig k q
  or_well (well_or s u) = (s, u)

  head_well : {c : ℕ} {ps : Patterns} → WellFormed sig k (head c ps) → (ks : List ℕ) × (arguments_at sig k c ≡ some ks) × AllWellFormed sig ks ps
  head_well (well_head {ks = ks} l e s) = (ks, e, s)

  var_well : {x : ℕ} → WellFormed sig k (var x) → x < variable_count
  var_well (well_var l) = l

module _ {t ws bs : List ℕ} (g : Given t ws bs) where
  pub never : {A : Type 0} → form (get_or ws 0 0) ≡ is_other → A
  never e = absurd (seen g is_other e)

  pub var_known : (x : ℕ) → form (get_or ws 0 0) ≡ is_var x → x < variable_count
  var_known x e = var_well (named_well g (var x) (seen g (is_var x) e))

  pub head_known : (x : ℕ) → form (get_or ws 0 0) ≡ is_head x → x < constructor_limit
  head_known x e = small (get_or ws 0 0) (is_head x) (sym e)

  pub not_of : form (get_or ws 0 0) ≡ is_not → (h : Given t (part ws 1) bs) × ((l : ℕ) → decide g.pattern g.value l ≡ swap (decide h.pattern h.value l))
  not_of e =
      let (q, i) = seen g is_not e in (
        record {
          known = g.known;
          kind = g.kind;
          pattern = q;
          value = g.value;
          well = not_well (named_well g (neg q) i);
          kinded = g.kinded;
          pattern_rest = g.pattern_rest;
          value_rest = g.value_rest;
          pattern_words = behind ws (260 ∷ []) (pattern_code q ++ g.pattern_rest) 1 (named_words g (neg q) i) refl;
          value_words = g.value_words;
        },
        λ l. ap (λ (x : Pattern). decide x g.value l) i,
      )

  abbrev two_of : (w : ℕ) (q r : Pattern) → ws ≡ w ∷ ((pattern_code q ++ pattern_code r) ++ g.pattern_rest) → WellFormed g.known.sig g.kind q × WellFormed g.known.sig g.kind r → GivenTwo t (part ws 1) bs
  two_of w q r e s = record {
    known = g.known;
    kind = g.kind;
    first = q;
    second = r;
    value = g.value;
    well_first = s.0;
    well_second = s.1;
    kinded = g.kinded;
    pattern_rest = g.pattern_rest;
    value_rest = g.value_rest;
    pattern_words = behind ws (w ∷ []) ((pattern_code q ++ pattern_code r) ++ g.pattern_rest) 1 e refl ∙ append_assoc (pattern_code q) (pattern_code r) g.pattern_rest;
    value_words = g.value_words;
  }

  pub and_of : form (get_or ws 0 0) ≡ is_and → (h : GivenTwo t (part ws 1) bs) × ((l : ℕ) → decide g.pattern g.value l ≡ join true (decide h.first h.value l) (decide h.second h.value l))
  and_of e =
      let (q, r, i) = seen g is_and e in
      (two_of 256 q r (named_words g (and q r) i) (and_well (named_well g (and q r) i)), λ l. ap (λ (x : Pattern). decide x g.value l) i)

  pub or_of : form (get_or ws 0 0) ≡ is_or → (h : GivenTwo t (part ws 1) bs) × ((l : ℕ) → decide g.pattern g.value l ≡ join false (decide h.first h.value l) (decide h.second h.value l))
  or_of e =
      let (q, r, i) = seen g is_or e in
      (two_of 257 q r (named_words g (or q r) i) (or_well (named_well g (or q r) i)), λ l. ap (λ (x : Pattern). decide x g.value l) i)

-- two patterns
abbrev pub first_of : {t ws bs : List ℕ} → GivenTwo t ws bs → Given t ws bs
first_of g = record { known = g.known; kind = g.kind; pattern = g.first; value = g.value; well = g.well_first; kinded = g.kinded; pattern_rest = pattern_code g.second ++ g.pattern_rest; value_rest = g.value_rest; pattern_words = g.pattern_words; value_words = g.value_words }

abbrev pub second_of : {t ws bs : List ℕ} (g : GivenTwo t ws bs) (n : ℕ) → n ≡ length (pattern_code g.first) → Given t (part ws n) bs
second_of {t} {ws} {bs} g n e = record { known = g.known; kind = g.kind; pattern = g.second; value = g.value; well = g.well_second; kinded = g.kinded; pattern_rest = g.pattern_rest; value_rest = g.value_rest; pattern_words = behind ws (pattern_code g.first) (pattern_code g.second ++ g.pattern_rest) n g.pattern_words e; value_words = g.value_words }

-- a value that begins with a constructor, and its arguments
same_con : (sig : Signature) (k x : ℕ) (ks : List ℕ) (v : Value) (rest bs : List ℕ) → arguments_at sig k x ≡ some ks → OfKind sig k v → bs ≡ code v ++ rest → get_or bs 0 0 ≡ x → (vs : Values) × (v ≡ con x vs) × (part bs 1 ≡ codes vs ++ rest) × OfKinds sig ks vs
same_con sig k x ks (con d vs) rest bs a (of_kind {ks = js} e s) w h =
    let i : d ≡ x = ap (λ (l : List ℕ). get_or l 0 0) (sym w) ∙ h in
    (vs, ap (λ (y : ℕ). con y vs) i, behind bs (d ∷ []) (codes vs ++ rest) 1 w refl, subst (λ (z : List ℕ). OfKinds sig z vs) (sym (same_args sig k d x e a i)) s)

decide_same : (x : ℕ) (ps : Patterns) (vs : Values) (l : ℕ) → decide (head x ps) (con x vs) l ≡ decides ps vs (l + 1)
decide_same x ps vs l = rw (eqb_self x) (ap (decides ps vs) (omega arith))

decide_other : (x : ℕ) (ps : Patterns) (v : Value) (rest : List ℕ) (l : ℕ) → (get_or (code v ++ rest) 0 0 ≡ x → ⊥) → decide (head x ps) v l ≡ fail []
decide_other x ps (con d vs) rest l h = rw (eqb_no x d (λ e. h (sym e)))

module _ {t ws bs : List ℕ} (g : Given t ws bs) (x : ℕ) (e : form (get_or ws 0 0) ≡ is_head x) where
  pub head_no : (get_or bs 0 0 ≡ x → ⊥) → (l : ℕ) → decide g.pattern g.value l ≡ fail []
  head_no h l =
      let (ps, i) = seen g (is_head x) e in
      ap (λ (y : Pattern). decide y g.value l) i ∙ decide_other x ps g.value g.value_rest l (subst (λ (z : List ℕ). get_or z 0 0 ≡ x → ⊥) g.value_words h)

  pub head_of : (n : ℕ) → n ≡ arity_of t x → get_or bs 0 0 ≡ x → (h : GivenAll t (part ws 1) (part bs 1) n) × ((l : ℕ) → decide g.pattern g.value l ≡ decides h.patterns h.values (l + 1))
  head_of n a h =
      let (ps, i) = seen g (is_head x) e in
      let (ks, q, s) = head_well (named_well g (head x ps) i) in
      let (vs, j, w, u) = same_con g.known.sig g.kind x ks g.value g.value_rest bs q g.kinded g.value_words h in (
        record {
          known = g.known;
          kinds = ks;
          patterns = ps;
          values = vs;
          well = s;
          kinded = u;
          pattern_rest = g.pattern_rest;
          value_rest = g.value_rest;
          pattern_words = behind ws (x ∷ []) (patterns_code ps ++ g.pattern_rest) 1 (named_words g (head x ps) i) refl;
          value_words = w;
          many = sym (opened.arity_there g.known g.kind x ks (head_known g x e) q) ∙ sym a;
        },
        λ l. ap₂ (λ (y : Pattern) (z : Value). decide y z l) i j ∙ decide_same x ps vs l,
      )

-- a range, and the head that it is held against
decide_range : (low high : ℕ) (v : Value) (rest : List ℕ) (l : ℕ) → decide (range low high) v l ≡ cond (within low high (get_or (code v ++ rest) 0 0)) (fit []) (fail [])
decide_range low high (con d vs) rest l = refl

module _ {t ws bs : List ℕ} (g : Given t ws bs) (e : form (get_or ws 0 0) ≡ is_range) where
  pub range_there : 3 ≤ length ws
  range_there = opened.own_in (opens g) is_range (sym e)

  pub range_of : (l : ℕ) → decide g.pattern g.value l ≡ cond (within (get_or ws 1 0) (get_or ws 2 0) (get_or bs 0 0)) (fit []) (fail [])
  range_of l =
      let (low, high, i) = seen g is_range e in
      let w = named_words g (range low high) i in
      let a : get_or ws 1 0 ≡ low = ap (λ (x : List ℕ). get_or x 1 0) w in
      let b : get_or ws 2 0 ≡ high = ap (λ (x : List ℕ). get_or x 2 0) w in
      let c : get_or bs 0 0 ≡ get_or (code g.value ++ g.value_rest) 0 0 = ap (λ (x : List ℕ). get_or x 0 0) g.value_words in
      rw (a, b, c) (ap (λ (y : Pattern). decide y g.value l) i ∙ decide_range low high g.value g.value_rest l)

-- arguments: none, or the first and the others
pub none_left : {t ws bs : List ℕ} {n : ℕ} (g : GivenAll t ws bs n) (l : ℕ) → n ≡ 0 → decides g.patterns g.values l ≡ fit []
none_left g l e = go g.well (g.many ∙ e)
  where
    go : {sig : Signature} {ks : List ℕ} {ps : Patterns} → AllWellFormed sig ks ps → length ks ≡ 0 → decides ps g.values l ≡ fit []
    go well_nil e = refl
    go (well_cons s u) e = absurd (omega arith)

pub record Uncons (t ws bs : List ℕ) (n : ℕ) (ps : Patterns) (vs : Values) : Type 0 where
  pub one : Given t ws bs
  pub more : (i j : ℕ) → i ≡ length (pattern_code one.pattern) → j ≡ size one.value → (h : GivenAll t (part ws i) (part bs j) (n - 1)) × ((l : ℕ) → decides ps vs l ≡ both (decide one.pattern one.value l) (decides h.patterns h.values (l + j)))

pub uncons : {t ws bs : List ℕ} {n : ℕ} (g : GivenAll t ws bs n) → (n ≡ 0 → ⊥) → Uncons t ws bs n g.patterns g.values
uncons {t} {ws} {bs} {n} g ne = go g.well g.kinded g.pattern_words g.value_words g.many
  where
    go : {ks : List ℕ} {ps : Patterns} {vs : Values} → AllWellFormed g.known.sig ks ps → OfKinds g.known.sig ks vs → ws ≡ patterns_code ps ++ g.pattern_rest → bs ≡ codes vs ++ g.value_rest → length ks ≡ n → Uncons t ws bs n ps vs
    go well_nil of_kinds_nil cp cv m = absurd (ne (sym m))
    go (well_cons {k = k} {ks = ks} {p = p} {ps = ps} s u) (of_kinds_cons {v = v} {vs = vs} a b) cp cv m =
        let cp' : ws ≡ pattern_code p ++ (patterns_code ps ++ g.pattern_rest) = cp ∙ append_assoc (pattern_code p) (patterns_code ps) g.pattern_rest in
        let cv' : bs ≡ code v ++ (codes vs ++ g.value_rest) = cv ∙ append_assoc (code v) (codes vs) g.value_rest in
        record {
          one = record { known = g.known; kind = k; pattern = p; value = v; well = s; kinded = a; pattern_rest = patterns_code ps ++ g.pattern_rest; value_rest = codes vs ++ g.value_rest; pattern_words = cp'; value_words = cv' };
          more = λ i j ei ej. (record { known = g.known; kinds = ks; patterns = ps; values = vs; well = u; kinded = b; pattern_rest = g.pattern_rest; value_rest = g.value_rest; pattern_words = behind ws (pattern_code p) (patterns_code ps ++ g.pattern_rest) i cp' ei; value_words = behind bs (code v) (codes vs ++ g.value_rest) j cv' (ej ∙ sym (length_code v)); many = omega (arith, m) }, λ l. ap (λ (y : ℕ). both (decide p v l) (decides ps vs (l + y))) (sym ej));
        }
