-- What the reader's steps show: the kinds that are due, one more pattern, the end.
use Rattle.std.specs.Prelude.{None, Some}
use Rattle.std.specs.Prelude as prelude
use Rattle.std.specs.Option.{option_eq}
use mathlib.Core.Path.{◌≡◌, refl, sym, ap, subst, ◌∙◌}
use mathlib.Core.List.{List, [], ◌∷◌}
use mathlib.Core.Option.{Option, some, none}
use mathlib.Core.Bool.{Bool, true, false}
use Prim.Native.Nat.{ℕ, zero, suc, ◌+◌, ◌≤◌, ◌<◌}
use native.Mathlib.Numerals.{add-one}
use native.Mathlib.Decide.{dec_le}
use native.Mathlib.Omega.{arith}
use borrow.Author.Tests.{ltb-true, ltb-false}
use lib.Dec.{eqb, ltb}
use lib.ListN.{length, drop, get_or, length-drop}
use lib.Seq.{drop-drop, drop-cons}
use Rattle.signature.specs.Decoded.{Known, constructors_of, kinds_of, kind_of, first_of}
use Rattle.signature.specs.Limits.{argument_limit, constructor_limit, kind_limit, level_base}
use Rattle.signature.specs.Lists.{◌>>=◌, is_some, whole}
use Rattle.signature.specs.Signature.{Signature, arguments_at, arguments, is_number_kind}
use Rattle.signature.proofs.Booleans.{and_left, and_right}
use Rattle.signature.proofs.KnownFacts.{arity_is, few_arguments, few_kinds, argument_is, arguments_below, right_kind, wrong_kind, no_constructor, number_first}
use Rattle.signature.proofs.LawfulFacts.{kinds_above}
use Rattle.signature.proofs.ListFacts.{all_at, at_getD}
use Rattle.signature.proofs.Tests.{none≢some, some_inj, eqb_eq, eqb_no, eqb_self, leb_yes, leb_no, true≢false}
use Rattle.reading.specs.End.{end_of, may_begin}
use Rattle.pattern.specs.Limits.{pattern_limit}
use Rattle.pattern.specs.Pattern.{Pattern}
use Rattle.pattern.specs.Read.{Form, is_head, is_var, is_and, is_or, is_wild, is_absurd, is_not, is_range, is_other, form, read_one, read_by_form, read_pattern}
use Rattle.pattern.specs.Word.{own_words, part_count, kind_behind, head_small}
use Rattle.pattern.proofs.ReadSteps.{part, to_end, small}
use Rattle.reading.proofs.Skip.{rest_of, skip_each, due, part_skips, form_skips, form_cut, ended, bad_ended, ends, ends_bad}

-- the kinds due behind a word, by the table
pub record Due (t : List ℕ) (sig : Signature) (f : Form) (k : ℕ) : Type 0 where
  pub kinds : List ℕ
  pub are : due sig f k ≡ some kinds
  pub long : length kinds ≡ part_count t f
  pub short : length kinds ≤ argument_limit
  pub each : (j : ℕ) → j < length kinds → get_or kinds j 0 ≡ kind_behind t f k j

-- those of two patterns
two_kinds : (k j : ℕ) → j < 2 → get_or (k ∷ (k ∷ [])) j 0 ≡ k
two_kinds k zero l = refl
two_kinds k (suc zero) l = refl
two_kinds k (suc (suc j)) l = absurd (omega arith)

one_kind : (k j : ℕ) → j < 1 → get_or (k ∷ []) j 0 ≡ k
one_kind k zero l = refl
one_kind k (suc j) l = absurd (omega arith)

module _ (t : List ℕ) (g : Known t) where
  number_kind : (k : ℕ) → k < kinds_of t → is_number_kind g.sig k ≡ eqb (first_of t k) level_base
  number_kind k l = number_first g k (omega (arith, g.decoded.kind_count))

  pub kind_small : (k : ℕ) → k < kinds_of t → k < kind_limit
  kind_small k l = omega (arith, g.decoded.kind_count, few_kinds g)

  pub kind_zero : 0 < kinds_of t
  kind_zero = omega (arith, g.decoded.kind_count, kinds_above g.sig g.decoded.n g.decoded.kinds_are)

  in_signature : (c k : ℕ) → may_begin t (is_head c) k ≡ true → c < length g.sig
  in_signature c k h = omega (arith, g.decoded.constructor_count, ltb-true c (constructors_of t) (and_left (ltb c (constructors_of t)) (eqb (kind_of t c) k) h))

  head_arguments : (k c : ℕ) → k < kinds_of t → may_begin t (is_head c) k ≡ true → arguments_at g.sig k c ≡ some (arguments g.sig c)
  head_arguments k c l h = right_kind g c (in_signature c k h) k (kind_small k l) (eqb_eq (kind_of t c) k (and_right (ltb c (constructors_of t)) (eqb (kind_of t c) k) h))

  head_due : (k c : ℕ) → k < kinds_of t → may_begin t (is_head c) k ≡ true → Due t g.sig (is_head c) k
  head_due k c kl h =
      let l = in_signature c k h in
      record {
        kinds = arguments g.sig c;
        are = head_arguments k c kl h;
        long = sym (arity_is g c l);
        short = few_arguments g c l;
        each = λ j m. sym (argument_is g c l j m);
      }

  pub due_of : (f : Form) (k : ℕ) → k < kinds_of t → may_begin t f k ≡ true → Due t g.sig f k
  due_of (is_head c) k l h = head_due k c l h
  due_of (is_var x) k l h = record { kinds = []; are = refl; long = refl; short = omega arith; each = λ j l. absurd (omega arith) }
  due_of is_and k l h = record { kinds = k ∷ (k ∷ []); are = refl; long = refl; short = omega arith; each = two_kinds k }
  due_of is_or k l h = record { kinds = k ∷ (k ∷ []); are = refl; long = refl; short = omega arith; each = two_kinds k }
  due_of is_wild k l h = record { kinds = []; are = refl; long = refl; short = omega arith; each = λ j l. absurd (omega arith) }
  due_of is_absurd k l h = record { kinds = []; are = refl; long = refl; short = omega arith; each = λ j l. absurd (omega arith) }
  due_of is_not k l h = record { kinds = k ∷ []; are = refl; long = refl; short = omega arith; each = one_kind k }
  due_of is_range k l h = record { kinds = []; are = rw (number_kind k l, h); long = refl; short = omega arith; each = λ j l. absurd (omega arith) }
  due_of is_other k l h = true≢false (sym h)

  no_head : (c k : ℕ) → c < constructor_limit → k < kinds_of t → may_begin t (is_head c) k ≡ false → arguments_at g.sig k c ≡ none
  no_head c k m kl h = go (ltb c (constructors_of t)) refl
    where
      go : (b : Bool) → ltb c (constructors_of t) ≡ b → arguments_at g.sig k c ≡ none
      go true q = wrong_kind g c (omega (arith, g.decoded.constructor_count, ltb-true c (constructors_of t) q)) k (λ e. true≢false (sym (rw (q, e, eqb_self k)) ∙ h))
      go false q = no_constructor g k c (omega (arith, g.decoded.constructor_count, ltb-false c (constructors_of t) q)) (rw (leb_no level_base c (omega arith)))

  none_due : (f : Form) (k : ℕ) → k < kinds_of t → head_small f → may_begin t f k ≡ false → due g.sig f k ≡ none
  none_due (is_head c) k l m h = no_head c k m l h
  none_due (is_var x) k l m h = true≢false h
  none_due is_and k l m h = true≢false h
  none_due is_or k l m h = true≢false h
  none_due is_wild k l m h = true≢false h
  none_due is_absurd k l m h = true≢false h
  none_due is_not k l m h = true≢false h
  none_due is_range k l m h = rw (number_kind k l, h)
  none_due is_other k l m h = refl

  -- the kind of a part exists
  pub kind_there : (f : Form) (k j : ℕ) → k < kinds_of t → may_begin t f k ≡ true → j < part_count t f → kind_behind t f k j < kinds_of t
  kind_there (is_head c) k j l h m =
      let i = in_signature c k h in
      let n : j < length (arguments g.sig c) = omega (arith, arity_is g c i) in
      omega (arith, g.decoded.kind_count, argument_is g c i j n, all_at (arguments_below g k c (arguments g.sig c) (head_arguments k c l h)) j (get_or (arguments g.sig c) j 0) (at_getD (arguments g.sig c) j n))
  kind_there (is_var x) k j l h m = l
  kind_there is_and k j l h m = l
  kind_there is_or k j l h m = l
  kind_there is_wild k j l h m = l
  kind_there is_absurd k j l h m = l
  kind_there is_not k j l h m = l
  kind_there is_range k j l h m = l
  kind_there is_other k j l h m = l

-- what the call on a part, or on the whole, gave: at any depth that is enough
abbrev pub Gave : List ℕ → ℕ → List ℕ → prelude.Option ℕ → Type 0
Gave t k ws r = (g : Known t) (d : ℕ) → length ws ≤ d → r ≡ end_of ws (read_one g.sig d k ws)

-- behind `at` words and j parts: what is left behind the whole is what is left behind the parts that are still due
abbrev pub Left : List ℕ → ℕ → Form → List ℕ → ℕ → ℕ → Type 0
Left t k f ws i j = (g : Known t) (u : Due t g.sig f k) (d : ℕ) → length ws ≤ suc d → part_skips g.sig (suc d) k ws ≡ skip_each (part_skips g.sig d) (drop j u.kinds) (drop i ws)

pub empty : (t : List ℕ) (k : ℕ) (ws : List ℕ) → length ws ≡ 0 → Gave t k ws None
empty t k ws h g zero l = refl
empty t k [] h g (suc d) l = refl
empty t k (w ∷ ws) h g (suc d) l = absurd (omega arith)

first_skips : (sig : Signature) (d k : ℕ) (ws : List ℕ) (f : Form) → 0 < length ws → f ≡ form (get_or ws 0 0) → own_words f ≤ length ws → part_skips sig (suc d) k ws ≡ (due sig f k >>= λ ks. skip_each (part_skips sig d) ks (drop (own_words f) ws))
first_skips sig d k [] f l e o = absurd (omega arith)
first_skips sig d k (w ∷ ws) f l e o = subst (λ (x : Form). own_words x ≤ suc (length ws) → rest_of (read_by_form sig (λ j us. read_one sig d j us) (form w) k ws) ≡ (due sig x k >>= λ ks. skip_each (part_skips sig d) ks (drop (own_words x) (w ∷ ws)))) (sym e) (form_skips (λ j us. read_one sig d j us) sig (form w) k w ws) o

first_cut : (sig : Signature) (d k : ℕ) (ws : List ℕ) (f : Form) → 0 < length ws → f ≡ form (get_or ws 0 0) → length ws < own_words f → part_skips sig (suc d) k ws ≡ none
first_cut sig d k [] f l e o = absurd (omega arith)
first_cut sig d k (w ∷ ws) f l e o = form_cut (λ j us. read_one sig d j us) sig (form w) k ws (subst (λ (x : Form). suc (length ws) < own_words x) e o)

pub refused : (t : List ℕ) (k : ℕ) (ws : List ℕ) (f : Form) → k < kinds_of t → 0 < length ws → f ≡ form (get_or ws 0 0) → may_begin t f k ≡ false → Gave t k ws None
refused t k ws f kl l e h g zero m = absurd (omega arith)
refused t k ws f kl l e h g (suc d) m = go (dec_le (own_words f) (length ws))
  where
    go : Dec (own_words f ≤ length ws) → None ≡ end_of ws (read_one g.sig (suc d) k ws)
    go (yes o) = ends_bad ws (read_one g.sig (suc d) k ws) (first_skips g.sig d k ws f l e o ∙ (rw (none_due t g f k kl (small (get_or ws 0 0) f e) h)))
    go (no o) = ends_bad ws (read_one g.sig (suc d) k ws) (first_cut g.sig d k ws f l e (omega arith))

pub cut_short : (t : List ℕ) (k : ℕ) (ws : List ℕ) (f : Form) → 0 < length ws → f ≡ form (get_or ws 0 0) → length ws < own_words f → Gave t k ws None
cut_short t k ws f l e o g zero m = absurd (omega arith)
cut_short t k ws f l e o g (suc d) m = ends_bad ws (read_one g.sig (suc d) k ws) (first_cut g.sig d k ws f l e o)

pub start : (t : List ℕ) (k : ℕ) (ws : List ℕ) (f : Form) → 0 < length ws → f ≡ form (get_or ws 0 0) → own_words f ≤ length ws → Left t k f ws (own_words f) 0
start t k ws f l e o g u d m = first_skips g.sig d k ws f l e o ∙ (rw u.are)

one_due : (one : ℕ → List ℕ → Option (List ℕ)) (ks ws : List ℕ) (j k : ℕ) → j < length ks → get_or ks j 0 ≡ k → skip_each one (drop j ks) ws ≡ (one k ws >>= λ us. skip_each one (drop (j + 1) ks) us)
one_due one ks ws j k l e = rw (drop-cons ks j 0 l, e, add-one j)

none_left : (one : ℕ → List ℕ → Option (List ℕ)) (ks ws : List ℕ) (j : ℕ) → length ks ≤ j → skip_each one (drop j ks) ws ≡ some ws
none_left one [] ws zero l = refl
none_left one (k ∷ ks) ws zero l = absurd (omega arith)
none_left one [] ws (suc j) l = refl
none_left one (k ∷ ks) ws (suc j) l = none_left one ks ws j (omega arith)

module _ (t : List ℕ) (k : ℕ) (f : Form) (ws : List ℕ) (i j n : ℕ) (n_is : n ≡ part_count t f) where
  pub end_le : (m kj : ℕ) → i ≤ length ws → Known t → Gave t kj (part ws i) (Some m) → i + m ≤ length ws
  end_le m kj l g h =
      let x = ended g.sig (length ws) kj m (part ws i) (h g (length ws) (simp (to_end, length-drop) (omega arith))) in
      omega (arith, x.1, ap length (to_end ws i), length-drop i ws)

  pub next : (m kj : ℕ) → j < n → 1 ≤ i → i ≤ length ws → kj ≡ kind_behind t f k j → Gave t kj (part ws i) (Some m) → Left t k f ws i j → Left t k f ws (i + m) (j + 1)
  next m kj lj li l q h left g u d ld =
      let b : j < length u.kinds = omega (arith, u.long) in
      let x = ended g.sig d kj m (part ws i) (h g d (simp (to_end, length-drop) (omega arith))) in
      let y : part_skips g.sig d kj (drop i ws) ≡ some (drop (i + m) ws) = rw (to_end ws i, drop-drop m i ws) at x.0 in
      left g u d ld ∙ one_due (part_skips g.sig d) u.kinds (drop i ws) j kj b (u.each j b ∙ sym q) ∙ (rw y)

  pub next_bad : (kj : ℕ) → j < n → 0 < length ws → 1 ≤ i → i ≤ length ws → kj ≡ kind_behind t f k j → Gave t kj (part ws i) None → Left t k f ws i j → k < kinds_of t → may_begin t f k ≡ true → Gave t k ws None
  next_bad kj lj lw li l q h left kl s g zero ld = absurd (omega arith)
  next_bad kj lj lw li l q h left kl s g (suc d) ld =
      let u = due_of t g f k kl s in
      let b : j < length u.kinds = omega (arith, u.long) in
      let x : part_skips g.sig d kj (drop i ws) ≡ none = rw (to_end ws i) at (bad_ended g.sig d kj (part ws i) (h g d (simp (to_end, length-drop) (omega arith)))) in
      ends_bad ws (read_one g.sig (suc d) k ws) (left g u d ld ∙ one_due (part_skips g.sig d) u.kinds (drop i ws) j kj b (u.each j b ∙ sym q) ∙ (rw x))

  pub turns_end : n ≤ j → 0 < length ws → i ≤ length ws → Left t k f ws i j → k < kinds_of t → may_begin t f k ≡ true → Gave t k ws (Some i)
  turns_end lj lw l left kl s g zero ld = absurd (omega arith)
  turns_end lj lw l left kl s g (suc d) ld =
      let u = due_of t g f k kl s in
      ends i ws (read_one g.sig (suc d) k ws) (left g u d ld ∙ none_left (part_skips g.sig d) u.kinds (drop i ws) j (omega (arith, u.long))) l

pub few_parts : (t : List ℕ) (g : Known t) (f : Form) (k : ℕ) → k < kinds_of t → may_begin t f k ≡ true → part_count t f ≤ argument_limit
few_parts t g f k l h = let u = due_of t g f k l h in omega (arith, u.long, u.short)

-- the whole: at most so many words, and nothing left over
whole_ended : (ws : List ℕ) (n : ℕ) (o : Option (Pattern × List ℕ)) → rest_of o ≡ some (drop n ws) → n ≤ length ws → is_some (o >>= whole) ≡ eqb n (length ws)
whole_ended ws n none e l = none≢some e
whole_ended ws n (some r) e l = go r.1 (some_inj r.1 (drop n ws) e)
  where
    go : (us : List ℕ) → us ≡ drop n ws → is_some (whole {A = Pattern} (r.0, us)) ≡ eqb n (length ws)
    go [] e = let q : n ≡ length ws = omega (arith, ap length e, length-drop n ws) in rw (q, eqb_self)
    go (w ∷ us) e = sym (eqb_no n (length ws) (λ q. omega (arith, ap length e, length-drop n ws)))

module _ (t ws : List ℕ) (g : Known t) where
  whole_at : (n : ℕ) → length ws ≤ pattern_limit → Gave t 0 ws (Some n) → eqb n (length ws) ≡ is_some (read_pattern g.sig ws)
  whole_at n l h =
      let x = ended g.sig pattern_limit 0 n ws (h g pattern_limit l) in
      rw (leb_yes (length ws) pattern_limit l) (sym (whole_ended ws n (read_one g.sig pattern_limit 0 ws) x.0 x.1))

  whole_bad : length ws ≤ pattern_limit → Gave t 0 ws None → false ≡ is_some (read_pattern g.sig ws)
  whole_bad l h = rw (leb_yes (length ws) pattern_limit l) (go (read_one g.sig pattern_limit 0 ws) (bad_ended g.sig pattern_limit 0 ws (h g pattern_limit l)))
    where
      go : (o : Option (Pattern × List ℕ)) → rest_of o ≡ none → false ≡ is_some (o >>= whole)
      go none e = refl
      go (some r) e = none≢some (sym e)

  pub whole_told : (r : prelude.Option ℕ) → length ws ≤ pattern_limit → Gave t 0 ws r → option_eq eqb r (Some (length ws)) ≡ is_some (read_pattern g.sig ws)
  whole_told (Some n) l h = whole_at n l h
  whole_told None l h = whole_bad l h
