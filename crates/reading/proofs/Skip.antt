-- Reading by what is left behind a pattern, and the kinds that are due behind a word.
use Rattle.std.specs.Prelude.{None, Some}
use mathlib.Core.Path.{◌≡◌, refl, sym, ap, ◌∙◌}
use mathlib.Core.List.{List, [], ◌∷◌}
use mathlib.Core.Option.{Option, some, none}
use mathlib.Core.Bool.{Bool, true, false, cond}
use Prim.Native.Nat.{ℕ, suc, ◌+◌, ◌-◌, ◌≤◌, ◌<◌}
use native.Mathlib.Omega.{arith}
use lib.ListN.{length, drop, length-append, length-drop}
use lib.Seq.{drop_at}
use Rattle.signature.specs.Lists.{◌>>=◌}
use Rattle.signature.specs.Signature.{Signature, arguments_at, is_number_kind}
use Rattle.signature.proofs.Tests.{none≢some, some_inj}
use Rattle.reading.specs.End.{end_of}
use Rattle.pattern.specs.Pattern.{Pattern, pcons, head, and, or, neg, pattern_code}
use Rattle.pattern.specs.Read.{Form, is_head, is_var, is_and, is_or, is_wild, is_absurd, is_not, is_range, is_other, read_one, read_each, read_two, read_range, read_by_form}
use Rattle.pattern.specs.Word.{own_words}
use Rattle.pattern.proofs.PatternBack.{pattern_was}

abbrev pub rest_of : {A : Type 0} → Option (A × List ℕ) → Option (List ℕ)
rest_of none = none
rest_of (some r) = some r.1

rest_map : {A B : Type 0} (o : Option (A × List ℕ)) (f : A → B) → rest_of (o >>= λ s. some (f s.0, s.1)) ≡ rest_of o
rest_map none f = refl
rest_map (some r) f = refl

-- what is left behind one pattern of each kind
abbrev pub skip_each : (ℕ → List ℕ → Option (List ℕ)) → List ℕ → List ℕ → Option (List ℕ)
skip_each one [] ws = some ws
skip_each one (k ∷ ks) ws = one k ws >>= λ us. skip_each one ks us

-- the kinds that are due behind a word
abbrev pub due : Signature → Form → ℕ → Option (List ℕ)
due sig (is_head c) k = arguments_at sig k c
due sig (is_var x) k = some []
due sig is_and k = some (k ∷ (k ∷ []))
due sig is_or k = some (k ∷ (k ∷ []))
due sig is_wild k = some []
due sig is_absurd k = some []
due sig is_not k = some (k ∷ [])
due sig is_range k = cond (is_number_kind sig k) (some []) none
due sig is_other k = none

module _ (one : ℕ → List ℕ → Option (Pattern × List ℕ)) where
  abbrev pub skips : ℕ → List ℕ → Option (List ℕ)
  skips j us = rest_of (one j us)

  each_skips : (ks ws : List ℕ) → rest_of (read_each one ks ws) ≡ skip_each skips ks ws
  each_skips [] ws = refl
  each_skips (k ∷ ks) ws = go (λ us. each_skips ks us) (one k ws)
    where
      go : ((us : List ℕ) → rest_of (read_each one ks us) ≡ skip_each skips ks us) → (o : Option (Pattern × List ℕ)) → rest_of (o >>= λ r. read_each one ks r.1 >>= λ s. some (pcons r.0 s.0, s.1)) ≡ (rest_of o >>= λ us. skip_each skips ks us)
      go h none = refl
      go h (some r) = rest_map (read_each one ks r.1) (λ q. pcons r.0 q) ∙ h r.1

  two_skip : (join : Pattern → Pattern → Pattern) (k : ℕ) (ws : List ℕ) → rest_of (read_two one join k ws) ≡ skip_each skips (k ∷ (k ∷ [])) ws
  two_skip join k ws = go (one k ws)
    where
      last : (o : Option (Pattern × List ℕ)) (p : Pattern) → rest_of (o >>= λ s. some (join p s.0, s.1)) ≡ (rest_of o >>= λ us. some us)
      last none p = refl
      last (some s) p = refl

      go : (o : Option (Pattern × List ℕ)) → rest_of (o >>= λ r. one k r.1 >>= λ s. some (join r.0 s.0, s.1)) ≡ (rest_of o >>= λ us. skip_each skips (k ∷ []) us)
      go none = refl
      go (some r) = last (one k r.1) r.0

  not_skips : (o : Option (Pattern × List ℕ)) → rest_of (o >>= λ r. some (neg r.0, r.1)) ≡ (rest_of o >>= λ us. some us)
  not_skips none = refl
  not_skips (some r) = refl

  head_skips : (c : ℕ) (o : Option (List ℕ)) (ws : List ℕ) → rest_of (o >>= λ ks. read_each one ks ws >>= λ r. some (head c r.0, r.1)) ≡ (o >>= λ ks. skip_each skips ks ws)
  head_skips c none ws = refl
  head_skips c (some ks) ws = rest_map (read_each one ks ws) (head c) ∙ each_skips ks ws

  range_skips : (b : Bool) (w : ℕ) (ws : List ℕ) → 2 ≤ length ws → rest_of (read_range b ws) ≡ (cond b (some []) none >>= λ ks. skip_each skips ks (drop 3 (w ∷ ws)))
  range_skips b w [] l = absurd (omega arith)
  range_skips b w (low ∷ []) l = absurd (omega arith)
  range_skips true w (low ∷ (high ∷ ws)) l = refl
  range_skips false w (low ∷ (high ∷ ws)) l = refl

  -- w is the first word: behind the words of its own
  pub form_skips : (sig : Signature) (f : Form) (k w : ℕ) (ws : List ℕ) → own_words f ≤ suc (length ws) → rest_of (read_by_form sig one f k ws) ≡ (due sig f k >>= λ ks. skip_each skips ks (drop (own_words f) (w ∷ ws)))
  form_skips sig (is_head c) k w ws l = head_skips c (arguments_at sig k c) ws
  form_skips sig (is_var x) k w ws l = refl
  form_skips sig is_and k w ws l = two_skip and k ws
  form_skips sig is_or k w ws l = two_skip or k ws
  form_skips sig is_wild k w ws l = refl
  form_skips sig is_absurd k w ws l = refl
  form_skips sig is_not k w ws l = not_skips (one k ws)
  form_skips sig is_range k w ws l = range_skips (is_number_kind sig k) w ws (omega arith)
  form_skips sig is_other k w ws l = refl

  cut_range : (b : Bool) (ws : List ℕ) → length ws < 2 → rest_of (read_range b ws) ≡ none
  cut_range b [] l = refl
  cut_range b (low ∷ []) l = refl
  cut_range b (low ∷ (high ∷ ws)) l = absurd (omega arith)

  -- cut short
  pub form_cut : (sig : Signature) (f : Form) (k : ℕ) (ws : List ℕ) → suc (length ws) < own_words f → rest_of (read_by_form sig one f k ws) ≡ none
  form_cut sig (is_head c) k ws l = absurd (omega arith)
  form_cut sig (is_var x) k ws l = absurd (omega arith)
  form_cut sig is_and k ws l = absurd (omega arith)
  form_cut sig is_or k ws l = absurd (omega arith)
  form_cut sig is_wild k ws l = absurd (omega arith)
  form_cut sig is_absurd k ws l = absurd (omega arith)
  form_cut sig is_not k ws l = absurd (omega arith)
  form_cut sig is_range k ws l = cut_range (is_number_kind sig k) ws (omega arith)
  form_cut sig is_other k ws l = absurd (omega arith)

-- the code's reader of parts
abbrev pub part_skips : Signature → ℕ → ℕ → List ℕ → Option (List ℕ)
part_skips sig d j us = rest_of (read_one sig d j us)

-- the end and what is left behind it
pub ended : (sig : Signature) (d k m : ℕ) (ws : List ℕ) → Some m ≡ end_of ws (read_one sig d k ws) → (part_skips sig d k ws ≡ some (drop m ws)) × (m ≤ length ws)
ended sig d k m ws e = go (read_one sig d k ws) refl e
  where
    go : (o : Option (Pattern × List ℕ)) → read_one sig d k ws ≡ o → Some m ≡ end_of ws o → (rest_of o ≡ some (drop m ws)) × (m ≤ length ws)
    go none f e = absurd (let z : ◌≡◌ {A = ℕ} 0 1 = cc in omega arith)
    go (some r) f e =
        let w = pattern_was sig d k ws r f in
        let i : m ≡ length ws - length r.1 = cc in
        let l : length (pattern_code r.0) + length r.1 ≡ length ws = sym (length-append (pattern_code r.0) r.1) ∙ ap length w.2 in
        (rw (← w.2) (ap some (sym (drop_at (pattern_code r.0) r.1 m (omega arith)))), omega arith)

pub bad_ended : (sig : Signature) (d k : ℕ) (ws : List ℕ) → None ≡ end_of ws (read_one sig d k ws) → part_skips sig d k ws ≡ none
bad_ended sig d k ws e = go (read_one sig d k ws) e
  where
    go : (o : Option (Pattern × List ℕ)) → None ≡ end_of ws o → rest_of o ≡ none
    go none e = refl
    go (some r) e = absurd (let z : ◌≡◌ {A = ℕ} 0 1 = cc in omega arith)

pub ends : (m : ℕ) (ws : List ℕ) (o : Option (Pattern × List ℕ)) → rest_of o ≡ some (drop m ws) → m ≤ length ws → Some m ≡ end_of ws o
ends m ws none e l = none≢some e
ends m ws (some r) e l = ap Some (omega (arith, ap length (some_inj r.1 (drop m ws) e), length-drop m ws))

pub ends_bad : (ws : List ℕ) (o : Option (Pattern × List ℕ)) → rest_of o ≡ none → None ≡ end_of ws o
ends_bad ws none e = refl
ends_bad ws (some r) e = none≢some (sym e)
