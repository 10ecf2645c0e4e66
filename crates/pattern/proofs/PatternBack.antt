-- Patterns are read back from their words, and what was read was there.
use mathlib.Core.Path.{◌≡◌, refl, subst, sym, ◌∙◌, ap}
use mathlib.Core.List.{List, ◌++◌, append_assoc, [], ◌∷◌, append-nil}
use mathlib.Core.Option.{some, none}
use mathlib.Core.Bool.{Bool, true, false, cond}
use Prim.Native.Nat.{◌≤◌, ℕ, ◌<◌, ◌+◌, ◌-◌, zero, suc}
use native.Mathlib.Decide.{dec_le, ℕ_discrete}
use native.Mathlib.Omega.{arith}
use lib.Dec.{leb, leb→le}
use lib.ListN.{length, length-append}
use Rattle.signature.specs.Lists.{require}
use Rattle.signature.specs.Signature.{Signature, arguments_at, is_number_kind}
use Rattle.signature.proofs.Tests.{ltb_no, eqb_no, leb_yes, some_inj, bind_some, none≢some, T_of, require_some}
use Rattle.signature.proofs.Values.{whole_some}
use Rattle.pattern.specs.Limits.{pattern_limit, variable_count, last_variable, range_word}
use Rattle.pattern.specs.Pattern.{Pattern, pattern_code, head, and, or, wild, absurd_pat, neg, var, range, pattern_depth, Patterns, patterns_depth, patterns_code, pnil, pcons}
use Rattle.pattern.specs.Read.{form, is_var, read_one, read_each, Form, is_head, is_and, is_or, is_wild, is_absurd, is_not, is_range, is_other, read_by_form, read_range, read_pattern}
use Rattle.pattern.specs.WellFormed.{WellFormed, well_head, well_and, well_or, well_not, well_wild, well_absurd, well_var, well_range, AllWellFormed, well_nil, well_cons, PatternWords}
use Rattle.pattern.proofs.Forms.{form_head, form_var, form_range, form_other, form_not, form_absurd, form_wild, form_or, form_and}

pub some_pattern_word : (p : Pattern) → 1 ≤ length (pattern_code p)
some_pattern_word (head c ps) = omega arith
some_pattern_word (and p q) = omega arith
some_pattern_word (or p q) = omega arith
some_pattern_word wild = omega arith
some_pattern_word absurd_pat = omega arith
some_pattern_word (neg p) = omega arith
some_pattern_word (var x) = omega arith
some_pattern_word (range low high) = omega arith

form_variable : (x : ℕ) → x < variable_count → form (261 + x) ≡ is_var x
form_variable x l =
    let back : 261 + x - 261 ≡ x = omega arith in
    rw (ltb_no (261 + x) 256 (omega arith), eqb_no (261 + x) 256 (omega arith), eqb_no (261 + x) 257 (omega arith), eqb_no (261 + x) 258 (omega arith), eqb_no (261 + x) 259 (omega arith), eqb_no (261 + x) 260 (omega arith), leb_yes (261 + x) (261 + last_variable) (omega arith), back)

module _ (sig : Signature) where
  mutual
    pub pattern_read : {k : ℕ} {p : Pattern} → WellFormed sig k p → (d : ℕ) (rest : List ℕ) → pattern_depth p ≤ d → read_one sig d k (pattern_code p ++ rest) ≡ some (p, rest)
    pattern_read (well_head lc e s) zero rest l = absurd (omega arith)
    pattern_read (well_and s t) zero rest l = absurd (omega arith)
    pattern_read (well_or s t) zero rest l = absurd (omega arith)
    pattern_read (well_not s) zero rest l = absurd (omega arith)
    pattern_read well_wild zero rest l = absurd (omega arith)
    pattern_read well_absurd zero rest l = absurd (omega arith)
    pattern_read (well_var lx) zero rest l = absurd (omega arith)
    pattern_read (well_range e) zero rest l = absurd (omega arith)
    pattern_read (well_head {c = c} lc e s) (suc d) rest l = rw (form_head c lc, e, patterns_read s d rest (omega arith))
    pattern_read (well_and {p = p} {q = q} s t) (suc d) rest l = rw (append_assoc (pattern_code p) (pattern_code q) rest, pattern_read s d (pattern_code q ++ rest) (omega arith), pattern_read t d rest (omega arith))
    pattern_read (well_or {p = p} {q = q} s t) (suc d) rest l = rw (append_assoc (pattern_code p) (pattern_code q) rest, pattern_read s d (pattern_code q ++ rest) (omega arith), pattern_read t d rest (omega arith))
    pattern_read (well_not s) (suc d) rest l = rw (pattern_read s d rest (omega arith))
    pattern_read well_wild (suc d) rest l = refl
    pattern_read well_absurd (suc d) rest l = refl
    pattern_read (well_var {x = x} lx) (suc d) rest l = rw (form_variable x lx)
    pattern_read (well_range e) (suc d) rest l = rw e

    pub patterns_read : {ks : List ℕ} {ps : Patterns} → AllWellFormed sig ks ps → (d : ℕ) (rest : List ℕ) → patterns_depth ps ≤ d → read_each (λ j us. read_one sig d j us) ks (patterns_code ps ++ rest) ≡ some (ps, rest)
    patterns_read well_nil d rest l = refl
    patterns_read (well_cons {p = p} {ps = ps} s t) d rest l = rw (append_assoc (pattern_code p) (patterns_code ps) rest, pattern_read s d (patterns_code ps ++ rest) (omega arith), patterns_read t d rest (omega arith))

-- what the form of a word says of the word
pub data Formed (w : ℕ) : Form → Type 0 where
  formed_head : w < 256 → Formed w (is_head w)
  formed_and : w ≡ 256 → Formed w is_and
  formed_or : w ≡ 257 → Formed w is_or
  formed_wild : w ≡ 258 → Formed w is_wild
  formed_absurd : w ≡ 259 → Formed w is_absurd
  formed_not : w ≡ 260 → Formed w is_not
  formed_var : (x : ℕ) → w ≡ 261 + x → x < variable_count → Formed w (is_var x)
  formed_range : w ≡ range_word → Formed w is_range
  formed_other : Formed w is_other

pub formed : (w : ℕ) → Formed w (form w)
formed w = go₁ (dec_le (suc w) 256)
  where
    go₈ : Dec (w ≡ range_word) → 261 + variable_count ≤ w → Formed w (form w)
    go₈ (yes h) l = subst (Formed w) (sym (form_range w h)) (formed_range h)
    go₈ (no h) l = rw (form_other w l h) formed_other

    go₇ : Dec (w ≤ (261 + last_variable)) → 261 ≤ w → Formed w (form w)
    go₇ (yes h) l = rw (form_var w l h) (formed_var (w - 261) (omega arith) (omega arith))
    go₇ (no h) l = go₈ (ℕ_discrete w range_word) (omega arith)

    go₆ : Dec (w ≡ 260) → 260 ≤ w → Formed w (form w)
    go₆ (yes h) l = subst (Formed w) (sym (form_not w h)) (formed_not h)
    go₆ (no h) l = go₇ (dec_le w (261 + last_variable)) (omega arith)

    go₅ : Dec (w ≡ 259) → 259 ≤ w → Formed w (form w)
    go₅ (yes h) l = subst (Formed w) (sym (form_absurd w h)) (formed_absurd h)
    go₅ (no h) l = go₆ (ℕ_discrete w 260) (omega arith)

    go₄ : Dec (w ≡ 258) → 258 ≤ w → Formed w (form w)
    go₄ (yes h) l = subst (Formed w) (sym (form_wild w h)) (formed_wild h)
    go₄ (no h) l = go₅ (ℕ_discrete w 259) (omega arith)

    go₃ : Dec (w ≡ 257) → 257 ≤ w → Formed w (form w)
    go₃ (yes h) l = subst (Formed w) (sym (form_or w h)) (formed_or h)
    go₃ (no h) l = go₄ (ℕ_discrete w 258) (omega arith)

    go₂ : Dec (w ≡ 256) → 256 ≤ w → Formed w (form w)
    go₂ (yes h) l = subst (Formed w) (sym (form_and w h)) (formed_and h)
    go₂ (no h) l = go₃ (ℕ_discrete w 257) (omega arith)

    go₁ : Dec (suc w ≤ 256) → Formed w (form w)
    go₁ (yes h) = rw (form_head w h) (formed_head h)
    go₁ (no h) = go₂ (ℕ_discrete w 256) (omega arith)

module _ (sig : Signature) where
  -- what a pattern read of kind k at most d deep was, with the words behind it
  abbrev pub WasPat : ℕ → ℕ → List ℕ → Pattern × List ℕ → Type 0
  WasPat d k ws r = WellFormed sig k r.0 × (pattern_depth r.0 ≤ d) × (pattern_code r.0 ++ r.1 ≡ ws)

  abbrev pub WasPats : ℕ → List ℕ → List ℕ → Patterns × List ℕ → Type 0
  WasPats d ks ws r = AllWellFormed sig ks r.0 × (patterns_depth r.0 ≤ d) × (patterns_code r.0 ++ r.1 ≡ ws)

  abbrev Ones : ℕ → Type 0
  Ones d = (k : ℕ) (ws : List ℕ) (r : Pattern × List ℕ) → read_one sig d k ws ≡ some r → WasPat d k ws r

  patterns_were : (d : ℕ) → Ones d → (ks ws : List ℕ) (r : Patterns × List ℕ) → read_each (λ j us. read_one sig d j us) ks ws ≡ some r → WasPats d ks ws r
  patterns_were d one [] ws r e = subst (WasPats d [] ws) (some_inj (pnil, ws) r e) (well_nil, omega arith, refl)
  patterns_were d one (k ∷ ks) ws r e =
      let (a, e₁, f₁) = bind_some (read_one sig d k ws) _ r e in
      let (b, e₂, f₂) = bind_some (read_each (λ j us. read_one sig d j us) ks a.1) _ r f₁ in
      let (p, q, h) = one k ws a e₁ in
      let (p', q', h') = patterns_were d one ks a.1 b e₂ in
      subst (WasPats d (k ∷ ks) ws) (some_inj (pcons a.0 b.0, b.1) r f₂) (well_cons p p', omega arith, append_assoc (pattern_code a.0) (patterns_code b.0) b.1 ∙ ap (λ x. pattern_code a.0 ++ x) h' ∙ h)

  range_was : (d k w : ℕ) (ws : List ℕ) (r : Pattern × List ℕ) → w ≡ range_word → read_range (is_number_kind sig k) ws ≡ some r → WasPat (suc d) k (w ∷ ws) r
  range_was d k w [] r l e = none≢some e
  range_was d k w (low ∷ []) r l e = none≢some e
  range_was d k w (low ∷ (high ∷ ws)) r l e = go (is_number_kind sig k) refl e
    where
      go : (b : Bool) → is_number_kind sig k ≡ b → cond b (some (range low high, ws)) none ≡ some r → WasPat (suc d) k (w ∷ (low ∷ (high ∷ ws))) r
      go true q f = subst (WasPat (suc d) k (w ∷ (low ∷ (high ∷ ws)))) (some_inj (range low high, ws) r f) (well_range q, omega arith, rw l)
      go false q f = none≢some f

  part_was : (d : ℕ) → Ones d → (k w : ℕ) (ws : List ℕ) (r : Pattern × List ℕ) (f : Form) → Formed w f → read_by_form sig (λ j us. read_one sig d j us) f k ws ≡ some r → WasPat (suc d) k (w ∷ ws) r
  part_was d one k w ws r f (formed_head l) e =
      let (ks, e₁, f₁) = bind_some (arguments_at sig k w) _ r e in
      let (b, e₂, f₂) = bind_some (read_each (λ j us. read_one sig d j us) ks ws) _ r f₁ in
      let (p, q, h) = patterns_were d one ks ws b e₂ in
      subst (WasPat (suc d) k (w ∷ ws)) (some_inj (head w b.0, b.1) r f₂) (well_head l e₁ p, omega arith, ap (λ x. w ∷ x) h)
  part_was d one k w ws r f (formed_and l) e =
      let (a, e₁, f₁) = bind_some (read_one sig d k ws) _ r e in
      let (b, e₂, f₂) = bind_some (read_one sig d k a.1) _ r f₁ in
      let (p, q, h) = one k ws a e₁ in
      let (p', q', h') = one k a.1 b e₂ in
      subst (WasPat (suc d) k (w ∷ ws)) (some_inj (and a.0 b.0, b.1) r f₂) (well_and p p', omega arith, rw l (ap (λ x. 256 ∷ x) (append_assoc (pattern_code a.0) (pattern_code b.0) b.1 ∙ ap (λ x. pattern_code a.0 ++ x) h' ∙ h)))
  part_was d one k w ws r f (formed_or l) e =
      let (a, e₁, f₁) = bind_some (read_one sig d k ws) _ r e in
      let (b, e₂, f₂) = bind_some (read_one sig d k a.1) _ r f₁ in
      let (p, q, h) = one k ws a e₁ in
      let (p', q', h') = one k a.1 b e₂ in
      subst (WasPat (suc d) k (w ∷ ws)) (some_inj (or a.0 b.0, b.1) r f₂) (well_or p p', omega arith, rw l (ap (λ x. 257 ∷ x) (append_assoc (pattern_code a.0) (pattern_code b.0) b.1 ∙ ap (λ x. pattern_code a.0 ++ x) h' ∙ h)))
  part_was d one k w ws r f (formed_wild l) e = subst (WasPat (suc d) k (w ∷ ws)) (some_inj (wild, ws) r e) (well_wild, omega arith, rw l)
  part_was d one k w ws r f (formed_absurd l) e = subst (WasPat (suc d) k (w ∷ ws)) (some_inj (absurd_pat, ws) r e) (well_absurd, omega arith, rw l)
  part_was d one k w ws r f (formed_not l) e =
      let (a, e₁, f₁) = bind_some (read_one sig d k ws) _ r e in
      let (p, q, h) = one k ws a e₁ in
      subst (WasPat (suc d) k (w ∷ ws)) (some_inj (neg a.0, a.1) r f₁) (well_not p, omega arith, rw l (ap (λ x. 260 ∷ x) h))
  part_was d one k w ws r f (formed_var x l m) e = subst (WasPat (suc d) k (w ∷ ws)) (some_inj (var x, ws) r e) (well_var m, omega arith, ap (λ y. y ∷ ws) (sym l))
  part_was d one k w ws r f (formed_range l) e = range_was d k w ws r l e
  part_was d one k w ws r f formed_other e = none≢some e

  pub pattern_was : (d : ℕ) → Ones d
  pattern_was zero k ws r e = none≢some e
  pattern_was (suc d) k [] r e = none≢some e
  pattern_was (suc d) k (w ∷ ws) r e = part_was d (λ k' ws' r' e'. pattern_was d k' ws' r' e') k w ws r (form w) (formed w) e

mutual
  pub pdepth_length : (p : Pattern) → pattern_depth p ≤ length (pattern_code p)
  pdepth_length (head c ps) = omega (arith, pdepths_length ps)
  pdepth_length (and p q) = simp length-append (omega (arith, pdepth_length p, pdepth_length q))
  pdepth_length (or p q) = simp length-append (omega (arith, pdepth_length p, pdepth_length q))
  pdepth_length wild = omega arith
  pdepth_length absurd_pat = omega arith
  pdepth_length (neg p) = omega (arith, pdepth_length p)
  pdepth_length (var x) = omega arith
  pdepth_length (range low high) = omega arith

  pdepths_length : (ps : Patterns) → patterns_depth ps ≤ length (patterns_code ps)
  pdepths_length pnil = omega arith
  pdepths_length (pcons p ps) = simp length-append (omega (arith, pdepth_length p, pdepths_length ps))

module _ (sig : Signature) where
  pub pattern_words : (ws : List ℕ) (p : Pattern) → read_pattern sig ws ≡ some p → PatternWords sig ws p
  pattern_words ws p e =
      let (u, e₁, f₁) = bind_some (require (leb (length ws) pattern_limit)) _ p e in
      let (r, e₂, f₂) = bind_some (read_one sig pattern_limit 0 ws) _ p f₁ in
      let (s, q, h) = pattern_was sig pattern_limit 0 ws r e₂ in
      let (a, b) = whole_some r p f₂ in
      let c : pattern_code r.0 ≡ ws = sym (append-nil (pattern_code r.0)) ∙ ap (λ x. pattern_code r.0 ++ x) (sym b) ∙ h in
      record { well_formed = subst (WellFormed sig 0) a s; is_code = ap pattern_code (sym a) ∙ c; at_most = leb→le (length ws) pattern_limit (T_of (leb (length ws) pattern_limit) (require_some (leb (length ws) pattern_limit) u e₁)) }

  pub words_pattern : (ws : List ℕ) (p : Pattern) → PatternWords sig ws p → read_pattern sig ws ≡ some p
  words_pattern ws p h =
      let l : length (pattern_code p) ≤ pattern_limit = rw h.is_code h.at_most in
      let e : read_one sig pattern_limit 0 ws ≡ some (p, []) = rw (← h.is_code, ← append-nil (pattern_code p)) (pattern_read sig h.well_formed pattern_limit [] (omega (arith, pdepth_length p))) in
      rw (leb_yes (length ws) pattern_limit h.at_most, e)
