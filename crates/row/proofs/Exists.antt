-- Overlap and ambiguity: the decision by rows against the existence of a value or booking.
use mathlib.Core.Path.{◌≡◌, ◌∙◌, sym, ap, refl, subst}
use mathlib.Core.Logic.{◌⊎◌, inl, inr}
use mathlib.Core.List.{List, [], ◌∷◌, ◌++◌}
use mathlib.Core.Option.{Option, none, some}
use mathlib.Core.Bool.{true, not, false, ◌&&◌, ◌||◌}
use Prim.Native.Nat.{ℕ, ◌≤◌}
use native.Mathlib.Omega.{arith}
use lib.ListN.{length, length-append}
use Rattle.signature.specs.Lawful.{OfKind}
use Rattle.signature.specs.Lists.{somes, All, is_empty, also, none_left}
use Rattle.signature.specs.Read.{Signed}
use Rattle.signature.specs.Signature.{Signature}
use Rattle.signature.specs.Value.{Value, code, size, con}
use Rattle.signature.proofs.Booleans.{not_true, and_left, and_right, either, or_true_left, or_true_right}
use Rattle.signature.proofs.Heads.{Small, args_same}
use Rattle.signature.proofs.LawfulFacts.{args_small, few, SigFacts, small_0, sig_facts}
use Rattle.signature.proofs.ListFacts.{all_somes}
use Rattle.signature.proofs.Tests.{true≢false, some_inj}
use Rattle.signature.proofs.Values.{length_code, lawful_booking, booking_lawful}
use Rattle.pattern.specs.Ambiguous.{Ambiguous, AmbiguousPart, an_or, an_and}
use Rattle.pattern.specs.Side.{Side, plus, minus, Stands, StandsIn, itself, in_not, in_and_left, in_and_right, in_or_left, in_or_right, in_head, in_first, in_rest}
use Rattle.pattern.proofs.AmbiguousParts.{AmbiguousAt, AmbiguousIn, here, under_not, left_of_and, right_of_and, left_of_or, right_of_or, under_head, as_first, as_later}
use Rattle.pattern.specs.Decide.{is_fit, decide}
use Rattle.pattern.specs.Limits.{pattern_limit}
use Rattle.pattern.specs.Linear.{E, O}
use Rattle.pattern.specs.Match.{Binds, Fits, Fails}
use Rattle.pattern.specs.Pattern.{Pattern, pattern_code, var, wild, absurd_pat, neg, and, or, head, range, Patterns, pnil, pcons}
use Rattle.pattern.specs.Read.{read_pattern}
use Rattle.pattern.specs.WellFormed.{WellFormed, PatternWords, well_not, well_and, well_or, well_head, AllWellFormed, well_cons, well_nil}
use Rattle.pattern.proofs.Decided.{fits_decide, fails_decide, decide_fits, decide_fails}
use Rattle.pattern.proofs.PatternBack.{pattern_words}
use Rattle.row.specs.Overlap.{overlap, overlap_minus, Shared, ambiguous_plus, any_plus, ambiguous_minus, any_minus, shares, SharesBooking, shared_by}
use Rattle.row.specs.Row.{each, combine, rows_plus, rows_minus, Row}
use Rattle.row.specs.RowFits.{fits_some}
use Rattle.row.proofs.OverlapFacts.{some_of, Good, fill, combine_good, minus_good, overlap_shared}
use Rattle.row.proofs.Places.{all_each}
use Rattle.row.proofs.RowTheorem.{products_fit, plus_fits, minus_fits}

module _ (sig : Signature) where
  -- a value that both fit: the rows have a product
  pub fit_overlap : {k i : ℕ} (p q : Pattern) {v : Value} {σ τ : Binds} → WellFormed sig k p → WellFormed sig k q → OfKind sig k v → Fits p v i σ → Fits q v i τ → overlap sig k p q ≡ true
  fit_overlap {k} {i} p q {v} s t h f g =
      some_of (somes (each combine (rows_plus sig k p) (rows_plus sig k q))) v (products_fit (rows_plus sig k p) (rows_plus sig k q) v ∙ rw (plus_fits sig p s v h i, plus_fits sig q t v h i, fits_decide sig p s h f, fits_decide sig q t h g))

  -- a value on which both fail: so have the minus rows
  fail_overlap : {k i : ℕ} (p q : Pattern) {v : Value} {σ τ : Binds} → WellFormed sig k p → WellFormed sig k q → OfKind sig k v → Fails p v i σ → Fails q v i τ → overlap_minus sig k p q ≡ true
  fail_overlap {k} {i} p q {v} s t h f g =
      some_of (somes (each combine (rows_minus sig k p) (rows_minus sig k q))) v (products_fit (rows_minus sig k p) (rows_minus sig k q) v ∙ rw (minus_fits sig p s v h i, minus_fits sig q t v h i, fails_decide sig p s h f, fails_decide sig q t h g))

module _ (sig : Signature) where
  module _ (facts : SigFacts sig) where
    -- products of minus rows: a value on which both fail
    first_fails : {k : ℕ} (p q : Pattern) → WellFormed sig k p → WellFormed sig k q → (rs : List Row) → somes (each combine (rows_minus sig k p) (rows_minus sig k q)) ≡ rs → All (Good sig k) rs → not (is_empty rs) ≡ true → (v : Value) × OfKind sig k v × (is_fit (decide p v 0) ≡ false) × (is_fit (decide q v 0) ≡ false)
    first_fails p q s t [] e g n = true≢false (sym n)
    first_fails {k} p q s t (r ∷ rs) e (also x g gs) n =
        let (v, h, f, m, d) = fill sig (args_small sig facts) (few sig facts) r g in
        let both : (fits_some (rows_minus sig k p) v && fits_some (rows_minus sig k q) v) ≡ true = sym (products_fit (rows_minus sig k p) (rows_minus sig k q) v) ∙ ap (λ z. fits_some z v) e ∙ ap (λ b. b || fits_some rs v) f in
        (v, h, not_true (is_fit (decide p v 0)) (sym (minus_fits sig p s v h 0) ∙ and_left (fits_some (rows_minus sig k p) v) (fits_some (rows_minus sig k q) v) both), not_true (is_fit (decide q v 0)) (sym (minus_fits sig q t v h 0) ∙ and_right (fits_some (rows_minus sig k p) v) (fits_some (rows_minus sig k q) v) both))

    overlap_fails : {k : ℕ} (p q : Pattern) → Small sig k → WellFormed sig k p → WellFormed sig k q → overlap_minus sig k p q ≡ true → (v : Value) × OfKind sig k v × (is_fit (decide p v 0) ≡ false) × (is_fit (decide q v 0) ≡ false)
    overlap_fails {k} p q m s t e = first_fails p q s t (somes (each combine (rows_minus sig k p) (rows_minus sig k q))) refl (all_somes (all_each combine (λ a b g h. combine_good sig a b g h) (minus_good sig (args_small sig facts) (few sig facts) p m s) (minus_good sig (args_small sig facts) (few sig facts) q m t))) e

    -- (a) of patterns read: the decided overlap is a shared lawful booking
    pub overlap_booking : (us ws : List ℕ) (p q : Pattern) → PatternWords sig us p → PatternWords sig ws q → overlap sig 0 p q ≡ true → Shared sig p q
    overlap_booking us ws p q a b e =
        let (v, h, f, g, l, d) = overlap_shared sig (args_small sig facts) (few sig facts) p q (small_0 sig facts) a.well_formed b.well_formed e in
        let (σ, f') = decide_fits sig p 0 a.well_formed h f in
        let (τ, g') = decide_fits sig q 0 b.well_formed h g in
        let x : length (pattern_code p) ≤ pattern_limit = rw a.is_code a.at_most in
        let y : length (pattern_code q) ≤ pattern_limit = rw b.is_code b.at_most in
        let z : length (pattern_code p ++ pattern_code q) ≤ 128 = simp length-append (omega arith) in
        let n : length (code v) ≡ size v = length_code v in
        record { words = code v; value = v; lawful = record { kind_0 = h; is_code = refl; some_words = one v n; at_most = omega arith; deep = omega arith }; binds_p = σ; binds_q = τ; fits_p = f'; fits_q = g' }
      where
        one : (v : Value) → length (code v) ≡ size v → 1 ≤ length (code v)
        one (con c vs) n = omega arith

    pub booking_overlap : (us ws : List ℕ) (p q : Pattern) → PatternWords sig us p → PatternWords sig ws q → Shared sig p q → overlap sig 0 p q ≡ true
    booking_overlap us ws p q a b s = fit_overlap sig p q a.well_formed b.well_formed s.lawful.kind_0 s.fits_p s.fits_q

    -- (b) ambiguous: existence and decision
    mutual
      pub ambiguous_exists : (p : Pattern) {k : ℕ} → Small sig k → WellFormed sig k p → ambiguous_plus sig k p ≡ true → AmbiguousAt sig plus k p
      ambiguous_exists (var x) m s e = true≢false (sym e)
      ambiguous_exists wild m s e = true≢false (sym e)
      ambiguous_exists absurd_pat m s e = true≢false (sym e)
      ambiguous_exists (range low high) m s e = true≢false (sym e)
      ambiguous_exists (neg p) m (well_not s) e = under_not (ambiguous_exists' p m s e)
      ambiguous_exists (and p q) {k} m (well_and s t) e = go (either (ambiguous_plus sig k p) (ambiguous_plus sig k q) e) (λ y. ambiguous_exists p m s y) (λ y. ambiguous_exists q m t y)
        where
          go : (ambiguous_plus sig k p ≡ true) ⊎ (ambiguous_plus sig k q ≡ true) → (ambiguous_plus sig k p ≡ true → AmbiguousAt sig plus k p) → (ambiguous_plus sig k q ≡ true → AmbiguousAt sig plus k q) → AmbiguousAt sig plus k (and p q)
          go (inl a) f g = left_of_and (f a)
          go (inr a) f g = right_of_and (g a)
      ambiguous_exists (or p q) {k} m (well_or s t) e = go (either ((not (is_empty (E (or p q))) && overlap sig k p q) || ambiguous_plus sig k p) (ambiguous_plus sig k q) e) (λ y. ambiguous_exists p m s y) (λ y. ambiguous_exists q m t y)
        where
          found : (not (is_empty (E (or p q))) && overlap sig k p q) ≡ true → AmbiguousAt sig plus k (or p q)
          found a =
              let (v, h, f, g, l, d) = overlap_shared sig (args_small sig facts) (few sig facts) p q m s t (and_right (not (is_empty (E (or p q)))) (overlap sig k p q) a) in
              let (σ, f') = decide_fits sig p 0 s h f in
              let (τ, g') = decide_fits sig q 0 t h g in
              here (an_or (not_true (is_empty (E (or p q))) (and_left (not (is_empty (E (or p q)))) (overlap sig k p q) a)) h f' g')

          go₂ : ((not (is_empty (E (or p q))) && overlap sig k p q) ≡ true) ⊎ (ambiguous_plus sig k p ≡ true) → (ambiguous_plus sig k p ≡ true → AmbiguousAt sig plus k p) → AmbiguousAt sig plus k (or p q)
          go₂ (inl a) f = found a
          go₂ (inr a) f = left_of_or (f a)

          go : (((not (is_empty (E (or p q))) && overlap sig k p q) || ambiguous_plus sig k p) ≡ true) ⊎ (ambiguous_plus sig k q ≡ true) → (ambiguous_plus sig k p ≡ true → AmbiguousAt sig plus k p) → (ambiguous_plus sig k q ≡ true → AmbiguousAt sig plus k q) → AmbiguousAt sig plus k (or p q)
          go (inl a) f g = go₂ (either (not (is_empty (E (or p q))) && overlap sig k p q) (ambiguous_plus sig k p) a) f
          go (inr a) f g = right_of_or (g a)
      ambiguous_exists (head c ps) {k} m (well_head {ks = ks} l a s) e = under_head a (ambiguous_exists_all ps (args_small sig facts k c ks a) s (ap (λ js. any_plus sig js ps) (sym (args_same sig k c ks a)) ∙ e))

      pub ambiguous_exists' : (p : Pattern) {k : ℕ} → Small sig k → WellFormed sig k p → ambiguous_minus sig k p ≡ true → AmbiguousAt sig minus k p
      ambiguous_exists' (var x) m s e = true≢false (sym e)
      ambiguous_exists' wild m s e = true≢false (sym e)
      ambiguous_exists' absurd_pat m s e = true≢false (sym e)
      ambiguous_exists' (range low high) m s e = true≢false (sym e)
      ambiguous_exists' (neg p) m (well_not s) e = under_not (ambiguous_exists p m s e)
      ambiguous_exists' (or p q) {k} m (well_or s t) e = go (either (ambiguous_minus sig k p) (ambiguous_minus sig k q) e) (λ y. ambiguous_exists' p m s y) (λ y. ambiguous_exists' q m t y)
        where
          go : (ambiguous_minus sig k p ≡ true) ⊎ (ambiguous_minus sig k q ≡ true) → (ambiguous_minus sig k p ≡ true → AmbiguousAt sig minus k p) → (ambiguous_minus sig k q ≡ true → AmbiguousAt sig minus k q) → AmbiguousAt sig minus k (or p q)
          go (inl a) f g = left_of_or (f a)
          go (inr a) f g = right_of_or (g a)
      ambiguous_exists' (and p q) {k} m (well_and s t) e = go (either ((not (is_empty (O (and p q))) && overlap_minus sig k p q) || ambiguous_minus sig k p) (ambiguous_minus sig k q) e) (λ y. ambiguous_exists' p m s y) (λ y. ambiguous_exists' q m t y)
        where
          found : (not (is_empty (O (and p q))) && overlap_minus sig k p q) ≡ true → AmbiguousAt sig minus k (and p q)
          found a =
              let (v, h, f, g) = overlap_fails p q m s t (and_right (not (is_empty (O (and p q)))) (overlap_minus sig k p q) a) in
              let (σ, f') = decide_fails sig p 0 s h f in
              let (τ, g') = decide_fails sig q 0 t h g in
              here (an_and (not_true (is_empty (O (and p q))) (and_left (not (is_empty (O (and p q)))) (overlap_minus sig k p q) a)) h f' g')

          go₂ : ((not (is_empty (O (and p q))) && overlap_minus sig k p q) ≡ true) ⊎ (ambiguous_minus sig k p ≡ true) → (ambiguous_minus sig k p ≡ true → AmbiguousAt sig minus k p) → AmbiguousAt sig minus k (and p q)
          go₂ (inl a) f = found a
          go₂ (inr a) f = left_of_and (f a)

          go : (((not (is_empty (O (and p q))) && overlap_minus sig k p q) || ambiguous_minus sig k p) ≡ true) ⊎ (ambiguous_minus sig k q ≡ true) → (ambiguous_minus sig k p ≡ true → AmbiguousAt sig minus k p) → (ambiguous_minus sig k q ≡ true → AmbiguousAt sig minus k q) → AmbiguousAt sig minus k (and p q)
          go (inl a) f g = go₂ (either (not (is_empty (O (and p q))) && overlap_minus sig k p q) (ambiguous_minus sig k p) a) f
          go (inr a) f g = right_of_and (g a)
      ambiguous_exists' (head c ps) {k} m (well_head {ks = ks} l a s) e = under_head a (ambiguous_exists_all' ps (args_small sig facts k c ks a) s (ap (λ js. any_minus sig js ps) (sym (args_same sig k c ks a)) ∙ e))

      ambiguous_exists_all : (ps : Patterns) {ks : List ℕ} → All (Small sig) ks → AllWellFormed sig ks ps → any_plus sig ks ps ≡ true → AmbiguousIn sig plus ks ps
      ambiguous_exists_all pnil m s e = true≢false (sym e)
      ambiguous_exists_all (pcons p ps) none_left bad e = elim bad [ ]
      ambiguous_exists_all (pcons p ps) (also k {xs = ks} m ms) (well_cons s t) e = go (either (ambiguous_plus sig k p) (any_plus sig ks ps) e) (λ y. ambiguous_exists p m s y) (λ y. ambiguous_exists_all ps ms t y)
        where
          go : (ambiguous_plus sig k p ≡ true) ⊎ (any_plus sig ks ps ≡ true) → (ambiguous_plus sig k p ≡ true → AmbiguousAt sig plus k p) → (any_plus sig ks ps ≡ true → AmbiguousIn sig plus ks ps) → AmbiguousIn sig plus (k ∷ ks) (pcons p ps)
          go (inl a) f g = as_first (f a)
          go (inr a) f g = as_later (g a)

      ambiguous_exists_all' : (ps : Patterns) {ks : List ℕ} → All (Small sig) ks → AllWellFormed sig ks ps → any_minus sig ks ps ≡ true → AmbiguousIn sig minus ks ps
      ambiguous_exists_all' pnil m s e = true≢false (sym e)
      ambiguous_exists_all' (pcons p ps) none_left bad e = elim bad [ ]
      ambiguous_exists_all' (pcons p ps) (also k {xs = ks} m ms) (well_cons s t) e = go (either (ambiguous_minus sig k p) (any_minus sig ks ps) e) (λ y. ambiguous_exists' p m s y) (λ y. ambiguous_exists_all' ps ms t y)
        where
          go : (ambiguous_minus sig k p ≡ true) ⊎ (any_minus sig ks ps ≡ true) → (ambiguous_minus sig k p ≡ true → AmbiguousAt sig minus k p) → (any_minus sig ks ps ≡ true → AmbiguousIn sig minus ks ps) → AmbiguousIn sig minus (k ∷ ks) (pcons p ps)
          go (inl a) f g = as_first (f a)
          go (inr a) f g = as_later (g a)

module _ (sig : Signature) where
  mutual
    ambiguous_parts : (p : Pattern) {k j : ℕ} {r : Side} {q : Pattern} → WellFormed sig k p → Stands sig plus k p r j q → AmbiguousPart sig r j q → ambiguous_plus sig k p ≡ true
    ambiguous_parts (head c ps) (well_head l b s) itself a = elim a [ ]
    ambiguous_parts (and p q) (well_and s t) itself a = elim a [ ]
    ambiguous_parts (neg p) (well_not s) itself a = elim a [ ]
    ambiguous_parts (or p q) {k} (well_or s t) itself (an_or e h f g) = rw (e, fit_overlap sig p q s t h f g)
    ambiguous_parts (var x) s itself a = elim a [ ]
    ambiguous_parts wild s itself a = elim a [ ]
    ambiguous_parts absurd_pat s itself a = elim a [ ]
    ambiguous_parts (range low high) s itself a = elim a [ ]
    ambiguous_parts (neg p) (well_not s) (in_not h) a = ambiguous_parts' p s h a
    ambiguous_parts (and p q) {k} (well_and s t) (in_and_left h) a = or_true_left (ambiguous_plus sig k p) (ambiguous_plus sig k q) (ambiguous_parts p s h a)
    ambiguous_parts (and p q) {k} (well_and s t) (in_and_right h) a = or_true_right (ambiguous_plus sig k p) (ambiguous_plus sig k q) (ambiguous_parts q t h a)
    ambiguous_parts (or p q) {k} (well_or s t) (in_or_left h) a = or_true_left ((not (is_empty (E (or p q))) && overlap sig k p q) || ambiguous_plus sig k p) (ambiguous_plus sig k q) (or_true_right (not (is_empty (E (or p q))) && overlap sig k p q) (ambiguous_plus sig k p) (ambiguous_parts p s h a))
    ambiguous_parts (or p q) {k} (well_or s t) (in_or_right h) a = or_true_right ((not (is_empty (E (or p q))) && overlap sig k p q) || ambiguous_plus sig k p) (ambiguous_plus sig k q) (ambiguous_parts q t h a)
    ambiguous_parts (head c ps) {k} {j} {r} {q} (well_head {ks = ks} l b s) (in_head d h) a = ap (λ js. any_plus sig js ps) (args_same sig k c ks b) ∙ ambiguous_arguments ps s (subst (λ js. StandsIn sig plus js ps r j q) (sym (args_same sig k c _ d) ∙ args_same sig k c ks b) h) a

    ambiguous_parts' : (p : Pattern) {k j : ℕ} {r : Side} {q : Pattern} → WellFormed sig k p → Stands sig minus k p r j q → AmbiguousPart sig r j q → ambiguous_minus sig k p ≡ true
    ambiguous_parts' (head c ps) (well_head l b s) itself a = elim a [ ]
    ambiguous_parts' (or p q) (well_or s t) itself a = elim a [ ]
    ambiguous_parts' (neg p) (well_not s) itself a = elim a [ ]
    ambiguous_parts' (and p q) {k} (well_and s t) itself (an_and e h f g) = rw (e, fail_overlap sig p q s t h f g)
    ambiguous_parts' (var x) s itself a = elim a [ ]
    ambiguous_parts' wild s itself a = elim a [ ]
    ambiguous_parts' absurd_pat s itself a = elim a [ ]
    ambiguous_parts' (range low high) s itself a = elim a [ ]
    ambiguous_parts' (neg p) (well_not s) (in_not h) a = ambiguous_parts p s h a
    ambiguous_parts' (or p q) {k} (well_or s t) (in_or_left h) a = or_true_left (ambiguous_minus sig k p) (ambiguous_minus sig k q) (ambiguous_parts' p s h a)
    ambiguous_parts' (or p q) {k} (well_or s t) (in_or_right h) a = or_true_right (ambiguous_minus sig k p) (ambiguous_minus sig k q) (ambiguous_parts' q t h a)
    ambiguous_parts' (and p q) {k} (well_and s t) (in_and_left h) a = or_true_left ((not (is_empty (O (and p q))) && overlap_minus sig k p q) || ambiguous_minus sig k p) (ambiguous_minus sig k q) (or_true_right (not (is_empty (O (and p q))) && overlap_minus sig k p q) (ambiguous_minus sig k p) (ambiguous_parts' p s h a))
    ambiguous_parts' (and p q) {k} (well_and s t) (in_and_right h) a = or_true_right ((not (is_empty (O (and p q))) && overlap_minus sig k p q) || ambiguous_minus sig k p) (ambiguous_minus sig k q) (ambiguous_parts' q t h a)
    ambiguous_parts' (head c ps) {k} {j} {r} {q} (well_head {ks = ks} l b s) (in_head d h) a = ap (λ js. any_minus sig js ps) (args_same sig k c ks b) ∙ ambiguous_arguments' ps s (subst (λ js. StandsIn sig minus js ps r j q) (sym (args_same sig k c _ d) ∙ args_same sig k c ks b) h) a

    ambiguous_arguments : (ps : Patterns) {ks : List ℕ} {j : ℕ} {r : Side} {q : Pattern} → AllWellFormed sig ks ps → StandsIn sig plus ks ps r j q → AmbiguousPart sig r j q → any_plus sig ks ps ≡ true
    ambiguous_arguments pnil well_nil bad a = elim bad [ ]
    ambiguous_arguments (pcons p ps) (well_cons {k = k} {ks = ks} s t) (in_first h) a = or_true_left (ambiguous_plus sig k p) (any_plus sig ks ps) (ambiguous_parts p s h a)
    ambiguous_arguments (pcons p ps) (well_cons {k = k} {ks = ks} s t) (in_rest h) a = or_true_right (ambiguous_plus sig k p) (any_plus sig ks ps) (ambiguous_arguments ps t h a)

    ambiguous_arguments' : (ps : Patterns) {ks : List ℕ} {j : ℕ} {r : Side} {q : Pattern} → AllWellFormed sig ks ps → StandsIn sig minus ks ps r j q → AmbiguousPart sig r j q → any_minus sig ks ps ≡ true
    ambiguous_arguments' pnil well_nil bad a = elim bad [ ]
    ambiguous_arguments' (pcons p ps) (well_cons {k = k} {ks = ks} s t) (in_first h) a = or_true_left (ambiguous_minus sig k p) (any_minus sig ks ps) (ambiguous_parts' p s h a)
    ambiguous_arguments' (pcons p ps) (well_cons {k = k} {ks = ks} s t) (in_rest h) a = or_true_right (ambiguous_minus sig k p) (any_minus sig ks ps) (ambiguous_arguments' ps t h a)

  pub ambiguous_decided : (p : Pattern) {k : ℕ} → WellFormed sig k p → Ambiguous sig k p → ambiguous_plus sig k p ≡ true
  ambiguous_decided p w (r, j, q, h, a) = ambiguous_parts p w h a

-- on the words of two patterns: 12 is decided exactly where a lawful booking is shared
pub shares_exists : (sig : Signature) → Signed sig → (us ws : List ℕ) → shares sig us ws ≡ true → SharesBooking sig us ws
shares_exists sig h us ws e = go (read_pattern sig us) (read_pattern sig ws) refl refl e
  where
    go : (o u : Option Pattern) → read_pattern sig us ≡ o → read_pattern sig ws ≡ u → shared_by sig o u ≡ true → SharesBooking sig us ws
    go none u a b z = true≢false (sym z)
    go (some p) none a b z = true≢false (sym z)
    go (some p) (some q) a b z =
        let s = overlap_booking sig (sig_facts sig h) us ws p q (pattern_words sig us p a) (pattern_words sig ws q b) z in
        let l = lawful_booking sig s.words s.value s.lawful in
        record { words = s.words; binds_us = s.binds_p; binds_ws = s.binds_q; taken_us = (p, s.value, a, l, s.fits_p); taken_ws = (q, s.value, b, l, s.fits_q) }

pub exists_shares : (sig : Signature) → Signed sig → (us ws : List ℕ) → SharesBooking sig us ws → shares sig us ws ≡ true
exists_shares sig h us ws s =
    let (p, v, a, l, f) = s.taken_us in
    let (q, w, b, m, g) = s.taken_ws in
    let z : v ≡ w = some_inj v w (sym l ∙ m) in
    rw (a, b) (booking_overlap sig (sig_facts sig h) us ws p q (pattern_words sig us p a) (pattern_words sig ws q b) (record { words = s.words; value = v; lawful = booking_lawful sig s.words v l; binds_p = s.binds_us; binds_q = s.binds_ws; fits_p = f; fits_q = subst (λ x. Fits q x 0 s.binds_ws) (sym z) g }))
