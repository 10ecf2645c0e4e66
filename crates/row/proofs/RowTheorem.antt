-- Some row of a pattern fits exactly where the pattern does.
use mathlib.Core.Path.{◌≡◌, refl, ap, ◌∙◌, sym, ap₂}
use mathlib.Core.List.{List, ◌∷◌, ◌++◌, [], map}
use mathlib.Core.Option.{Option, none, some}
use mathlib.Core.Bool.{◌&&◌, true, not, Bool, false, ◌||◌}
use Prim.Native.Nat.{ℕ, suc, ◌+◌}
use lib.Dec.{eqb}
use Rattle.signature.specs.Lawful.{OfKind, of_kind, OfKinds, of_kinds_nil, of_kinds_cons}
use Rattle.signature.specs.Lists.{somes, memb, keep}
use Rattle.signature.specs.Signature.{heads, Signature, arguments}
use Rattle.signature.specs.Value.{Value, Values, con, vcons, vnil, size}
use Rattle.signature.proofs.Booleans.{or_assoc, and_false, or_and, and_or, and_true, or_false}
use Rattle.signature.proofs.Heads.{has_kind, args_same, same_args}
use Rattle.signature.proofs.Members.{any_append, memb_keep}
use Rattle.signature.proofs.Tests.{eqb_eq}
use Rattle.pattern.specs.Decide.{is_fit, decides, decide}
use Rattle.pattern.specs.Pattern.{Patterns, head, Pattern, var, wild, absurd_pat, neg, and, or, range, pnil, pcons}
use Rattle.pattern.specs.Range.{within}
use Rattle.pattern.specs.WellFormed.{WellFormed, well_not, well_and, well_or, well_head, AllWellFormed, well_nil, well_cons}
use Rattle.pattern.proofs.Decided.{fit_swap, fit_when, fit_both, fit_or, fit_back, not_both, not_either}
use Rattle.row.specs.Row.{Row, combine, each, Rows, named, rcons, free, open_rows, other_than, allowing, args_plus, rows_plus, args_minus, rows_minus, open_row}
use Rattle.row.specs.RowFits.{fits_some, row_fits, rows_fit}
use Rattle.row.proofs.Kept.{kept_fits, fits_somes}
use Rattle.row.proofs.RowMeet.{combine_fits}

-- products of two lists of rows
somes_cons : (o : Option Row) (os : List (Option Row)) (v : Value) → fits_some (somes (o ∷ os)) v ≡ (kept_fits o v || fits_some (somes os) v)
somes_cons none os v = refl
somes_cons (some r) os v = refl

somes_append : (os us : List (Option Row)) (v : Value) → fits_some (somes (os ++ us)) v ≡ (fits_some (somes os) v || fits_some (somes us) v)
somes_append [] us v = refl
somes_append (none ∷ os) us v = somes_append os us v
somes_append (some r ∷ os) us v = ap (λ b. row_fits r v || b) (somes_append os us v) ∙ sym (or_assoc (row_fits r v) (fits_some (somes os) v) (fits_some (somes us) v))

somes_map : (r : Row) (ss : List Row) (v : Value) → fits_some (somes (map (combine r) ss)) v ≡ (row_fits r v && fits_some ss v)
somes_map r [] v = sym (and_false (row_fits r v))
somes_map r (s ∷ ss) v = somes_cons (combine r s) (map (combine r) ss) v ∙ ap₂ ◌||◌ (combine_fits r s v) (somes_map r ss v) ∙ sym (or_and (row_fits r v) (row_fits s v) (fits_some ss v))

pub products_fit : (rs ss : List Row) (v : Value) → fits_some (somes (each combine rs ss)) v ≡ (fits_some rs v && fits_some ss v)
products_fit [] ss v = refl
products_fit (r ∷ rs) ss v = somes_append (map (combine r) ss) (each combine rs ss) v ∙ ap₂ ◌||◌ (somes_map r ss v) (products_fit rs ss v) ∙ sym (and_or (row_fits r v) (fits_some rs v) (fits_some ss v))

-- a constructor over lists of arguments
named_fits : (c d : ℕ) (rss : List Rows) (vs : Values) → fits_some (map (named [] c) rss) (con d vs) ≡ (eqb c d && fits_somes rss vs)
named_fits c d [] vs = sym (and_false (eqb c d))
named_fits c d (rs ∷ rss) vs = ap (λ b. (eqb c d && rows_fit rs vs) || b) (named_fits c d rss vs) ∙ sym (or_and (eqb c d) (rows_fit rs vs) (fits_somes rss vs))

cons_map : (r : Row) (rss : List Rows) (v : Value) (vs : Values) → fits_somes (map (rcons r) rss) (vcons v vs) ≡ (row_fits r v && fits_somes rss vs)
cons_map r [] v vs = sym (and_false (row_fits r v))
cons_map r (rs ∷ rss) v vs = ap (λ b. (row_fits r v && rows_fit rs vs) || b) (cons_map r rss v vs) ∙ sym (or_and (row_fits r v) (rows_fit rs vs) (fits_somes rss vs))

cons_each : (rs : List Row) (rss : List Rows) (v : Value) (vs : Values) → fits_somes (each rcons rs rss) (vcons v vs) ≡ (fits_some rs v && fits_somes rss vs)
cons_each [] rss v vs = refl
cons_each (r ∷ rs) rss v vs = any_append (λ q. rows_fit q (vcons v vs)) (map (rcons r) rss) (each rcons rs rss) ∙ ap₂ ◌||◌ (cons_map r rss v vs) (cons_each rs rss v vs) ∙ sym (and_or (row_fits r v) (fits_some rs v) (fits_somes rss vs))

cons_open : (rs : List Row) (qs : Rows) (v : Value) (vs : Values) → rows_fit qs vs ≡ true → fits_somes (map (λ r. rcons r qs) rs) (vcons v vs) ≡ fits_some rs v
cons_open [] qs v vs e = refl
cons_open (r ∷ rs) qs v vs e = ap₂ ◌||◌ (ap (λ b. row_fits r v && b) e ∙ and_true (row_fits r v)) (cons_open rs qs v vs e)

module _ (sig : Signature) where
  pub open_fits : {k : ℕ} {v : Value} → OfKind sig k v → (xs : List ℕ) → row_fits (free xs (heads sig k)) v ≡ true
  open_fits (of_kind {k = k} {c = c} {ks = ks} e h) xs = has_kind sig k c ks e

  pub opens_fit : {ks : List ℕ} {vs : Values} → OfKinds sig ks vs → rows_fit (open_rows sig ks) vs ≡ true
  opens_fit of_kinds_nil = refl
  opens_fit (of_kinds_cons {k = k} {v = v} h g) = rw (open_fits h []) (opens_fit g)

allowing_fits : (cs : List ℕ) (d : ℕ) (vs : Values) → fits_some (allowing cs) (con d vs) ≡ memb d cs
allowing_fits [] d vs = refl
allowing_fits (c ∷ cs) d vs = or_false (memb d (c ∷ cs))

module _ (sig : Signature) where
  -- the heads of a kind that pass a test
  kept_fits_so : (f : ℕ → Bool) (k d : ℕ) (vs : Values) → memb d (heads sig k) ≡ true → fits_some (allowing (keep f (heads sig k))) (con d vs) ≡ f d
  kept_fits_so f k d vs e = allowing_fits (keep f (heads sig k)) d vs ∙ memb_keep f d (heads sig k) ∙ ap (λ b. b && f d) e

  head_plus : (k c d : ℕ) (ks : List ℕ) (ps : Patterns) (vs : Values) (i : ℕ) → arguments sig c ≡ ks → (c ≡ d → fits_somes (args_plus sig ks ps) vs ≡ is_fit (decides ps vs (suc i))) → fits_some (rows_plus sig k (head c ps)) (con d vs) ≡ is_fit (decide (head c ps) (con d vs) i)
  head_plus k c d ks ps vs i a f = rw a (named_fits c d (args_plus sig ks ps) vs ∙ go (eqb c d) refl)
    where
      go : (b : Bool) → eqb c d ≡ b → (eqb c d && fits_somes (args_plus sig ks ps) vs) ≡ is_fit (decide (head c ps) (con d vs) i)
      go true q = rw q (f (eqb_eq c d q))
      go false q = rw q

  head_minus : (k c d : ℕ) (ks : List ℕ) (ps : Patterns) (vs : Values) (i : ℕ) → arguments sig c ≡ ks → memb d (heads sig k) ≡ true → (c ≡ d → fits_somes (args_minus sig ks ps) vs ≡ not (is_fit (decides ps vs (suc i)))) → fits_some (rows_minus sig k (head c ps)) (con d vs) ≡ not (is_fit (decide (head c ps) (con d vs) i))
  head_minus k c d ks ps vs i a m f = rw a (any_append (λ r. row_fits r (con d vs)) (other_than sig k c) (map (named [] c) (args_minus sig ks ps)) ∙ ap₂ ◌||◌ (kept_fits_so (λ x. not (eqb c x)) k d vs m) (named_fits c d (args_minus sig ks ps) vs) ∙ go (eqb c d) refl)
    where
      go : (b : Bool) → eqb c d ≡ b → (not (eqb c d) || (eqb c d && fits_somes (args_minus sig ks ps) vs)) ≡ not (is_fit (decide (head c ps) (con d vs) i))
      go true q = rw q (f (eqb_eq c d q))
      go false q = rw q

  mutual
    pub plus_fits : {k : ℕ} (p : Pattern) → WellFormed sig k p → (v : Value) → OfKind sig k v → (i : ℕ) → fits_some (rows_plus sig k p) v ≡ is_fit (decide p v i)
    plus_fits (var x) s v h i = ap (λ b. b || false) (open_fits sig h (x ∷ []))
    plus_fits wild s v h i = ap (λ b. b || false) (open_fits sig h [])
    plus_fits absurd_pat s v h i = refl
    plus_fits (neg p) (well_not s) v h i = minus_fits p s v h i ∙ sym (fit_swap (decide p v i))
    plus_fits {k} (and p q) (well_and s t) v h i = products_fit (rows_plus sig k p) (rows_plus sig k q) v ∙ ap₂ ◌&&◌ (plus_fits p s v h i) (plus_fits q t v h i) ∙ sym (fit_both (decide p v i) (decide q v i))
    plus_fits {k} (or p q) (well_or s t) v h i = any_append (λ r. row_fits r v) (rows_plus sig k p) (rows_plus sig k q) ∙ ap₂ ◌||◌ (plus_fits p s v h i) (plus_fits q t v h i) ∙ sym (fit_or (decide p v i) (decide q v i))
    plus_fits {k} (head c ps) (well_head {ks = ks} l e s) (con d vs) (of_kind {ks = js} e' h) i =
        head_plus k c d ks ps vs i (args_same sig k c ks e) (λ q. args_plus_fit ps s vs (rw (same_args sig k c d e e' q) at h) (suc i))
    plus_fits {k} (range low high) s (con d vs) (of_kind {ks = js} e h) i = kept_fits_so (λ x. within low high x) k d vs (has_kind sig k d js e) ∙ sym (fit_when (within low high d))

    pub minus_fits : {k : ℕ} (p : Pattern) → WellFormed sig k p → (v : Value) → OfKind sig k v → (i : ℕ) → fits_some (rows_minus sig k p) v ≡ not (is_fit (decide p v i))
    minus_fits (var x) s v h i = refl
    minus_fits wild s v h i = refl
    minus_fits absurd_pat s v h i = ap (λ b. b || false) (open_fits sig h [])
    minus_fits (neg p) (well_not s) v h i = plus_fits p s v h i ∙ fit_back (decide p v i)
    minus_fits {k} (and p q) (well_and s t) v h i = any_append (λ r. row_fits r v) (rows_minus sig k p) (rows_minus sig k q) ∙ ap₂ ◌||◌ (minus_fits p s v h i) (minus_fits q t v h i) ∙ not_both (decide p v i) (decide q v i)
    minus_fits {k} (or p q) (well_or s t) v h i = products_fit (rows_minus sig k p) (rows_minus sig k q) v ∙ ap₂ ◌&&◌ (minus_fits p s v h i) (minus_fits q t v h i) ∙ not_either (decide p v i) (decide q v i)
    minus_fits {k} (head c ps) (well_head {ks = ks} l e s) (con d vs) (of_kind {ks = js} e' h) i =
        head_minus k c d ks ps vs i (args_same sig k c ks e) (has_kind sig k d js e') (λ q. args_minus_fit ps s vs (rw (same_args sig k c d e e' q) at h) (suc i))
    minus_fits {k} (range low high) s (con d vs) (of_kind {ks = js} e h) i = kept_fits_so (λ x. not (within low high x)) k d vs (has_kind sig k d js e) ∙ ap not (sym (fit_when (within low high d)))

    pub args_plus_fit : {ks : List ℕ} (ps : Patterns) → AllWellFormed sig ks ps → (vs : Values) → OfKinds sig ks vs → (i : ℕ) → fits_somes (args_plus sig ks ps) vs ≡ is_fit (decides ps vs i)
    args_plus_fit pnil well_nil (vcons v vs) bad i = elim bad [ ]
    args_plus_fit (pcons p ps) (well_cons s t) vnil bad i = elim bad [ ]
    args_plus_fit pnil well_nil vnil of_kinds_nil i = refl
    args_plus_fit (pcons p ps) (well_cons {k = k} {ks = ks} s t) (vcons v vs) (of_kinds_cons h g) i = cons_each (rows_plus sig k p) (args_plus sig ks ps) v vs ∙ ap₂ ◌&&◌ (plus_fits p s v h i) (args_plus_fit ps t vs g (i + size v)) ∙ sym (fit_both (decide p v i) (decides ps vs (i + size v)))

    pub args_minus_fit : {ks : List ℕ} (ps : Patterns) → AllWellFormed sig ks ps → (vs : Values) → OfKinds sig ks vs → (i : ℕ) → fits_somes (args_minus sig ks ps) vs ≡ not (is_fit (decides ps vs i))
    args_minus_fit pnil well_nil (vcons v vs) bad i = elim bad [ ]
    args_minus_fit (pcons p ps) (well_cons s t) vnil bad i = elim bad [ ]
    args_minus_fit pnil well_nil vnil of_kinds_nil i = refl
    args_minus_fit (pcons p ps) (well_cons {k = k} {ks = ks} s t) (vcons v vs) (of_kinds_cons h g) i = any_append (λ q. rows_fit q (vcons v vs)) (map (λ r. rcons r (open_rows sig ks)) (rows_minus sig k p)) (map (rcons (open_row sig k)) (args_minus sig ks ps)) ∙ ap₂ ◌||◌ (cons_open (rows_minus sig k p) (open_rows sig ks) v vs (opens_fit sig g) ∙ minus_fits p s v h i) (cons_map (open_row sig k) (args_minus sig ks ps) v vs ∙ ap (λ b. b && fits_somes (args_minus sig ks ps) vs) (open_fits sig h []) ∙ args_minus_fit ps t vs g (i + size v)) ∙ not_both (decide p v i) (decides ps vs (i + size v))
