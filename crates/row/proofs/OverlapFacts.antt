-- A row that is kept fits some value, of bounded size and depth.
use mathlib.Core.Path.{◌≡◌, refl, ◌∙◌, sym, ap}
use mathlib.Core.List.{List, [], ◌∷◌, ◌++◌}
use mathlib.Core.Option.{some}
use mathlib.Core.Bool.{true, not, Bool, false, ◌&&◌, ◌||◌}
use Prim.Native.Nat.{ℕ, ◌≤◌, ◌*◌, ◌+◌, suc}
use native.Mathlib.Omega.{arith}
use lib.Dec.{eqb}
use lib.ListN.{length}
use Rattle.signature.specs.Lawful.{OfKind, OfKinds, of_kind, of_kinds_nil, of_kinds_cons}
use Rattle.signature.specs.Limits.{small_size, argument_limit}
use Rattle.signature.specs.Lists.{is_empty, somes, All, memb, require, ◌>>=◌, keep, none_left, also}
use Rattle.signature.specs.Signature.{Signature, arguments_at, heads}
use Rattle.signature.specs.Value.{Value, size, depth, Values, sizes, depths, con, vnil, vcons}
use Rattle.signature.proofs.Booleans.{and_left, and_right}
use Rattle.signature.proofs.Heads.{same_args, Small, has_head, args_same, small_values, kind_of_head}
use Rattle.signature.proofs.ListFacts.{Kept, dropped, kept, kept_bind, kept_if, keep_all, all_somes, all_append, all_map}
use Rattle.signature.proofs.Members.{all_of}
use Rattle.signature.proofs.Tests.{eqb_eq, true≢false, eqb_self}
use Rattle.pattern.specs.Decide.{is_fit, decide}
use Rattle.pattern.specs.Pattern.{Pattern, var, wild, absurd_pat, neg, and, or, head, range, Patterns, pnil, pcons, pattern_code}
use Rattle.pattern.specs.Range.{within}
use Rattle.pattern.specs.WellFormed.{WellFormed, well_not, well_and, well_or, well_head, AllWellFormed, well_nil, well_cons}
use Rattle.row.specs.Limits.{place_words}
use Rattle.row.specs.Overlap.{overlap}
use Rattle.row.specs.Row.{Row, each, combine, rows_plus, Rows, named, free, rnil, rcons, combines, open_rows, allowing, open_row, rows_minus, args_plus, args_minus}
use Rattle.row.specs.RowFits.{fits_some, row_fits, place_count, rows_fit, places_count}
pub use Rattle.row.specs.RowFits.{Good, good_named, good_free, Goods, goods_nil, goods_cons}
use Rattle.row.proofs.Places.{all_each, product_places, plus_places}
use Rattle.row.proofs.RowTheorem.{products_fit, plus_fits}

pub some_of : (rs : List Row) (v : Value) → fits_some rs v ≡ true → not (is_empty rs) ≡ true
some_of [] v e = e
some_of (r ∷ rs) v e = refl

module _ (sig : Signature) where
  -- a value that both fit: their rows have a product
  pub shared_overlap : {k : ℕ} (p q : Pattern) → WellFormed sig k p → WellFormed sig k q → (v : Value) → OfKind sig k v → is_fit (decide p v 0) ≡ true → is_fit (decide q v 0) ≡ true → overlap sig k p q ≡ true
  shared_overlap {k} p q s t v h e f = some_of (somes (each combine (rows_plus sig k p) (rows_plus sig k q))) v (products_fit (rows_plus sig k p) (rows_plus sig k q) v ∙ rw (plus_fits sig p s v h 0, plus_fits sig q t v h 0, e, f))

  free_good : {k : ℕ} (xs cs : List ℕ) → All (λ d. memb d (heads sig k) ≡ true) cs → Kept (Good sig k) (require (not (is_empty cs)) >>= λ u. some (free xs cs))
  free_good xs [] h = dropped
  free_good xs (c ∷ cs) h = kept (free xs (c ∷ cs)) (good_free h)

  mutual
    pub combine_good : {k : ℕ} (r s : Row) → Good sig k r → Good sig k s → Kept (Good sig k) (combine r s)
    combine_good (named xs c rs) (free ys []) _ bad = elim bad [ ]
    combine_good (free xs []) s bad _ = elim bad [ ]
    combine_good (free xs (c ∷ cs)) (free ys []) _ bad = elim bad [ ]
    combine_good {k} (named xs c rs) (named ys d ss) (good_named {js = js} l e g) (good_named {js = is} l' e' h) = go (eqb c d) refl (λ h'. combines_good rs ss g h')
      where
        go : (b : Bool) → eqb c d ≡ b → (Goods sig js ss → Kept (Goods sig js) (combines rs ss)) → Kept (Good sig k) (combine (named xs c rs) (named ys d ss))
        go true q f = rw q (kept_bind _ (λ ts w. kept (named (xs ++ ys) c ts) (good_named l e w)) (f (rw (same_args sig k c d e e' (eqb_eq c d q)) at h)))
        go false q f = rw q dropped
    combine_good (named xs c rs) (free ys (d ∷ ds)) (good_named l e g) (good_free h) = kept_if (memb c (d ∷ ds)) (named (xs ++ ys) c rs) (λ q. good_named l e g)
    combine_good (free xs (c ∷ cs)) (named ys d ss) (good_free h) (good_named l e g) = kept_if (memb d (c ∷ cs)) (named (xs ++ ys) d ss) (λ q. good_named l e g)
    combine_good (free xs (c ∷ cs)) (free ys (d ∷ ds)) (good_free h) (good_free g) = free_good (xs ++ ys) (keep (λ e. memb e (d ∷ ds)) (c ∷ cs)) (keep_all (λ e. memb e (d ∷ ds)) h)

    pub combines_good : {ks : List ℕ} (rs ss : Rows) → Goods sig ks rs → Goods sig ks ss → Kept (Goods sig ks) (combines rs ss)
    combines_good rnil rnil goods_nil goods_nil = kept rnil goods_nil
    combines_good rnil (rcons s ss) g h = dropped
    combines_good (rcons r rs) rnil g h = dropped
    combines_good (rcons r rs) (rcons s ss) (goods_cons g h) (goods_cons g' h') = kept_bind _ (λ t w. kept_bind _ (λ ts w'. kept (rcons t ts) (goods_cons w w')) (combines_good rs ss h h')) (combine_good r s g g')

  open_good : {k : ℕ} (xs cs : List ℕ) → is_empty cs ≡ false → All (λ d. memb d (heads sig k) ≡ true) cs → Good sig k (free xs cs)
  open_good xs [] e h = true≢false e
  open_good xs (c ∷ cs) e h = good_free h

  all_good : {k : ℕ} (xs : List ℕ) → Small sig k → Good sig k (free xs (heads sig k))
  all_good {k} xs s = open_good xs (heads sig k) (has_head sig s) (all_of (heads sig k) (λ d m. m))

  opens_good : {ks : List ℕ} → All (Small sig) ks → Goods sig ks (open_rows sig ks)
  opens_good none_left = goods_nil
  opens_good (also k s p) = goods_cons (all_good [] s) (opens_good p)

  kept_good : (f : ℕ → Bool) (k : ℕ) → All (Good sig k) (allowing (keep f (heads sig k)))
  kept_good f k = go (keep f (heads sig k)) (keep_all f (all_of (heads sig k) (λ d m. m)))
    where
      go : (cs : List ℕ) → All (λ d. memb d (heads sig k) ≡ true) cs → All (Good sig k) (allowing cs)
      go [] h = none_left
      go (d ∷ ds) h = also (free [] (d ∷ ds)) (good_free h) none_left

module _ (sig : Signature) where
  module _ (args_small : (k c : ℕ) (js : List ℕ) → arguments_at sig k c ≡ some js → All (Small sig) js) (few : (k c : ℕ) (js : List ℕ) → arguments_at sig k c ≡ some js → length js ≤ argument_limit) where
    mutual
      pub plus_good : {k : ℕ} (p : Pattern) → Small sig k → WellFormed sig k p → All (Good sig k) (rows_plus sig k p)
      plus_good {k} (var x) m s = also (free (x ∷ []) (heads sig k)) (all_good sig (x ∷ []) m) none_left
      plus_good {k} wild m s = also (open_row sig k) (all_good sig [] m) none_left
      plus_good absurd_pat m s = none_left
      plus_good (neg p) m (well_not s) = minus_good p m s
      plus_good (and p q) m (well_and s t) = all_somes (all_each combine (λ a b g h. combine_good sig a b g h) (plus_good p m s) (plus_good q m t))
      plus_good (or p q) m (well_or s t) = all_append (plus_good p m s) (plus_good q m t)
      plus_good {k} (head c ps) m (well_head {ks = ks} l e s) = rw (args_same sig k c ks e) (all_map (named [] c) (λ rs g. good_named l e g) (args_plus_good ps (args_small k c ks e) s))
      plus_good {k} (range low high) m s = kept_good sig (λ d. within low high d) k

      pub minus_good : {k : ℕ} (p : Pattern) → Small sig k → WellFormed sig k p → All (Good sig k) (rows_minus sig k p)
      minus_good (var x) m s = none_left
      minus_good wild m s = none_left
      minus_good {k} absurd_pat m s = also (open_row sig k) (all_good sig [] m) none_left
      minus_good (neg p) m (well_not s) = plus_good p m s
      minus_good (and p q) m (well_and s t) = all_append (minus_good p m s) (minus_good q m t)
      minus_good (or p q) m (well_or s t) = all_somes (all_each combine (λ a b g h. combine_good sig a b g h) (minus_good p m s) (minus_good q m t))
      minus_good {k} (head c ps) m (well_head {ks = ks} l e s) = rw (args_same sig k c ks e) (all_append (kept_good sig (λ d. not (eqb c d)) k) (all_map (named [] c) (λ rs g. good_named l e g) (args_minus_good ps (args_small k c ks e) s)))
      minus_good {k} (range low high) m s = kept_good sig (λ d. not (within low high d)) k

      pub args_plus_good : {ks : List ℕ} (ps : Patterns) → All (Small sig) ks → AllWellFormed sig ks ps → All (Goods sig ks) (args_plus sig ks ps)
      args_plus_good pnil m well_nil = also rnil goods_nil none_left
      args_plus_good (pcons p ps) none_left bad = elim bad [ ]
      args_plus_good (pcons p ps) (also k m ms) (well_cons s t) = all_each rcons (λ a b g h. goods_cons g h) (plus_good p m s) (args_plus_good ps ms t)

      pub args_minus_good : {ks : List ℕ} (ps : Patterns) → All (Small sig) ks → AllWellFormed sig ks ps → All (Goods sig ks) (args_minus sig ks ps)
      args_minus_good pnil m well_nil = none_left
      args_minus_good (pcons p ps) none_left bad = elim bad [ ]
      args_minus_good (pcons p ps) (also k {xs = ks} m ms) (well_cons s t) = all_append (all_map (λ r. rcons r (open_rows sig ks)) (λ r g. goods_cons g (opens_good sig ms)) (minus_good p m s)) (all_map (rcons (open_row sig k)) (λ rs g. goods_cons (all_good sig [] m) g) (args_minus_good ps ms t))

    -- a value that a good row fits
    abbrev pub Filled : ℕ → Row → Type 0
    Filled k r = (v : Value) × OfKind sig k v × (row_fits r v ≡ true) × (size v ≤ place_words * place_count r) × (depth v ≤ place_count r + small_size)

    abbrev pub Filleds : List ℕ → Rows → Type 0
    Filleds ks rs = (vs : Values) × OfKinds sig ks vs × (rows_fit rs vs ≡ true) × (sizes vs ≤ place_words * places_count rs) × (depths vs ≤ places_count rs + small_size)

    free_filled : (k c : ℕ) (xs cs : List ℕ) → (js : List ℕ) × (arguments_at sig k c ≡ some js) → Filled k (free xs (c ∷ cs))
    free_filled k c xs cs (js, e) =
        let (vs, h, l, m) = small_values sig args_small few (args_small k c js e) in
        (con c vs, of_kind e h, rw (eqb_self c), omega (arith, few k c js e), omega arith)

    mutual
      pub fill : {k : ℕ} (r : Row) → Good sig k r → Filled k r
      fill (free xs []) bad = elim bad [ ]
      fill {k} (named xs c rs) (good_named l e g) =
          let (vs, h, f, l, m) = fills rs g in
          (con c vs, of_kind e h, rw (eqb_self c) f, omega arith, omega arith)
      fill {k} (free xs (c ∷ cs)) (good_free (also d h p)) = free_filled k d xs cs (kind_of_head sig k d h)

      pub fills : {ks : List ℕ} (rs : Rows) → Goods sig ks rs → Filleds ks rs
      fills rnil goods_nil = (vnil, of_kinds_nil, refl, omega arith, omega arith)
      fills (rcons r rs) (goods_cons g h) =
          let (v, a, f, l, m) = fill r g in
          let (vs, a', f', l', m') = fills rs h in
          (vcons v vs, of_kinds_cons a a', rw (f, f'), omega arith, omega arith)

    -- rows with a product: a lawful booking that both fit
    abbrev pub SharedValue : ℕ → Pattern → Pattern → Type 0
    SharedValue k p q = (v : Value) × OfKind sig k v × (is_fit (decide p v 0) ≡ true) × (is_fit (decide q v 0) ≡ true) × (size v ≤ place_words * suc (length (pattern_code p ++ pattern_code q))) × (depth v ≤ suc (length (pattern_code p ++ pattern_code q)) + small_size)

    first_shared : {k : ℕ} (p q : Pattern) → WellFormed sig k p → WellFormed sig k q → (rs : List Row) → somes (each combine (rows_plus sig k p) (rows_plus sig k q)) ≡ rs → All (Good sig k) rs → All (λ r. place_count r ≤ suc (length (pattern_code p ++ pattern_code q))) rs → not (is_empty rs) ≡ true → SharedValue k p q
    first_shared p q s t [] e g l n = true≢false (sym n)
    first_shared {k} p q s t (r ∷ rs) e (also x g gs) (also y l ls) n =
        let (v, h, f, m, d) = fill r g in
        let both : (fits_some (rows_plus sig k p) v && fits_some (rows_plus sig k q) v) ≡ true = sym (products_fit (rows_plus sig k p) (rows_plus sig k q) v) ∙ ap (λ z. fits_some z v) e ∙ ap (λ b. b || fits_some rs v) f in
        (v, h, sym (plus_fits sig p s v h 0) ∙ and_left (fits_some (rows_plus sig k p) v) (fits_some (rows_plus sig k q) v) both, sym (plus_fits sig q t v h 0) ∙ and_right (fits_some (rows_plus sig k p) v) (fits_some (rows_plus sig k q) v) both, omega arith, omega arith)

    pub overlap_shared : {k : ℕ} (p q : Pattern) → Small sig k → WellFormed sig k p → WellFormed sig k q → overlap sig k p q ≡ true → SharedValue k p q
    overlap_shared {k} p q m s t e = first_shared p q s t (somes (each combine (rows_plus sig k p) (rows_plus sig k q))) refl (all_somes (all_each combine (λ a b g h. combine_good sig a b g h) (plus_good p m s) (plus_good q m t))) (product_places p q (plus_places sig p s) (plus_places sig q t)) e
