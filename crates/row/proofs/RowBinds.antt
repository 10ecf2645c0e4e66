-- A row that fits a value binds as some fit of its pattern does.
use mathlib.Core.Path.{◌≡◌, ap, ◌∙◌, ap₂, refl, sym}
use mathlib.Core.List.{List, ◌++◌, [], ◌∷◌}
use mathlib.Core.Option.{some, Option, none}
use mathlib.Core.Bool.{◌&&◌, Bool, true, false, not, ◌||◌}
use Prim.Native.Nat.{ℕ, suc, ◌+◌}
use lib.Dec.{eqb}
use Rattle.signature.specs.Lists.{memb, require, ◌>>=◌, is_empty, keep, All, none_left, also}
use Rattle.signature.specs.Signature.{Signature, heads, arguments}
use Rattle.signature.specs.Value.{Value, Values, con, vnil, vcons, size}
use Rattle.signature.proofs.Booleans.{or_last, or_assoc, or_mix, and_left, and_right, or_false, and_or_false, not_true}
use Rattle.signature.proofs.ListFacts.{Kept, kept_bind, kept, dropped, kept_when, all_imp, all_somes, all_append, all_map}
use Rattle.signature.proofs.Members.{vars_join, memb_keep}
use Rattle.signature.proofs.Tests.{eqb_eq, true≢false, eqb_ne}
use Rattle.pattern.specs.Match.{Binds, AllFit, Fits, fits_con, SomeFails, Fails, fails_arg, all_cons, all_nil, some_here, some_there, fails_head, fits_var, fits_wild, fits_not, fits_and, fits_left, fits_right, fails_absurd, fails_not, fails_or, fails_left, fails_right, fits_range, fails_range}
use Rattle.pattern.specs.Pattern.{Patterns, head, Pattern, pcons, pnil, var, wild, absurd_pat, neg, and, or, range}
use Rattle.pattern.specs.Places.{binds}
use Rattle.pattern.specs.Range.{within}
use Rattle.pattern.proofs.Unique.{binds_append}
use Rattle.row.specs.Row.{Row, Rows, named, free, rcons, combine, combines, rnil, open_rows, open_row, allowing, rows_plus, rows_minus, args_plus, args_minus}
use Rattle.row.specs.RowFits.{row_binds, rows_bind, row_fits, rows_fit}
use Rattle.row.proofs.Kept.{kept_fits}
use Rattle.row.proofs.Places.{all_each}
use Rattle.row.proofs.RowMeet.{combine_fits}

abbrev pub Joins : Row → Row → Row → Type 0
Joins r s t = (v : Value) (i x j : ℕ) → row_binds t v i x j ≡ (row_binds r v i x j || row_binds s v i x j)

abbrev pub Joins_all : Rows → Rows → Rows → Type 0
Joins_all rs ss ts = (vs : Values) (i x j : ℕ) → rows_bind ts vs i x j ≡ (rows_bind rs vs i x j || rows_bind ss vs i x j)

joins_named_free : (xs ys ds : List ℕ) (c : ℕ) (rs : Rows) → Joins (named xs c rs) (free ys ds) (named (xs ++ ys) c rs)
joins_named_free xs ys ds c rs (con d vs) i x j = ap (λ b. b || rows_bind rs vs (suc i) x j) (vars_join x j i xs ys) ∙ or_last (memb x xs && eqb j i) (memb x ys && eqb j i) (rows_bind rs vs (suc i) x j)

joins_free_named : (xs ys cs : List ℕ) (d : ℕ) (ss : Rows) → Joins (free xs cs) (named ys d ss) (named (xs ++ ys) d ss)
joins_free_named xs ys cs d ss (con e vs) i x j = ap (λ b. b || rows_bind ss vs (suc i) x j) (vars_join x j i xs ys) ∙ or_assoc (memb x xs && eqb j i) (memb x ys && eqb j i) (rows_bind ss vs (suc i) x j)

joins_named : (xs ys : List ℕ) (c d : ℕ) (rs ss ts : Rows) → Joins_all rs ss ts → Joins (named xs c rs) (named ys d ss) (named (xs ++ ys) c ts)
joins_named xs ys c d rs ss ts f (con e vs) i x j = ap₂ ◌||◌ (vars_join x j i xs ys) (f vs (suc i) x j) ∙ or_mix (memb x xs && eqb j i) (memb x ys && eqb j i) (rows_bind rs vs (suc i) x j) (rows_bind ss vs (suc i) x j)

joins_cons : (r s t : Row) (rs ss ts : Rows) → Joins r s t → Joins_all rs ss ts → Joins_all (rcons r rs) (rcons s ss) (rcons t ts)
joins_cons r s t rs ss ts f g vnil i x j = refl
joins_cons r s t rs ss ts f g (vcons v vs) i x j = ap₂ ◌||◌ (f v i x j) (g vs (i + size v) x j) ∙ or_mix (row_binds r v i x j) (row_binds s v i x j) (rows_bind rs vs (i + size v) x j) (rows_bind ss vs (i + size v) x j)

mutual
  pub combine_joins : (r s : Row) → Kept (Joins r s) (combine r s)
  combine_joins (named xs c rs) (named ys d ss) = go (eqb c d) (combines_join rs ss)
    where
      go : (b : Bool) → Kept (Joins_all rs ss) (combines rs ss) → Kept (Joins (named xs c rs) (named ys d ss)) (require b >>= λ u. combines rs ss >>= λ ts. some (named (xs ++ ys) c ts))
      go true h = kept_bind _ (λ ts f. kept (named (xs ++ ys) c ts) (joins_named xs ys c d rs ss ts f)) h
      go false h = dropped
  combine_joins (named xs c rs) (free ys ds) = kept_when (memb c ds) (named (xs ++ ys) c rs) (joins_named_free xs ys ds c rs)
  combine_joins (free xs cs) (named ys d ss) = kept_when (memb d cs) (named (xs ++ ys) d ss) (joins_free_named xs ys cs d ss)
  combine_joins (free xs cs) (free ys ds) = kept_when (not (is_empty (keep (λ c. memb c ds) cs))) (free (xs ++ ys) (keep (λ c. memb c ds) cs)) (λ v i x j. vars_join x j i xs ys)

  pub combines_join : (rs ss : Rows) → Kept (Joins_all rs ss) (combines rs ss)
  combines_join rnil rnil = kept rnil (λ vs i x j. refl)
  combines_join rnil (rcons s ss) = dropped
  combines_join (rcons r rs) rnil = dropped
  combines_join (rcons r rs) (rcons s ss) = kept_bind _ (λ t f. kept_bind _ (λ ts g. kept (rcons t ts) (joins_cons r s t rs ss ts f g)) (combines_join rs ss)) (combine_joins r s)

-- open rows bind nothing
module _ (sig : Signature) where
  pub opens_bind : (ks : List ℕ) (vs : Values) (i x j : ℕ) → rows_bind (open_rows sig ks) vs i x j ≡ false
  opens_bind [] vs i x j = refl
  opens_bind (k ∷ ks) vnil i x j = refl
  opens_bind (k ∷ ks) (vcons v vs) i x j = opens_bind ks vs (i + size v) x j

-- the bindings of a fit, or of a failure, are a row's
abbrev pub Alike : Binds → (ℕ → ℕ → Bool) → Type 0
Alike σ f = (x j : ℕ) → binds x j σ ≡ f x j

-- a row that fits a value of a fit with its bindings
abbrev pub Means : (Value → ℕ → Binds → Type 0) → Row → Type 0
Means P r = (v : Value) (i : ℕ) → row_fits r v ≡ true → (σ : Binds) × P v i σ × Alike σ (row_binds r v i)

abbrev pub Means_all : (Values → ℕ → Binds → Type 0) → Rows → Type 0
Means_all P rs = (vs : Values) (i : ℕ) → rows_fit rs vs ≡ true → (σ : Binds) × P vs i σ × Alike σ (rows_bind rs vs i)

-- a product of two rows
product_means : {P Q R : Value → ℕ → Binds → Type 0} (r s : Row) → Means P r → Means Q s → ((v : Value) (i : ℕ) (σ τ : Binds) → P v i σ → Q v i τ → R v i (σ ++ τ)) → Kept (Means R) (combine r s)
product_means {P} {Q} {R} r s f g k = go (combine r s) (combine_joins r s) (λ v. combine_fits r s v)
  where
    go : (o : Option Row) → Kept (Joins r s) o → ((v : Value) → kept_fits o v ≡ (row_fits r v && row_fits s v)) → Kept (Means R) o
    go none dropped h = dropped
    go (some t) (kept a w) h = kept t (λ v i e. joined v i (sym (h v) ∙ e))
      where
        joined : (v : Value) (i : ℕ) → (row_fits r v && row_fits s v) ≡ true → (σ : Binds) × R v i σ × Alike σ (row_binds t v i)
        joined v i e =
            let (σ, p, a) = f v i (and_left (row_fits r v) (row_fits s v) e) in
            let (τ, q, b) = g v i (and_right (row_fits r v) (row_fits s v) e) in
            (σ ++ τ, k v i σ τ p q, λ x j. binds_append x j σ τ ∙ ap₂ ◌||◌ (a x j) (b x j) ∙ sym (w v i x j))

-- a row means more
weaken : {P Q : Value → ℕ → Binds → Type 0} → ((v : Value) (i : ℕ) (σ : Binds) → P v i σ → Q v i σ) → (r : Row) → Means P r → Means Q r
weaken f r h v i e = let (σ, p, a) = h v i e in (σ, f v i σ p, a)

-- rows under a constructor
named_means : (c : ℕ) (ps : Patterns) (rs : Rows) → Means_all (AllFit ps) rs → Means (Fits (head c ps)) (named [] c rs)
named_means c ps rs h (con d vs) i e =
    let (σ, p, a) = h vs (suc i) (and_right (eqb c d) (rows_fit rs vs) e) in
    (σ, fits_con (eqb_eq c d (and_left (eqb c d) (rows_fit rs vs) e)) p, a)

named_fails : (c : ℕ) (ps : Patterns) (rs : Rows) → Means_all (SomeFails ps) rs → Means (Fails (head c ps)) (named [] c rs)
named_fails c ps rs h (con d vs) i e =
    let (σ, p, a) = h vs (suc i) (and_right (eqb c d) (rows_fit rs vs) e) in
    (σ, fails_arg (eqb_eq c d (and_left (eqb c d) (rows_fit rs vs) e)) p, a)

cons_means : (p : Pattern) (ps : Patterns) (r : Row) (rs : Rows) → Means (Fits p) r → Means_all (AllFit ps) rs → Means_all (AllFit (pcons p ps)) (rcons r rs)
cons_means p ps r rs f g vnil i e = true≢false (sym e)
cons_means p ps r rs f g (vcons v vs) i e =
    let (σ, q, a) = f v i (and_left (row_fits r v) (rows_fit rs vs) e) in
    let (τ, q', b) = g vs (i + size v) (and_right (row_fits r v) (rows_fit rs vs) e) in
    (σ ++ τ, all_cons q q', λ x j. binds_append x j σ τ ∙ ap₂ ◌||◌ (a x j) (b x j))

nil_means : Means_all (AllFit pnil) rnil
nil_means vnil i e = ([], all_nil, λ x j. refl)
nil_means (vcons v vs) i e = true≢false (sym e)

module _ (sig : Signature) where
  here_fails : (p : Pattern) (ps : Patterns) (ks : List ℕ) (r : Row) → Means (Fails p) r → Means_all (SomeFails (pcons p ps)) (rcons r (open_rows sig ks))
  here_fails p ps ks r f vnil i e = true≢false (sym e)
  here_fails p ps ks r f (vcons v vs) i e =
      let (σ, q, a) = f v i (and_left (row_fits r v) (rows_fit (open_rows sig ks) vs) e) in
      (σ, some_here q, λ x j. a x j ∙ sym (or_false (row_binds r v i x j)) ∙ ap (λ b. row_binds r v i x j || b) (sym (opens_bind sig ks vs (i + size v) x j)))

  there_fails : (p : Pattern) (ps : Patterns) (k : ℕ) (rs : Rows) → Means_all (SomeFails ps) rs → Means_all (SomeFails (pcons p ps)) (rcons (open_row sig k) rs)
  there_fails p ps k rs f vnil i e = true≢false (sym e)
  there_fails p ps k rs f (vcons v vs) i e =
      let (σ, q, a) = f vs (i + size v) (and_right (row_fits (open_row sig k) v) (rows_fit rs vs) e) in
      (σ, some_there q, a)

  -- the heads of a kind that pass a test
  kept_means : {P : Value → ℕ → Binds → Type 0} (f : ℕ → Bool) (k : ℕ) → ((d i : ℕ) (vs : Values) → f d ≡ true → P (con d vs) i []) → All (Means P) (allowing (keep f (heads sig k)))
  kept_means {P} f k h = go (keep f (heads sig k)) (λ d e. and_right (memb d (heads sig k)) (f d) (sym (memb_keep f d (heads sig k)) ∙ e))
    where
      go : (cs : List ℕ) → ((d : ℕ) → memb d cs ≡ true → f d ≡ true) → All (Means P) (allowing cs)
      go [] g = none_left
      go (c ∷ cs) g = also (free [] (c ∷ cs)) means none_left
        where
          means : Means P (free [] (c ∷ cs))
          means (con d vs) i e = ([], h d i vs (g d e), λ x j. refl)

  mutual
    pub plus_means : (k : ℕ) (p : Pattern) → All (Means (Fits p)) (rows_plus sig k p)
    plus_means k (var y) = also (free (y ∷ []) (heads sig k)) (λ v i e. ((y, i) ∷ [], fits_var, λ x j. and_or_false (eqb x y) (eqb j i))) none_left
    plus_means k wild = also (open_row sig k) (λ v i e. ([], fits_wild, λ x j. refl)) none_left
    plus_means k absurd_pat = none_left
    plus_means k (neg p) = all_imp (λ r h. weaken (λ v i σ f. fits_not f) r h) (minus_means k p)
    plus_means k (and p q) = all_somes (all_each combine (λ r s f g. product_means r s f g (λ v i σ τ a b. fits_and a b)) (plus_means k p) (plus_means k q))
    plus_means k (or p q) = all_append (all_imp (λ r h. weaken (λ v i σ f. fits_left f) r h) (plus_means k p)) (all_imp (λ r h. weaken (λ v i σ f. fits_right f) r h) (plus_means k q))
    plus_means k (head c ps) = all_map (named [] c) (λ rs h. named_means c ps rs h) (args_plus_mean (arguments sig c) ps)
    plus_means k (range low high) = kept_means (λ d. within low high d) k (λ d i vs e. fits_range e)

    pub minus_means : (k : ℕ) (p : Pattern) → All (Means (Fails p)) (rows_minus sig k p)
    minus_means k (var y) = none_left
    minus_means k wild = none_left
    minus_means k absurd_pat = also (open_row sig k) (λ v i e. ([], fails_absurd, λ x j. refl)) none_left
    minus_means k (neg p) = all_imp (λ r h. weaken (λ v i σ f. fails_not f) r h) (plus_means k p)
    minus_means k (or p q) = all_somes (all_each combine (λ r s f g. product_means r s f g (λ v i σ τ a b. fails_or a b)) (minus_means k p) (minus_means k q))
    minus_means k (and p q) = all_append (all_imp (λ r h. weaken (λ v i σ f. fails_left f) r h) (minus_means k p)) (all_imp (λ r h. weaken (λ v i σ f. fails_right f) r h) (minus_means k q))
    minus_means k (head c ps) = all_append (kept_means (λ d. not (eqb c d)) k (λ d i vs e. fails_head (eqb_ne c d (not_true (eqb c d) e)))) (all_map (named [] c) (λ rs h. named_fails c ps rs h) (args_minus_mean (arguments sig c) ps))
    minus_means k (range low high) = kept_means (λ d. not (within low high d)) k (λ d i vs e. fails_range (not_true (within low high d) e))

    pub args_plus_mean : (ks : List ℕ) (ps : Patterns) → All (Means_all (AllFit ps)) (args_plus sig ks ps)
    args_plus_mean ks pnil = also rnil nil_means none_left
    args_plus_mean [] (pcons p ps) = none_left
    args_plus_mean (k ∷ ks) (pcons p ps) = all_each rcons (λ r rs f g. cons_means p ps r rs f g) (plus_means k p) (args_plus_mean ks ps)

    pub args_minus_mean : (ks : List ℕ) (ps : Patterns) → All (Means_all (SomeFails ps)) (args_minus sig ks ps)
    args_minus_mean ks pnil = none_left
    args_minus_mean [] (pcons p ps) = none_left
    args_minus_mean (k ∷ ks) (pcons p ps) = all_append (all_map (λ r. rcons r (open_rows sig ks)) (λ r f. here_fails p ps ks r f) (minus_means k p)) (all_map (rcons (open_row sig k)) (λ rs f. there_fails p ps k rs f) (args_minus_mean ks ps))
