-- Every row of a pattern has at most as many places as the pattern has words.
use mathlib.Core.List.{List, ◌++◌, ◌∷◌, []}
use mathlib.Core.Bool.{not}
use Prim.Native.Nat.{suc, ◌≤◌, ◌+◌, ℕ}
use native.Mathlib.Omega.{arith}
use lib.Dec.{eqb}
use lib.ListN.{length, length-append}
use Rattle.signature.specs.Lists.{All, none_left, also, memb, keep, is_empty, somes}
use Rattle.signature.specs.Signature.{Signature, heads}
use Rattle.signature.proofs.Heads.{args_same}
use Rattle.signature.proofs.ListFacts.{all_append, all_map, Kept, kept_bind, kept, any_kept, dropped, all_somes, kept_map, weaker}
use Rattle.pattern.specs.Pattern.{Patterns, patterns_code, pnil, pcons, Pattern, pattern_code, var, wild, absurd_pat, neg, and, or, head, range}
use Rattle.pattern.specs.Range.{within}
use Rattle.pattern.specs.WellFormed.{AllWellFormed, well_nil, well_cons, WellFormed, well_not, well_and, well_or, well_head}
use Rattle.pattern.proofs.PatternBack.{some_pattern_word}
use Rattle.row.specs.Row.{each, Row, combine, named, free, Rows, combines, rnil, rcons, open_rows, allowing, rows_plus, open_row, rows_minus, args_plus, args_minus}
use Rattle.row.specs.RowFits.{place_count, places_count}

pub all_each : {A B C : Type 0} {P : A → Type 0} {Q : B → Type 0} {R : C → Type 0} (f : A → B → C) → ((a : A) (b : B) → P a → Q b → R (f a b)) → {xs : List A} {ys : List B} → All P xs → All Q ys → All R (each f xs ys)
all_each f g none_left qs = none_left
all_each f g (also x p ps) qs = all_append (all_map (f x) (λ b q. g x b p q) qs) (all_each f g ps qs)

-- two rows as one share at least the place at the top
mutual
  pub combine_places : (r s : Row) → Kept (λ t. suc (place_count t) ≤ place_count r + place_count s) (combine r s)
  combine_places (named xs c rs) (named ys d ss) = kept_bind _ (λ u w. kept_bind _ (λ ts l. kept (named (xs ++ ys) c ts) (omega arith)) (combines_places rs ss)) (any_kept (eqb c d))
  combine_places (named xs c rs) (free ys ds) = kept_bind _ (λ u w. kept (named (xs ++ ys) c rs) (omega arith)) (any_kept (memb c ds))
  combine_places (free xs cs) (named ys d ss) = kept_bind _ (λ u w. kept (named (xs ++ ys) d ss) (omega arith)) (any_kept (memb d cs))
  combine_places (free xs cs) (free ys ds) = kept_bind _ (λ u w. kept (free (xs ++ ys) (keep (λ c. memb c ds) cs)) (omega arith)) (any_kept (not (is_empty (keep (λ c. memb c ds) cs))))

  combines_places : (rs ss : Rows) → Kept (λ ts. places_count ts ≤ places_count rs + places_count ss) (combines rs ss)
  combines_places rnil rnil = kept rnil (omega arith)
  combines_places rnil (rcons s ss) = dropped
  combines_places (rcons r rs) rnil = dropped
  combines_places (rcons r rs) (rcons s ss) = kept_bind _ (λ t l. kept_bind _ (λ ts m. kept (rcons t ts) (omega arith)) (combines_places rs ss)) (combine_places r s)

module _ (sig : Signature) where
  open_places : {ks : List ℕ} (ps : Patterns) → AllWellFormed sig ks ps → places_count (open_rows sig ks) ≤ length (patterns_code ps)
  open_places pnil well_nil = omega arith
  open_places (pcons p ps) (well_cons s t) = simp length-append (omega (arith, some_pattern_word p, open_places ps t))

allowing_places : (n : ℕ) (cs : List ℕ) → 1 ≤ n → All (λ r. place_count r ≤ n) (allowing cs)
allowing_places n [] l = none_left
allowing_places n (c ∷ cs) l = also (free [] (c ∷ cs)) l none_left

pub product_places : (p q : Pattern) {rs ss : List Row} → All (λ r. place_count r ≤ length (pattern_code p)) rs → All (λ r. place_count r ≤ length (pattern_code q)) ss → All (λ r. place_count r ≤ suc (length (pattern_code p ++ pattern_code q))) (somes (each combine rs ss))
product_places p q ps qs = all_somes (all_each combine (λ r s (l : place_count r ≤ length (pattern_code p)) (m : place_count s ≤ length (pattern_code q)). kept_map (λ t (h : suc (place_count t) ≤ place_count r + place_count s). simp length-append (omega arith)) (combine_places r s)) ps qs)

module _ (sig : Signature) where
  mutual
    pub plus_places : {k : ℕ} (p : Pattern) → WellFormed sig k p → All (λ r. place_count r ≤ length (pattern_code p)) (rows_plus sig k p)
    plus_places {k} (var x) s = also (free (x ∷ []) (heads sig k)) (omega arith) none_left
    plus_places {k} wild s = also (open_row sig k) (omega arith) none_left
    plus_places absurd_pat s = none_left
    plus_places (neg p) (well_not s) = weaker place_count (length (pattern_code p)) _ (omega arith) (minus_places p s)
    plus_places (and p q) (well_and s t) = product_places p q (plus_places p s) (plus_places q t)
    plus_places (or p q) (well_or s t) = all_append (weaker place_count (length (pattern_code p)) _ (simp length-append (omega arith)) (plus_places p s)) (weaker place_count (length (pattern_code q)) _ (simp length-append (omega arith)) (plus_places q t))
    plus_places {k} (head c ps) (well_head {ks = ks} l e s) = rw (args_same sig k c ks e) (all_map (named [] c) (λ rs (m : places_count rs ≤ length (patterns_code ps)). omega arith) (args_plus_places ps s))
    plus_places {k} (range low high) s = allowing_places _ (keep (λ d. within low high d) (heads sig k)) (omega arith)

    pub minus_places : {k : ℕ} (p : Pattern) → WellFormed sig k p → All (λ r. place_count r ≤ length (pattern_code p)) (rows_minus sig k p)
    minus_places (var x) s = none_left
    minus_places wild s = none_left
    minus_places {k} absurd_pat s = also (open_row sig k) (omega arith) none_left
    minus_places (neg p) (well_not s) = weaker place_count (length (pattern_code p)) _ (omega arith) (plus_places p s)
    minus_places (and p q) (well_and s t) = all_append (weaker place_count (length (pattern_code p)) _ (simp length-append (omega arith)) (minus_places p s)) (weaker place_count (length (pattern_code q)) _ (simp length-append (omega arith)) (minus_places q t))
    minus_places (or p q) (well_or s t) = product_places p q (minus_places p s) (minus_places q t)
    minus_places {k} (head c ps) (well_head {ks = ks} l e s) = rw (args_same sig k c ks e) (all_append (allowing_places _ (keep (λ d. not (eqb c d)) (heads sig k)) (omega arith)) (all_map (named [] c) (λ rs (m : places_count rs ≤ length (patterns_code ps)). omega arith) (args_minus_places ps s)))
    minus_places {k} (range low high) s = allowing_places _ (keep (λ d. not (within low high d)) (heads sig k)) (omega arith)

    pub args_plus_places : {ks : List ℕ} (ps : Patterns) → AllWellFormed sig ks ps → All (λ rs. places_count rs ≤ length (patterns_code ps)) (args_plus sig ks ps)
    args_plus_places pnil s = also rnil (omega arith) none_left
    args_plus_places (pcons p ps) (well_cons s t) = all_each rcons (λ r rs (l : place_count r ≤ length (pattern_code p)) (m : places_count rs ≤ length (patterns_code ps)). simp length-append (omega arith)) (plus_places p s) (args_plus_places ps t)

    pub args_minus_places : {ks : List ℕ} (ps : Patterns) → AllWellFormed sig ks ps → All (λ rs. places_count rs ≤ length (patterns_code ps)) (args_minus sig ks ps)
    args_minus_places pnil s = none_left
    args_minus_places (pcons p ps) (well_cons {k = k} {ks = ks} s t) = all_append (all_map (λ r. rcons r (open_rows sig ks)) (λ r (l : place_count r ≤ length (pattern_code p)). simp length-append (omega (arith, open_places sig ps t))) (minus_places p s)) (all_map (rcons (open_row sig k)) (λ rs (m : places_count rs ≤ length (patterns_code ps)). simp length-append (omega (arith, some_pattern_word p))) (args_minus_places ps t))
