-- Rows are at most the weight, and a row of a linear-plus pattern binds no variable twice.
use mathlib.Core.Path.{◌≡◌, sym, refl}
use mathlib.Core.List.{List, [], ◌∷◌, map, ◌++◌}
use mathlib.Core.Option.{some}
use mathlib.Core.Bool.{not, Bool, true, false, ◌&&◌}
use Prim.Native.Nat.{◌*◌, ℕ, ◌≤◌, ◌+◌}
use native.Mathlib.Nat.{zero-mul, suc-mul}
use native.Mathlib.Omega.{arith}
use lib.Dec.{eqb}
use lib.ListN.{length, length-append, length-map}
use Rattle.signature.specs.Lists.{is_empty, keep, require, ◌>>=◌, memb, All, somes, none_left, also}
use Rattle.signature.specs.Signature.{Signature, heads, arguments}
use Rattle.signature.proofs.Booleans.{and_left, and_right}
use Rattle.signature.proofs.ListFacts.{length_somes, Kept, kept_bind, kept, dropped, kept_when, all_somes, kept_map, all_imp, all_append, all_map}
use Rattle.signature.proofs.Tests.{times_less}
use Rattle.pattern.specs.Linear.{disjoint, linear_plus, E, same_set, E_all, linear_minus, O, O_all, all_plus, all_minus}
use Rattle.pattern.specs.Pattern.{Pattern, var, wild, absurd_pat, neg, and, or, head, range, Patterns, pnil, pcons}
use Rattle.pattern.specs.Places.{tick}
use Rattle.pattern.specs.Range.{within}
use Rattle.pattern.specs.Weight.{weight_plus, weight_minus, product_plus, sum_minus}
use Rattle.pattern.proofs.Once.{disjoint_tick, left_tick, right_tick, one_tick}
use Rattle.row.specs.Row.{each, other_than, allowing, free, rows_plus, combine, args_plus, named, rows_minus, args_minus, rcons, open_rows, open_row, Row, Rows, rnil, combines}
use Rattle.row.proofs.Places.{all_each}

length_each : {A B C : Type 0} (f : A → B → C) (xs : List A) (ys : List B) → length (each f xs ys) ≡ length xs * length ys
length_each f [] ys = sym (zero-mul (length ys))
length_each f (x ∷ xs) ys = rw (length-append (map (f x) ys) (each f xs ys), length-map ys (f x), length_each f xs ys, suc-mul (length xs) (length ys)) (omega arith)

length_allowing : (cs : List ℕ) → length (allowing cs) ≤ 1
length_allowing [] = omega arith
length_allowing (c ∷ cs) = omega arith

module _ (sig : Signature) where
  mutual
    pub plus_count : (p : Pattern) (k : ℕ) → length (rows_plus sig k p) ≤ weight_plus p
    plus_count (var x) k = omega arith
    plus_count wild k = omega arith
    plus_count absurd_pat k = omega arith
    plus_count (neg p) k = minus_count p k
    plus_count (and p q) k = omega (arith, length_somes (each combine (rows_plus sig k p) (rows_plus sig k q)), length_each combine (rows_plus sig k p) (rows_plus sig k q), times_less (length (rows_plus sig k p)) (weight_plus p) (length (rows_plus sig k q)) (weight_plus q) (plus_count p k) (plus_count q k))
    plus_count (or p q) k = omega (arith, length-append (rows_plus sig k p) (rows_plus sig k q), plus_count p k, plus_count q k)
    plus_count (head c ps) k = omega (arith, length-map (args_plus sig (arguments sig c) ps) (named [] c), args_plus_count ps (arguments sig c))
    plus_count (range low high) k = length_allowing (keep (λ d. within low high d) (heads sig k))

    pub minus_count : (p : Pattern) (k : ℕ) → length (rows_minus sig k p) ≤ weight_minus p
    minus_count (var x) k = omega arith
    minus_count wild k = omega arith
    minus_count absurd_pat k = omega arith
    minus_count (neg p) k = plus_count p k
    minus_count (or p q) k = omega (arith, length_somes (each combine (rows_minus sig k p) (rows_minus sig k q)), length_each combine (rows_minus sig k p) (rows_minus sig k q), times_less (length (rows_minus sig k p)) (weight_minus p) (length (rows_minus sig k q)) (weight_minus q) (minus_count p k) (minus_count q k))
    minus_count (and p q) k = omega (arith, length-append (rows_minus sig k p) (rows_minus sig k q), minus_count p k, minus_count q k)
    minus_count (head c ps) k = omega (arith, length-append (other_than sig k c) (map (named [] c) (args_minus sig (arguments sig c) ps)), length_allowing (keep (λ d. not (eqb c d)) (heads sig k)), length-map (args_minus sig (arguments sig c) ps) (named [] c), args_minus_count ps (arguments sig c))
    minus_count (range low high) k = length_allowing (keep (λ d. not (within low high d)) (heads sig k))

    pub args_plus_count : (ps : Patterns) (ks : List ℕ) → length (args_plus sig ks ps) ≤ product_plus ps
    args_plus_count pnil ks = omega arith
    args_plus_count (pcons p ps) [] = omega arith
    args_plus_count (pcons p ps) (k ∷ ks) = omega (arith, length_each rcons (rows_plus sig k p) (args_plus sig ks ps), times_less (length (rows_plus sig k p)) (weight_plus p) (length (args_plus sig ks ps)) (product_plus ps) (plus_count p k) (args_plus_count ps ks))

    args_minus_count : (ps : Patterns) (ks : List ℕ) → length (args_minus sig ks ps) ≤ sum_minus ps
    args_minus_count pnil ks = omega arith
    args_minus_count (pcons p ps) [] = omega arith
    args_minus_count (pcons p ps) (k ∷ ks) = omega (arith, length-append (map (λ r. rcons r (open_rows sig ks)) (rows_minus sig k p)) (map (rcons (open_row sig k)) (args_minus sig ks ps)), length-map (rows_minus sig k p) (λ r. rcons r (open_rows sig ks)), length-map (args_minus sig ks ps) (rcons (open_row sig k)), minus_count p k, args_minus_count ps ks)

-- how often a variable stands in a list, and in a row
abbrev pub counts : ℕ → List ℕ → ℕ
counts x [] = 0
counts x (y ∷ ys) = tick (eqb x y) + counts x ys

abbrev mutual
  pub occurs : ℕ → Row → ℕ
  occurs x (named xs c rs) = counts x xs + occurs_all x rs
  occurs x (free xs cs) = counts x xs

  pub occurs_all : ℕ → Rows → ℕ
  occurs_all x rnil = 0
  occurs_all x (rcons r rs) = occurs x r + occurs_all x rs

counts_append : (x : ℕ) (xs ys : List ℕ) → counts x (xs ++ ys) ≡ counts x xs + counts x ys
counts_append x [] ys = omega arith
counts_append x (z ∷ xs) ys = omega (arith, counts_append x xs ys)

abbrev Adds : Row → Row → Row → Type 0
Adds r s t = (x : ℕ) → occurs x t ≡ occurs x r + occurs x s

abbrev Adds_all : Rows → Rows → Rows → Type 0
Adds_all rs ss ts = (x : ℕ) → occurs_all x ts ≡ occurs_all x rs + occurs_all x ss

mutual
  combine_adds : (r s : Row) → Kept (Adds r s) (combine r s)
  combine_adds (named xs c rs) (named ys d ss) = go (eqb c d) (combines_add rs ss)
    where
      go : (b : Bool) → Kept (Adds_all rs ss) (combines rs ss) → Kept (Adds (named xs c rs) (named ys d ss)) (require b >>= λ u. combines rs ss >>= λ ts. some (named (xs ++ ys) c ts))
      go true h = kept_bind _ (λ ts f. kept (named (xs ++ ys) c ts) (λ x. omega (arith, counts_append x xs ys, f x))) h
      go false h = dropped
  combine_adds (named xs c rs) (free ys ds) = kept_when (memb c ds) (named (xs ++ ys) c rs) (λ x. omega (arith, counts_append x xs ys))
  combine_adds (free xs cs) (named ys d ss) = kept_when (memb d cs) (named (xs ++ ys) d ss) (λ x. omega (arith, counts_append x xs ys))
  combine_adds (free xs cs) (free ys ds) = kept_when (not (is_empty (keep (λ c. memb c ds) cs))) (free (xs ++ ys) (keep (λ c. memb c ds) cs)) (λ x. counts_append x xs ys)

  combines_add : (rs ss : Rows) → Kept (Adds_all rs ss) (combines rs ss)
  combines_add rnil rnil = kept rnil (λ x. refl)
  combines_add rnil (rcons s ss) = dropped
  combines_add (rcons r rs) rnil = dropped
  combines_add (rcons r rs) (rcons s ss) = kept_bind _ (λ t f. kept_bind _ (λ ts g. kept (rcons t ts) (λ x. omega (arith, f x, g x))) (combines_add rs ss)) (combine_adds r s)

-- a row's variables are of a list, each at most once
abbrev pub OnceIn : List ℕ → Row → Type 0
OnceIn xs r = (x : ℕ) → occurs x r ≤ tick (memb x xs)

abbrev pub OncesIn : List ℕ → Rows → Type 0
OncesIn xs rs = (x : ℕ) → occurs_all x rs ≤ tick (memb x xs)

pub opens_none : (sig : Signature) (ks : List ℕ) (x : ℕ) → occurs_all x (open_rows sig ks) ≡ 0
opens_none sig [] x = refl
opens_none sig (k ∷ ks) x = omega (arith, opens_none sig ks x)

allowing_once : (xs cs : List ℕ) → All (OnceIn xs) (allowing cs)
allowing_once xs [] = none_left
allowing_once xs (c ∷ cs) = also (free [] (c ∷ cs)) (λ x. omega arith) none_left

product_once : (xs ys : List ℕ) {rs ss : List Row} → disjoint xs ys ≡ true → All (OnceIn xs) rs → All (OnceIn ys) ss → All (OnceIn (xs ++ ys)) (somes (each combine rs ss))
product_once xs ys d a b = all_somes (all_each combine (λ r s (f : OnceIn xs r) (g : OnceIn ys s). kept_map (λ t (h : Adds r s t) x. omega (arith, h x, f x, g x, disjoint_tick x xs ys d)) (combine_adds r s)) a b)

to_left : (xs ys : List ℕ) {rs : List Row} → All (OnceIn xs) rs → All (OnceIn (xs ++ ys)) rs
to_left xs ys h = all_imp (λ r (f : OnceIn xs r) x. omega (arith, f x, left_tick x xs ys)) h

to_right : (xs ys : List ℕ) {rs : List Row} → All (OnceIn ys) rs → All (OnceIn (xs ++ ys)) rs
to_right xs ys h = all_imp (λ r (f : OnceIn ys r) x. omega (arith, f x, right_tick x xs ys)) h

module _ (sig : Signature) where
  mutual
    pub plus_once : (p : Pattern) (k : ℕ) → linear_plus p ≡ true → All (OnceIn (E p)) (rows_plus sig k p)
    plus_once (var y) k l = also (free (y ∷ []) (heads sig k)) (λ x. one_tick (eqb x y)) none_left
    plus_once wild k l = also (open_row sig k) (λ x. omega arith) none_left
    plus_once absurd_pat k l = none_left
    plus_once (neg p) k l = minus_once p k l
    plus_once (and p q) k l =
        let a : (linear_plus p && linear_plus q) ≡ true = and_left (linear_plus p && linear_plus q) (disjoint (E p) (E q)) l in
        product_once (E p) (E q) (and_right (linear_plus p && linear_plus q) (disjoint (E p) (E q)) l) (plus_once p k (and_left (linear_plus p) (linear_plus q) a)) (plus_once q k (and_right (linear_plus p) (linear_plus q) a))
    plus_once (or p q) k l =
        let a : (linear_plus p && linear_plus q) ≡ true = and_left (linear_plus p && linear_plus q) (same_set (E p) (E q)) l in
        all_append (to_left (E p) (E q) (plus_once p k (and_left (linear_plus p) (linear_plus q) a))) (to_right (E p) (E q) (plus_once q k (and_right (linear_plus p) (linear_plus q) a)))
    plus_once (head c ps) k l = all_map (named [] c) (λ rs (f : OncesIn (E_all ps) rs) x. omega (arith, f x)) (args_plus_once ps (arguments sig c) l)
    plus_once (range low high) k l = allowing_once [] (keep (λ d. within low high d) (heads sig k))

    pub minus_once : (p : Pattern) (k : ℕ) → linear_minus p ≡ true → All (OnceIn (O p)) (rows_minus sig k p)
    minus_once (var y) k l = none_left
    minus_once wild k l = none_left
    minus_once absurd_pat k l = also (open_row sig k) (λ x. omega arith) none_left
    minus_once (neg p) k l = plus_once p k l
    minus_once (or p q) k l =
        let a : (linear_minus p && linear_minus q) ≡ true = and_left (linear_minus p && linear_minus q) (disjoint (O p) (O q)) l in
        product_once (O p) (O q) (and_right (linear_minus p && linear_minus q) (disjoint (O p) (O q)) l) (minus_once p k (and_left (linear_minus p) (linear_minus q) a)) (minus_once q k (and_right (linear_minus p) (linear_minus q) a))
    minus_once (and p q) k l =
        let a : (linear_minus p && linear_minus q) ≡ true = and_left (linear_minus p && linear_minus q) (same_set (O p) (O q)) l in
        all_append (to_left (O p) (O q) (minus_once p k (and_left (linear_minus p) (linear_minus q) a))) (to_right (O p) (O q) (minus_once q k (and_right (linear_minus p) (linear_minus q) a)))
    minus_once (head c ps) k l = all_append (allowing_once (O_all ps) (keep (λ d. not (eqb c d)) (heads sig k))) (all_map (named [] c) (λ rs (f : OncesIn (O_all ps) rs) x. omega (arith, f x)) (args_minus_once ps (arguments sig c) l))
    minus_once (range low high) k l = allowing_once [] (keep (λ d. not (within low high d)) (heads sig k))

    args_plus_once : (ps : Patterns) (ks : List ℕ) → all_plus ps ≡ true → All (OncesIn (E_all ps)) (args_plus sig ks ps)
    args_plus_once pnil ks l = also rnil (λ x. omega arith) none_left
    args_plus_once (pcons p ps) [] l = none_left
    args_plus_once (pcons p ps) (k ∷ ks) l =
        let a : (linear_plus p && all_plus ps) ≡ true = and_left (linear_plus p && all_plus ps) (disjoint (E p) (E_all ps)) l in
        let d : disjoint (E p) (E_all ps) ≡ true = and_right (linear_plus p && all_plus ps) (disjoint (E p) (E_all ps)) l in
        all_each rcons (λ r rs (f : OnceIn (E p) r) (g : OncesIn (E_all ps) rs) x. omega (arith, f x, g x, disjoint_tick x (E p) (E_all ps) d)) (plus_once p k (and_left (linear_plus p) (all_plus ps) a)) (args_plus_once ps ks (and_right (linear_plus p) (all_plus ps) a))

    args_minus_once : (ps : Patterns) (ks : List ℕ) → all_minus ps ≡ true → All (OncesIn (O_all ps)) (args_minus sig ks ps)
    args_minus_once pnil ks l = none_left
    args_minus_once (pcons p ps) [] l = none_left
    args_minus_once (pcons p ps) (k ∷ ks) l =
        let a : (linear_minus p && all_minus ps) ≡ true = and_left (linear_minus p && all_minus ps) (is_empty (O p)) l in
        all_append (all_map (λ r. rcons r (open_rows sig ks)) (λ r (f : OnceIn (O p) r) x. omega (arith, f x, opens_none sig ks x, left_tick x (O p) (O_all ps))) (minus_once p k (and_left (linear_minus p) (all_minus ps) a))) (all_map (rcons (open_row sig k)) (λ rs (f : OncesIn (O_all ps) rs) x. omega (arith, f x, right_tick x (O p) (O_all ps))) (args_minus_once ps ks (and_right (linear_minus p) (all_minus ps) a)))
