-- 01, Rows: a pattern as a list of products; the paper, section 5.
use Rattle.std.specs.Prelude.{List, ◌++◌, [], ◌∷◌, map, not, cond, ℕ, eqb}
use Rattle.std.proofs.Math.Option.{Option, some, none}
use Rattle.signature.specs.Lists.{◌>>=◌, require, memb, keep, is_empty, somes}
use Rattle.signature.specs.Signature.{Signature, heads, arguments}
use Rattle.pattern.specs.Range.{within}
use Rattle.pattern.specs.Pattern.{Pattern, var, wild, absurd_pat, neg, and, or, head, range, Patterns, pnil, pcons}

-- "at each place .. a set of variables, and one constructor with its arguments or a set of excluded constructors": named has the one, free the heads that are still allowed; 02, job 1: "a place then holds a set of levels"
mutual
  pub data Row : Type 0 where
    named : List ℕ → ℕ → Rows → Row
    free : List ℕ → List ℕ → Row

  pub data Rows : Type 0 where
    rnil : Rows
    rcons : Row → Rows → Rows

-- two rows as one; none where it is dropped: "A row .. with no constructor still allowed at a place, is dropped."
abbrev mutual
  pub combine : Row → Row → Option Row
  combine (named xs c rs) (named ys d ss) = do
    _ ← require (eqb c d)
    ts ← combines rs ss
    some (named (xs ++ ys) c ts)
  combine (named xs c rs) (free ys ds) = do
    _ ← require (memb c ds)
    some (named (xs ++ ys) c rs)
  combine (free xs cs) (named ys d ss) = do
    _ ← require (memb d cs)
    some (named (xs ++ ys) d ss)
  combine (free xs cs) (free ys ds) =
      let es = keep (λ c. memb c ds) cs in
      require (not (is_empty es)) >>= λ u. some (free (xs ++ ys) es)

  pub combines : Rows → Rows → Option Rows
  combines rnil rnil = some rnil
  combines rnil (rcons s ss) = none
  combines (rcons r rs) rnil = none
  combines (rcons r rs) (rcons s ss) = do
    t ← combine r s
    ts ← combines rs ss
    some (rcons t ts)

module _ {A B C : Type 0} where
  -- "multiply out"
  abbrev pub each : (A → B → C) → List A → List B → List C
  each f [] bs = []
  each f (a ∷ fs) bs = map (f a) bs ++ each f fs bs

-- a wildcard: a place of kind k of which nothing is known
abbrev pub open_row : Signature → ℕ → Row
open_row sig k = free [] (heads sig k)

-- "wildcards elsewhere": one for each kind
abbrev pub open_rows : Signature → List ℕ → Rows
open_rows sig [] = rnil
open_rows sig (k ∷ ks) = rcons (open_row sig k) (open_rows sig ks)

-- the row that allows these heads; 02, job 1: "an empty set drops its row"
abbrev pub allowing : List ℕ → List Row
allowing cs = cond (is_empty cs) [] (free [] cs ∷ [])

-- "not C": every head of kind k but c; no row where no other is left
abbrev pub other_than : Signature → ℕ → ℕ → List Row
other_than sig k c = allowing (keep (λ d. not (eqb c d)) (heads sig k))

-- "Push nots inward (not C(p1..pn) is: not C, or C with one argument negated and wildcards elsewhere;
-- not variable and not wildcard are absurd, not absurd is wildcard) and multiply out. Each product is a row":
-- the rows of a pattern on the plus side, and on the minus side those of its negation
abbrev mutual
  pub rows_plus : Signature → ℕ → Pattern → List Row
  rows_plus sig k (var x) = free (x ∷ []) (heads sig k) ∷ []
  rows_plus sig k wild = open_row sig k ∷ []
  rows_plus sig k absurd_pat = []
  rows_plus sig k (neg p) = rows_minus sig k p
  rows_plus sig k (and p q) = somes (each combine (rows_plus sig k p) (rows_plus sig k q))
  rows_plus sig k (or p q) = rows_plus sig k p ++ rows_plus sig k q
  rows_plus sig k (head c ps) = map (named [] c) (args_plus sig (arguments sig c) ps)
  rows_plus sig k (range low high) = allowing (keep (λ d. within low high d) (heads sig k))

  pub rows_minus : Signature → ℕ → Pattern → List Row
  rows_minus sig k (var x) = []
  rows_minus sig k wild = []
  rows_minus sig k absurd_pat = open_row sig k ∷ []
  rows_minus sig k (neg p) = rows_plus sig k p
  rows_minus sig k (and p q) = rows_minus sig k p ++ rows_minus sig k q
  rows_minus sig k (or p q) = somes (each combine (rows_minus sig k p) (rows_minus sig k q))
  rows_minus sig k (head c ps) = other_than sig k c ++ map (named [] c) (args_minus sig (arguments sig c) ps)
  rows_minus sig k (range low high) = allowing (keep (λ d. not (within low high d)) (heads sig k))

  pub args_plus : Signature → List ℕ → Patterns → List Rows
  args_plus sig ks pnil = rnil ∷ []
  args_plus sig [] (pcons p ps) = []
  args_plus sig (k ∷ ks) (pcons p ps) = each rcons (rows_plus sig k p) (args_plus sig ks ps)

  -- one argument negated, the others open
  pub args_minus : Signature → List ℕ → Patterns → List Rows
  args_minus sig ks pnil = []
  args_minus sig [] (pcons p ps) = []
  args_minus sig (k ∷ ks) (pcons p ps) = map (λ r. rcons r (open_rows sig ks)) (rows_minus sig k p) ++ map (rcons (open_row sig k)) (args_minus sig ks ps)
