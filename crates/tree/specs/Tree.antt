-- 01, Tree: the matrix of the rules' rows compiled by its first column; the paper, section 6, always first column.
use Rattle.std.specs.Prelude.{List, ◌∷◌, [], ◌++◌, map, cond, Bool, false, true, not, ◌||◌, ℕ, zero, suc, ◌+◌, leb, eqb}
use Rattle.std.proofs.Math.Option.{Option, none, some}
use Rattle.signature.specs.Lists.{all, memb, require, ◌>>=◌, first, somes, any, keep}
use Rattle.signature.specs.Limits.{level_base, last_level}
use Rattle.signature.specs.Signature.{Signature, heads, arguments, is_number_kind, level_of}
use Rattle.row.specs.Row.{Rows, rnil, rcons, named, free, open_rows}

-- default leaf (plan); hit leaf (rule, plan, pairs of variable and visit); test (first head, children); skip; split (upper ends of the levels, children)
mutual
  pub data Tree : Type 0 where
    default : ℕ → Tree
    hit : ℕ → ℕ → List (ℕ × ℕ) → Tree
    test : ℕ → Trees → Tree
    skip : Tree → Tree
    split : List ℕ → Trees → Tree

  pub data Trees : Type 0 where
    tnil : Trees
    tcons : Tree → Trees → Trees

-- a line of the matrix: a rule's row, its columns not yet taken, and what the columns taken bind (variable, visit)
pub record Line : Type 0 where
  pub rule : ℕ
  pub plan : ℕ
  pub binds : List (ℕ × ℕ)
  pub cells : Rows

-- columns before columns
abbrev pub rappend : Rows → Rows → Rows
rappend rnil ss = ss
rappend (rcons r rs) ss = rcons r (rappend rs ss)

-- "n pairs (variable, visit), variables rising"
abbrev pub insert : ℕ × ℕ → List (ℕ × ℕ) → List (ℕ × ℕ)
insert b [] = b ∷ []
insert b (c ∷ cs) = cond (leb b.0 c.0) (b ∷ (c ∷ cs)) (c ∷ insert b cs)

-- variables bound at visit t
abbrev pub inserts : ℕ → List ℕ → List (ℕ × ℕ) → List (ℕ × ℕ)
inserts t [] bs = bs
inserts t (x ∷ xs) bs = insert (x, t) (inserts t xs bs)

-- "A place is refined if its row names or excludes a constructor there."; 02, job 1: "A place is refined when its set is not all 101."
abbrev pub refined : Signature → ℕ → Rows → Bool
refined sig k rnil = false
refined sig k (rcons (named xs c rs) ss) = true
refined sig k (rcons (free xs cs) ss) = not (all (λ c. memb c cs) (heads sig k))

-- the first column taken where the value there has the head c, with arguments of kinds js: its variables, and the columns then; "arguments become the first columns"
abbrev pub taken : Signature → List ℕ → ℕ → Rows → Option (List ℕ × Rows)
taken sig js c rnil = none
taken sig js c (rcons (named xs d rs) ss) = require (eqb d c) >>= λ u. some (xs, rappend rs ss)
taken sig js c (rcons (free xs cs) ss) = require (memb c cs) >>= λ u. some (xs, rappend (open_rows sig js) ss)

-- the first column passed over
abbrev pub passed : Rows → Option (List ℕ × Rows)
passed rnil = none
passed (rcons (named xs d rs) ss) = none
passed (rcons (free xs cs) ss) = some (xs, ss)

-- a line after visit t; "a visit is one column taken, numbered from 0 along the path"
abbrev pub after : ℕ → (Rows → Option (List ℕ × Rows)) → Line → Option Line
after t step l = step l.cells >>= λ r. some (record { rule = l.rule; plan = l.plan; binds = inserts t r.0 l.binds; cells = r.1 })

-- the first column of a row allows the head e
abbrev pub holds : Rows → ℕ → Bool
holds rnil e = false
holds (rcons (named xs c rs) ss) e = eqb c e
holds (rcons (free xs cs) ss) e = memb e cs

-- just one of two tests passes
abbrev pub just_one : Bool → Bool → Bool
just_one a b = cond a (not b) b

-- 02, job 1: "the ends are 100 and each level v where some row holds just one of v and v + 1"; the rows are those that are left here
abbrev pub is_end : List Line → ℕ → Bool
is_end ls e = eqb e (level_base + last_level) || any (λ l. just_one (holds l.cells e) (holds l.cells (suc e))) ls

-- the heads for which a column that is refined has a child: every constructor; of the levels, the ends, each for those behind the end before it
abbrev pub branches : Signature → ℕ → List Line → List ℕ
branches sig k ls = cond (is_number_kind sig k) (keep (is_end ls) (heads sig k)) (heads sig k)

-- the node over these children: 2 at a constructor kind; 4, with its ends, at a number kind
abbrev pub branch : Signature → ℕ → List ℕ → Trees → Tree
branch sig k es ts = cond (is_number_kind sig k) (split (map level_of es) ts) (test (first (heads sig k)) ts)

-- "the children in constructor order"
abbrev pub children : (ℕ → Tree) → List ℕ → Trees
children child [] = tnil
children child (c ∷ cs) = tcons (child c) (children child cs)

module _ (dft : ℕ) where
  -- the tree for columns of these kinds; t visits are made; n bounds the visits still to come
  abbrev pub compile : ℕ → Signature → List ℕ → List Line → ℕ → Tree
  compile zero sig ks ls t = default dft
  compile (suc n) sig ks [] t = default dft
  compile (suc n) sig [] (l ∷ ls) t = hit l.rule l.plan l.binds
  compile (suc n) sig (k ∷ ks) (l ∷ ls) t =
      let es = branches sig k (l ∷ ls) in
      let tested = branch sig k es (children (λ c. compile n sig (arguments sig c ++ ks) (somes (map (after t (taken sig (arguments sig c) c)) (l ∷ ls))) (suc t)) es) in
      let next = skip (compile n sig ks (somes (map (after t passed) (l ∷ ls))) (suc t)) in
      cond (any (λ m. refined sig k m.cells) (l ∷ ls)) tested next
