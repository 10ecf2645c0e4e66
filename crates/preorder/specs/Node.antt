-- What the writer is given at a node, and the tree that it writes.
use Rattle.std.specs.Prelude.{◌≡◌, List, ◌∷◌, ◌++◌, map, ℕ, suc, ◌+◌, ◌*◌, ◌^◌, ◌≤◌, ◌<◌, length, get_or}
use Rattle.std.proofs.Math.Option.{Option}
use Rattle.signature.specs.Decoded.{Known}
use Rattle.signature.specs.Lists.{All, somes}
use Rattle.signature.specs.Signature.{arguments}
use Rattle.pattern.specs.Limits.{pattern_limit}
use Rattle.tree.specs.Tree.{Tree, Line, taken, after, compile, branches, branch, children}
use Rattle.rowset.specs.Limits.{row_limit}
use Rattle.rowset.specs.Member.{member}
use Rattle.path.specs.State.{options, State, Raised, Kept, real_of, Indexed, default_in}
use Rattle.signature.specs.Limits.{word_limit}
use Rattle.path.specs.Wrote.{Wrote}

-- the tables, and lines that stand at the cursors: ncols columns are left, v visits are made, the node's index is base, and there is room for len words
pub record Given (t a rows : List ℕ) (n : ℕ) (s cur vis : List ℕ) (ncols v base len : ℕ) : Type 0 where
  pub known : Known t
  pub ok : Indexed t a rows n
  pub few : n ≤ row_limit
  pub cursors : n ≤ length cur
  pub visits : pattern_limit * n ≤ length vis
  pub low : (r : ℕ) → r < n → get_or cur r 0 ≤ pattern_limit
  pub ks : List ℕ
  pub f : ℕ → Option Line
  pub kinds : All (λ k. k < known.decoded.n) ks
  pub state : State known.sig t a rows n (member s) cur vis ks f
  pub columns : ncols ≡ length ks
  pub ncols_fit : ncols + word_limit * len < 2 ^ 63
  pub visits_fit : v + len ≤ word_limit
  pub links_fit : base + len ≤ word_limit

-- the same in the first column, which is refined: the cursors are raised already
pub record Branching (t a rows : List ℕ) (n : ℕ) (s re cur vis : List ℕ) (ncols v base len k : ℕ) : Type 0 where
  pub cur0 : List ℕ
  pub vis0 : List ℕ
  pub given : Given t a rows n s cur0 vis0 ncols v base len
  pub ks : List ℕ
  pub ks_are : given.ks ≡ k ∷ ks
  pub real : (r : ℕ) → r < n → member re r ≡ real_of rows (member s) cur0 ncols r
  pub raised : Raised n (member re) v cur0 vis0 cur vis
  pub cursors : n ≤ length cur
  pub visits : pattern_limit * n ≤ length vis

abbrev pub lines : {t a rows : List ℕ} {n : ℕ} {s cur vis : List ℕ} {ncols v base len : ℕ} → Given t a rows n s cur vis ncols v base len → List Line
lines {n = n} g = somes (options g.f 0 n)

-- the tree of the lines, for a default's plan, however far the bound on visits reaches
abbrev pub tree_of : {t a rows : List ℕ} {n : ℕ} {s cur vis : List ℕ} {ncols v base len : ℕ} → Given t a rows n s cur vis ncols v base len → ℕ → ℕ → Tree
tree_of {v = v} g dft fuel = compile dft fuel g.known.sig g.ks (lines g) v

-- the child where the head c is taken
abbrev pub child_of : {t a rows : List ℕ} {n : ℕ} {s re cur vis : List ℕ} {ncols v base len k : ℕ} → Branching t a rows n s re cur vis ncols v base len k → ℕ → ℕ → ℕ → Tree
child_of {v = v} b dft fuel c =
    let sig = b.given.known.sig in
    compile dft fuel sig (arguments sig c ++ b.ks) (somes (map (after v (taken sig (arguments sig c) c)) (lines b.given))) (suc v)

abbrev pub branch_of : {t a rows : List ℕ} {n : ℕ} {s re cur vis : List ℕ} {ncols v base len k : ℕ} → Branching t a rows n s re cur vis ncols v base len k → ℕ → ℕ → Tree
branch_of {k = k} b dft fuel =
    let sig = b.given.known.sig in
    let es = branches sig k (lines b.given) in
    branch sig k es (children (child_of b dft fuel) es)

-- the cursors as they were, and the visits of the cells before them
pub record WorkKept (n : ℕ) (cur vis cur' vis' : List ℕ) : Type 0 where
  pub cursors : cur' ≡ cur
  pub visits : Kept n cur vis vis'
  pub long : length vis' ≡ length vis

-- the tree of what is given, with the default's plan of the table of rows, first in o', and so many words; whatever bound is above the room reaches far enough
pub record NodeWrote (t a rows : List ℕ) (n : ℕ) (s cur vis : List ℕ) (ncols v base : ℕ) (o : List ℕ) (u : ℕ) (o' cur' vis' : List ℕ) : Type 0 where
  pub wrote : (g : Given t a rows n s cur vis ncols v base (length o)) (fuel : ℕ) → length o < fuel → Wrote (tree_of g (default_in rows) fuel) base u o o'
  pub kept : WorkKept n cur vis cur' vis'

pub record BranchWrote (t a rows : List ℕ) (n : ℕ) (s re cur vis : List ℕ) (ncols v base k : ℕ) (o : List ℕ) (u : ℕ) (o' cur' vis' : List ℕ) : Type 0 where
  pub wrote : (g : Branching t a rows n s re cur vis ncols v base (length o) k) (fuel : ℕ) → length o ≤ fuel → Wrote (branch_of g (default_in rows) fuel) base u o o'
  pub kept : WorkKept n cur vis cur' vis'
