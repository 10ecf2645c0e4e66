-- A leaf, and its pairs, variables rising.
use Rattle.std.specs.Prelude.{◌≡◌, List, [], ◌∷◌, ◌++◌, cond, ℕ, zero, suc, ◌+◌, ◌*◌, ◌≤◌, ◌<◌, eqb, length, get_or, take, drop, Option, Some, None}
use Rattle.sets.specs.Set.{bit}
use Rattle.pattern.specs.Limits.{pattern_limit, variable_count}
use Rattle.tree.specs.Tree.{Tree, hit}
use Rattle.tree.specs.Words.{pairs}
use Rattle.path.specs.Standing.{vars_of}
use Rattle.path.specs.State.{row_stride, cell_of, visit_of, rule_of, plan_of, bound}

module _ (a rows vis : List ℕ) (r : ℕ) where
  -- what cell p of row r binds of variable x
  abbrev pub cell_pair : ℕ → ℕ → List (ℕ × ℕ)
  cell_pair x p = cond (eqb (bit (vars_of a (cell_of rows r p)) x) 1) ((x, visit_of vis r p) ∷ []) []

  -- what the cells before q do, the last one first
  abbrev pub cell_pairs : ℕ → ℕ → List (ℕ × ℕ)
  cell_pairs x zero = []
  cell_pairs x (suc p) = cell_pair x p ++ cell_pairs x p

  -- and of n variables from x on
  abbrev pub pairs_from : ℕ → ℕ → ℕ → List (ℕ × ℕ)
  pairs_from q x zero = []
  pairs_from q x (suc n) = cell_pairs x q ++ pairs_from q (suc x) n

  abbrev pub all_pairs : ℕ → List (ℕ × ℕ)
  all_pairs q = pairs_from q 0 variable_count

-- a variable outside the set is bound by no cell before q
abbrev pub Used : List ℕ → List ℕ → ℕ → ℕ → ℕ → Type 0
Used a rows r q u = (x p : ℕ) → bit u x ≡ 0 → p < q → bit (vars_of a (cell_of rows r p)) x ≡ 0

-- y is the first variable of the set that is not below x, or their number
pub record NextVariable (u x y : ℕ) : Type 0 where
  pub least : x ≤ y
  pub most : y ≤ variable_count
  pub between : (z : ℕ) → x ≤ z → z < y → bit u z ≡ 0
  pub there : y < variable_count → bit u y ≡ 1

-- the cells before q, and their visits
pub record Pairing (a rows vis : List ℕ) (r q : ℕ) : Type 0 where
  pub long : row_stride * r + row_stride ≤ length rows
  pub visits : pattern_limit * r + pattern_limit ≤ length vis
  pub small : q ≤ pattern_limit
  pub cells : cell_of rows r q ≤ length a

-- pairs written from a word on: where they end, or that there is no room
pub record Paired (bs : List (ℕ × ℕ)) (at : ℕ) (res : Option ℕ) (o o' : List ℕ) : Type 0 where
  pub short : res ≡ None → length o < at + 2 * length bs
  pub ends : (u : ℕ) → res ≡ Some u → (u ≡ at + 2 * length bs) × (u ≤ length o)
  pub wrote : at + 2 * length bs ≤ length o → o' ≡ take at o ++ (pairs bs ++ drop (at + 2 * length bs) o)

-- what a leaf is given
pub record Leaving (a rows : List ℕ) (r : ℕ) (cur vis : List ℕ) : Type 0 where
  pub there : r < length cur
  pub long : row_stride * r + row_stride ≤ length rows
  pub visits : pattern_limit * r + pattern_limit ≤ length vis
  pub small : get_or cur r 0 ≤ pattern_limit
  pub cells : cell_of rows r (get_or cur r 0) ≤ length a

-- the leaf of row r whose cursor is at its cell q
abbrev pub leaf_of : List ℕ → List ℕ → List ℕ → ℕ → ℕ → Tree
leaf_of a rows vis r q = hit (rule_of rows r) (plan_of rows r) (bound a rows vis r q)
