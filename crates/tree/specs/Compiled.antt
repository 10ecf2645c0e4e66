-- 01, Tree: the four rules, as a relation between a matrix and its tree. Laws says that one tree obeys them, and that compile gives it.
use Rattle.std.specs.Prelude.{◌≡◌, List, [], ◌∷◌, map, ◌++◌, true, false, ℕ, suc}
use Rattle.signature.specs.Lists.{All, any, somes}
use Rattle.signature.specs.Signature.{arguments, Signature}
use Rattle.tree.specs.Tree.{Line, Tree, default, hit, Trees, refined, branches, branch, after, passed, skip, tnil, taken, tcons}

-- a line whose columns are all taken, with what a leaf says
abbrev pub Leaf : ℕ → ℕ → List (ℕ × ℕ) → Line → Type 0
Leaf r p bs l = (r ≡ l.rule) × (p ≡ l.plan) × (bs ≡ l.binds)

module _ (dft : ℕ) (sig : Signature) where
  -- columns of these kinds, these lines, t visits made: this tree
  mutual
    pub data Compiled : List ℕ → List Line → ℕ → Tree → Type 0 where
      -- "No rows: 0.", with the plan of the default
      no_rows : {ks : List ℕ} {t d : ℕ} → d ≡ dft → Compiled ks [] t (default d)
      -- "No columns: 1, rule, plan, n, then n pairs. Several rows may be left; they are one rule's and bind alike."
      no_columns : {t r p : ℕ} {bs : List (ℕ × ℕ)} {l : Line} {ls : List Line} → All (Leaf r p bs) (l ∷ ls) → Compiled [] (l ∷ ls) t (hit r p bs)
      -- "First column refined in some row: 2, .. then the children in constructor order; arguments become the first columns."; 02, job 1: "A tree node 4 .. splits them, its children following"
      tested : {k t : ℕ} {ks : List ℕ} {l : Line} {ls : List Line} {ts : Trees} {tr : Tree} → tr ≡ branch sig k (branches sig k (l ∷ ls)) ts → any (λ m. refined sig k m.cells) (l ∷ ls) ≡ true → Children ks (l ∷ ls) t (branches sig k (l ∷ ls)) ts → Compiled (k ∷ ks) (l ∷ ls) t tr
      -- "Else 3, then the child."
      skipped : {k t : ℕ} {ks : List ℕ} {l : Line} {ls : List Line} {tr : Tree} → any (λ m. refined sig k m.cells) (l ∷ ls) ≡ false → Compiled ks (somes (map (after t passed) (l ∷ ls))) (suc t) tr → Compiled (k ∷ ks) (l ∷ ls) t (skip tr)

    pub data Children : List ℕ → List Line → ℕ → List ℕ → Trees → Type 0 where
      no_child : {ks : List ℕ} {ls : List Line} {t : ℕ} → Children ks ls t [] tnil
      child : {ks cs : List ℕ} {ls : List Line} {t c : ℕ} {tr : Tree} {ts : Trees} → Compiled (arguments sig c ++ ks) (somes (map (after t (taken sig (arguments sig c) c)) ls)) (suc t) tr → Children ks ls t cs ts → Children ks ls t (c ∷ cs) (tcons tr ts)
