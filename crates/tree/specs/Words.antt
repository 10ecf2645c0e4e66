-- 01, Tree: the words of a tree: "Nodes stand in preorder from index 0".
use Rattle.std.specs.Prelude.{List, [], ◌∷◌, ◌++◌, ℕ, ◌+◌, ◌*◌, suc, length}
use Rattle.tree.specs.Tree.{Tree, default, hit, test, skip, split, Trees, tnil, tcons}

-- "n pairs (variable, visit)"
abbrev pub pairs : List (ℕ × ℕ) → List ℕ
pairs [] = []
pairs (b ∷ bs) = b.0 ∷ (b.1 ∷ pairs bs)

-- how many words a tree has
abbrev mutual
  pub words : Tree → ℕ
  words (default d) = 2
  words (hit r p bs) = 4 + 2 * length bs
  words (test c ts) = 3 + (count ts + words_all ts)
  words (skip t) = suc (words t)
  words (split es ts) = 2 + (length es + (count ts + words_all ts))

  pub words_all : Trees → ℕ
  words_all tnil = 0
  words_all (tcons t ts) = words t + words_all ts

  pub count : Trees → ℕ
  count tnil = 0
  count (tcons t ts) = suc (count ts)

-- "k links (index of each child)", the first one's being i
abbrev pub links : Trees → ℕ → List ℕ
links tnil i = []
links (tcons t ts) i = i ∷ links ts (i + words t)

-- the words of a tree whose root stands at index i:
-- 02, job 3: "The default leaf becomes 0, plan"; 01: "No columns: 1, rule, plan, n, then n pairs. .. 2, the kind's first constructor, their count k, k links (index of each child), then the children in constructor order. Else 3, then the child."; 02, job 1: "A tree node 4, k, k upper ends rising to 100, k links .., its children following"
abbrev mutual
  pub layout : Tree → ℕ → List ℕ
  layout (default d) i = 0 ∷ (d ∷ [])
  layout (hit r p bs) i = 1 ∷ (r ∷ (p ∷ (length bs ∷ pairs bs)))
  layout (test c ts) i = 2 ∷ (c ∷ (count ts ∷ (links ts (i + 3 + count ts) ++ layout_all ts (i + 3 + count ts))))
  layout (skip t) i = 3 ∷ layout t (suc i)
  layout (split es ts) i = 4 ∷ (length es ∷ (es ++ (links ts (i + 2 + length es + count ts) ++ layout_all ts (i + 2 + length es + count ts))))

  pub layout_all : Trees → ℕ → List ℕ
  layout_all tnil i = []
  layout_all (tcons t ts) i = layout t i ++ layout_all ts (i + words t)
