-- The rows of a set of rules, and what is answered and written for their tree.
use Rattle.std.specs.Prelude.{◌≡◌, List, [], ◌∷◌, ◌++◌, map, cond, ℕ, ◌≤◌, ◌<◌, min, leb, length, drop, Option, Some, None}
use Rattle.signature.specs.Decoded.{Known}
use Rattle.signature.specs.Lists.{All}
use Rattle.tree.specs.Limits.{tree_limit}
use Rattle.rowset.specs.Limits.{row_limit}
use Rattle.tree.specs.Tree.{Tree, compile}
use Rattle.tree.specs.Words.{words, layout}
use Rattle.path.specs.Rows.{RuleRow, line_of, Fit, RowsKept}
use Rattle.path.specs.State.{default_in}

-- n rows of rules under the signature whose table is t: their words in a, each in the table of rows
pub record GivenRows (t a tab : List ℕ) (n : ℕ) : Type 0 where
  pub known : Known t
  pub rows : List RuleRow
  pub count : n ≡ length rows
  pub few : n ≤ row_limit
  pub fit : All (Fit known.sig t) rows
  pub placed : RowsKept known.sig t a tab rows

-- their tree, with the default's plan of the table of rows, whatever the bound on visits
abbrev pub tree_of_rows : {t a tab : List ℕ} {n : ℕ} → GivenRows t a tab n → ℕ → Tree
tree_of_rows {tab = tab} g fuel = compile (default_in tab) fuel g.known.sig (0 ∷ []) (map line_of g.rows) 0

-- the most words that are written, in a lent space of n words by a working space of so many
abbrev pub most_words : ℕ → ℕ → ℕ
most_words n room = min (min n room) tree_limit

-- the tree's length, or that it has more words than m
abbrev pub answer : Tree → ℕ → Option ℕ
answer T m = cond (leb (words T) m) (Some (words T)) None

-- the tree "from index 0 of the lent space, whose other words stay untouched"; nothing where it is too large
abbrev pub space_after : Tree → ℕ → List ℕ → List ℕ
space_after T m space = cond (leb (words T) m) (layout T 0 ++ drop (words T) space) space

-- what is answered and written, for every bound above the most words of a tree
abbrev pub TreeWritten : List ℕ → List ℕ → List ℕ → ℕ → ℕ → List ℕ → Option ℕ → List ℕ → Type 0
TreeWritten t a tab n room space w space' = (g : GivenRows t a tab n) (fuel : ℕ) → tree_limit < fuel → (w ≡ answer (tree_of_rows g fuel) (most_words (length space) room)) × (space' ≡ space_after (tree_of_rows g fuel) (most_words (length space) room) space)
