-- The laws of trees and runs. The function `laws` promises them. What holds of the tree of a table's rules stands in the laws of the table.
use Rattle.std.specs.Prelude.{◌≡◌, List, [], ◌++◌, ◌∷◌, map, false, ℕ, ◌+◌, ◌≤◌, ◌<◌, length}
use Rattle.std.proofs.Math.Option.{some}
use Rattle.signature.specs.Lists.{is_some}
use Rattle.signature.specs.Read.{read_booking, Signed}
use Rattle.signature.specs.Signature.{Signature}
use Rattle.signature.specs.Value.{Value, Values}
use Rattle.tree.specs.Answer.{Answer}
use Rattle.tree.specs.Compiled.{Compiled}
use Rattle.tree.specs.Leaf.{Treed}
use Rattle.tree.specs.Run.{run, run_words, nodes_words, Linked, RisingTo}
use Rattle.tree.specs.Tree.{Tree, Line, after, taken, is_end}
use Rattle.tree.specs.Words.{words, layout}

pub record Laws : Type 0 where
  -- only one tree obeys the four rules
  pub one_tree : (dft : ℕ) (sig : Signature) (ks : List ℕ) (ls : List Line) (t : ℕ) (a b : Tree) → Compiled dft sig ks ls t a → Compiled dft sig ks ls t b → a ≡ b
  -- the written tree counts its words
  pub counts_words : (t : Tree) (i : ℕ) → length (layout t i) ≡ words t
  -- a run over the words of such a tree, whatever stands behind them, is never broken
  pub never_broken : (dft : ℕ) (sig : Signature) → Signed sig → (t : Tree) → Treed dft sig (0 ∷ []) 0 t → (behind bs : List ℕ) (v : Value) → read_booking sig bs ≡ some v → (a : Answer) × (run_words sig (layout t 0 ++ behind) bs ≡ some a)
  -- 02, job 1: a level's lines are those of the first end that is not below it
  pub one_interval : (sig : Signature) (js : List ℕ) (t : ℕ) (ls : List Line) (c e : ℕ) → c ≤ e → ((v : ℕ) → c ≤ v → v < e → is_end ls v ≡ false) → map (after t (taken sig js c)) ls ≡ map (after t (taken sig js e)) ls
  -- a run does not depend on the bound in its definition
  pub run_bound : (sig : Signature) (tree : List ℕ) (n m i : ℕ) (vs : Values) (j : ℕ) (visits : List ℕ) → length tree ≤ n + i → length tree ≤ m + i → run n sig tree i vs j visits ≡ run m sig tree i vs j visits
  -- the nodes of a walk are there exactly where its run is not broken
  pub nodes_there : (sig : Signature) (ws bs : List ℕ) → is_some (nodes_words sig ws bs) ≡ is_some (run_words sig ws bs)
  -- they begin at index 0, each lies in the slice, and each leads to the next
  pub nodes_linked : (sig : Signature) (ws bs is : List ℕ) → nodes_words sig ws bs ≡ some is → Linked ws 0 is
  -- so each stands above the one before it, and below the slice's end
  pub nodes_rise : (ws is : List ℕ) (i : ℕ) → Linked ws i is → RisingTo (length ws) i is
