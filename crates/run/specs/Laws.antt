-- What a host needs of runs. The function `laws` promises it.
use Rattle.std.specs.Prelude.{◌≡◌, List, [], ◌∷◌, ◌++◌, ℕ}
use Rattle.std.proofs.Math.Option.{some}
use Rattle.signature.specs.Read.{read_booking, read_signature}
use Rattle.signature.specs.Signature.{Signature}
use Rattle.signature.specs.Value.{Value}
use Rattle.tree.specs.Answer.{Answer}
use Rattle.tree.specs.Leaf.{Treed}
use Rattle.tree.specs.RunCall.{RunCall}
use Rattle.tree.specs.Tree.{Tree}
use Rattle.tree.specs.Words.{layout}

pub record Laws : Type 0 where
  -- a run over the words of a compiled tree, whatever stands behind them, is not refused: what run promises then has the number 0
  pub not_refused : (ss bs behind : List ℕ) (sig : Signature) (v : Value) (t : Tree) (dft : ℕ) → read_signature ss ≡ some sig → read_booking sig bs ≡ some v → Treed dft sig (0 ∷ []) 0 t
      → (number : ℕ) (a : Answer) → RunCall ss (layout t 0 ++ behind) bs number a → number ≡ 0
