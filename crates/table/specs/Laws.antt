-- The laws of tables and of the tree of their rules. The function `laws` promises them; demands 2 and 3 have functions of their own.
use Rattle.std.specs.Prelude.{◌↔◌, ◌≡◌, List, [], ◌∷◌, ◌++◌, true, false, ℕ, ◌<◌}
use Rattle.std.proofs.Math.Option.{some}
use Rattle.signature.specs.Lists.{In, any}
use Rattle.signature.specs.Read.{read_booking, Signed}
use Rattle.signature.specs.Signature.{Signature}
use Rattle.signature.specs.Value.{Value}
use Rattle.row.specs.Overlap.{shares}
use Rattle.tree.specs.Compiled.{Compiled}
use Rattle.tree.specs.Leaf.{Treed}
use Rattle.tree.specs.Run.{run_words}
use Rattle.tree.specs.Tree.{Tree}
use Rattle.table.specs.Limits.{limits}
use Rattle.table.specs.Decide.{direct}
use Rattle.table.specs.Matrix.{lines, tree, tree_words}
use Rattle.table.specs.Refusals.{sharer}
use Rattle.table.specs.Rule.{Rule, stored}
use Rattle.table.specs.Sound.{sound, SoundTable}

pub record Laws : Type 0 where
  -- 3: exactly the sound tables are read, and what was read was there
  pub sound_table : (sig : Signature) → Signed sig → (table : List ℕ) (rs : List Rule) → ((sound limits sig table ≡ some rs) ↔ (SoundTable limits sig table rs))
  -- rules of a sound table, stored into any words with any default, are read back
  pub stored_read : (sig : Signature) → Signed sig → (table lent : List ℕ) (rs : List Rule) → SoundTable limits sig table rs → (dft : ℕ) → sound limits sig (stored limits dft rs lent) ≡ some rs
  -- "the lowest such number"
  pub lowest : (sig : Signature) → Signed sig → (table : List ℕ) (rs : List Rule) → SoundTable limits sig table rs → (ws : List ℕ) → any (λ r. shares sig ws r.pattern) rs ≡ true → (r : Rule) × In r rs × (sharer sig ws rs ≡ r.number) × (shares sig ws r.pattern ≡ true) × ((s : Rule) → In s rs → s.number < r.number → shares sig ws s.pattern ≡ false)
  -- the tree of a sound table's rules obeys the four rules, and no other tree does
  pub four_rules : (dft : ℕ) (sig : Signature) → Signed sig → (table : List ℕ) (rs : List Rule) → SoundTable limits sig table rs → Compiled dft sig (0 ∷ []) (lines sig rs) 0 (tree dft sig rs) × ((t : Tree) → Compiled dft sig (0 ∷ []) (lines sig rs) 0 t → t ≡ tree dft sig rs)
  -- its leaves' variables rise and are at most 15, and its default leaves have the default's plan
  pub leaves : (dft : ℕ) (sig : Signature) → Signed sig → (table : List ℕ) (rs : List Rule) → SoundTable limits sig table rs → Treed dft sig (0 ∷ []) 0 (tree dft sig rs)
  -- a run over its words, whatever stands behind them, is never broken and answers as the rules do
  pub runs : (dft : ℕ) (sig : Signature) → Signed sig → (table : List ℕ) (rs : List Rule) → SoundTable limits sig table rs → (behind bs : List ℕ) (v : Value) → read_booking sig bs ≡ some v → run_words sig (tree_words dft sig rs ++ behind) bs ≡ some (direct dft sig rs v)
