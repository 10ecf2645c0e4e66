-- What is answered and what stands in the lent space.
use mathlib.Core.Path.{◌≡◌, refl, sym, ap, ◌∙◌}
use mathlib.Core.List.{List, ◌++◌, append_assoc}
use mathlib.Core.Bool.{true}
use Prim.Native.Nat.{ℕ, ◌≤◌, ◌<◌}
use native.Mathlib.Omega.{arith}
use lib.Dec.{leb}
use lib.ListN.{length, take, drop, length-append, length-drop}
use lib.Seq.{take_at, length-take-le}
use Rattle.signature.proofs.Tests.{leb_yes, leb_no}
use Rattle.tree.specs.Tree.{Tree}
use Rattle.tree.specs.Words.{words, layout}
use Rattle.tree.proofs.RunFacts.{length_layout}
use Rattle.writer.specs.Write.{answer, space_after}
use Rattle.path.specs.Wrote.{Wrote}
use Rattle.std.specs.Prelude.{Some, None}

-- the tree was written in working space of m words, of which u were needed
module _ (T : Tree) (m u : ℕ) (space ys o : List ℕ) (s : length space ≡ m) (w : Wrote T 0 u space ys) where
  pub too_large : m < u → (None ≡ answer T m) × (o ≡ space_after T m o)
  too_large l = rw (leb_no (words T) m (omega (arith, w.much))) (refl, refl)

  pub done : (rest : List ℕ) → u ≤ m → (Some u ≡ answer T m) × (take u (ys ++ rest) ++ drop u o ≡ space_after T m o)
  done rest l =
      let q : words T ≡ u = omega (arith, w.much) in
      let f : leb (words T) m ≡ true = leb_yes (words T) m (omega arith) in
      let i : take u (ys ++ rest) ≡ layout T 0 =
      ap (λ (z : List ℕ). take u (z ++ rest)) (w.wrote (omega arith))
      ∙ ap (take u) (append_assoc (layout T 0) (drop (words T) space) rest)
      ∙ take_at (layout T 0) (drop (words T) space ++ rest) u (length_layout T 0 ∙ q) in
      rw (f, i, q) (refl, refl)

pub back_long : (m : ℕ) (ys tree : List ℕ) → m ≤ length tree → length ys ≡ length (take m tree) → length (ys ++ drop m tree) ≡ length tree
back_long m ys tree l e = simp (length-append, length-drop) (omega (arith, e, length-take-le m tree l))

pub space_long : (m : ℕ) (tree : List ℕ) → m ≤ length tree → m ≡ length (take m tree)
space_long m tree l = sym (length-take-le m tree l)
