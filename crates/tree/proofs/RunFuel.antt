-- A run does not depend on the bound in its definition.
use mathlib.Core.Path.{◌≡◌, refl, ap, ap₂, ◌∙◌}
use mathlib.Core.List.{List, ◌++◌, ◌∷◌, []}
use mathlib.Core.Option.{none}
use mathlib.Core.Bool.{◌&&◌, cond}
use Prim.Native.Nat.{ℕ, ◌<◌, ◌+◌, ◌-◌, suc, ◌≤◌, zero}
use native.Mathlib.Omega.{arith}
use lib.Dec.{eqb, ltb}
use lib.ListN.{length, drop, get_elem?}
use Rattle.signature.specs.Limits.{last_level}
use Rattle.signature.specs.Lists.{first, split}
use Rattle.signature.specs.Signature.{Signature, heads, is_level, level_of}
use Rattle.signature.specs.Value.{Values, vnil, vcons, con, size}
use Rattle.signature.proofs.ListFacts.{at_out}
use Rattle.signature.proofs.Tests.{bind_same, when_same, le_of}
use Rattle.tree.specs.Run.{Run, at_test, at_split, rise_to, place_of, vjoin, at_skip, at_default, at_hit, run}

-- two ways to go on that agree above a node
abbrev Above : ℕ → Run → Run → Type 0
Above i f g = (i' : ℕ) (vs : Values) (j : ℕ) (visits : List ℕ) → i < i' → f i' vs j visits ≡ g i' vs j visits

module _ (sig : Signature) (tree : List ℕ) where
  test_same : (f g : Run) (i : ℕ) (vs : Values) (j : ℕ) (visits : List ℕ) → Above i f g → at_test sig tree f i vs j visits ≡ at_test sig tree g i vs j visits
  test_same f g i vnil j visits h = refl
  test_same f g i (vcons (con c us) rest) j visits h =
      bind_same (get_elem? sig c) _ _ (λ d. bind_same (get_elem? tree (i + 1)) _ _ (λ a. bind_same (get_elem? tree (i + 2)) _ _ (λ n. when_same (eqb a (first (heads sig d.kind)) && eqb n (length (heads sig d.kind))) _ _ (λ q. bind_same (get_elem? tree (i + 3 + (c - a))) _ _ (λ link. when_same (ltb i link) _ _ (λ l. h link (vjoin us rest) (suc j) (visits ++ (j ∷ [])) (le_of (suc i) link l)))))))

split_same : (tree : List ℕ) (f g : Run) (i : ℕ) (vs : Values) (j : ℕ) (visits : List ℕ) → Above i f g → at_split tree f i vs j visits ≡ at_split tree g i vs j visits
split_same tree f g i vnil j visits h = refl
split_same tree f g i (vcons (con c us) rest) j visits h =
    when_same (is_level c) _ _ (λ p. bind_same (get_elem? tree (i + 1)) _ _ (λ n. bind_same (split n (drop (i + 2) tree)) _ _ (λ r. when_same (rise_to last_level 0 r.0) _ _ (λ q. bind_same (get_elem? tree (i + 2 + n + place_of (level_of c) r.0)) _ _ (λ link. when_same (ltb i link) _ _ (λ l. h link (vjoin us rest) (suc j) (visits ++ (j ∷ [])) (le_of (suc i) link l)))))))

skip_same : (f g : Run) (i : ℕ) (vs : Values) (j : ℕ) (visits : List ℕ) → Above i f g → at_skip f i vs j visits ≡ at_skip g i vs j visits
skip_same f g i vnil j visits h = refl
skip_same f g i (vcons v rest) j visits h = h (suc i) rest (j + size v) (visits ++ (j ∷ [])) (omega arith)

module _ (sig : Signature) (tree : List ℕ) where
  node_same : (f g : Run) (i w : ℕ) (vs : Values) (j : ℕ) (visits : List ℕ) → Above i f g → cond (eqb w 0) (at_default tree i vs j visits) (cond (eqb w 1) (at_hit tree i vs j visits) (cond (eqb w 2) (at_test sig tree f i vs j visits) (cond (eqb w 3) (at_skip f i vs j visits) (cond (eqb w 4) (at_split tree f i vs j visits) none)))) ≡ cond (eqb w 0) (at_default tree i vs j visits) (cond (eqb w 1) (at_hit tree i vs j visits) (cond (eqb w 2) (at_test sig tree g i vs j visits) (cond (eqb w 3) (at_skip g i vs j visits) (cond (eqb w 4) (at_split tree g i vs j visits) none))))
  node_same f g i w vs j visits h = ap₂ (λ x y. cond (eqb w 0) (at_default tree i vs j visits) (cond (eqb w 1) (at_hit tree i vs j visits) (cond (eqb w 2) x (cond (eqb w 3) y (cond (eqb w 4) (at_split tree f i vs j visits) none))))) (test_same sig tree f g i vs j visits h) (skip_same f g i vs j visits h)
      ∙ ap (λ z. cond (eqb w 0) (at_default tree i vs j visits) (cond (eqb w 1) (at_hit tree i vs j visits) (cond (eqb w 2) (at_test sig tree g i vs j visits) (cond (eqb w 3) (at_skip g i vs j visits) (cond (eqb w 4) z none))))) (split_same tree f g i vs j visits h)

  pub run_enough : (n m i : ℕ) (vs : Values) (j : ℕ) (visits : List ℕ) → length tree ≤ n + i → length tree ≤ m + i → run n sig tree i vs j visits ≡ run m sig tree i vs j visits
  run_enough zero zero i vs j visits a b = refl
  run_enough zero (suc m) i vs j visits a b = rw (at_out tree i (omega arith))
  run_enough (suc n) zero i vs j visits a b = rw (at_out tree i (omega arith))
  run_enough (suc n) (suc m) i vs j visits a b = bind_same (get_elem? tree i) _ _ (λ w. node_same (λ i' vs' j' visits'. run n sig tree i' vs' j' visits') (λ i' vs' j' visits'. run m sig tree i' vs' j' visits') i w vs j visits (λ i' vs' j' visits' l. run_enough n m i' vs' j' visits' (omega arith) (omega arith)))
