-- 01, Tree: what every tree that is compiled has: kinds, counts and leaves that a run accepts.
use Rattle.std.specs.Prelude.{◌≡◌, List, [], ◌∷◌, ◌++◌, map, true, false, ℕ, ◌≤◌, ◌<◌, ◌+◌, suc}
use Rattle.signature.specs.Lists.{first}
use Rattle.signature.specs.Limits.{level_base, last_level}
use Rattle.signature.specs.Signature.{Signature, heads, arguments, is_number_kind}
use Rattle.pattern.specs.Limits.{last_variable}
use Rattle.tree.specs.Limits.{last_number}
use Rattle.tree.specs.Tree.{Tree, Trees, default, hit, test, skip, split, tnil, tcons}
use Rattle.tree.specs.Run.{rise_to}

-- pairs rising from variable m, of visits made, variables at most 15
pub data Rising : ℕ → ℕ → List (ℕ × ℕ) → Type 0 where
  rising_nil : {m t : ℕ} → Rising m t []
  rising_cons : {m t x u : ℕ} {bs : List (ℕ × ℕ)} → m ≤ x → x ≤ last_variable → u < t → Rising (suc x) t bs → Rising m t ((x, u) ∷ bs)

module _ (dft : ℕ) (sig : Signature) where
  -- a tree for columns of these kinds, after t visits: default leaves with this plan, hit leaves without columns, rules 1 to 999, variables rising to 15 at most, visits made;
  -- one child for each head of the kind, or for each of the ends that rise to 100
  mutual
    pub data Treed : List ℕ → ℕ → Tree → Type 0 where
      treed_default : {ks : List ℕ} {t d : ℕ} → d ≡ dft → Treed ks t (default d)
      treed_hit : {t r p : ℕ} {bs : List (ℕ × ℕ)} → 1 ≤ r → r ≤ last_number → Rising 0 t bs → Treed [] t (hit r p bs)
      treed_test : {k t f : ℕ} {ks : List ℕ} {ts : Trees} → is_number_kind sig k ≡ false → f ≡ first (heads sig k) → Treeds ks t (heads sig k) ts → Treed (k ∷ ks) t (test f ts)
      treed_split : {k t : ℕ} {ks es : List ℕ} {ts : Trees} → is_number_kind sig k ≡ true → rise_to last_level 0 es ≡ true → Treeds ks t (map (λ e. level_base + e) es) ts → Treed (k ∷ ks) t (split es ts)
      treed_skip : {k t : ℕ} {ks : List ℕ} {tr : Tree} → Treed ks (suc t) tr → Treed (k ∷ ks) t (skip tr)

    pub data Treeds : List ℕ → ℕ → List ℕ → Trees → Type 0 where
      treeds_nil : {ks : List ℕ} {t : ℕ} → Treeds ks t [] tnil
      treeds_cons : {ks cs : List ℕ} {t c : ℕ} {tr : Tree} {ts : Trees} → Treed (arguments sig c ++ ks) (suc t) tr → Treeds ks t cs ts → Treeds ks t (c ∷ cs) (tcons tr ts)
