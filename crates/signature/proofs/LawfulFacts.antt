-- What a lawful signature has.
use mathlib.Core.Path.{◌≡◌, sym, refl, ap, ◌∙◌, subst}
use mathlib.Core.List.{[], ◌∷◌, List}
use mathlib.Core.Option.{some, Option, none}
use mathlib.Core.Bool.{true, ◌&&◌, Bool, false}
use Prim.Native.Nat.{ℕ, ◌≤◌, ◌<◌, suc, zero}
use native.Mathlib.Omega.{arith}
use lib.Dec.{ltb, leb, eqb, leb→le}
use lib.ListN.{length, get_elem?}
use Rattle.signature.specs.Limits.{constructor_limit, kind_limit, row_limit, small_size, argument_limit}
use Rattle.signature.specs.Lists.{all, All, count_up, require, ◌>>=◌, none_left, also}
use Rattle.signature.specs.Read.{count_kinds, least, Signed, read_constructors, stands_alone, lawful_kinds, lawful, kinds_from}
use Rattle.signature.specs.Signature.{Signature, numbers, Constructor, arguments_at}
use Rattle.signature.proofs.Booleans.{and_right, and_left}
use Rattle.signature.proofs.Heads.{Small, Plain, Dense, dense_of, row_of}
use Rattle.signature.proofs.Least.{few_args, bare_rows, kinds_small}
use Rattle.signature.proofs.ListFacts.{all_at, test_at}
use Rattle.signature.proofs.Tests.{none≢some, bind_some, true≢false, some_inj, require_some, eqb_eq, T_of, le_of}

pub record SigFacts (sig : Signature) : Type 0 where
  pub n : ℕ
  pub kinds_are : count_kinds sig ≡ some n
  pub args_exist : all (λ c. all (λ k. ltb k n) c.args) sig ≡ true
  pub least_six : all (λ m. leb m small_size) (least small_size sig n) ≡ true
  pub few_arguments : All (λ c. length c.args ≤ argument_limit) sig
  pub plain : Plain sig

pub sig_facts : (sig : Signature) → Signed sig → SigFacts sig
sig_facts sig ([], e) = none≢some e
sig_facts sig (n ∷ ws, e) = go₀ (bind_some (read_constructors n ws) _ sig e)
  where
    go : (o : Option ℕ) → count_kinds sig ≡ o → lawful_kinds sig o ≡ true → All (λ c. length c.args ≤ argument_limit) sig → All (λ c. c.number ≡ true → c.args ≡ []) sig → SigFacts sig
    go none q h f g = true≢false (sym h)
    go (some m) q h f g =
        let a₁ = leb 1 (length sig) in
        let a₂ = leb (length sig) constructor_limit in
        let a₃ = leb m kind_limit in
        let a₄ = all (λ k. leb (length (numbers sig k)) row_limit) (count_up 0 m) in
        let a₅ = all (stands_alone sig) sig in
        let a = a₁ && a₂ && a₃ && a₄ && a₅ in
        let b = all (λ c. all (λ k. ltb k m) c.args) sig in
        let c = all (λ j. leb j small_size) (least small_size sig m) in
        record { n = m; kinds_are = q; args_exist = and_right a b (and_left (a && b) c h); least_six = and_right (a && b) c h; few_arguments = f; plain = record { short = omega (arith, le_of (length sig) constructor_limit (and_right a₁ a₂ (and_left (a₁ && a₂) a₃ (and_left (a₁ && a₂ && a₃) a₄ (and_left (a₁ && a₂ && a₃ && a₄) a₅ (and_left a b (and_left (a && b) c h))))))); bare = g } }

    go₀ : (s : Signature) × (read_constructors n ws ≡ some s) × ((require (lawful s) >>= λ u. some s) ≡ some sig) → SigFacts sig
    go₀ (s, e₁, f₁) =
        let (u, e₂, f₂) = bind_some (require (lawful s)) _ sig f₁ in
        let q : s ≡ sig = some_inj s sig f₂ in
        go (count_kinds sig) refl (ap lawful (sym q) ∙ require_some (lawful s) u e₂) (subst (All (λ c. length c.args ≤ argument_limit)) q (few_args n ws s e₁)) (subst (All (λ c. c.number ≡ true → c.args ≡ [])) q (bare_rows n ws s e₁))

rising_above : (k m : ℕ) (cs : Signature) → kinds_from k cs ≡ some m → k < m
rising_above k m [] e = omega (arith, some_inj (suc k) m e)
rising_above k m (c ∷ cs) e = go (eqb c.kind k) refl (rising_above k m cs) (rising_above (suc k) m cs)
  where
    go : (b : Bool) → eqb c.kind k ≡ b → (kinds_from k cs ≡ some m → k < m) → (kinds_from (suc k) cs ≡ some m → suc k < m) → k < m
    go true q f g = f (rw q at e)
    go false q f g = let (u, e₁, e₂) = bind_some (require (eqb c.kind (suc k))) _ m (rw q at e) in omega (arith, g e₂)

pub kinds_above : (sig : Signature) (m : ℕ) → count_kinds sig ≡ some m → 0 < m
kinds_above [] m e = none≢some e
kinds_above (c ∷ cs) m e = let (u, e₁, e₂) = bind_some (require (eqb c.kind 0)) _ m e in rising_above 0 m cs e₂

-- a constructor's kind exists
rising_kind : (k m i : ℕ) (cs : Signature) (d : Constructor) → kinds_from k cs ≡ some m → get_elem? cs i ≡ some d → d.kind < m
rising_kind k m i [] d e a = none≢some a
rising_kind k m i (c ∷ cs) d e a = go (eqb c.kind k) refl i a (λ i'. rising_kind k m i' cs d) (λ i'. rising_kind (suc k) m i' cs d)
  where
    go : (b : Bool) → eqb c.kind k ≡ b → (i : ℕ) → get_elem? (c ∷ cs) i ≡ some d → ((i' : ℕ) → kinds_from k cs ≡ some m → get_elem? cs i' ≡ some d → d.kind < m) → ((i' : ℕ) → kinds_from (suc k) cs ≡ some m → get_elem? cs i' ≡ some d → d.kind < m) → d.kind < m
    go true q zero a' f g = let z : c.kind ≡ d.kind = ap (λ x. x.kind) (some_inj c d a') in omega (arith, eqb_eq c.kind k q, rising_above k m cs (rw q at e))
    go true q (suc j) a' f g = f j (rw q at e) a'
    go false q zero a' f g =
        let (u, e₁, e₂) = bind_some (require (eqb c.kind (suc k))) _ m (rw q at e) in
        let z : c.kind ≡ d.kind = ap (λ x. x.kind) (some_inj c d a') in
        omega (arith, eqb_eq c.kind (suc k) (require_some (eqb c.kind (suc k)) u e₁), rising_above (suc k) m cs e₂)
    go false q (suc j) a' f g =
        let (u, e₁, e₂) = bind_some (require (eqb c.kind (suc k))) _ m (rw q at e) in
        g j e₂ a'

pub kinds_kind : (sig : Signature) (m i : ℕ) (d : Constructor) → count_kinds sig ≡ some m → get_elem? sig i ≡ some d → d.kind < m
kinds_kind [] m i d e a = none≢some e
kinds_kind (c ∷ cs) m i d e a = go i a (bind_some (require (eqb c.kind 0)) _ m e)
  where
    go : (i : ℕ) → get_elem? (c ∷ cs) i ≡ some d → (u : Unit {0}) × (require (eqb c.kind 0) ≡ some u) × (kinds_from 0 cs ≡ some m) → d.kind < m
    go zero a' (u, e₁, e₂) = let z : c.kind ≡ d.kind = ap (λ x. x.kind) (some_inj c d a') in omega (arith, eqb_eq c.kind 0 (require_some (eqb c.kind 0) u e₁), rising_above 0 m cs e₂)
    go (suc j) a' (u, e₁, e₂) = rising_kind 0 m j cs d e₂ a'

module _ (sig : Signature) (f : SigFacts sig) where
  small_kinds : (ks : List ℕ) → all (λ k. ltb k f.n) ks ≡ true → All (Small sig) ks
  small_kinds [] e = none_left
  small_kinds (k ∷ ks) e = also k (kinds_small sig f.plain f.n f.least_six k (leb→le (suc k) f.n (T_of (ltb k f.n) (and_left (ltb k f.n) (all (λ j. ltb j f.n) ks) e)))) (small_kinds ks (and_right (ltb k f.n) (all (λ j. ltb j f.n) ks) e))

  pub dense : Dense sig
  dense = dense_of sig f.n f.kinds_are

  pub few : (k c : ℕ) (js : List ℕ) → arguments_at sig k c ≡ some js → length js ≤ argument_limit
  few k c js e = let (i, d, e₁, q, a) = row_of sig f.plain k c js e in subst (λ x. length x ≤ argument_limit) a (all_at f.few_arguments i d e₁)

  pub args_small : (k c : ℕ) (js : List ℕ) → arguments_at sig k c ≡ some js → All (Small sig) js
  args_small k c js e = let (i, d, e₁, q, a) = row_of sig f.plain k c js e in subst (All (Small sig)) a (small_kinds d.args (test_at (λ x. all (λ j. ltb j f.n) x.args) sig i d f.args_exist e₁))

  pub small_0 : Small sig 0
  small_0 = kinds_small sig f.plain f.n f.least_six 0 (kinds_above sig f.n f.kinds_are)
