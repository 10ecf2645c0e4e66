-- The least size of a kind, as it is reckoned, against its existence.
use mathlib.Core.Path.{◌≡◌, subst, refl, sym, ◌∙◌, ap}
use mathlib.Core.List.{List, [], ◌∷◌, ◌++◌}
use mathlib.Core.Option.{some, Option, none}
use mathlib.Core.Bool.{true, Bool, false, cond}
use Prim.Native.Nat.{ℕ, ◌≤◌, zero, suc, ◌+◌, min, ◌<◌, ◌-◌}
use native.Mathlib.Decide.{dec_le}
use native.Mathlib.Nat.{suc-add, add-suc, add-zero, zero-add}
use native.Mathlib.Omega.{arith}
use lib.Dec.{leb, leb→le, eqb}
use lib.ListN.{length, get_elem?}
use Rattle.signature.specs.Lawful.{OfKind, OfKinds, of_kinds_nil, of_kinds_cons, of_kind, EveryKindSmall}
use Rattle.signature.specs.Limits.{small_size, over_small, argument_limit, number_count, level_base}
use Rattle.signature.specs.Lists.{All, none_left, require, also, all}
use Rattle.signature.specs.Read.{read_arguments, read_constructors, total, best, least}
use Rattle.signature.specs.Signature.{Signature, Constructor, arguments_at, is_number_kind}
use Rattle.signature.specs.Value.{Value, size, Values, sizes, vnil, vcons, con, depth, depths}
use Rattle.signature.proofs.Heads.{Small, Plain, row_of, level_arguments, constructor_arguments}
use Rattle.signature.proofs.ListFacts.{split_was, all_imp, at_count_is, at_count, test_at, all_first, all_count_map}
use Rattle.signature.proofs.Tests.{some_inj, none≢some, bind_some, T_of, require_some, true≢false, leb_yes, le_of, eqb_eq, eqb_ne}
use Rattle.signature.proofs.Values.{depth_size}

-- what a row has that was read
abbrev RowRight : Constructor → Type 0
RowRight c = (length c.args ≤ argument_limit) × (c.number ≡ true → c.args ≡ [])

no_words : (xs : List ℕ) → length xs ≡ 0 → xs ≡ []
no_words [] e = refl
no_words (x ∷ xs) e = absurd (omega arith)

-- the argument kinds behind a second word m
pub arguments_read : (m : ℕ) (ws : List ℕ) (r : List ℕ × List ℕ) → read_arguments m ws ≡ some r → (length r.0 ≤ argument_limit) × (eqb m number_count ≡ true → r.0 ≡ []) × (cond (eqb m number_count) number_count (length r.0) ≡ m) × (ws ≡ r.0 ++ r.1)
arguments_read m ws r e =
    let (u, e₁, e₂) = bind_some (require (leb m number_count)) _ r e in
    let l : m ≤ number_count = le_of m number_count (require_some (leb m number_count) u e₁) in
    let (p, q) = split_was (cond (eqb m number_count) 0 m) ws r e₂ in
    go (eqb m number_count) refl l p q
  where
    go : (b : Bool) → eqb m number_count ≡ b → m ≤ number_count → length r.0 ≡ cond (eqb m number_count) 0 m → ws ≡ r.0 ++ r.1 → (length r.0 ≤ argument_limit) × (eqb m number_count ≡ true → r.0 ≡ []) × (cond (eqb m number_count) number_count (length r.0) ≡ m) × (ws ≡ r.0 ++ r.1)
    go true z l p q =
        let p' : length r.0 ≡ 0 = rw z at p in
        (omega arith, λ h. no_words r.0 p', rw z (sym (eqb_eq m number_count z)), q)
    go false z l p q =
        let p' : length r.0 ≡ m = rw z at p in
        let n : ¬ (m ≡ number_count) = eqb_ne m number_count z in
        (omega arith, λ h. true≢false (sym h ∙ z), rw z p', q)

rows_right : (n : ℕ) (ws : List ℕ) (sig : Signature) → read_constructors n ws ≡ some sig → All RowRight sig
rows_right zero [] sig e = subst (All RowRight) (some_inj [] sig e) none_left
rows_right zero (w ∷ ws) sig e = none≢some e
rows_right (suc n) [] sig e = none≢some e
rows_right (suc n) (k ∷ []) sig e = none≢some e
rows_right (suc n) (k ∷ (m ∷ ws)) sig e =
    let (r, e₁, f₁) = bind_some (read_arguments m ws) _ sig e in
    let (cs, e₂, f₂) = bind_some (read_constructors n r.1) _ sig f₁ in
    let (l, b, c, q) = arguments_read m ws r e₁ in
    subst (All RowRight) (some_inj (record { kind = k; args = r.0; number = eqb m number_count } ∷ cs) sig f₂) (also (record { kind = k; args = r.0; number = eqb m number_count }) (l, b) (rows_right n r.1 cs e₂))

pub few_args : (n : ℕ) (ws : List ℕ) (sig : Signature) → read_constructors n ws ≡ some sig → All (λ c. length c.args ≤ argument_limit) sig
few_args n ws sig e = all_imp (λ c h. h.0) (rows_right n ws sig e)

pub bare_rows : (n : ℕ) (ws : List ℕ) (sig : Signature) → read_constructors n ws ≡ some sig → All (λ c. c.number ≡ true → c.args ≡ []) sig
bare_rows n ws sig e = all_imp (λ c h. h.1) (rows_right n ws sig e)

module _ (sig : Signature) (plain : Plain sig) where
  abbrev Value≤ : ℕ → ℕ → Type 0
  Value≤ k m = (v : Value) × OfKind sig k v × (size v ≤ m)

  abbrev Least≤ : List ℕ → Type 0
  Least≤ table = (k m : ℕ) → get_elem? table k ≡ some m → m ≤ small_size → Value≤ k m

  total_small : (table : List ℕ) → Least≤ table → (js : List ℕ) → total table js ≤ small_size → (vs : Values) × OfKinds sig js vs × (sizes vs ≤ total table js)
  total_small table f [] l = (vnil, of_kinds_nil, omega arith)
  total_small table f (j ∷ js) l = go (get_elem? table j) refl (total_small table f js)
    where
      go : (o : Option ℕ) → get_elem? table j ≡ o → (total table js ≤ small_size → (vs : Values) × OfKinds sig js vs × (sizes vs ≤ total table js)) → (vs : Values) × OfKinds sig (j ∷ js) vs × (sizes vs ≤ total table (j ∷ js))
      go none e g = absurd (let z : over_small ≤ small_size = rw e at l in omega arith)
      go (some n) e g =
          let l' : n + total table js ≤ small_size = rw e at l in
          let (v, h, a) = f j n e (omega arith) in
          let (vs, h', b) = g (omega arith) in
          rw e (vcons v vs, of_kinds_cons h h', omega arith)

  -- the constructor by which a kind has its least value
  abbrev By : List ℕ → ℕ → ℕ → Type 0
  By table k m = (i : ℕ) × (c : Constructor) × (get_elem? sig i ≡ some c) × (eqb c.kind k ≡ true) × (suc (total table c.args) ≤ m)

  best_by : (table : List ℕ) (k : ℕ) (cs : Signature) (n : ℕ) → ((i : ℕ) (c : Constructor) → get_elem? cs i ≡ some c → get_elem? sig (n + i) ≡ some c) → best cs table k ≤ small_size → By table k (best cs table k)
  best_by table k [] n f l = absurd (omega arith)
  best_by table k (c ∷ cs) n f l = go (eqb c.kind k) (dec_le (suc (total table c.args)) (best cs table k)) refl (best_by table k cs (suc n) (λ i d e. rw (suc-add n i, ← add-suc n i) (f (suc i) d e)))
    where
      first_one : get_elem? sig n ≡ some c
      first_one = rw (add-zero n) at (f 0 c refl)

      go : (b : Bool) → Dec (suc (total table c.args) ≤ best cs table k) → eqb c.kind k ≡ b → (best cs table k ≤ small_size → By table k (best cs table k)) → By table k (best (c ∷ cs) table k)
      go true (yes h) q g = rw q (n, c, first_one, q, omega arith)
      go true (no h) q g =
          let l' : min (suc (total table c.args)) (best cs table k) ≤ small_size = rw q at l in
          let (i, d, e, r, a) = g (omega arith) in
          rw q (i, d, e, r, omega arith)
      go false z q g = rw q (g (rw q at l))

  value_by : (table : List ℕ) → Least≤ table → (k m : ℕ) → m ≤ small_size → By table k m → Value≤ k m
  value_by table f k m l (i, c, e, q, a) = go (is_number_kind sig k) refl
    where
      go : (b : Bool) → is_number_kind sig k ≡ b → Value≤ k m
      go true r = (con level_base vnil, of_kind (level_arguments sig plain k level_base r refl) of_kinds_nil, omega arith)
      go false r =
          let (vs, h, b) = total_small table f c.args (omega arith) in
          (con i vs, of_kind (constructor_arguments sig k i c r e q) h, omega arith)

  pub least_small : (n d : ℕ) → Least≤ (least d sig n)
  least_small n zero k m e l = absurd (let z : over_small ≡ m = at_count_is (λ j. over_small) 0 n k m e in omega arith)
  least_small n (suc d) k m e l =
      let z : min over_small (best sig (least d sig n) k) ≡ m = rw (zero-add k) at (at_count_is (λ j. min over_small (best sig (least d sig n) j)) 0 n k m e) in
      let (v, h, a) = value_by (least d sig n) (least_small n d) k (best sig (least d sig n) k) (omega arith) (best_by (least d sig n) k sig 0 (λ i c q. rw (zero-add i) q) (omega arith)) in
      (v, h, omega arith)

  -- every kind has a value of at most 6 words
  pub kinds_small : (n : ℕ) → all (λ m. leb m small_size) (least small_size sig n) ≡ true → (k : ℕ) → k < n → Small sig k
  kinds_small n h k l =
      let e : get_elem? (least small_size sig n) k ≡ some (min over_small (best sig (least (small_size - 1) sig n) (0 + k))) = at_count (λ j. min over_small (best sig (least (small_size - 1) sig n) j)) 0 n k l in
      let m : ℕ = min over_small (best sig (least (small_size - 1) sig n) (0 + k)) in
      let q : m ≤ small_size = leb→le m small_size (T_of (leb m small_size) (test_at (λ j. leb j small_size) (least small_size sig n) k m h e)) in
      let (v, g, b) = least_small n small_size k m e q in
      (v, g, omega arith)

-- the best of a kind is at most what any of its constructors gives
best_most : (table : List ℕ) (k i : ℕ) (cs : Signature) (d : Constructor) → get_elem? cs i ≡ some d → eqb d.kind k ≡ true → best cs table k ≤ suc (total table d.args)
best_most table k i [] d a q = none≢some a
best_most table k i (c ∷ cs) d a q = go (eqb c.kind k) refl i a (λ j b. best_most table k j cs d b q)
  where
    go : (b : Bool) → eqb c.kind k ≡ b → (i : ℕ) → get_elem? (c ∷ cs) i ≡ some d → ((j : ℕ) → get_elem? cs j ≡ some d → best cs table k ≤ suc (total table d.args)) → best (c ∷ cs) table k ≤ suc (total table d.args)
    go true r zero a' f = rw (r, some_inj c d a') (omega arith)
    go true r (suc j) a' f = rw r (omega (arith, f j a'))
    go false r zero a' f = true≢false (sym q ∙ ap (λ x. eqb x.kind k) (sym (some_inj c d a')) ∙ r)
    go false r (suc j) a' f = rw r (f j a')

-- 01, Signature: every kind has a value of at most 6 words, said as existence, and as it is decided
module _ (sig : Signature) (n : ℕ) where
  at_least : (d k : ℕ) → k < n → (m : ℕ) × (get_elem? (least d sig n) k ≡ some m)
  at_least zero k l = (over_small, at_count (λ j. over_small) 0 n k l)
  at_least (suc d) k l = (min over_small (best sig (least d sig n) (0 + k)), at_count (λ j. min over_small (best sig (least d sig n) j)) 0 n k l)

module _ (sig : Signature) (plain : Plain sig) (n : ℕ) where
  module _ (exist : (k c : ℕ) (js : List ℕ) → arguments_at sig k c ≡ some js → All (λ j. j < n) js) where
    mutual
      pub least_most : {k : ℕ} {v : Value} → OfKind sig k v → (d : ℕ) → k < n → depth v ≤ d → (m : ℕ) → get_elem? (least d sig n) k ≡ some m → m ≤ size v
      least_most (of_kind e h) zero l g m a = absurd (omega arith)
      least_most (of_kind {k = k} {c = c} {ks = js} {vs = vs} e h) (suc d) l g m a =
          let (i, b, e₁, q, z) = row_of sig plain k c js e in
          let r : get_elem? (least (suc d) sig n) k ≡ some (min over_small (best sig (least d sig n) (0 + k))) = at_count (λ j. min over_small (best sig (least d sig n) j)) 0 n k l in
          let w : min over_small (best sig (least d sig n) k) ≡ m = rw (zero-add k) at (some_inj (min over_small (best sig (least d sig n) (0 + k))) m (sym r ∙ a)) in
          let x : best sig (least d sig n) k ≤ suc (total (least d sig n) b.args) = best_most (least d sig n) k i sig b e₁ q in
          let y : total (least d sig n) js ≤ sizes vs = total_most h d (exist k c js e) (omega arith) in
          let y' : total (least d sig n) b.args ≤ sizes vs = rw z y in
          omega arith

      pub total_most : {js : List ℕ} {vs : Values} → OfKinds sig js vs → (d : ℕ) → All (λ j. j < n) js → depths vs ≤ d → total (least d sig n) js ≤ sizes vs
      total_most of_kinds_nil d ls g = omega arith
      total_most (of_kinds_cons {k = j} {v = v} {vs = vs} h hs) d ls g =
          let (l, ls') = all_first ls in
          let (m, a) = at_least sig n d j l in
          let x : m ≤ size v = least_most h d l (omega arith) m a in
          let y = total_most hs d ls' (omega arith) in
          rw a (omega arith)

    pub small_least : EveryKindSmall sig n → all (λ m. leb m small_size) (least small_size sig n) ≡ true
    small_least h = all_count_map (λ m. leb m small_size) (λ k. min over_small (best sig (least (small_size - 1) sig n) k)) 0 n each_one
      where
        each_one : (j : ℕ) → j < n → leb (min over_small (best sig (least (small_size - 1) sig n) (0 + j))) small_size ≡ true
        each_one j l =
            let (v, a, b) = h j l in
            let x : min over_small (best sig (least (small_size - 1) sig n) (0 + j)) ≤ size v = least_most a small_size l (omega (arith, depth_size v)) (min over_small (best sig (least (small_size - 1) sig n) (0 + j))) (at_count (λ k. min over_small (best sig (least (small_size - 1) sig n) k)) 0 n j l) in
            leb_yes (min over_small (best sig (least (small_size - 1) sig n) (0 + j))) small_size (omega arith)

-- 01, Signature: every kind has a value of at most 6 words, said as existence, and as it is decided
module _ (sig : Signature) (plain : Plain sig) (n : ℕ) where
  pub least_exists : all (λ m. leb m small_size) (least small_size sig n) ≡ true → EveryKindSmall sig n
  least_exists h k l = kinds_small sig plain n h k l
