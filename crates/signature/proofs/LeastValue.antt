-- 01, Signature: a kind's least size is the size of a smallest value of the kind, and its least constructor makes one.
use mathlib.Core.Path.{◌≡◌, refl, sym, ap, ◌∙◌, subst}
use mathlib.Core.List.{List, [], ◌∷◌}
use mathlib.Core.Option.{some}
use mathlib.Core.Bool.{Bool, true, false, cond, ◌&&◌}
use Prim.Native.Nat.{ℕ, zero, suc, ◌≤◌, ◌<◌, min}
use native.Mathlib.Decide.{dec_le}
use native.Mathlib.Omega.{arith}
use lib.ListN.{length, get_or, get_elem?}
use lib.Dec.{eqb, leb, ltb}
use Rattle.signature.specs.Lawful.{OfKind, of_kind, OfKinds, of_kinds_nil, of_kinds_cons}
use Rattle.signature.specs.Limits.{small_size, over_small, level_base, last_level}
use Rattle.signature.specs.Lists.{All, none_left, also, all, memb, first, keep, count_up}
use Rattle.signature.specs.Read.{best, least, total, count_kinds, Signed}
use Rattle.signature.specs.Signature.{Signature, arguments_at, arguments, heads, numbers, levels, is_number_kind}
use Rattle.signature.specs.Value.{Value, Values, con, vnil, vcons, size, sizes, depth}
use Rattle.signature.specs.Decoded.{least_size, least_head}
use Rattle.signature.proofs.Booleans.{and_left, and_right}
use Rattle.signature.proofs.Members.{memb_keep}
use Rattle.signature.proofs.ListFacts.{all_is, test_at, at_getD}
use Rattle.signature.proofs.Tests.{same_some, true≢false, eqb_self, eqb_eq, le_of}
use Rattle.signature.proofs.Values.{depth_size}
use Rattle.signature.proofs.Heads.{Plain, row_of, level_bare, level_arguments, has_kind, args_same, kind_of_head}
use Rattle.signature.proofs.Least.{least_small, least_most, total_most}
use Rattle.signature.proofs.LawfulFacts.{SigFacts, sig_facts}
use Rattle.signature.proofs.Counting.{counted_length}

-- the least constructor is one of the kind and makes a smallest value
pub record HeadReaches (sig : Signature) (n k : ℕ) : Type 0 where
  pub is_head : memb (least_head sig n k) (heads sig k) ≡ true
  pub args : List ℕ
  pub has_args : arguments_at sig k (least_head sig n k) ≡ some args
  pub reaches : suc (total (least small_size sig n) args) ≡ least_size sig n k

keeps_first : (f : ℕ → Bool) (x : ℕ) (xs : List ℕ) → f x ≡ true → first (keep f (x ∷ xs)) ≡ x
keeps_first f x xs e = rw e

first_kept : (f : ℕ → Bool) (c : ℕ) (cs : List ℕ) → memb c (keep f cs) ≡ true → memb (first (keep f cs)) (keep f cs) ≡ true
first_kept f c cs e = go (keep f cs) e
  where
    go : (ds : List ℕ) → memb c ds ≡ true → memb (first ds) ds ≡ true
    go [] m = true≢false (sym m)
    go (d ∷ ds) m = rw (eqb_self d)

module _ (sig : Signature) (plain : Plain sig) (n : ℕ) (exist : (k c : ℕ) (js : List ℕ) → arguments_at sig k c ≡ some js → All (λ j. j < n) js) where
  size_at : (d k : ℕ) → k < n → get_elem? (least d sig n) k ≡ some (get_or (least d sig n) k 0)
  size_at d k l = at_getD (least d sig n) k (omega (arith, long d))
    where
      long : (d : ℕ) → length (least d sig n) ≡ n
      long zero = counted_length (λ j. over_small) 0 n
      long (suc d) = counted_length (λ j. min over_small (best sig (least d sig n) j)) 0 n

  module _ (six : all (λ m. leb m small_size) (least small_size sig n) ≡ true) where
    pub size_small : (k : ℕ) → k < n → least_size sig n k ≤ small_size
    size_small k l = le_of (least_size sig n k) small_size (test_at (λ m. leb m small_size) (least small_size sig n) k (least_size sig n k) six (size_at small_size k l))

    -- no value is smaller
    pub size_least : {k : ℕ} {v : Value} → k < n → OfKind sig k v → least_size sig n k ≤ size v
    size_least {k} {v} l h = go (dec_le (depth v) small_size)
      where
        go : Dec (depth v ≤ small_size) → least_size sig n k ≤ size v
        go (yes m) = least_most sig plain n exist h small_size l m (least_size sig n k) (size_at small_size k l)
        go (no m) = omega (arith, depth_size v, size_small k l)

    -- some value is as small
    pub smallest_value : (k : ℕ) → k < n → (v : Value) × OfKind sig k v × (size v ≡ least_size sig n k)
    smallest_value k l =
        let (v, h, m) = least_small sig plain n small_size k (least_size sig n k) (size_at small_size k l) (size_small k l) in
        (v, h, omega (arith, size_least l h))

    smallest_values : {js : List ℕ} → All (λ j. j < n) js → (vs : Values) × OfKinds sig js vs × (sizes vs ≡ total (least small_size sig n) js)
    smallest_values none_left = (vnil, of_kinds_nil, refl)
    smallest_values (also j l ls) =
        let (v, h, e) = smallest_value j l in
        let (vs, g, f) = smallest_values ls in
        rw (size_at small_size j l) (vcons v vs, of_kinds_cons h g, omega arith)

    reaching : (k : ℕ) → k < n → (c : ℕ) × (ks : List ℕ) × (arguments_at sig k c ≡ some ks) × (suc (total (least small_size sig n) ks) ≡ least_size sig n k)
    reaching k l = go (smallest_value k l)
      where
        go : (v : Value) × OfKind sig k v × (size v ≡ least_size sig n k) → (c : ℕ) × (ks : List ℕ) × (arguments_at sig k c ≡ some ks) × (suc (total (least small_size sig n) ks) ≡ least_size sig n k)
        go (con c vs, of_kind {ks = ks} e h, m) =
            let (us, g, f) = smallest_values (exist k c ks e) in
            let x : least_size sig n k ≤ size (con c us) = size_least l (of_kind e g) in
            let y : total (least small_size sig n) ks ≤ sizes vs = total_most sig plain n exist h small_size (exist k c ks e) (omega (arith, depth_size (con c vs), size_small k l)) in
            (c, ks, e, omega arith)

    pub head_reaches : (k : ℕ) → k < n → HeadReaches sig n k
    head_reaches k l = go (reaching k l)
      where
        f : ℕ → Bool
        f c = eqb (suc (total (least small_size sig n) (arguments sig c))) (least_size sig n k)

        found : memb (least_head sig n k) (keep f (heads sig k)) ≡ true → HeadReaches sig n k
        found m =
            let b : (memb (least_head sig n k) (heads sig k) && f (least_head sig n k)) ≡ true = sym (memb_keep f (least_head sig n k) (heads sig k)) ∙ m in
            let p = and_left (memb (least_head sig n k) (heads sig k)) (f (least_head sig n k)) b in
            let q = and_right (memb (least_head sig n k) (heads sig k)) (f (least_head sig n k)) b in
            let (js, e) = kind_of_head sig k (least_head sig n k) p in
            record { is_head = p; args = js; has_args = e; reaches = ap (λ z. suc (total (least small_size sig n) z)) (sym (args_same sig k (least_head sig n k) js e)) ∙ eqb_eq (suc (total (least small_size sig n) (arguments sig (least_head sig n k)))) (least_size sig n k) q }

        go : (c : ℕ) × (ks : List ℕ) × (arguments_at sig k c ≡ some ks) × (suc (total (least small_size sig n) ks) ≡ least_size sig n k) → HeadReaches sig n k
        go (c, ks, e, z) =
            let p : memb c (heads sig k) ≡ true = has_kind sig k c ks e in
            let q : f c ≡ true = rw (args_same sig k c ks e, z) (eqb_self (least_size sig n k)) in
            found (first_kept f c (heads sig k) (memb_keep f c (heads sig k) ∙ rw (p, q)))

-- the same of a lawful signature
module _ (sig : Signature) (signed : Signed sig) (n : ℕ) (kinds : count_kinds sig ≡ some n) where
  facts : SigFacts sig
  facts = sig_facts sig signed

  same : facts.n ≡ n
  same = same_some facts.n n (count_kinds sig) facts.kinds_are kinds

  pub arguments_exist : (k c : ℕ) (js : List ℕ) → arguments_at sig k c ≡ some js → All (λ j. j < n) js
  arguments_exist k c js e =
      let (i, d, e₁, q, a) = row_of sig facts.plain k c js e in
      let h : all (λ c. all (λ j. ltb j n) c.args) sig ≡ true = rw same at facts.args_exist in
      subst (All (λ j. j < n)) a (all_is (λ j. ltb j n) (λ j t. le_of (suc j) n t) d.args (test_at (λ x. all (λ j. ltb j n) x.args) sig i d h e₁))

  pub all_small : all (λ m. leb m small_size) (least small_size sig n) ≡ true
  all_small = rw same at facts.least_six

  pub least_exists : (k : ℕ) → k < n → (v : Value) × OfKind sig k v × (size v ≡ least_size sig n k)
  least_exists = smallest_value sig facts.plain n arguments_exist all_small

  pub least_below : {k : ℕ} {v : Value} → k < n → OfKind sig k v → least_size sig n k ≤ size v
  least_below = size_least sig facts.plain n arguments_exist all_small

  pub least_at_most : (k : ℕ) → k < n → least_size sig n k ≤ small_size
  least_at_most = size_small sig facts.plain n arguments_exist all_small

  pub least_head_reaches : (k : ℕ) → k < n → HeadReaches sig n k
  least_head_reaches = head_reaches sig facts.plain n arguments_exist all_small

  -- the least value of a number kind is the level 0
  pub lowest_level : (k : ℕ) → k < n → is_number_kind sig k ≡ true → least_head sig n k ≡ level_base
  lowest_level k l q = go (least_exists k l)
    where
      f : ℕ → Bool
      f c = eqb (suc (total (least small_size sig n) (arguments sig c))) (least_size sig n k)

      one : (v : Value) → size v ≡ least_size sig n k → least_size sig n k ≡ 1
      one (con c vs) e =
          let m : least_size sig n k ≤ 1 = least_below l (of_kind (level_arguments sig facts.plain k level_base q refl) of_kinds_nil) in
          omega arith

      go : (v : Value) × OfKind sig k v × (size v ≡ least_size sig n k) → least_head sig n k ≡ level_base
      go (v, h, e) =
          let z : f level_base ≡ true = rw (level_bare sig facts.plain level_base (omega arith), one v e) in
          ap (λ b. first (keep f (cond b levels (numbers sig k)))) q ∙ keeps_first f level_base (count_up (suc level_base) last_level) z
