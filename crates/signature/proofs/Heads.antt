-- The heads of a kind follow on each other; kinds that have a small value.
use mathlib.Core.Path.{◌≡◌, ap, ◌∙◌, refl, sym, subst}
use mathlib.Core.List.{List, [], ◌∷◌}
use mathlib.Core.Option.{some, none}
use mathlib.Core.Bool.{true, Bool, false}
use Prim.Native.Nat.{ℕ, ◌+◌, zero, suc, ◌≤◌, ◌*◌, ◌<◌, ◌-◌}
use native.Mathlib.Nat.{add-zero, suc-add, add-suc, zero-add}
use native.Mathlib.Omega.{arith}
use lib.Dec.{eqb, leb}
use lib.ListN.{length, get_elem?}
use Rattle.signature.specs.Lawful.{OfKind, of_kind, OfKinds, of_kinds_nil, of_kinds_cons}
use Rattle.signature.specs.Limits.{small_size, argument_limit, level_base, last_level, level_count}
use Rattle.signature.specs.Lists.{memb, any, require, is_empty, All, none_left, also, first, all, count_up}
use Rattle.signature.specs.Read.{kinds_from, count_kinds}
use Rattle.signature.specs.Signature.{arguments_at, Signature, Constructor, numbers_from, numbers, declares, is_number_kind, levels, is_level, heads, arguments}
use Rattle.signature.specs.Value.{Value, size, con, Values, sizes, depths, vnil, vcons}
use Rattle.signature.proofs.Booleans.{or_true, or_true_left, or_true_right, and_left, and_right, both_ways}
use Rattle.signature.proofs.ListFacts.{all_at, at_out}
use Rattle.signature.proofs.Members.{all_self, all_of}
use Rattle.signature.proofs.Tests.{same_some, none≢some, some_inj, eqb_self, bind_some, require_some, true≢false, eqb_eq, eqb_no, eqb_ne, leb_yes, le_of}
use Rattle.signature.proofs.Values.{depth_size}

module _ (sig : Signature) where
  pub same_args : (k c d : ℕ) {ks js : List ℕ} → arguments_at sig k c ≡ some ks → arguments_at sig k d ≡ some js → c ≡ d → js ≡ ks
  same_args k c d {ks} {js} e e' p = same_some js ks (arguments_at sig k d) e' (rw p at e)

-- numbers from f on
pub count_memb : (c f n : ℕ) → memb c (count_up f n) ≡ true → (f ≤ c) × (c < f + n)
count_memb c f zero e = true≢false (sym e)
count_memb c f (suc n) e = go (eqb c f) refl (count_memb c (suc f) n)
  where
    go : (b : Bool) → eqb c f ≡ b → (memb c (count_up (suc f) n) ≡ true → (suc f ≤ c) × (c < suc f + n)) → (f ≤ c) × (c < f + suc n)
    go true q h =
        let z : c ≡ f = eqb_eq c f q in
        (omega arith, omega arith)
    go false q h =
        let (a, b) = h (rw q at e) in
        (omega arith, omega arith)

pub memb_count : (c f n : ℕ) → f ≤ c → c < f + n → memb c (count_up f n) ≡ true
memb_count c f zero l m = absurd (omega arith)
memb_count c f (suc n) l m = go (eqb c f) refl (λ (a : suc f ≤ c). memb_count c (suc f) n a (omega arith))
  where
    go : (b : Bool) → eqb c f ≡ b → (suc f ≤ c → memb c (count_up (suc f) n) ≡ true) → memb c (count_up f (suc n)) ≡ true
    go true q h = rw q
    go false q h =
        let z : ¬ (c ≡ f) = eqb_ne c f q in
        rw q (h (omega arith))

pub level_is : (c : ℕ) → is_level c ≡ true → (level_base ≤ c) × (c ≤ level_base + last_level)
level_is c e = (le_of level_base c (and_left (leb level_base c) (leb c (level_base + last_level)) e), le_of c (level_base + last_level) (and_right (leb level_base c) (leb c (level_base + last_level)) e))

pub is_level_of : (c : ℕ) → level_base ≤ c → c ≤ level_base + last_level → is_level c ≡ true
is_level_of c l m = rw (leb_yes level_base c l, leb_yes c (level_base + last_level) m)

-- the levels are the words from 1,000 to 1,100
pub level_member : (c : ℕ) → memb c levels ≡ is_level c
level_member c = both_ways (memb c levels) (is_level c) there back
  where
    there : memb c levels ≡ true → is_level c ≡ true
    there e =
        let (l, m) = count_memb c level_base level_count e in
        is_level_of c l (omega arith)

    back : is_level c ≡ true → memb c levels ≡ true
    back e =
        let (l, m) = level_is c e in
        memb_count c level_base level_count l (omega arith)

-- a test that passes somewhere
pub any_at : {A : Type 0} (f : A → Bool) (xs : List A) → any f xs ≡ true → (i : ℕ) × (a : A) × (get_elem? xs i ≡ some a) × (f a ≡ true)
any_at f [] e = true≢false (sym e)
any_at {A} f (x ∷ xs) e = go (f x) refl (any_at f xs)
  where
    go : (b : Bool) → f x ≡ b → (any f xs ≡ true → (i : ℕ) × (a : A) × (get_elem? xs i ≡ some a) × (f a ≡ true)) → (i : ℕ) × (a : A) × (get_elem? (x ∷ xs) i ≡ some a) × (f a ≡ true)
    go true q h = (0, x, refl, q)
    go false q h =
        let (i, a, p, r) = h (rw q at e) in
        (suc i, a, p, r)

pub any_there : {A : Type 0} (f : A → Bool) (xs : List A) (i : ℕ) (a : A) → get_elem? xs i ≡ some a → f a ≡ true → any f xs ≡ true
any_there f [] i a e q = none≢some e
any_there f (x ∷ xs) zero a e q = or_true_left (f x) (any f xs) (ap f (some_inj x a e) ∙ q)
any_there f (x ∷ xs) (suc i) a e q = or_true_right (f x) (any f xs) (any_there f xs i a e q)

-- the rows of a kind
numbered_has : (sig : Signature) (n i k : ℕ) (c : Constructor) → get_elem? sig i ≡ some c → eqb c.kind k ≡ true → memb (n + i) (numbers_from n sig k) ≡ true
numbered_has [] n i k c e q = none≢some e
numbered_has (d ∷ ds) n zero k c e q =
    let h : eqb d.kind k ≡ true = ap (λ x. eqb x.kind k) (some_inj d c e) ∙ q in
    rw (h, add-zero n, eqb_self n)
numbered_has (d ∷ ds) n (suc i) k c e q = go (eqb d.kind k) refl (rw (suc-add n i) at (numbered_has ds (suc n) i k c e q))
  where
    go : (b : Bool) → eqb d.kind k ≡ b → memb (suc (n + i)) (numbers_from (suc n) ds k) ≡ true → memb (n + suc i) (numbers_from n (d ∷ ds) k) ≡ true
    go true p h = subst (λ z. memb z (numbers_from n (d ∷ ds) k) ≡ true) (sym (add-suc n i)) (rw (p, h) (or_true (eqb (suc (n + i)) n)))
    go false p h = subst (λ z. memb z (numbers_from n (d ∷ ds) k) ≡ true) (sym (add-suc n i)) (rw p h)

pub has_number : (sig : Signature) (i k : ℕ) (c : Constructor) → get_elem? sig i ≡ some c → eqb c.kind k ≡ true → memb i (numbers sig k) ≡ true
has_number sig i k c e q = rw (zero-add i) at (numbered_has sig 0 i k c e q)

numbered_only : (ds : Signature) (n c k : ℕ) → memb c (numbers_from n ds k) ≡ true → (i : ℕ) × (d : Constructor) × (c ≡ n + i) × (get_elem? ds i ≡ some d) × (eqb d.kind k ≡ true)
numbered_only [] n c k e = true≢false (sym e)
numbered_only (d ∷ ds) n c k e = go (eqb d.kind k) (eqb c n) refl refl (numbered_only ds (suc n) c k)
  where
    later : (i : ℕ) × (b : Constructor) × (c ≡ suc n + i) × (get_elem? ds i ≡ some b) × (eqb b.kind k ≡ true) → (i : ℕ) × (b : Constructor) × (c ≡ n + i) × (get_elem? (d ∷ ds) i ≡ some b) × (eqb b.kind k ≡ true)
    later (i, b, p, q, r) = (suc i, b, omega arith, q, r)

    go : (a b : Bool) → eqb d.kind k ≡ a → eqb c n ≡ b → (memb c (numbers_from (suc n) ds k) ≡ true → (i : ℕ) × (b : Constructor) × (c ≡ suc n + i) × (get_elem? ds i ≡ some b) × (eqb b.kind k ≡ true)) → (i : ℕ) × (b : Constructor) × (c ≡ n + i) × (get_elem? (d ∷ ds) i ≡ some b) × (eqb b.kind k ≡ true)
    go true true p q f = (0, d, omega (arith, eqb_eq c n q), refl, p)
    go true false p q f = later (f (rw (p, q) at e))
    go false b p q f = later (f (rw p at e))

pub number_has : (sig : Signature) (c k : ℕ) → memb c (numbers sig k) ≡ true → (d : Constructor) × (get_elem? sig c ≡ some d) × (eqb d.kind k ≡ true)
number_has sig c k e = go (numbered_only sig 0 c k e)
  where
    go : (i : ℕ) × (d : Constructor) × (c ≡ 0 + i) × (get_elem? sig i ≡ some d) × (eqb d.kind k ≡ true) → (d : Constructor) × (get_elem? sig c ≡ some d) × (eqb d.kind k ≡ true)
    go (i, d, p, q, r) = (d, rw (p ∙ zero-add i, q), r)

-- what the argument kinds of heads rest on: rows are fewer than the first level, and a number row has none
pub record Plain (sig : Signature) : Type 0 where
  pub short : length sig ≤ level_base
  pub bare : All (λ c. c.number ≡ true → c.args ≡ []) sig

module _ (sig : Signature) where
  -- a head with its argument kinds
  pub has_kind : (k c : ℕ) (ks : List ℕ) → arguments_at sig k c ≡ some ks → memb c (heads sig k) ≡ true
  has_kind k c ks e =
      let (u, e₁, e₂) = bind_some (require (memb c (heads sig k))) _ ks e in
      require_some (memb c (heads sig k)) u e₁

  pub args_same : (k c : ℕ) (ks : List ℕ) → arguments_at sig k c ≡ some ks → arguments sig c ≡ ks
  args_same k c ks e =
      let (u, e₁, e₂) = bind_some (require (memb c (heads sig k))) _ ks e in
      some_inj (arguments sig c) ks e₂

  pub kind_of_head : (k c : ℕ) → memb c (heads sig k) ≡ true → (js : List ℕ) × (arguments_at sig k c ≡ some js)
  kind_of_head k c e = (arguments sig c, rw e)

  -- no head, no argument kinds
  pub no_head : (k c : ℕ) → memb c (heads sig k) ≡ false → arguments_at sig k c ≡ none
  no_head k c e = rw e

  -- the constructors of a kind that is no number kind
  pub constructor_arguments : (k c : ℕ) (d : Constructor) → is_number_kind sig k ≡ false → get_elem? sig c ≡ some d → eqb d.kind k ≡ true → arguments_at sig k c ≡ some d.args
  constructor_arguments k c d q e r = rw (q, has_number sig c k d e r, e)

  pub constructor_of : (k c : ℕ) (ks : List ℕ) → is_number_kind sig k ≡ false → arguments_at sig k c ≡ some ks → (d : Constructor) × (get_elem? sig c ≡ some d) × (eqb d.kind k ≡ true) × (d.args ≡ ks)
  constructor_of k c ks q e = go (number_has sig c k (rw q at (has_kind k c ks e)))
    where
      go : (d : Constructor) × (get_elem? sig c ≡ some d) × (eqb d.kind k ≡ true) → (d : Constructor) × (get_elem? sig c ≡ some d) × (eqb d.kind k ≡ true) × (d.args ≡ ks)
      go (d, p, r) =
          let z : arguments sig c ≡ d.args = rw p in
          (d, p, r, sym z ∙ args_same k c ks e)

  -- the heads of a number kind are the levels
  pub level_of_kind : (k c : ℕ) (ks : List ℕ) → is_number_kind sig k ≡ true → arguments_at sig k c ≡ some ks → is_level c ≡ true
  level_of_kind k c ks q e = sym (level_member c) ∙ (rw q at (has_kind k c ks e))

  -- a head below the levels is a constructor
  pub below_levels : (k c : ℕ) (ks : List ℕ) → c < level_base → arguments_at sig k c ≡ some ks → is_number_kind sig k ≡ false
  below_levels k c ks l e = go (is_number_kind sig k) refl
    where
      go : (b : Bool) → is_number_kind sig k ≡ b → is_number_kind sig k ≡ false
      go false q = q
      go true q = absurd (let (m, n) = level_is c (level_of_kind k c ks q e) in omega arith)

module _ (sig : Signature) (h : Plain sig) where
  -- a level has no arguments
  pub level_bare : (c : ℕ) → level_base ≤ c → arguments sig c ≡ []
  level_bare c l = rw (at_out sig c (omega (arith, h.short)))

  pub level_arguments : (k c : ℕ) → is_number_kind sig k ≡ true → is_level c ≡ true → arguments_at sig k c ≡ some []
  level_arguments k c q e =
      let (l, m) = level_is c e in
      rw (q, level_member c, e, level_bare c l)

  -- the row of a kind that has a head's argument kinds
  pub row_of : (k c : ℕ) (ks : List ℕ) → arguments_at sig k c ≡ some ks → (i : ℕ) × (d : Constructor) × (get_elem? sig i ≡ some d) × (eqb d.kind k ≡ true) × (d.args ≡ ks)
  row_of k c ks e = go (is_number_kind sig k) refl
    where
      at_level : (i : ℕ) × (d : Constructor) × (get_elem? sig i ≡ some d) × (declares k d ≡ true) → level_base ≤ c → (i : ℕ) × (d : Constructor) × (get_elem? sig i ≡ some d) × (eqb d.kind k ≡ true) × (d.args ≡ ks)
      at_level (i, d, p, q) l = (i, d, p, and_right d.number (eqb d.kind k) q, all_at h.bare i d p (and_left d.number (eqb d.kind k) q) ∙ sym (level_bare c l) ∙ args_same sig k c ks e)

      go : (b : Bool) → is_number_kind sig k ≡ b → (i : ℕ) × (d : Constructor) × (get_elem? sig i ≡ some d) × (eqb d.kind k ≡ true) × (d.args ≡ ks)
      go true q = at_level (any_at (declares k) sig q) (level_is c (level_of_kind sig k c ks q e)).0
      go false q =
          let (d, p, r, a) = constructor_of sig k c ks q e in
          (c, d, p, r, a)

module _ (sig : Signature) where
  -- a kind with a value of at most 6 words
  abbrev pub Small : ℕ → Type 0
  Small k = (v : Value) × OfKind sig k v × (size v ≤ small_size)

  pub has_head : {k : ℕ} → Small k → is_empty (heads sig k) ≡ false
  has_head {k} s = go s.0 s.1
    where
      none_there : (c : ℕ) (cs : List ℕ) → memb c cs ≡ true → is_empty cs ≡ false
      none_there c [] e = sym e
      none_there c (d ∷ ds) e = refl

      go : (v : Value) → OfKind sig k v → is_empty (heads sig k) ≡ false
      go (con c vs) (of_kind {ks = ks} e h) = none_there c (heads sig k) (has_kind sig k c ks e)

module _ (sig : Signature) where
  module _ (args_small : (k c : ℕ) (js : List ℕ) → arguments_at sig k c ≡ some js → All (Small sig) js) (few : (k c : ℕ) (js : List ℕ) → arguments_at sig k c ≡ some js → length js ≤ argument_limit) where
    pub small_values : {ks : List ℕ} → All (Small sig) ks → (vs : Values) × OfKinds sig ks vs × (sizes vs ≤ small_size * length ks) × (depths vs ≤ small_size)
    small_values none_left = (vnil, of_kinds_nil, omega arith, omega arith)
    small_values (also k (v, h, l) p) =
        let (vs, g, m, n) = small_values p in
        (vcons v vs, of_kinds_cons h g, omega arith, omega (arith, depth_size v))

-- numbers from f without gaps
pub data Consecutive : ℕ → List ℕ → Type 0 where
  consecutive_nil : {f : ℕ} → Consecutive f []
  consecutive_cons : {f : ℕ} {xs : List ℕ} → Consecutive (suc f) xs → Consecutive f (f ∷ xs)

-- no constructor of a kind behind a later kind
none_behind : (cs : Signature) (n k k₀ m : ℕ) → kinds_from k₀ cs ≡ some m → k < k₀ → numbers_from n cs k ≡ []
none_behind [] n k k₀ m e l = refl
none_behind (c ∷ cs) n k k₀ m e l = go (eqb c.kind k₀) refl (none_behind cs (suc n) k k₀ m) (none_behind cs (suc n) k (suc k₀) m)
  where
    go : (b : Bool) → eqb c.kind k₀ ≡ b → (kinds_from k₀ cs ≡ some m → k < k₀ → numbers_from (suc n) cs k ≡ []) → (kinds_from (suc k₀) cs ≡ some m → k < suc k₀ → numbers_from (suc n) cs k ≡ []) → numbers_from n (c ∷ cs) k ≡ []
    go true q f g = rw (eqb_no c.kind k (λ p. let z : c.kind ≡ k₀ = eqb_eq c.kind k₀ q in omega arith)) (f (rw q at e) l)
    go false q f g =
        let (u, e₁, e₂) = bind_some (require (eqb c.kind (suc k₀))) _ m (rw q at e) in
        let z : c.kind ≡ suc k₀ = eqb_eq c.kind (suc k₀) (require_some (eqb c.kind (suc k₀)) u e₁) in
        rw (eqb_no c.kind k (λ p. omega arith)) (g e₂ (omega arith))

-- within the kind
consecutive_within : (cs : Signature) (n k m : ℕ) → kinds_from k cs ≡ some m → Consecutive n (numbers_from n cs k)
consecutive_within [] n k m e = consecutive_nil
consecutive_within (c ∷ cs) n k m e = go (eqb c.kind k) refl (consecutive_within cs (suc n) k m)
  where
    go : (b : Bool) → eqb c.kind k ≡ b → (kinds_from k cs ≡ some m → Consecutive (suc n) (numbers_from (suc n) cs k)) → Consecutive n (numbers_from n (c ∷ cs) k)
    go true q f = rw q (consecutive_cons (f (rw q at e)))
    go false q f =
        let (u, e₁, e₂) = bind_some (require (eqb c.kind (suc k))) _ m (rw q at e) in
        let none_left : numbers_from (suc n) cs k ≡ [] = none_behind cs (suc n) k (suc k) m e₂ (omega arith) in
        rw (q, none_left) consecutive_nil

-- ahead of the kind
consecutive_ahead : (cs : Signature) (n k k₀ m : ℕ) → kinds_from k₀ cs ≡ some m → k₀ < k → (f : ℕ) × Consecutive f (numbers_from n cs k)
consecutive_ahead [] n k k₀ m e l = (0, consecutive_nil)
consecutive_ahead (c ∷ cs) n k k₀ m e l = go (eqb c.kind k₀) (eqb c.kind k) refl refl (consecutive_ahead cs (suc n) k k₀ m) (consecutive_ahead cs (suc n) k (suc k₀) m)
  where
    go : (a b : Bool) → eqb c.kind k₀ ≡ a → eqb c.kind k ≡ b → (kinds_from k₀ cs ≡ some m → k₀ < k → (f : ℕ) × Consecutive f (numbers_from (suc n) cs k)) → (kinds_from (suc k₀) cs ≡ some m → suc k₀ < k → (f : ℕ) × Consecutive f (numbers_from (suc n) cs k)) → (f : ℕ) × Consecutive f (numbers_from n (c ∷ cs) k)
    go true true q r f g = absurd (let z : c.kind ≡ k₀ = eqb_eq c.kind k₀ q in let y : c.kind ≡ k = eqb_eq c.kind k r in omega arith)
    go true false q r f g = rw r (f (rw q at e) l)
    go false true q r f g =
        let (u, e₁, e₂) = bind_some (require (eqb c.kind (suc k₀))) _ m (rw q at e) in
        let z : suc k₀ ≡ k = sym (eqb_eq c.kind (suc k₀) (require_some (eqb c.kind (suc k₀)) u e₁)) ∙ eqb_eq c.kind k r in
        rw r (n, consecutive_cons (consecutive_within cs (suc n) k m (subst (λ x. kinds_from x cs ≡ some m) z e₂)))
    go false false q r f g =
        let (u, e₁, e₂) = bind_some (require (eqb c.kind (suc k₀))) _ m (rw q at e) in
        let z : c.kind ≡ suc k₀ = eqb_eq c.kind (suc k₀) (require_some (eqb c.kind (suc k₀)) u e₁) in
        let y : ¬ (c.kind ≡ k) = eqb_ne c.kind k r in
        let x : ¬ (suc k₀ ≡ k) = λ w. y (z ∙ w) in
        rw r (g e₂ (omega arith))

numbers_consecutive : (sig : Signature) (k m : ℕ) → count_kinds sig ≡ some m → (f : ℕ) × Consecutive f (numbers sig k)
numbers_consecutive [] k m e = none≢some e
numbers_consecutive (c ∷ cs) k m e = go k (bind_some (require (eqb c.kind 0)) _ m e)
  where
    go : (k : ℕ) → (u : Unit {0}) × (require (eqb c.kind 0) ≡ some u) × (kinds_from 0 cs ≡ some m) → (f : ℕ) × Consecutive f (numbers (c ∷ cs) k)
    go zero (u, e₁, e₂) = rw (require_some (eqb c.kind 0) u e₁) (0, consecutive_cons (consecutive_within cs 1 0 m e₂))
    go (suc k) (u, e₁, e₂) =
        let z : c.kind ≡ 0 = eqb_eq c.kind 0 (require_some (eqb c.kind 0) u e₁) in
        rw (eqb_no c.kind (suc k) (λ p. omega arith)) (consecutive_ahead cs 1 (suc k) 0 m e₂ (omega arith))

count_consecutive : (f n : ℕ) → Consecutive f (count_up f n)
count_consecutive f zero = consecutive_nil
count_consecutive f (suc n) = consecutive_cons (count_consecutive (suc f) n)

pub consecutive_of : (sig : Signature) (k m : ℕ) → count_kinds sig ≡ some m → (f : ℕ) × Consecutive f (heads sig k)
consecutive_of sig k m e = go (is_number_kind sig k) refl
  where
    go : (b : Bool) → is_number_kind sig k ≡ b → (f : ℕ) × Consecutive f (heads sig k)
    go true q = rw q (level_base, count_consecutive level_base level_count)
    go false q = rw q (numbers_consecutive sig k m e)

-- an element of a run stands where its number says
consecutive_least : {f : ℕ} {xs : List ℕ} (c : ℕ) → Consecutive f xs → memb c xs ≡ true → f ≤ c
consecutive_least c consecutive_nil e = true≢false (sym e)
consecutive_least c (consecutive_cons {f = f} {xs = xs} r) e = go (eqb c f) refl (consecutive_least c r)
  where
    go : (b : Bool) → eqb c f ≡ b → (memb c xs ≡ true → suc f ≤ c) → f ≤ c
    go true q h = omega (arith, eqb_eq c f q)
    go false q h = omega (arith, h (rw q at e))

consecutive_at : {f : ℕ} {xs : List ℕ} (c : ℕ) → Consecutive f xs → memb c xs ≡ true → get_elem? xs (c - f) ≡ some c
consecutive_at c consecutive_nil e = true≢false (sym e)
consecutive_at c (consecutive_cons {f = f} {xs = xs} r) e = go (eqb c f) refl (consecutive_at c r) (consecutive_least c r)
  where
    go : (b : Bool) → eqb c f ≡ b → (memb c xs ≡ true → get_elem? xs (c - suc f) ≡ some c) → (memb c xs ≡ true → suc f ≤ c) → get_elem? (f ∷ xs) (c - f) ≡ some c
    go true q h l =
        let z : c - f ≡ 0 = omega (arith, eqb_eq c f q) in
        rw z (ap some (sym (eqb_eq c f q)))
    go false q h l =
        let m : memb c xs ≡ true = rw q at e in
        let z : c - f ≡ suc (c - suc f) = omega (arith, l m) in
        rw z (h m)

consecutive_first : {f : ℕ} {xs : List ℕ} (c : ℕ) → Consecutive f xs → memb c xs ≡ true → first xs ≡ f
consecutive_first c consecutive_nil e = true≢false (sym e)
consecutive_first c (consecutive_cons r) e = refl

module _ (sig : Signature) where
  -- constructors of a kind are numbered without gaps
  abbrev pub Dense : Type 0
  Dense = (k c : ℕ) (js : List ℕ) → arguments_at sig k c ≡ some js → get_elem? (heads sig k) (c - first (heads sig k)) ≡ some c

pub dense_of : (sig : Signature) (m : ℕ) → count_kinds sig ≡ some m → Dense sig
dense_of sig m e k c js a = go (consecutive_of sig k m e) (has_kind sig k c js a)
  where
    go : (f : ℕ) × Consecutive f (heads sig k) → memb c (heads sig k) ≡ true → get_elem? (heads sig k) (c - first (heads sig k)) ≡ some c
    go (f, r) h = rw (consecutive_first c r h) (consecutive_at c r h)

module _ (sig : Signature) where
  pub open_refs : (k : ℕ) → all (λ c. memb c (heads sig k)) (heads sig k) ≡ true
  open_refs k = all_self (heads sig k) (heads sig k) (all_of (heads sig k) (λ d m. m))
