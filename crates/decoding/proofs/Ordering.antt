-- The kinds' order, and each kind's first constructor and count.
use Rattle.std.specs.Prelude.{None, Some}
use mathlib.Core.Path.{◌≡◌, refl, sym, ap, ap₂, ◌∙◌}
use mathlib.Core.Logic.{◌⊎◌, inl, inr}
use mathlib.Core.List.{List, [], ◌∷◌}
use mathlib.Core.Option.{Option, none, some}
use mathlib.Core.Bool.{Bool, true, false, cond}
use Prim.Native.Nat.{ℕ, zero, suc, ◌+◌, ◌*◌, ◌≤◌, ◌<◌}
use native.Mathlib.Numerals.{add-one}
use native.Mathlib.Omega.{arith}
use lib.ListN.{length, get_or}
use lib.Dec.{eqb, ltb}
use Rattle.signature.specs.Limits.{kind_limit}
use Rattle.signature.specs.Lists.{◌>>=◌, require, first}
use Rattle.signature.specs.Read.{count_kinds, kinds_from}
use Rattle.signature.specs.Signature.{Signature, Constructor, numbers, numbers_from}
use Rattle.signature.specs.Decoded.{kinds_at, kind_stride, first_of, count_of}
use Rattle.std.proofs.lemmas.Option.{none-some, same_Some}
use Rattle.decoding.specs.Decoding.{next_kinds, kinds_or_0, kinds_due, HeadNoted, Noted}
use Rattle.signature.proofs.Tests.{eqb_self, eqb_eq, eqb_ne, eqb_no, ltb_yes, ltb_no, leb_no, le_of, lt_of_not, some_inj, bind_some}

-- the next number of kinds
eqb_yes : (m n : ℕ) → m ≡ n → eqb m n ≡ true
eqb_yes m n e = rw e (eqb_self n)

pub next_same : (k n : ℕ) → suc k ≡ n → Some n ≡ next_kinds k n
next_same k n e = rw (eqb_yes (suc k) n e)

pub next_new : (k n : ℕ) → k ≡ n → n < kind_limit → Some (n + 1) ≡ next_kinds k n
next_new k n e l = rw (eqb_no (suc k) n (λ p. omega arith), eqb_yes k n e, ltb_yes n kind_limit l) (ap Some (add-one n))

pub next_wrong : (k n : ℕ) → ¬ (suc k ≡ n) → ¬ (k ≡ n) → None ≡ next_kinds k n
next_wrong k n e f = rw (eqb_no (suc k) n e, eqb_no k n f)

pub next_many : (k n : ℕ) → k ≡ n → kind_limit ≤ n → None ≡ next_kinds k n
next_many k n e l = rw (eqb_no (suc k) n (λ p. omega arith), eqb_yes k n e, ltb_no n kind_limit l)

-- why a constructor of kind k may follow n kinds, which are m then
abbrev pub Follows : ℕ → ℕ → ℕ → Type 0
Follows k n m = ((suc k ≡ n) × (m ≡ n)) ⊎ ((k ≡ n) × (n < kind_limit) × (m ≡ suc n))

pub follows : (k n m : ℕ) → Some m ≡ next_kinds k n → Follows k n m
follows k n m e = go (eqb (suc k) n) (eqb k n) (ltb n kind_limit) refl refl refl
  where
    go : (a b d : Bool) → eqb (suc k) n ≡ a → eqb k n ≡ b → ltb n kind_limit ≡ d → Follows k n m
    go true b d p q r = inl (eqb_eq (suc k) n p, same_Some m n (e ∙ sym (next_same k n (eqb_eq (suc k) n p))))
    go false true true p q r = inr (eqb_eq k n q, le_of (suc n) kind_limit r, same_Some m (n + 1) (e ∙ sym (next_new k n (eqb_eq k n q) (le_of (suc n) kind_limit r))) ∙ add-one n)
    go false true false p q r = absurd (none-some m (next_many k n (eqb_eq k n q) (omega (arith, lt_of_not (suc n) kind_limit r)) ∙ sym e))
    go false false d p q r = absurd (none-some m (next_wrong k n (eqb_ne (suc k) n p) (eqb_ne k n q) ∙ sym e))

-- the kinds that the constructors ahead make
pub due_more : (n m : ℕ) (d : Constructor) (cs : Signature) → Follows d.kind n m → kinds_due n (d ∷ cs) ≡ kinds_due m cs
due_more n m d cs f = go n f
  where
    go : (n : ℕ) → Follows d.kind n m → kinds_due n (d ∷ cs) ≡ kinds_due m cs
    go zero (inl (p, e)) = absurd (omega arith)
    go zero (inr (p, m, e)) = ap (λ b. require b >>= λ u. kinds_from 0 cs) (eqb_yes d.kind 0 p) ∙ ap (λ z. kinds_due z cs) (sym e)
    go (suc k) (inl (p, e)) =
        let q : d.kind ≡ k = omega arith in
        ap (λ b. cond b (kinds_from k cs) (require (eqb d.kind (suc k)) >>= λ u. kinds_from (suc k) cs)) (eqb_yes d.kind k q) ∙ ap (λ z. kinds_due z cs) (sym e)
    go (suc k) (inr (p, m, e)) = ap₂ (λ a b. cond a (kinds_from k cs) (require b >>= λ u. kinds_from (suc k) cs)) (eqb_no d.kind k (λ q. omega arith)) (eqb_yes d.kind (suc k) p) ∙ ap (λ z. kinds_due z cs) (sym e)

pub rising : (k m : ℕ) (cs : Signature) → kinds_from k cs ≡ some m → k < m
rising k m [] e = omega (arith, some_inj (suc k) m e)
rising k m (c ∷ cs) e = go (eqb c.kind k) refl (rising k m cs) (rising (suc k) m cs)
  where
    go : (b : Bool) → eqb c.kind k ≡ b → (kinds_from k cs ≡ some m → k < m) → (kinds_from (suc k) cs ≡ some m → suc k < m) → k < m
    go true q f g = f (rw q at e)
    go false q f g = let (u, e₁, e₂) = bind_some (require (eqb c.kind (suc k))) _ m (rw q at e) in omega (arith, g e₂)

too_many : (k : ℕ) (cs : Signature) → kind_limit ≤ k → 0 ≡ kinds_or_0 (kinds_from k cs)
too_many k cs l = go (kinds_from k cs) refl
  where
    go : (o : Option ℕ) → kinds_from k cs ≡ o → 0 ≡ kinds_or_0 o
    go none e = refl
    go (some m) e = rw (leb_no m kind_limit (omega (arith, rising k m cs e)))

pub due_refused : (n : ℕ) (d : Constructor) (cs : Signature) → next_kinds d.kind n ≡ None → 0 ≡ kinds_or_0 (kinds_due n (d ∷ cs))
due_refused zero d cs z = go (eqb d.kind 0) refl
  where
    go : (b : Bool) → eqb d.kind 0 ≡ b → 0 ≡ kinds_or_0 (count_kinds (d ∷ cs))
    go true q = absurd (none-some (0 + 1) (sym z ∙ sym (next_new d.kind 0 (eqb_eq d.kind 0 q) (omega arith))))
    go false q = rw q
due_refused (suc k) d cs z = go (eqb d.kind k) (eqb d.kind (suc k)) (ltb (suc k) kind_limit) refl refl refl
  where
    go : (a b e : Bool) → eqb d.kind k ≡ a → eqb d.kind (suc k) ≡ b → ltb (suc k) kind_limit ≡ e → 0 ≡ kinds_or_0 (kinds_from k (d ∷ cs))
    go true b e p q r = absurd (none-some (suc k) (sym z ∙ sym (next_same d.kind (suc k) (ap suc (eqb_eq d.kind k p)))))
    go false true true p q r = absurd (none-some (suc k + 1) (sym z ∙ sym (next_new d.kind (suc k) (eqb_eq d.kind (suc k) q) (le_of (suc (suc k)) kind_limit r))))
    go false true false p q r = rw (p, q) (too_many (suc k) cs (omega (arith, lt_of_not (suc (suc k)) kind_limit r)))
    go false false e p q r = rw (p, q)

pub next_few : (k n m : ℕ) → Follows k n m → n ≤ kind_limit → m ≤ kind_limit
next_few k n m (inl (p, e)) l = omega arith
next_few k n m (inr (p, q, e)) l = omega arith

pub next_below : (k n m : ℕ) → Follows k n m → k < m
next_below k n m (inl (p, e)) = omega arith
next_below k n m (inr (p, q, e)) = omega arith

pub next_grows : (k n m : ℕ) → Follows k n m → n ≤ m
next_grows k n m (inl (p, e)) = omega arith
next_grows k n m (inr (p, q, e)) = omega arith

-- what is noted of each kind's constructors

pub noted_same : (sig ahead : Signature) (c n : ℕ) (t u : List ℕ) → ((i : ℕ) → kinds_at ≤ i → get_or u i 0 ≡ get_or t i 0) → Noted sig ahead c n t → Noted sig ahead c n u
noted_same sig ahead c n t u e h = record { seen = λ k l. (e (kinds_at + kind_stride * k) (omega arith) ∙ (h.seen k l).0, ap (λ z. z + length (numbers_from c ahead k)) (e (kinds_at + kind_stride * k + 1) (omega arith)) ∙ (h.seen k l).1); unseen = h.unseen }

module _ (sig : Signature) (d : Constructor) (ahead : Signature) (c n : ℕ) (t u : List ℕ) (h : Noted sig (d ∷ ahead) c n t) (g : HeadNoted t d.kind c n u) where
  of_other : (k : ℕ) → ¬ (k ≡ d.kind) → numbers_from c (d ∷ ahead) k ≡ numbers_from (c + 1) ahead k
  of_other k e = rw (add-one c, eqb_no d.kind k (λ p. e (sym p)))

  of_this : (k : ℕ) → k ≡ d.kind → numbers_from c (d ∷ ahead) k ≡ c ∷ numbers_from (c + 1) ahead k
  of_this k e = rw (add-one c, eqb_yes d.kind k (sym e))

  seen_more : (m : ℕ) → Follows d.kind n m → (k : ℕ) → k < m → (first_of u k ≡ first (numbers sig k)) × (count_of u k + length (numbers_from (c + 1) ahead k) ≡ length (numbers sig k))
  seen_more m f k l = go (eqb k d.kind) refl f
    where
      go : (b : Bool) → eqb k d.kind ≡ b → Follows d.kind n m → (first_of u k ≡ first (numbers sig k)) × (count_of u k + length (numbers_from (c + 1) ahead k) ≡ length (numbers sig k))
      go true q (inl (p, e)) =
          let z : k ≡ d.kind = eqb_eq k d.kind q in
          let (a, b) = g.old (λ y. omega arith) in
          let (a', b') = h.seen k (omega arith) in
          let w : length (numbers_from c (d ∷ ahead) k) ≡ suc (length (numbers_from (c + 1) ahead k)) = ap length (of_this k z) in
          let r : count_of u k ≡ suc (count_of t k) = rw z b in
          ((rw z a) ∙ a', omega arith)
      go true q (inr (p, y, e)) =
          let z : k ≡ d.kind = eqb_eq k d.kind q in
          let (a, b) = g.new p in
          let v : c ∷ numbers_from (c + 1) ahead k ≡ numbers sig k = sym (of_this k z) ∙ h.unseen k (omega arith) in
          let w : suc (length (numbers_from (c + 1) ahead k)) ≡ length (numbers sig k) = ap length v in
          let r : count_of u k ≡ 1 = rw z b in
          ((rw z a) ∙ ap first v, omega arith)
      go false q y =
          let z : ¬ (k ≡ d.kind) = eqb_ne k d.kind q in
          let (a, b) = g.others k z in
          let x : k < n = below y z in
          let (a', b') = h.seen k x in
          let w : length (numbers_from c (d ∷ ahead) k) ≡ length (numbers_from (c + 1) ahead k) = ap length (of_other k z) in
          (a ∙ a', omega arith)
        where
          below : Follows d.kind n m → ¬ (k ≡ d.kind) → k < n
          below (inl (p, e)) z = omega arith
          below (inr (p, q, e)) z = omega arith

  pub noted_more : (m : ℕ) → Follows d.kind n m → Noted sig ahead (c + 1) m u
  noted_more m f = record { seen = seen_more m f; unseen = λ k l. sym (of_other k (λ p. omega (arith, next_below d.kind n m f))) ∙ h.unseen k (omega (arith, next_grows d.kind n m f)) }
