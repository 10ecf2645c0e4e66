-- What the table of a lawful signature gives to rows: each constructor is known, each kind is open, and its full set is that of its heads.
use borrow.Author.Tests.{ltb-true, ltb-false}
use mathlib.Core.Path.{◌≡◌, refl, ap, ◌∙◌, sym, subst}
use mathlib.Core.List.{List, ◌∷◌}
use mathlib.Core.Option.{some}
use mathlib.Core.Bool.{Bool, true, false, cond}
use Prim.Native.Nat.{ℕ, zero, suc, ◌+◌, ◌-◌, ◌^◌, ◌≤◌, ◌<◌}
use native.Mathlib.Nat.{add-zero}
use native.Mathlib.Omega.{arith}
use lib.Dec.{eqb, ltb}
use lib.ListN.{length}
use Rattle.signature.specs.Decoded.{Known, count_of}
use Rattle.signature.specs.Limits.{heads_limit, level_base}
use Rattle.signature.specs.Lawful.{KindsRise, rise_end, rise_same, rise_next, KindsStart, start_0}
use Rattle.signature.specs.Lists.{memb, is_empty, first}
use Rattle.sets.specs.Set.{bit, set_of, Within, members}
use Rattle.signature.specs.Signature.{Signature, heads, arguments_at}
use Rattle.signature.proofs.Heads.{Consecutive, consecutive_nil, consecutive_cons, consecutive_of, has_head, has_kind, row_of}
use Rattle.signature.proofs.KnownFacts.{words_of, arity_is, is_constructor, few_constructors, long, plain}
use Rattle.signature.proofs.KnownFacts as known
use Rattle.signature.proofs.LawfulFacts.{kinds_kind}
use Rattle.signature.proofs.SignatureBack.{is_kinds}
use Rattle.signature.proofs.Tests.{some_inj, eqb_self, eqb_no, eqb_eq, true≢false, ltb_yes, ltb_no}
use Rattle.rowlist.specs.Sides.{Open}
use Rattle.cell.specs.Coded.{kinds_of, HeadOfKind}
use Rattle.sets.proofs.SetLaws.{bit_below, size_below}
use Rattle.sets.proofs.ListSets.{same_bits, bit_set_of, one_if}

first_run : {f : ℕ} {xs : List ℕ} → Consecutive f xs → is_empty xs ≡ false → first xs ≡ f
first_run consecutive_nil e = true≢false e
first_run (consecutive_cons r) e = refl

run_bounds : {f : ℕ} {xs : List ℕ} (c : ℕ) → Consecutive f xs → memb c xs ≡ true → (f ≤ c) × (c < f + length xs)
run_bounds c consecutive_nil e = true≢false (sym e)
run_bounds c (consecutive_cons {f = f} {xs = xs} r) e = go (eqb c f) refl (run_bounds c r)
  where
    go : (b : Bool) → eqb c f ≡ b → (memb c xs ≡ true → (suc f ≤ c) × (c < suc f + length xs)) → (f ≤ c) × (c < f + suc (length xs))
    go true q h = let z = eqb_eq c f q in (omega (arith, z), omega (arith, z))
    go false q h = let y = h (rw q at e) in (omega (arith, y.0), omega (arith, y.1))

within_run : {f : ℕ} {xs : List ℕ} (a : ℕ) → Consecutive f xs → a ≤ f → f + length xs ≤ a + heads_limit → Within a xs
within_run a consecutive_nil l h = tt
within_run a (consecutive_cons r) l h = (l, omega arith, within_run a r (omega arith) (omega arith))

ltb_next : (i n : ℕ) (b : Bool) → ltb i n ≡ b → ltb (suc i) (suc n) ≡ b
ltb_next i n true e = ltb_yes (suc i) (suc n) (omega (arith, ltb-true i n e))
ltb_next i n false e = ltb_no (suc i) (suc n) (omega (arith, ltb-false i n e))

memb_run : {f : ℕ} {xs : List ℕ} (i : ℕ) → Consecutive f xs → memb (f + i) xs ≡ ltb i (length xs)
memb_run i consecutive_nil = sym (ltb_no i 0 (omega arith))
memb_run zero (consecutive_cons {f = f} {xs = xs} r) = rw (add-zero f, eqb_self f, ltb_yes 0 (suc (length xs)) (omega arith))
memb_run (suc i) (consecutive_cons {f = f} {xs = xs} r) =
    let z : f + suc i ≡ suc f + i = omega arith in
    subst (λ n. memb n (f ∷ xs) ≡ ltb (suc i) (suc (length xs))) (sym z) (rw (eqb_no (suc f + i) f (omega arith)) (memb_run i r ∙ sym (ltb_next i (length xs) (ltb i (length xs)) refl)))

-- the heads of a kind are counted by their set
abbrev pub Sized : Signature → ℕ → Type 0
Sized sig k = Within (first (heads sig k)) (heads sig k) × (length (members (set_of (first (heads sig k)) (heads sig k))) ≡ length (heads sig k))

rise_some : {k n : ℕ} {cs : Signature} → KindsRise k cs n → 0 < n
rise_some (rise_end e) = omega (arith, e)
rise_some (rise_same e h) = rise_some h
rise_some (rise_next e h) = rise_some h

start_some : {n : ℕ} {cs : Signature} → KindsStart cs n → 0 < n
start_some (start_0 e h) = rise_some h

module _ {t : List ℕ} (g : Known t) where
  pub kinds_same : g.decoded.n ≡ (words_of g).n
  kinds_same = some_inj g.decoded.n (words_of g).n (sym g.decoded.kinds_are ∙ is_kinds (words_of g).rises)

  -- kind 0 exists
  pub kind_zero : 0 < g.decoded.n
  kind_zero = omega (arith, kinds_same, start_some (words_of g).rises)

  module _ (k : ℕ) (l : k < g.decoded.n) where
    some_head : is_empty (heads g.sig k) ≡ false
    some_head = has_head g.sig ((words_of g).small k (omega (arith, kinds_same)))

    run_of : Consecutive (first (heads g.sig k)) (heads g.sig k)
    run_of =
        let q = consecutive_of g.sig k g.decoded.n g.decoded.kinds_are in
        subst (λ (f : ℕ). Consecutive f (heads g.sig k)) (sym (first_run q.1 some_head)) q.1

    pub few_heads : length (heads g.sig k) ≤ heads_limit
    few_heads = known.few_heads g k (omega (arith, kinds_same))

    pub within_kind : Within (first (heads g.sig k)) (heads g.sig k)
    within_kind = within_run (first (heads g.sig k)) run_of (omega arith) (omega (arith, few_heads))

    pub open_kind : Open (kinds_of g.sig) g.sig k (256 + k) (set_of (first (heads g.sig k)) (heads g.sig k))
    open_kind = record {
      kind = omega (arith, kinds_same, (words_of g).few_kinds);
      some = some_head;
      within = within_kind;
      tag_is = refl;
      full_is = refl;
    }

    -- the set of the numbers below the count of the kind's heads is that of the heads
    pub full_set : (s : ℕ) → ((j : ℕ) → bit s j ≡ cond (ltb j (count_of t k)) 1 0) → s ≡ set_of (first (heads g.sig k)) (heads g.sig k)
    full_set s h = same_bits _ _ (λ i.
        h i
        ∙ ap (λ (n : ℕ). cond (ltb i n) 1 0) (g.decoded.head_count k l)
        ∙ one_is (ltb i (length (heads g.sig k)))
        ∙ ap one_if (sym (memb_run i run_of))
        ∙ sym (bit_set_of (first (heads g.sig k)) i (heads g.sig k) within_kind))
      where
        one_is : (b : Bool) → cond b 1 0 ≡ one_if b
        one_is true = refl
        one_is false = refl

    -- of which there are as many as heads
    pub sized_kind : Sized g.sig k
    sized_kind = (
      within_kind,
      ap (λ (s : ℕ). length (members s)) (sym (full_set (2 ^ count_of t k - 1) (bit_below (count_of t k)))) ∙ size_below (count_of t k) (omega (arith, g.decoded.head_count k l, few_heads)) ∙ g.decoded.head_count k l,
    )

  pub kind_there : (k c : ℕ) (ks : List ℕ) → arguments_at g.sig k c ≡ some ks → k < g.decoded.n
  kind_there k c ks e =
      let q = row_of g.sig (plain g) k c ks e in
      let z = kinds_kind g.sig g.decoded.n q.0 q.1 g.decoded.kinds_are q.2 in
      omega (arith, z, eqb_eq q.1.kind k q.3)

  -- a head that is no level is a constructor
  pub known_head : (k c : ℕ) (ks : List ℕ) → c < level_base → arguments_at g.sig k c ≡ some ks → HeadOfKind (kinds_of g.sig) t k c
  known_head k c ks h e =
      let l = kind_there k c ks e in
      let b = run_bounds c (run_of k l) (has_kind g.sig k c ks e) in
      let i = is_constructor g k c ks h e in
      record {
        low = b.0;
        high = omega (arith, b.1, few_heads k l);
        tag = omega (arith, i, few_constructors g);
        known = long g;
        arity = arity_is g c i;
      }
