-- The allowed heads are compared one after the other.
use mathlib.Core.Logic.{◌⊎◌, inl, inr, ⊎_elim}
use mathlib.Core.Path.{◌≡◌, refl, ap, sym, subst, ◌∙◌}
use mathlib.Core.List.{List}
use mathlib.Core.Bool.{Bool, true, false, cond}
use Prim.Native.Nat.{ℕ, zero, suc, ◌+◌, ◌-◌, ◌*◌, ◌^◌, ◌≤◌, ◌<◌}
use native.Mathlib.Nat.{pow-suc}
use native.Mathlib.Omega.{arith}
use borrow.Author.Tests.{ltb-true, ltb-false}
use lib.Count.{ones}
use lib.Dec.{eqb, ltb}
use lib.ListN.{length-replicate}
use lib.Pow.{pow_mono}
use Rattle.signature.specs.Decoded.{first_of, least_head_of, least_head}
use Rattle.signature.specs.Limits.{heads_limit, level_base, last_level}
use Rattle.signature.specs.Lists.{first, memb}
use Rattle.signature.specs.Signature.{heads}
use Rattle.signature.specs.Lawful.{of_kind}
use Rattle.signature.proofs.Heads.{kind_of_head}
use Rattle.signature.proofs.LeastValue.{HeadReaches, least_head_reaches}
use Rattle.signature.proofs.Tests.{eqb_self, eqb_eq, eqb_no}
use Rattle.rowlist.proofs.Kinded.{within_kind}
use Rattle.sets.specs.Set.{bit}
use Rattle.sets.proofs.ListSets.{bit_set_of, one_if, within_one}
use Rattle.sets.proofs.SetLaws.{bit_zero, ones_less}
use Rattle.overlap.specs.Least.{GivenHead, Written, GivenPlace}
use Rattle.overlap.proofs.LeastFacts.{word_here}
use Rattle.values.specs.declared.choice.Choice.{Choice}
use Rattle.values.specs.Shortest.{GivenSize, GivenHeads, ShortestHead, LeastWritten, head_size}
use Rattle.values.proofs.HeadSizes.{size_is, few_words, least_head_size}
use Rattle.values.proofs.Sized.{as_head}

one_yes : (b : Bool) → one_if b ≡ 1 → b ≡ true
one_yes true e = refl
one_yes false e = absurd (omega (arith, e))

below_pow : (n : ℕ) → n < 2 ^ n
below_pow zero = omega arith
below_pow (suc n) = let e : 2 ^ suc n ≡ 2 ^ n * 2 = pow-suc 2 n in omega (arith, below_pow n)

-- b is a without its member i
pub fewer : (a b i : ℕ) → bit a i ≡ 1 → ((j : ℕ) → bit b j ≡ cond (eqb j i) 0 (bit a j)) → ones b < ones a
fewer a b i e r =
    let p : ones a ≡ 1 + ones b =
    ones_less (a + b) i a b (omega (arith, below_pow a, pow_mono {i = a} {j = a + b} (omega arith))) (omega (arith, below_pow b, pow_mono {i = b} {j = a + b} (omega arith))) e (rw (eqb_self i) at (r i)) (λ j n. rw (eqb_no j i n) at (r j)) in
    omega (arith, p)

pub positive : (m : ℕ) → ¬ (m ≡ 0) → 0 < m
positive m h = omega (arith, h)

module _ {t o : List ℕ} {k allowed : ℕ} (g : GivenPlace t k allowed o) where
  -- the fewest words under a head
  abbrev pub words_of : ℕ → ℕ
  words_of c = head_size g.known.sig g.known.decoded.n c

  pub size_given : (c : ℕ) → memb c g.cs ≡ true → GivenSize t c
  size_given c m = let q = kind_of_head g.known.sig k c (g.of_kind_k c m) in record { known = g.known; kind = k; ks = q.0; is = q.1 }

  pub word : (c : ℕ) → memb c g.cs ≡ true → c ≤ level_base + last_level
  word c m = word_here (as_head (size_given c m))

  -- what is asked of the words of a head that is allowed
  abbrev pub Sizes : ℕ → ℕ → Type 0
  Sizes c z = (q : GivenSize t c) → z ≡ head_size q.known.sig q.known.decoded.n c

  sizes : (c z : ℕ) → memb c g.cs ≡ true → Sizes c z → z ≡ words_of c
  unfolding size_given
  sizes c z m s = s (size_given c m)

  module _ (f : ℕ) (ef : f ≡ first_of t k) where
    first_is : f ≡ first (heads g.known.sig k)
    first_is = ef ∙ g.known.decoded.first_head k g.there

    pub member : (i : ℕ) → bit allowed i ≡ 1 → memb (f + i) g.cs ≡ true
    member i e =
        let F = first (heads g.known.sig k) in
        rw first_is (one_yes (memb (F + i) g.cs) (sym (bit_set_of F i g.cs g.within) ∙ ap (λ (s : ℕ). bit s i) (sym g.set_is) ∙ e))

    bit_member : (d : ℕ) → memb d g.cs ≡ true → (f ≤ d) × (bit allowed (d - f) ≡ 1)
    bit_member d m =
        let F = first (heads g.known.sig k) in
        let w = within_one F d g.cs g.within m in
        let z : F + (d - F) ≡ d = omega (arith, w.0) in
        (omega (arith, first_is, w.0), ap (λ (i : ℕ). bit allowed (d - i)) first_is ∙ ap (λ (s : ℕ). bit s (d - F)) g.set_is ∙ bit_set_of F (d - F) g.cs g.within ∙ ap one_if (ap (λ (x : ℕ). memb x g.cs) z ∙ m))

    -- in the loop: the best of those that are not left
    pub record Best (best : Choice) (left : ℕ) : Type 0 where
      pub may : memb best.head g.cs ≡ true
      pub size : best.size ≡ words_of best.head
      pub others : (d : ℕ) → memb d g.cs ≡ true → (best.size ≤ words_of d) ⊎ (bit left (d - f) ≡ 1)
      pub among : (i : ℕ) → bit left i ≡ 1 → bit allowed i ≡ 1

    -- where i is taken out, it is the one asked for, or that is still left
    one_out : (left left' i d : ℕ) → ((j : ℕ) → bit left' j ≡ cond (eqb j i) 0 (bit left j)) → f ≤ d → bit left (d - f) ≡ 1 → (d ≡ f + i) ⊎ (bit left' (d - f) ≡ 1)
    one_out left left' i d r l e = go (eqb (d - f) i) refl
      where
        go : (b : Bool) → eqb (d - f) i ≡ b → (d ≡ f + i) ⊎ (bit left' (d - f) ≡ 1)
        go true q = inl (omega (arith, l, eqb_eq (d - f) i q))
        go false q = inr (r (d - f) ∙ rw q e)

    still : (left left' i j : ℕ) → ((j : ℕ) → bit left' j ≡ cond (eqb j i) 0 (bit left j)) → bit left' j ≡ 1 → bit left j ≡ 1
    still left left' i j r e = go (eqb j i) refl
      where
        go : (b : Bool) → eqb j i ≡ b → bit left j ≡ 1
        go true q = absurd (let z : bit left' j ≡ 0 = rw q at (r j) in omega (arith, z, e))
        go false q = sym (rw q at (r j)) ∙ e

    pub start : (i : ℕ) (best : Choice) (left : ℕ) → bit allowed i ≡ 1 → (best.head ≡ f + i) × Sizes (f + i) best.size → ((j : ℕ) → bit left j ≡ cond (eqb j i) 0 (bit allowed j)) → Best best left
    start i best left e s r =
        let m = member i e in
        let z : best.size ≡ words_of (f + i) = sizes (f + i) best.size m s.1 in
        record {
          may = rw s.0 m;
          size = z ∙ ap words_of (sym s.0);
          others = λ d h. let q = bit_member d h in ⊎_elim (λ (p : d ≡ f + i). inl (omega (arith, z, ap words_of p))) (λ (p : bit left (d - f) ≡ 1). inr p) (one_out allowed left i d r q.0 q.1);
          among = λ j h. still allowed left i j r h;
        }

    pub turn : (best best' c : Choice) (left left' i : ℕ) → Best best left → bit left i ≡ 1 → (c.head ≡ f + i) × Sizes (f + i) c.size → ((j : ℕ) → bit left' j ≡ cond (eqb j i) 0 (bit left j)) → best' ≡ cond (ltb c.size best.size) c best → Best best' left'
    turn best best' c left left' i B e s r eb = subst (λ (x : Choice). Best x left') (sym eb) (go (ltb c.size best.size) refl)
      where
        m : memb (f + i) g.cs ≡ true
        m = member i (B.among i e)

        z : c.size ≡ words_of (f + i)
        z = sizes (f + i) c.size m s.1

        rest : (x : ℕ) → x ≤ c.size → x ≤ best.size → (d : ℕ) → memb d g.cs ≡ true → (x ≤ words_of d) ⊎ (bit left' (d - f) ≡ 1)
        rest x lc lb d h = ⊎_elim (λ (p : best.size ≤ words_of d). inl (omega (arith, p, lb)))
            (λ (p : bit left (d - f) ≡ 1). ⊎_elim (λ (q : d ≡ f + i). inl (omega (arith, z, lc, ap words_of q))) (λ (q : bit left' (d - f) ≡ 1). inr q) (one_out left left' i d r (bit_member d h).0 p)) (B.others d h)

        go : (b : Bool) → ltb c.size best.size ≡ b → Best (cond b c best) left'
        go true q = record { may = rw s.0 m; size = z ∙ ap words_of (sym s.0); others = rest c.size (omega arith) (omega (arith, ltb-true c.size best.size q)); among = λ j h. B.among j (still left left' i j r h) }
        go false q = record { may = B.may; size = B.size; others = rest best.size (ltb-false c.size best.size q) (omega arith); among = λ j h. B.among j (still left left' i j r h) }

    -- none is left, or none is shorter
    pub end : (best : Choice) (left : ℕ) → Best best left → (left ≡ 0) ⊎ (best.size ≤ 1) → ShortestHead g best.head
    end best left B e = record { may = B.may; least = λ d h. ⊎_elim (λ (p : best.size ≤ words_of d). omega (arith, p, B.size)) (λ (p : bit left (d - f) ≡ 1). at d p e) (B.others d h) }
      where
        at : (d : ℕ) → bit left (d - f) ≡ 1 → (left ≡ 0) ⊎ (best.size ≤ 1) → words_of best.head ≤ words_of d
        at d p (inl z) = absurd (let w : ◌≡◌ {A = ℕ} 0 1 = sym (bit_zero (d - f)) ∙ ap (λ (s : ℕ). bit s (d - f)) (sym z) ∙ p in omega (arith, w))
        at d p (inr z) = omega (arith, z, B.size)

    -- the least head of the kind
    module _ (h : ℕ) (eh : h ≡ least_head_of t k) where
      reach : HeadReaches g.known.sig g.known.decoded.n k
      reach = least_head_reaches g.known.sig g.known.signed g.known.decoded.n g.known.decoded.kinds_are k g.there

      head_is : h ≡ least_head g.known.sig g.known.decoded.n k
      head_is = eh ∙ g.known.decoded.lowest_least k g.there

      pub near : (f ≤ h) × (h < f + heads_limit)
      near = let w = within_one _ _ (heads g.known.sig k) (within_kind g.known k g.there) reach.is_head in (omega (arith, first_is, head_is, w.0), omega (arith, first_is, head_is, w.1))

      pub least_allowed : bit allowed (h - f) ≡ 1 → ShortestHead g h
      least_allowed e =
          let z : f + (h - f) ≡ h = omega (arith, near.0) in
          let w : words_of h ≡ _ = ap words_of head_is ∙ size_is g.known k _ reach.args reach.has_args in
          record {
            may = ap (λ (x : ℕ). memb x g.cs) (sym z) ∙ member (h - f) e;
            least = λ d m. let q = kind_of_head g.known.sig k d (g.of_kind_k d m) in omega (arith, w, reach.reaches, least_head_size g.known k d q.0 q.1);
          }

-- the heads alone, whatever room there is
abbrev pub heads_given : {t o : List ℕ} {k allowed : ℕ} → GivenPlace t k allowed o → GivenHeads t k allowed
heads_given g = record { known = g.known; there = g.there; cs = g.cs; set_is = g.set_is; some_head = g.some_head; within = g.within; of_kind_k = g.of_kind_k; room = rw length-replicate (omega arith) }

module _ {t o : List ℕ} {k allowed : ℕ} (g : GivenPlace t k allowed o) (c : ℕ) (H : (q : GivenHeads t k allowed) → ShortestHead q c) where
  pub chosen : ShortestHead (heads_given g) c
  chosen = H (heads_given g)

  unfoldable pub head_given : GivenHead t c o
  head_given =
      let q = kind_of_head g.known.sig k c (g.of_kind_k c chosen.may) in
      record { known = g.known; kind = k; ks = q.0; is = q.1; room = omega (arith, few_words g.known k c q.0 q.1, g.room) }

  pub placed : (n : ℕ) (o' : List ℕ) → ((q : GivenHead t c o) → Written q n o') → LeastWritten g n o'
  unfolding head_given
  placed n o' f =
      let W = f head_given in
      record {
        value = record {
          c = c;
          vs = W.vs;
          may = chosen.may;
          kinded = of_kind head_given.is W.kinded;
          small = omega (arith, W.size_is, few_words g.known k c head_given.ks head_given.is);
          count = W.count;
          list = W.list;
        };
        least = λ d m. omega (arith, W.count, W.size_is, size_is g.known k c head_given.ks head_given.is, chosen.least d m);
      }
