-- The lowest head that is allowed at a place.
use mathlib.Core.Path.{◌≡◌, refl, ap, sym, ◌∙◌}
use mathlib.Core.List.{List, [], ◌∷◌}
use mathlib.Core.Bool.{Bool, true, false}
use mathlib.Core.Option.{some}
use Prim.Native.Nat.{ℕ, ◌+◌, ◌*◌, ◌≤◌, ◌<◌}
use native.Mathlib.Omega.{arith}
use lib.ListN.{length}
use Rattle.signature.specs.Decoded.{Known, first_of}
use Rattle.signature.specs.Lawful.{of_kind}
use Rattle.signature.specs.Limits.{small_size, argument_limit, kind_limit}
use Rattle.signature.specs.Lists.{All, none_left, also, first, is_empty, memb}
use Rattle.sets.specs.Set.{heads_width, bit, Lowest, set_of, Within}
use Rattle.signature.specs.Signature.{arguments_at, heads}
use Rattle.signature.proofs.Heads.{kind_of_head}
use Rattle.signature.proofs.KnownFacts.{few_of_head, words_of}
use Rattle.signature.proofs.LeastValue.{least_at_most}
use Rattle.signature.proofs.Tests.{true≢false}
use Rattle.rowlist.proofs.Kinded.{kinds_same}
use Rattle.sets.proofs.ListSets.{bit_set_of, one_if, set_some}
use Rattle.rowlist.proofs.Typing.{args_there}
use Rattle.overlap.specs.Least.{GivenHead, Written, GivenPlace, ValueWritten, fewest}
use Rattle.overlap.proofs.LeastFacts.{fewest_cons}

-- at most 6 words an argument
fewest_small : {t : List ℕ} (g : Known t) (ks : List ℕ) → All (λ k. k < g.decoded.n) ks → fewest g ks ≤ small_size * length ks
fewest_small g [] none_left = omega arith
fewest_small g (k ∷ ks) (also j l h) =
    let i = fewest_small g ks h in
    let m = least_at_most g.sig g.signed g.decoded.n g.decoded.kinds_are k l in
    omega (arith, fewest_cons g k ks l, i, m)

one_yes : (b : Bool) → one_if b ≡ 1 → b ≡ true
one_yes true e = refl
one_yes false e = absurd (omega (arith, e))

module _ {t : List ℕ} {k allowed : ℕ} {o : List ℕ} (g : GivenPlace t k allowed o) where
  pub some_allowed : 0 < allowed
  some_allowed = go g.cs g.set_is g.some_head g.within
    where
      go : (cs : List ℕ) → allowed ≡ set_of (first (heads g.known.sig k)) cs → is_empty cs ≡ false → Within (first (heads g.known.sig k)) cs → 0 < allowed
      go [] e n w = true≢false n
      go (c ∷ cs) e n w = pos allowed (λ z. set_some (first (heads g.known.sig k)) c cs w (sym e ∙ z))
        where
          pos : (m : ℕ) → ¬ (m ≡ 0) → 0 < m
          pos m h = omega (arith, h)

  pub kind_small : k < kind_limit
  kind_small = omega (arith, g.there, kinds_same g.known, (words_of g.known).few_kinds)

  module _ (c r : ℕ) (low : Lowest heads_width allowed r) (e : c ≡ first_of t k + r) where
    pub allowed_head : memb c g.cs ≡ true
    allowed_head =
        let f = first (heads g.known.sig k) in
        let z : c ≡ f + r = e ∙ ap (λ (n : ℕ). n + r) (g.known.decoded.first_head k g.there) in
        rw z (one_yes (memb (f + r) g.cs) (sym (bit_set_of f r g.cs g.within) ∙ ap (λ (s : ℕ). bit s r) (sym g.set_is) ∙ low.member))

    pub args_few : (ks : List ℕ) → arguments_at g.known.sig k c ≡ some ks → fewest g.known ks ≤ small_size * argument_limit
    args_few ks h =
        let n : length ks ≤ argument_limit = few_of_head g.known k c ks h in
        omega (arith, fewest_small g.known ks (args_there g.known k c ks h), n)

    unfoldable pub head_given : GivenHead t c o
    head_given =
        let q = kind_of_head g.known.sig k c (g.of_kind_k c allowed_head) in
        record { known = g.known; kind = k; ks = q.0; is = q.1; room = omega (arith, args_few q.0 q.1, g.room) }

    pub placed : (n : ℕ) (o' : List ℕ) → ((q : GivenHead t c o) → Written q n o') → ValueWritten g n o'
    unfolding head_given
    placed n o' f =
        let W = f head_given in
        record {
          c = c;
          vs = W.vs;
          may = allowed_head;
          kinded = of_kind head_given.is W.kinded;
          small = omega (arith, W.size_is, args_few head_given.ks head_given.is);
          count = W.count;
          list = W.list;
        }
