-- The fewest words of a value under a head.
use mathlib.Core.Path.{◌≡◌, refl}
use mathlib.Core.List.{List}
use mathlib.Core.Option.{some}
use Prim.Native.Nat.{ℕ, suc, ◌*◌, ◌≤◌, ◌<◌}
use native.Mathlib.Omega.{arith}
use lib.ListN.{length}
use Rattle.signature.specs.Decoded.{Known, least_size}
use Rattle.signature.specs.Lawful.{OfKind, of_kind, OfKinds, of_kinds_nil, of_kinds_cons}
use Rattle.signature.specs.Limits.{small_size, argument_limit}
use Rattle.signature.specs.Lists.{All, none_left, also}
use Rattle.signature.specs.Signature.{arguments_at}
use Rattle.signature.specs.Value.{Values, con, vnil, vcons, size, sizes}
use Rattle.signature.proofs.Heads.{args_same}
use Rattle.signature.proofs.KnownFacts.{few_of_head}
use Rattle.signature.proofs.LeastValue.{least_exists, least_below, least_at_most}
use Rattle.signature.proofs.ListFacts.{all_first}
use Rattle.rowlist.proofs.Typing.{args_there}
use Rattle.rowlist.proofs.Kinded.{kind_there}
use Rattle.overlap.specs.Least.{fewest}
use Rattle.overlap.proofs.LeastFacts.{fewest_cons}
use Rattle.values.specs.Shortest.{head_size}

module _ {t : List ℕ} (g : Known t) where
  -- no arguments have fewer words
  fewest_below : {ks : List ℕ} {vs : Values} → All (λ k. k < g.decoded.n) ks → OfKinds g.sig ks vs → fewest g ks ≤ sizes vs
  fewest_below a of_kinds_nil = omega arith
  fewest_below a (of_kinds_cons {k = k} {ks = ks} h hs) =
      let (l, ls) = all_first a in
      omega (arith, fewest_cons g k ks l, least_below g.sig g.signed g.decoded.n g.decoded.kinds_are l h, fewest_below ls hs)

  -- and some have as few
  fewest_exist : {ks : List ℕ} → All (λ k. k < g.decoded.n) ks → (vs : Values) × OfKinds g.sig ks vs × (sizes vs ≡ fewest g ks)
  fewest_exist none_left = (vnil, of_kinds_nil, refl)
  fewest_exist (also k {xs = ks} l ls) =
      let (v, h, e) = least_exists g.sig g.signed g.decoded.n g.decoded.kinds_are k l in
      let (vs, hs, f) = fewest_exist ls in
      (vcons v vs, of_kinds_cons h hs, omega (arith, e, f, fewest_cons g k ks l))

  -- at most 6 words an argument
  fewest_small : {ks : List ℕ} → All (λ k. k < g.decoded.n) ks → fewest g ks ≤ small_size * length ks
  fewest_small none_left = omega arith
  fewest_small (also k {xs = ks} l ls) = omega (arith, fewest_cons g k ks l, fewest_small ls, least_at_most g.sig g.signed g.decoded.n g.decoded.kinds_are k l)

  module _ (k c : ℕ) (ks : List ℕ) (e : arguments_at g.sig k c ≡ some ks) where
    pub size_is : head_size g.sig g.decoded.n c ≡ suc (fewest g ks)
    size_is = rw (args_same g.sig k c ks e)

    pub few_words : fewest g ks ≤ small_size * argument_limit
    few_words = omega (arith, fewest_small (args_there g k c ks e), few_of_head g k c ks e)

    -- the kind has a value under the head with so many
    pub least_head_size : least_size g.sig g.decoded.n k ≤ head_size g.sig g.decoded.n c
    least_head_size =
        let (vs, h, f) = fewest_exist (args_there g k c ks e) in
        omega (arith, size_is, f, least_below g.sig g.signed g.decoded.n g.decoded.kinds_are (kind_there g k c ks e) (of_kind e h))

  pub head_least : (k c : ℕ) (vs : Values) → OfKind g.sig k (con c vs) → head_size g.sig g.decoded.n c ≤ size (con c vs)
  head_least k c vs (of_kind {ks = ks} e h) = omega (arith, size_is k c ks e, fewest_below (args_there g k c ks e) h)
