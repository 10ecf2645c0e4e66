-- The sizes of a head's arguments are added up.
use mathlib.Core.Path.{◌≡◌, refl, ap, ◌∙◌}
use mathlib.Core.List.{List, [], ◌∷◌}
use mathlib.Core.Option.{some}
use Prim.Native.Nat.{ℕ, suc, ◌+◌, ◌*◌, ◌≤◌, ◌<◌}
use native.Mathlib.Omega.{arith}
use lib.ListN.{length, drop, get_or, replicate, length-replicate, length-drop, drop_of_length-le}
use Rattle.signature.specs.Decoded.{argument_of, least_size, least_size_of}
use Rattle.signature.specs.Limits.{kind_limit, small_size, argument_limit}
use Rattle.signature.specs.Signature.{arguments}
use Rattle.signature.proofs.Heads.{args_same}
use Rattle.signature.proofs.KnownFacts.{argument_is, has_arguments, few_kinds}
use Rattle.signature.proofs.ListFacts.{all_at, at_getD}
use Rattle.cell.proofs.Walk.{word_at}
use Rattle.rowlist.proofs.Typing.{args_there}
use Rattle.overlap.specs.Least.{GivenHead, fewest}
use Rattle.overlap.proofs.LeastFacts.{fewest_cons}
use Rattle.values.specs.Shortest.{GivenSize, head_size}
use Rattle.values.proofs.HeadSizes.{few_words, size_is}

-- with room that nobody writes to
abbrev pub as_head : {t : List ℕ} {c : ℕ} (g : GivenSize t c) → GivenHead t c (replicate (suc (fewest g.known g.ks)) 0)
as_head g = record { known = g.known; kind = g.kind; ks = g.ks; is = g.is; room = rw length-replicate (omega arith) }

-- the words counted, and those of the arguments still to come
abbrev pub Counted : {t : List ℕ} {c : ℕ} → GivenSize t c → ℕ → ℕ → Type 0
Counted g s j = s + fewest g.known (drop j g.ks) ≡ suc (fewest g.known g.ks)

module _ {t : List ℕ} {c : ℕ} (g : GivenSize t c) (s j : ℕ) (m : Counted g s j) where
  pub few : s ≤ suc (small_size * argument_limit)
  few = omega (arith, m, few_words g.known g.kind c g.ks g.is)

  same : arguments g.known.sig c ≡ g.ks
  same = args_same g.known.sig g.kind c g.ks g.is

  turn_at : (todo : List ℕ) (k z : ℕ) → drop j g.ks ≡ todo → j < length g.ks → k ≡ argument_of t c j → z ≡ least_size_of t k → (k < kind_limit) × Counted g (s + z) (j + 1)
  turn_at [] k z e l ek ez = absurd (omega (arith, length-drop j g.ks, ap length e))
  turn_at (i ∷ todo) k z e l ek ez =
      let q = word_at g.ks j i todo e in
      let l' : j < length (arguments g.known.sig c) = rw same l in
      let ki : k ≡ i = ek ∙ argument_is g.known c (has_arguments g.known c j l') j l' ∙ ap (λ (is : List ℕ). get_or is j 0) same ∙ q.0 in
      let h : i < g.known.decoded.n = all_at (args_there g.known g.kind c g.ks g.is) j i (at_getD g.ks j l ∙ ap some q.0) in
      let zi : z ≡ least_size g.known.sig g.known.decoded.n i = ez ∙ ap (least_size_of t) ki ∙ g.known.decoded.smallest i h in
      let a : fewest g.known (drop j g.ks) ≡ fewest g.known (i ∷ todo) = ap (fewest g.known) e in
      let b : fewest g.known (drop (j + 1) g.ks) ≡ fewest g.known todo = ap (fewest g.known) q.2 in
      (omega (arith, h, ki, few_kinds g.known), omega (arith, m, a, b, zi, fewest_cons g.known i todo h))

  pub turn : (k z : ℕ) → j < length g.ks → k ≡ argument_of t c j → z ≡ least_size_of t k → (k < kind_limit) × Counted g (s + z) (j + 1)
  turn k z l ek ez = turn_at (drop j g.ks) k z refl l ek ez

  pub end : length g.ks ≤ j → s ≡ head_size g.known.sig g.known.decoded.n c
  end l =
      let z : fewest g.known (drop j g.ks) ≡ 0 = ap (fewest g.known) (drop_of_length-le g.ks {i = j} l) in
      omega (arith, m, z, size_is g.known g.kind c g.ks g.is)
