-- Writing the kinds' rows and the counts.
use mathlib.Core.Path.{◌≡◌, ap, ◌∙◌}
use mathlib.Core.List.{List}
use mathlib.Core.Bool.{Bool}
use Prim.Native.Nat.{ℕ, ◌+◌, ◌*◌, ◌≤◌, ◌<◌}
use native.Mathlib.Omega.{arith}
use lib.ListN.{length, get_or, set, length-set}
use lib.Seq.{get_or-set_same, get_or-set_other}
use lib.Dec.{leb}
use Rattle.signature.specs.Limits.{kind_limit, small_size}
use Rattle.signature.specs.Lists.{all, count_up}
use Rattle.signature.specs.Decoded.{decoded_length, kinds_at, kind_stride, counts_at}
use Rattle.decoding.specs.Decoding.{rows, LeastNoted, KindsNoted, lowest, sizes_after}

module _ (u : List ℕ) (a b x y : ℕ) where
  neither : (i : ℕ) → ¬ (i ≡ a) → ¬ (i ≡ b) → get_or (set (set u a x) b y) i 0 ≡ get_or u i 0
  neither i p q = get_or-set_other (set u a x) b i y 0 q ∙ get_or-set_other u a i x 0 p

  first_set : a < length u → ¬ (a ≡ b) → get_or (set (set u a x) b y) a 0 ≡ x
  first_set l q = get_or-set_other (set u a x) b a y 0 q ∙ get_or-set_same u a x 0 l

  last_set : b < length u → get_or (set (set u a x) b y) b 0 ≡ y
  last_set l = get_or-set_same (set u a x) b y 0 (omega (arith, length-set u a x))

  both_long : length (set (set u a x) b y) ≡ length u
  both_long = length-set (set u a x) b y ∙ length-set u a x

-- the counts stand behind the kinds' rows
module _ (t : List ℕ) (n kinds : ℕ) (sizes hs u : List ℕ) (r : Bool) where
  pub kinds_noted : length t ≡ decoded_length → kinds ≤ kind_limit → sizes ≡ sizes_after small_size (rows t 0 n) → ((k : ℕ) → k < kinds → get_or hs k 0 ≡ lowest (rows t 0 n) sizes k) → LeastNoted t kinds hs sizes u → r ≡ all (λ k. leb (get_or sizes k 0) small_size) (count_up 0 kinds) → KindsNoted t n kinds (set (set u counts_at kinds) (counts_at + 1) n) r
  kinds_noted long l e f h g = record { long = both_long u counts_at (counts_at + 1) kinds n ∙ h.long ∙ long; rows_same = λ i m. same i (omega arith) ∙ h.rows_same i m; heads_same = λ k m. (same (kinds_at + kind_stride * k) (omega arith) ∙ (h.heads_same k).0, same (kinds_at + kind_stride * k + 1) (omega arith) ∙ (h.heads_same k).1); kind_count = first_set u counts_at (counts_at + 1) kinds n (omega (arith, h.long)) (λ p. omega arith); constructor_count = last_set u counts_at (counts_at + 1) kinds n (omega (arith, h.long)); lowest_heads = λ k m. same (kinds_at + kind_stride * k + 2) (omega arith) ∙ h.lowest_heads k m ∙ f k m ∙ ap (λ z. lowest (rows t 0 n) z k) e; least_sizes = λ k m. same (kinds_at + kind_stride * k + 3) (omega arith) ∙ h.least_sizes k m ∙ ap (λ z. get_or z k 0) e; small = g ∙ ap (λ z. all (λ k. leb (get_or z k 0) small_size) (count_up 0 kinds)) e }
    where
      same : (i : ℕ) → i < counts_at → get_or (set (set u counts_at kinds) (counts_at + 1) n) i 0 ≡ get_or u i 0
      same i m = neither u counts_at (counts_at + 1) kinds n i (λ p. omega arith) (λ p. omega arith)
