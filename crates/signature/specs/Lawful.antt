-- 01, Signature and Bookings: what is lawful, said without reading.
use Rattle.std.specs.Prelude.{◌≡◌, List, [], ◌∷◌, ◌++◌, true, cond, ℕ, ◌≤◌, ◌<◌, suc, length}
use Rattle.std.proofs.Math.Option.{some}
use Rattle.signature.specs.Limits.{booking_limit, depth_limit, constructor_limit, kind_limit, row_limit, number_count, small_size, argument_limit}
use Rattle.signature.specs.Lists.{All}
use Rattle.signature.specs.Signature.{arguments_at, Signature, Constructor, numbers}
use Rattle.signature.specs.Value.{Value, Values, con, vnil, vcons, code, depth, size}

module _ (sig : Signature) where
  -- v is a value of kind k
  mutual
    pub data OfKind : ℕ → Value → Type 0 where
      of_kind : {k c : ℕ} {ks : List ℕ} {vs : Values} → arguments_at sig k c ≡ some ks → OfKinds ks vs → OfKind k (con c vs)

    pub data OfKinds : List ℕ → Values → Type 0 where
      of_kinds_nil : OfKinds [] vnil
      of_kinds_cons : {k : ℕ} {ks : List ℕ} {v : Value} {vs : Values} → OfKind k v → OfKinds ks vs → OfKinds (k ∷ ks) (vcons v vs)

module _ (sig : Signature) where
  -- "A lawful booking is one value of kind 0, 1 to 4,096 words, nested at most 256 deep, nothing left over."
  pub record LawfulBooking (ws : List ℕ) (v : Value) : Type 0 where
    pub kind_0 : OfKind sig 0 v
    pub is_code : code v ≡ ws
    pub some_words : 1 ≤ length ws
    pub at_most : length ws ≤ booking_limit
    pub deep : depth v ≤ depth_limit

-- 01, Signature: every kind has a value of at most 6 words, said as existence, and as it is decided
module _ (sig : Signature) (n : ℕ) where
  -- "Every kind has a value of at most 6 words."
  abbrev pub EveryKindSmall : Type 0
  EveryKindSmall = (k : ℕ) → k < n → (v : Value) × OfKind sig k v × (size v ≤ small_size)

-- a row's second word: "its number of arguments", or 5 where it declares a number kind
abbrev pub count_word : Constructor → ℕ
count_word c = cond c.number number_count (length c.args)

-- "for each constructor its kind, its number of arguments (0 to 4) and the argument kinds"
abbrev pub constructor_words : Signature → List ℕ
constructor_words [] = []
constructor_words (c ∷ cs) = c.kind ∷ (count_word c ∷ (c.args ++ constructor_words cs))

-- "Kinds start at 0, each equal to the previous or one more": from the last kind seen, n kinds in all
pub data KindsRise : ℕ → Signature → ℕ → Type 0 where
  rise_end : {k n : ℕ} → n ≡ suc k → KindsRise k [] n
  rise_same : {k n : ℕ} {c : Constructor} {cs : Signature} → c.kind ≡ k → KindsRise k cs n → KindsRise k (c ∷ cs) n
  rise_next : {k n : ℕ} {c : Constructor} {cs : Signature} → c.kind ≡ suc k → KindsRise (suc k) cs n → KindsRise k (c ∷ cs) n

-- "Kinds start at 0": n kinds in all
pub data KindsStart : Signature → ℕ → Type 0 where
  start_0 : {n : ℕ} {c : Constructor} {cs : Signature} → c.kind ≡ 0 → KindsRise 0 cs n → KindsStart (c ∷ cs) n

-- 01, Signature: these words are this lawful signature
pub record SignatureWords (ws : List ℕ) (sig : Signature) : Type 0 where
  -- "the constructor count n, then for each constructor ..; the slice ends exactly there"
  pub is_code : ws ≡ length sig ∷ constructor_words sig
  -- "(1 to 256)"
  pub some_constructor : 1 ≤ length sig
  pub at_most : length sig ≤ constructor_limit
  -- "(0 to 4)"
  pub few_arguments : All (λ c. length c.args ≤ argument_limit) sig
  -- 02, job 1: "A constructor row with argument count 5 and no argument kinds declares a number kind; it is that kind's only row"
  pub bare : All (λ c. c.number ≡ true → c.args ≡ []) sig
  pub only_row : All (λ c. c.number ≡ true → length (numbers sig c.kind) ≡ 1) sig
  pub n : ℕ
  pub rises : KindsStart sig n
  -- "at most 32 kinds, at most 64 constructors a kind"
  pub few_kinds : n ≤ kind_limit
  pub few_rows : (k : ℕ) → k < n → length (numbers sig k) ≤ row_limit
  -- "Argument kinds exist"
  pub args_exist : All (λ c. All (λ k. k < n) c.args) sig
  -- "Every kind has a value of at most 6 words"
  pub small : EveryKindSmall sig n
