-- What the steps of decoding leave in the table.
use Rattle.std.specs.Prelude.{◌≡◌, List, [], ◌∷◌, ◌++◌, map, Bool, true, cond, not, ◌&&◌, ◌||◌, ℕ, zero, suc, ◌+◌, ◌*◌, ◌≤◌, ◌<◌, min, eqb, ltb, leb, length, get_or, set, drop}
use Rattle.std.specs.Prelude as prelude
use Rattle.std.proofs.Math.Option.{Option, none, some}
use Rattle.signature.specs.Limits.{argument_limit, constructor_limit, kind_limit, number_count, level_base, level_count, over_small, small_size}
use Rattle.signature.specs.Lists.{◌>>=◌, count_up, first, keep, all}
use Rattle.signature.specs.Read.{read_arguments, read_constructors, count_kinds, kinds_from, least, total}
use Rattle.signature.specs.Signature.{Signature, Constructor, numbers, numbers_from, is_number_kind, arguments}
use Rattle.signature.specs.Decoded.{decoded_length, stride, kind_stride, kinds_at, unkinded, kind_of, arity_of, argument_of, first_of, count_of, least_head_of, least_size_of, kinds_of, constructors_of}

-- m words from place i on
abbrev pub words_from : List ℕ → ℕ → ℕ → List ℕ
words_from t i m = map (λ j. get_or t j 0) (count_up i m)

-- until the table is whole, a row without arguments has in the place of the first whether it declares a number kind
abbrev pub declares_number : List ℕ → ℕ → Bool
declares_number t c = eqb (arity_of t c) 0 && eqb (argument_of t c 0) 1

-- constructor c, and m constructors from c on, as the table's rows have them
abbrev pub row : List ℕ → ℕ → Constructor
row t c = record { kind = kind_of t c; args = words_from t (stride * c + 2) (arity_of t c); number = declares_number t c }

abbrev pub rows : List ℕ → ℕ → ℕ → Signature
rows t c m = map (λ d. row t d) (count_up c m)

-- the first m words of both tables are the same
abbrev pub SameBelow : ℕ → List ℕ → List ℕ → Type 0
SameBelow m t u = (i : ℕ) → i < m → get_or u i 0 ≡ get_or t i 0

-- the first constructor of the words, and the words behind it
abbrev pub read_constructor : List ℕ → Option (Constructor × List ℕ)
read_constructor [] = none
read_constructor (k ∷ []) = none
read_constructor (k ∷ (m ∷ ws)) = do
  r ← read_arguments m ws
  some (record { kind = k; args = r.0; number = eqb m number_count }, r.1)

-- by a row's second word: how many argument kinds follow, and what stands in the place of the first if none does
abbrev pub argument_count : ℕ → ℕ
argument_count m = cond (eqb m number_count) 0 m

abbrev pub flag_by : ℕ → ℕ
flag_by m = cond (eqb m number_count) 1 0

-- n words of w have been copied into t, which is u now
pub record Copied (w : List ℕ) (from : ℕ) (t : List ℕ) (to n : ℕ) (u : List ℕ) : Type 0 where
  pub long : length u ≡ length t
  pub there : (j : ℕ) → j < n → get_or u (to + j) 0 ≡ get_or w (from + j) 0
  pub before : SameBelow to t u
  pub behind : (i : ℕ) → to + n ≤ i → get_or u i 0 ≡ get_or t i 0

-- the constructor at a place has been read into row c of u, with so many words
pub record RowRead (w : List ℕ) (place : ℕ) (t : List ℕ) (c : ℕ) (u : List ℕ) (m : ℕ) : Type 0 where
  pub long : length u ≡ length t
  pub within : place + m ≤ length w
  pub taken : read_constructor (drop place w) ≡ some (row u c, drop (place + m) w)
  pub two : 2 ≤ m
  pub kind : kind_of u c ≡ get_or w place 0
  pub number : declares_number u c ≡ eqb (get_or w (place + 1) 0) number_count
  pub arity : arity_of u c ≤ argument_limit
  pub before : SameBelow (stride * c) t u
  pub behind : (i : ℕ) → kinds_at ≤ i → get_or u i 0 ≡ get_or t i 0

abbrev pub Arities : List ℕ → ℕ → Type 0
Arities t n = (c : ℕ) → c < n → arity_of t c ≤ argument_limit

-- these words are below k; the argument kinds of these rows are
abbrev pub below : ℕ → List ℕ → Bool
below k ws = all (λ j. ltb j k) ws

abbrev pub kinds_below : ℕ → Signature → Bool
kinds_below k sig = all (λ d. below k d.args) sig

-- r is the highest of m and these words
abbrev pub Highest : ℕ → List ℕ → ℕ → Type 0
Highest m ws r = (k : ℕ) → ltb r k ≡ (ltb m k && below k ws)

-- the number of kinds once a constructor of kind k follows n kinds, none where it may not
abbrev pub next_kinds : ℕ → ℕ → prelude.Option ℕ
next_kinds k n = cond (eqb (suc k) n) (prelude.Some n) (cond (eqb k n) (cond (ltb n kind_limit) (prelude.Some (suc n)) prelude.None) prelude.None)

-- the number of kinds, 0 where their order or their number is unlawful
abbrev pub kinds_or_0 : Option ℕ → ℕ
kinds_or_0 none = 0
kinds_or_0 (some n) = cond (leb n kind_limit) n 0

-- a row that declares a number kind is the only one of its kind, by the kinds' counts
abbrev pub alone_by : List ℕ → Constructor → Bool
alone_by t d = not d.number || eqb (count_of t d.kind) 1

-- no row declares a number kind
abbrev pub plain : Signature → Bool
plain sig = all (λ d. not d.number) sig

-- constructor c has been counted to kind k, which is new if it is the n-th
pub record HeadNoted (t : List ℕ) (k c n : ℕ) (u : List ℕ) : Type 0 where
  pub long : length u ≡ length t
  pub rows_same : SameBelow kinds_at t u
  pub others : (j : ℕ) → (j ≡ k → ⊥) → (first_of u j ≡ first_of t j) × (count_of u j ≡ count_of t j)
  pub new : k ≡ n → (first_of u k ≡ c) × (count_of u k ≡ 1)
  pub old : (k ≡ n → ⊥) → (first_of u k ≡ first_of t k) × (count_of u k ≡ suc (count_of t k))

-- what is noted of each kind's constructors, those ahead being still to count
pub record Noted (sig ahead : Signature) (c n : ℕ) (t : List ℕ) : Type 0 where
  pub seen : (k : ℕ) → k < n → (first_of t k ≡ first (numbers sig k)) × (count_of t k + length (numbers_from c ahead k) ≡ length (numbers sig k))
  pub unseen : (k : ℕ) → n ≤ k → numbers_from c ahead k ≡ numbers sig k

-- the kinds that the constructors ahead make, after n kinds
abbrev pub kinds_due : ℕ → Signature → Option ℕ
kinds_due zero cs = count_kinds cs
kinds_due (suc k) cs = kinds_from k cs

-- these constructors, and those behind them, if they were read
abbrev pub led_by : Signature → Option Signature → Option Signature
led_by cs o = o >>= λ ds. some (cs ++ ds)

-- c rows have been read into t, up to a place, so many kinds among them; their highest argument kind; how many rows declare number kinds
pub record Reading (w t : List ℕ) (c place kinds most numbers : ℕ) : Type 0 where
  pub long : length t ≡ decoded_length
  pub within : place ≤ length w
  pub few_kinds : kinds ≤ kind_limit
  pub some_kind : 0 < c → 0 < kinds
  pub few_numbers : numbers ≤ c
  pub arities : Arities t c
  pub read : (m : ℕ) → read_constructors (c + m) (drop 1 w) ≡ led_by (rows t 0 c) (read_constructors m (drop place w))
  pub due : (ahead : Signature) → count_kinds (rows t 0 c ++ ahead) ≡ kinds_due kinds ahead
  pub noted : (ahead : Signature) → Noted (rows t 0 c ++ ahead) ahead c kinds t
  pub last : (k : ℕ) → suc k ≡ kinds → first_of t k + count_of t k ≡ c
  pub each : (i : ℕ) → i < c → kind_of t i < kinds
  pub highest : (k : ℕ) → 0 < k → ltb most k ≡ kinds_below k (rows t 0 c)
  pub bare : numbers ≡ 0 → plain (rows t 0 c) ≡ true

-- the words have no rows of lawful kinds behind the first c
abbrev pub Barred : List ℕ → ℕ → Type 0
Barred w c = (m : ℕ) (sig : Signature) → read_constructors (c + suc m) (drop 1 w) ≡ some sig → 0 ≡ kinds_or_0 (count_kinds sig)

-- the words have no n rows of lawful kinds
abbrev pub Unlawful : List ℕ → ℕ → Type 0
Unlawful w n = (sig : Signature) → read_constructors n (drop 1 w) ≡ some sig → 0 ≡ kinds_or_0 (count_kinds sig)

-- a row that names no kind past the limit, and no argument
pub record RowFit (t : List ℕ) (c : ℕ) : Type 0 where
  pub kind : kind_of t c < kind_limit
  pub arity : arity_of t c ≤ argument_limit
  pub arguments : (j : ℕ) → j < arity_of t c → argument_of t c j < kind_limit

pub record Fit (t : List ℕ) (n : ℕ) : Type 0 where
  pub long : length t ≡ decoded_length
  pub few : n ≤ constructor_limit
  pub each : (c : ℕ) → c < n → RowFit t c

-- a size for each kind up to the limit
pub record Sizes (a : List ℕ) : Type 0 where
  pub long : length a ≡ kind_limit
  pub each : (k : ℕ) → get_or a k 0 ≤ over_small

-- the fewest words of some rows, by a number of words for each
abbrev pub fewest : (ℕ → ℕ) → List ℕ → ℕ
fewest f [] = over_small
fewest f (c ∷ cs) = min (f c) (fewest f cs)

-- the words of a smallest value of row c, by the kinds' sizes
abbrev pub row_words : List ℕ → List ℕ → ℕ → ℕ
row_words t sizes c = suc (total sizes (row t c).args)

-- the rows of kind k, by its first and their count
abbrev pub span : List ℕ → ℕ → List ℕ
span t k = count_up (first_of t k) (count_of t k)

-- the size of kind k, by the kinds' sizes
abbrev pub size_by : List ℕ → List ℕ → ℕ → ℕ
size_by t sizes k = fewest (row_words t sizes) (span t k)

abbrev pub KindFit : List ℕ → ℕ → Type 0
KindFit t k = (c : ℕ) → first_of t k ≤ c → c < first_of t k + count_of t k → (c < constructor_limit) × RowFit t c

-- no kind's size is above what the sizes say
abbrev pub Settled : List ℕ → ℕ → List ℕ → Type 0
Settled t kinds sizes = (k : ℕ) → k < kinds → get_or sizes k 0 ≤ size_by t sizes k

abbrev pub Under : List ℕ → List ℕ → Type 0
Under a b = (k : ℕ) → get_or a k 0 ≤ get_or b k 0

abbrev pub sum : List ℕ → ℕ
sum [] = 0
sum (x ∷ xs) = x + sum xs

-- the size of kind k has been lowered to what the sizes say, r times
pub record SizeLowered (t : List ℕ) (k : ℕ) (a b : List ℕ) (r : ℕ) : Type 0 where
  pub once : r ≤ 1
  pub kept : r ≡ 0 → (b ≡ a) × (get_or a k 0 ≤ size_by t a k)
  pub lowered : 0 < r → (b ≡ set a k (size_by t a k)) × (size_by t a k < get_or a k 0)

-- the same of the kinds from k on, one after the other; what no size was below before, none is below now
pub record SizesLowered (t : List ℕ) (kinds k : ℕ) (a b : List ℕ) (r : ℕ) : Type 0 where
  pub sizes : Sizes b
  pub few : r + k ≤ kinds
  pub kept : r ≡ 0 → (b ≡ a) × ((j : ℕ) → k ≤ j → j < kinds → get_or b j 0 ≤ size_by t b j)
  pub fewer : 0 < r → sum b < sum a
  pub over : (g : List ℕ) → length g ≡ kind_limit → Settled t kinds g → Under g a → Under g b

-- the greatest sizes that are settled
pub record Greatest (t : List ℕ) (kinds : ℕ) (a : List ℕ) : Type 0 where
  pub sizes : Sizes a
  pub settled : Settled t kinds a
  pub over : (g : List ℕ) → Sizes g → Settled t kinds g → Under g a

-- n rows that are lawful but for their sizes, and the rows of each kind stand together
pub record Spanned (t : List ℕ) (n kinds : ℕ) : Type 0 where
  pub fit : Fit t n
  pub few : kinds ≤ kind_limit
  pub together : (k : ℕ) → k < kinds → numbers (rows t 0 n) k ≡ span t k
  pub beyond : (k : ℕ) → kinds ≤ k → numbers (rows t 0 n) k ≡ []

-- the lowest row of kind k that reaches the kind's size, by its span
abbrev pub lowest_in : List ℕ → List ℕ → ℕ → ℕ
lowest_in t sizes k = first (keep (λ c. eqb (row_words t sizes c) (get_or sizes k 0)) (span t k))

-- each kind's size after d rounds
unfoldable pub sizes_after : ℕ → Signature → List ℕ
sizes_after d sig = least d sig kind_limit

-- the lowest row of kind k that reaches the kind's size
abbrev pub lowest : Signature → List ℕ → ℕ → ℕ
lowest sig sizes k = first (keep (λ c. eqb (suc (total sizes (arguments sig c))) (get_or sizes k 0)) (numbers sig k))

-- the kinds' least constructors and sizes have been written, for n kinds
pub record LeastNoted (t : List ℕ) (n : ℕ) (hs sizes u : List ℕ) : Type 0 where
  pub long : length u ≡ length t
  pub rows_same : SameBelow kinds_at t u
  pub heads_same : (k : ℕ) → (first_of u k ≡ first_of t k) × (count_of u k ≡ count_of t k)
  pub lowest_heads : (k : ℕ) → k < n → least_head_of u k ≡ get_or hs k 0
  pub least_sizes : (k : ℕ) → k < n → least_size_of u k ≡ get_or sizes k 0

-- the table of n constructors and so many kinds is whole; r says whether every kind has a value of at most 6 words
pub record KindsNoted (t : List ℕ) (n kinds : ℕ) (u : List ℕ) (r : Bool) : Type 0 where
  pub long : length u ≡ decoded_length
  pub rows_same : SameBelow kinds_at t u
  pub heads_same : (k : ℕ) → k < kinds → (first_of u k ≡ first_of t k) × (count_of u k ≡ count_of t k)
  pub kind_count : kinds_of u ≡ kinds
  pub constructor_count : constructors_of u ≡ n
  pub lowest_heads : (k : ℕ) → k < kinds → least_head_of u k ≡ lowest (rows t 0 n) (sizes_after small_size (rows t 0 n)) k
  pub least_sizes : (k : ℕ) → k < kinds → least_size_of u k ≡ get_or (sizes_after small_size (rows t 0 n)) k 0
  pub small : r ≡ all (λ k. leb (get_or (sizes_after small_size (rows t 0 n)) k 0) small_size) (count_up 0 kinds)

-- row c declares kind k a number kind: its own number is no head, and the kind's are the levels
abbrev pub marked : List ℕ → ℕ → ℕ → List ℕ
marked t c k = set (set (set (set t (stride * c) unkinded) (kinds_at + kind_stride * k) level_base) (kinds_at + kind_stride * k + 1) level_count) (kinds_at + kind_stride * k + 2) level_base

abbrev pub mark_of : List ℕ → ℕ → List ℕ
mark_of t c = cond (declares_number t c) (marked t c (kind_of t c)) t

-- the first n rows have been marked, as far as they declare number kinds
pub record Marked (t : List ℕ) (n : ℕ) (u : List ℕ) : Type 0 where
  pub long : length u ≡ length t
  pub others : (i : ℕ) → i < kinds_at → ((c : ℕ) → c < n → i ≡ stride * c → ⊥) → get_or u i 0 ≡ get_or t i 0
  pub kind : (c : ℕ) → c < n → kind_of u c ≡ cond (row t c).number unkinded (kind_of t c)
  pub first : (k : ℕ) → first_of u k ≡ cond (is_number_kind (rows t 0 n) k) level_base (first_of t k)
  pub count : (k : ℕ) → count_of u k ≡ cond (is_number_kind (rows t 0 n) k) level_count (count_of t k)
  pub lowest_heads : (k : ℕ) → least_head_of u k ≡ cond (is_number_kind (rows t 0 n) k) level_base (least_head_of t k)
  pub sizes_same : (k : ℕ) → k < kind_limit → least_size_of u k ≡ least_size_of t k
  pub kinds_same : kinds_of u ≡ kinds_of t
  pub constructors_same : constructors_of u ≡ constructors_of t
