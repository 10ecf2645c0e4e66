-- A signature as a table of fixed stride, in which each fact about a constructor or a kind is one read; and the least value of a kind.
use Rattle.std.specs.Prelude.{◌≡◌, List, ◌++◌, cond, ℕ, suc, ◌+◌, ◌*◌, ◌<◌, eqb, leb, length, get_or}
use Rattle.std.proofs.Math.Option.{some}
use Rattle.std.proofs.Math.ListN.{get_elem?}
use Rattle.signature.specs.Limits.{argument_limit, constructor_limit, kind_limit, level_base, small_size}
use Rattle.signature.specs.Lawful.{OfKind}
use Rattle.signature.specs.Lists.{first, keep}
use Rattle.signature.specs.Read.{count_kinds, least, total, Signed}
use Rattle.signature.specs.Signature.{Signature, Constructor, heads, arguments}
use Rattle.signature.specs.Value.{Value, code}

-- the fewest words of a value of kind k, where the signature has n kinds
abbrev pub least_size : Signature → ℕ → ℕ → ℕ
least_size sig n k = get_or (least small_size sig n) k 0

-- the lowest head of kind k that reaches the least size
abbrev pub least_head : Signature → ℕ → ℕ → ℕ
least_head sig n k = first (keep (λ c. eqb (suc (total (least small_size sig n) (arguments sig c))) (least_size sig n k)) (heads sig k))

-- a constructor's row: its kind, its number of arguments, its argument kinds
abbrev pub stride : ℕ
stride = 2 + argument_limit

-- a kind's row: its first constructor, their count, its least constructor, its least size
abbrev pub kind_stride : ℕ
kind_stride = 4

-- the kinds' rows stand behind the constructors' rows, and behind them the number of kinds and that of constructors
abbrev pub kinds_at : ℕ
kinds_at = constructor_limit * stride

abbrev pub counts_at : ℕ
counts_at = kinds_at + kind_limit * kind_stride

abbrev pub decoded_length : ℕ
decoded_length = 2 + counts_at

-- the reads
abbrev pub kind_of : List ℕ → ℕ → ℕ
kind_of t c = get_or t (stride * c) 0

abbrev pub arity_of : List ℕ → ℕ → ℕ
arity_of t c = get_or t (stride * c + 1) 0

-- how many arguments a head of a booking or a row has: a level has none
abbrev pub head_arity : List ℕ → ℕ → ℕ
head_arity t c = cond (leb level_base c) 0 (arity_of t c)

abbrev pub argument_of : List ℕ → ℕ → ℕ → ℕ
argument_of t c j = get_or t (stride * c + 2 + j) 0

abbrev pub first_of : List ℕ → ℕ → ℕ
first_of t k = get_or t (kinds_at + kind_stride * k) 0

abbrev pub count_of : List ℕ → ℕ → ℕ
count_of t k = get_or t (kinds_at + kind_stride * k + 1) 0

abbrev pub least_head_of : List ℕ → ℕ → ℕ
least_head_of t k = get_or t (kinds_at + kind_stride * k + 2) 0

abbrev pub least_size_of : List ℕ → ℕ → ℕ
least_size_of t k = get_or t (kinds_at + kind_stride * k + 3) 0

abbrev pub kinds_of : List ℕ → ℕ
kinds_of t = get_or t counts_at 0

abbrev pub constructors_of : List ℕ → ℕ
constructors_of t = get_or t (counts_at + 1) 0

-- what stands in the table for the kind of a row that declares a number kind: no kind, since its number stands in no booking and no pattern
abbrev pub unkinded : ℕ
unkinded = kind_limit

abbrev pub head_kind : Constructor → ℕ
head_kind d = cond d.number unkinded d.kind

-- t is the table of sig
pub record Decoded (sig : Signature) (t : List ℕ) : Type 0 where
  pub n : ℕ
  pub kinds_are : count_kinds sig ≡ some n
  pub long : length t ≡ decoded_length
  pub kind_count : kinds_of t ≡ n
  pub constructor_count : constructors_of t ≡ length sig
  pub kind : (c : ℕ) (d : Constructor) → get_elem? sig c ≡ some d → kind_of t c ≡ head_kind d
  pub arity : (c : ℕ) (d : Constructor) → get_elem? sig c ≡ some d → arity_of t c ≡ length d.args
  pub argument : (c j k : ℕ) (d : Constructor) → get_elem? sig c ≡ some d → get_elem? d.args j ≡ some k → argument_of t c j ≡ k
  pub first_head : (k : ℕ) → k < n → first_of t k ≡ first (heads sig k)
  pub head_count : (k : ℕ) → k < n → count_of t k ≡ length (heads sig k)
  pub lowest_least : (k : ℕ) → k < n → least_head_of t k ≡ least_head sig n k
  pub smallest : (k : ℕ) → k < n → least_size_of t k ≡ least_size sig n k

-- t is the table of some lawful signature
pub record Known (t : List ℕ) : Type 0 where
  pub sig : Signature
  pub signed : Signed sig
  pub decoded : Decoded sig t

-- b begins with a value of a kind of the signature whose table is t
pub record Starts (t b : List ℕ) : Type 0 where
  pub known : Known t
  pub kind : ℕ
  pub value : Value
  pub kinded : OfKind known.sig kind value
  pub rest : List ℕ
  pub words : b ≡ code value ++ rest
