-- The rows of a constructor's arguments, as words behind rows that are begun.
use Rattle.std.specs.Prelude.{List, map, [], ◌∷◌, ◌++◌, Bool, true, false, ◌≡◌, ℕ, ◌*◌, ◌+◌, ◌≤◌, ◌<◌, length, drop}
use Rattle.signature.specs.Decoded.{Known}
use Rattle.signature.specs.Lists.{All}
use Rattle.signature.specs.Signature.{Signature, arguments}
use Rattle.pattern.specs.Limits.{part_weight_limit}
use Rattle.pattern.specs.Pattern.{Patterns, patterns_code}
use Rattle.pattern.specs.Ranged.{all_ranged}
use Rattle.pattern.specs.Weight.{product_plus, sum_minus, light_all_plus, light_all_minus}
use Rattle.pattern.specs.WellFormed.{AllWellFormed}
use Rattle.builder.specs.Build.{room_unit, room_of}
use Rattle.cell.specs.Cell.{cell_width, all_words}
use Rattle.cell.specs.Coded.{kinds_of, row_code, all_cells}
use Rattle.rowlist.specs.Grow.{appends, grown, Filled, words_list}
use Rattle.rowlist.specs.Product.{Product}
use Rattle.rowlist.specs.Next.{Short}
use Rattle.row.specs.Row.{Row, Rows, open_rows, args_plus, args_minus}

-- the words of rows of one kind; of the arguments of a constructor
abbrev pub words_of_rows : Signature → ℕ → List Row → List (List ℕ)
words_of_rows sig k rs = map (λ r. row_code (kinds_of sig) r k) rs

abbrev pub arg_words : Signature → List ℕ → List Rows → List (List ℕ)
arg_words sig ks rss = map (λ rs. all_words (all_cells (kinds_of sig) rs ks)) rss

abbrev pub open_words : Signature → List ℕ → List ℕ
open_words sig ks = all_words (all_cells (kinds_of sig) (open_rows sig ks) ks)

-- each row that is begun, with the arguments' rows behind it; on the minus side the first is the one whose arguments are open so far
abbrev pub behind : Bool → Signature → List ℕ → Patterns → List (List ℕ) → List (List ℕ)
behind true sig ks ps vs = grown vs (arg_words sig ks (args_plus sig ks ps))
behind false sig ks ps [] = []
behind false sig ks ps (v ∷ vs) = (v ++ open_words sig ks) ∷ (grown vs (open_words sig ks ∷ []) ++ appends v (arg_words sig ks (args_minus sig ks ps)))

-- rows that are begun and may be many on the plus side, where an argument that is still to come has none
abbrev pub few_begun : Bool → ℕ → Patterns → Type 0
few_begun true n ps = n * product_plus ps ≤ part_weight_limit
few_begun false n ps = n + sum_minus ps ≤ part_weight_limit

-- on the minus side there is a first row
abbrev pub HasFirst : Bool → List (List ℕ) → Type 0
HasFirst true vs = Unit {0}
HasFirst false [] = ⊥
HasFirst false (v ∷ vs) = Unit {0}

abbrev pub lights_of : Bool → Patterns → Bool
lights_of true ps = light_all_plus ps
lights_of false ps = light_all_minus ps

-- the arguments of c from j on stand in front of the words; rows that are begun stand first in o
pub record GivenArgs (t : List ℕ) (c j : ℕ) (w : List ℕ) (b : Bool) (used : ℕ) (o : List ℕ) (m : ℕ) : Type 0 where
  pub known : Known t
  pub head : c < length known.sig
  pub ks : List ℕ
  pub kinds : drop j (arguments known.sig c) ≡ ks
  pub ps : Patterns
  pub rest : List ℕ
  pub code_is : w ≡ patterns_code ps ++ rest
  pub well : AllWellFormed known.sig ks ps
  pub light : lights_of b ps ≡ true
  pub ranges : all_ranged ps ≡ true
  pub there : All (λ k. k < known.decoded.n) ks
  pub begun : List (List ℕ)
  pub list : Product (words_list begun) used o
  pub filled : Filled begun
  pub a : ℕ
  pub small : used + 1 ≤ room_unit * a
  pub short : Short (cell_width * a) begun
  pub few : few_begun b (length begun) ps
  pub count : length begun ≤ part_weight_limit
  pub first : HasFirst b begun
  pub room : room_of (a + length (patterns_code ps)) ≤ length o
  pub work_room : room_of (a + length (patterns_code ps)) ≤ m

-- what was read and written, with its length for n words of a pattern
pub record MadeArgs (sig : Signature) (b : Bool) (ks : List ℕ) (ps : Patterns) (begun : List (List ℕ)) (n used read : ℕ) (o : List ℕ) : Type 0 where
  pub read_is : read ≡ length (patterns_code ps)
  pub list : Product (words_list (behind b sig ks ps begun)) used o
  pub small : used + 1 ≤ room_unit * n
