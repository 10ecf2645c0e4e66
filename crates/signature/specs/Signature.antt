-- 01, Signature: constructors and kinds; 02, job 1: number kinds and levels. What follows in all layers speaks of the heads of a kind and of their argument kinds: a head is a constructor or a level.
use Rattle.std.proofs.Math.ListN.{get_elem?}
use Rattle.std.specs.Prelude.{List, [], ◌∷◌, Bool, cond, ◌&&◌, ℕ, suc, ◌+◌, ◌-◌, eqb, leb}
use Rattle.std.proofs.Math.Option.{Option, some, none}
use Rattle.signature.specs.Limits.{level_base, last_level, level_count}
use Rattle.signature.specs.Lists.{◌>>=◌, require, memb, any, count_up}

-- "for each constructor its kind, its number of arguments and the argument kinds"
pub record Constructor : Type 0 where
  pub kind : ℕ
  pub args : List ℕ
  -- 02, job 1: "A constructor row with argument count 5 and no argument kinds declares a number kind"
  pub number : Bool

-- "Constructors are numbered from 0": a constructor's number is its index
abbrev pub Signature : Type 0
Signature = List Constructor

-- the numbers of the rows of kind k, the first row of the list being numbered n
abbrev pub numbers_from : ℕ → Signature → ℕ → List ℕ
numbers_from n [] k = []
numbers_from n (c ∷ cs) k = cond (eqb c.kind k) (n ∷ numbers_from (suc n) cs k) (numbers_from (suc n) cs k)

-- the numbers of the rows of a kind
abbrev pub numbers : Signature → ℕ → List ℕ
numbers sig k = numbers_from 0 sig k

-- a row declares kind k a number kind
abbrev pub declares : ℕ → Constructor → Bool
declares k c = c.number && eqb c.kind k

-- a number kind
abbrev pub is_number_kind : Signature → ℕ → Bool
is_number_kind sig k = any (declares k) sig

-- 02, job 1: "Its values are the single words 1,000 to 1,100."
abbrev pub levels : List ℕ
levels = count_up level_base level_count

abbrev pub is_level : ℕ → Bool
is_level w = leb level_base w && leb w (level_base + last_level)

-- "A level is the word less 1,000"
abbrev pub level_of : ℕ → ℕ
level_of w = w - level_base

-- the heads of a kind: the numbers of its constructors; of a number kind the levels, since "its constructor number appears in no pattern (7) or booking (13)"
abbrev pub heads : Signature → ℕ → List ℕ
heads sig k = cond (is_number_kind sig k) levels (numbers sig k)

-- no arguments where there is no constructor
abbrev pub arguments_or_none : Option Constructor → List ℕ
arguments_or_none none = []
arguments_or_none (some d) = d.args

-- the argument kinds of a head; a level has none, and is above every constructor's number
abbrev pub arguments : Signature → ℕ → List ℕ
arguments sig c = arguments_or_none (get_elem? sig c)

-- the argument kinds of the head c, if it is a head of kind k
abbrev pub arguments_at : Signature → ℕ → ℕ → Option (List ℕ)
arguments_at sig k c = do
  _ ← require (memb c (heads sig k))
  some (arguments sig c)
