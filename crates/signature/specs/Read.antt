-- 01, Signature and Bookings: words read as a signature and as a booking. Laws says that exactly the lawful ones are read.
use Rattle.std.specs.Prelude.{◌≡◌, List, [], ◌∷◌, map, cond, Bool, false, not, ◌&&◌, ◌||◌, ℕ, zero, suc, ◌+◌, min, leb, eqb, ltb, length}
use Rattle.std.proofs.Math.Option.{Option, some, none}
use Rattle.std.proofs.Math.ListN.{get_elem?}
use Rattle.signature.specs.Limits.{booking_limit, depth_limit, constructor_limit, kind_limit, row_limit, number_count, small_size, over_small}
use Rattle.signature.specs.Lists.{◌>>=◌, require, split, count_up, all, whole}
use Rattle.signature.specs.Signature.{Signature, Constructor, numbers, arguments_at}
use Rattle.signature.specs.Value.{Value, Values, vnil, vcons, con}

-- the argument kinds of a row whose second word is m, and the words behind them: "its number of arguments (0 to 4) and the argument kinds"; 02, job 1: "argument count 5 and no argument kinds"
abbrev pub read_arguments : ℕ → List ℕ → Option (List ℕ × List ℕ)
read_arguments m ws = do
  _ ← require (leb m number_count)
  split (cond (eqb m number_count) 0 m) ws

-- n constructors, and nothing behind them: "The slice ends exactly there."
abbrev pub read_constructors : ℕ → List ℕ → Option Signature
read_constructors zero [] = some []
read_constructors zero (w ∷ ws) = none
read_constructors (suc n) [] = none
read_constructors (suc n) (k ∷ []) = none
read_constructors (suc n) (k ∷ (m ∷ ws)) = do
  r ← read_arguments m ws
  cs ← read_constructors n r.1
  some (record { kind = k; args = r.0; number = eqb m number_count } ∷ cs)

-- "each equal to the previous or one more": the count of kinds, from the last kind seen
abbrev pub kinds_from : ℕ → Signature → Option ℕ
kinds_from k [] = some (suc k)
kinds_from k (c ∷ cs) = cond (eqb c.kind k) (kinds_from k cs) (require (eqb c.kind (suc k)) >>= λ u. kinds_from (suc k) cs)

-- "Kinds start at 0": the count of kinds
abbrev pub count_kinds : Signature → Option ℕ
count_kinds [] = none
count_kinds (c ∷ cs) = require (eqb c.kind 0) >>= λ u. kinds_from 0 cs

-- 7 stands for the size of a kind that has no value of at most 6 words
abbrev pub with_arg : Option ℕ → ℕ → ℕ
with_arg none t = over_small
with_arg (some n) t = n + t

-- the fewest words of arguments of these kinds, by the kinds' fewest words
abbrev pub total : List ℕ → List ℕ → ℕ
total least [] = 0
total least (k ∷ ks) = with_arg (get_elem? least k) (total least ks)

-- the fewest words of a value of kind k, by the kinds' fewest words
abbrev pub best : Signature → List ℕ → ℕ → ℕ
best [] least k = over_small
best (c ∷ cs) least k = cond (eqb c.kind k) (min (suc (total least c.args)) (best cs least k)) (best cs least k)

-- the fewest words of a value of each kind, nested at most d deep
abbrev pub least : ℕ → Signature → ℕ → List ℕ
least zero sig n = map (λ k. over_small) (count_up 0 n)
least (suc d) sig n = let before = least d sig n in map (λ k. min over_small (best sig before k)) (count_up 0 n)

-- 02, job 1: a row that declares a number kind "is that kind's only row"
abbrev pub stands_alone : Signature → Constructor → Bool
stands_alone sig c = not c.number || eqb (length (numbers sig c.kind)) 1

-- the limits, "Argument kinds exist", "Every kind has a value of at most 6 words"
abbrev pub lawful_kinds : Signature → Option ℕ → Bool
lawful_kinds sig none = false
lawful_kinds sig (some n) = leb 1 (length sig) && leb (length sig) constructor_limit && leb n kind_limit && all (λ k. leb (length (numbers sig k)) row_limit) (count_up 0 n) && all (stands_alone sig) sig && all (λ c. all (λ k. ltb k n) c.args) sig && all (λ m. leb m small_size) (least small_size sig n)

-- a lawful signature
abbrev pub lawful : Signature → Bool
lawful sig = lawful_kinds sig (count_kinds sig)

-- the signature that the words are, if they are a lawful one; else refusal 1
abbrev pub read_signature : List ℕ → Option Signature
read_signature [] = none
read_signature (n ∷ ws) = do
  sig ← read_constructors n ws
  _ ← require (lawful sig)
  some sig

-- one value for each kind, by a reader of one value
abbrev pub read_values : (ℕ → List ℕ → Option (Value × List ℕ)) → List ℕ → List ℕ → Option (Values × List ℕ)
read_values one [] ws = some (vnil, ws)
read_values one (k ∷ ks) ws = do
  r ← one k ws
  s ← read_values one ks r.1
  some (vcons r.0 s.0, s.1)

-- a value of kind k nested at most d deep at the start of the words, and the words behind it
abbrev pub read_value : Signature → ℕ → ℕ → List ℕ → Option (Value × List ℕ)
read_value sig zero k ws = none
read_value sig (suc d) k [] = none
read_value sig (suc d) k (c ∷ ws) = do
  ks ← arguments_at sig k c
  r ← read_values (λ j us. read_value sig d j us) ks ws
  some (con c r.0, r.1)

-- the value that the words are, if they are a lawful booking; else refusal 13
abbrev pub read_booking : Signature → List ℕ → Option Value
read_booking sig ws = do
  _ ← require (leb (length ws) booking_limit)
  r ← read_value sig depth_limit 0 ws
  whole r

-- sig is lawful: some words are read as it
abbrev pub Signed : Signature → Type 0
Signed sig = (ws : List ℕ) × (read_signature ws ≡ some sig)
