-- What holds of the rows that are begun, with one argument more.
use mathlib.Core.Path.{◌≡◌, refl, ap}
use mathlib.Core.List.{List, map, [], ◌∷◌, ◌++◌}
use mathlib.Core.Bool.{Bool, true, false, cond}
use Prim.Native.Nat.{ℕ, suc, ◌+◌, ◌*◌, ◌≤◌}
use native.Mathlib.Nat.{suc-mul, mul_assoc, le_trans}
use native.Mathlib.Omega.{arith}
use borrow.Author.Tests.{ltb-false}
use lib.Dec.{ltb}
use lib.ListN.{length, length-append}
use Rattle.signature.specs.Lists.{All, none_left, also}
use Rattle.signature.specs.Signature.{Signature}
use Rattle.signature.proofs.Tests.{times_less}
use Rattle.pattern.specs.Pattern.{Pattern, Patterns, pcons}
use Rattle.pattern.specs.Weight.{weight_plus, weight_minus, product_plus}
use Rattle.builder.specs.Arguments.{few_begun, HasFirst, words_of_rows}
use Rattle.rowlist.specs.Next.{Short, next_rows}
use Rattle.rowlist.specs.Sides.{rows_of}
use Rattle.cell.specs.Coded.{kinds_of, row_code}
use Rattle.rowlist.specs.Grow.{Filled, appends, grown}
use Rattle.row.specs.Row.{Row, rows_plus, rows_minus}
use Rattle.row.specs.RowFits.{place_count}
use Rattle.row.proofs.RowCount.{plus_count, minus_count}
use Rattle.builder.proofs.Rooms.{code_places}
use Rattle.rowlist.proofs.Typing.{every_append}
use Rattle.cell.proofs.Walk.{code_long}

length_map : {A B : Type 0} (f : A → B) (xs : List A) → length (map f xs) ≡ length xs
length_map f [] = refl
length_map f (x ∷ xs) = ap suc (length_map f xs)

length_grown : (vs ws : List (List ℕ)) → length (grown vs ws) ≡ length vs * length ws
length_grown [] ws = omega arith
length_grown (v ∷ vs) ws = rw (suc-mul (length vs) (length ws)) (simp length-append (omega (arith, length_grown vs ws, length_map (λ (w : List ℕ). v ++ w) ws)))

-- no row is empty; each is short
filled_appends : (v : List ℕ) (ws : List (List ℕ)) → 1 ≤ length v → Filled (appends v ws)
filled_appends v [] h = tt
filled_appends v (w ∷ ws) h = (simp length-append (omega arith), filled_appends v ws h)

filled_grown : (vs ws : List (List ℕ)) → Filled vs → Filled (grown vs ws)
filled_grown [] ws h = tt
filled_grown (v ∷ vs) ws h = every_append (λ w. 1 ≤ length w) (appends v ws) (grown vs ws) (filled_appends v ws h.0) (filled_grown vs ws h.1)

short_appends : (a j : ℕ) (v : List ℕ) (ws : List (List ℕ)) → length v ≤ a → Short j ws → Short (a + j) (appends v ws)
short_appends a j v [] h s = tt
short_appends a j v (w ∷ ws) h s = (simp length-append (omega (arith, s.0)), short_appends a j v ws h s.1)

short_grown : (a j : ℕ) (vs ws : List (List ℕ)) → Short a vs → Short j ws → Short (a + j) (grown vs ws)
short_grown a j [] ws h s = tt
short_grown a j (v ∷ vs) ws h s = every_append (λ w. length w ≤ a + j) (appends v ws) (grown vs ws) (short_appends a j v ws h.0 s) (short_grown a j vs ws h.1 s)

pub next_filled : (b : Bool) (w : List ℕ) (vs ws : List (List ℕ)) → Filled vs → Filled (next_rows b w vs ws)
next_filled true w vs ws h = go (ltb 64 (length vs * length ws))
  where
    go : (b : Bool) → Filled (cond b [] (grown vs ws))
    go true = tt
    go false = filled_grown vs ws h
next_filled false w [] ws h = tt
next_filled false w (v ∷ vs) ws h = every_append (λ w. 1 ≤ length w) (grown (v ∷ vs) (w ∷ [])) (appends v ws) (filled_grown (v ∷ vs) (w ∷ []) h) (filled_appends v ws h.0)

pub next_short : (b : Bool) (a j : ℕ) (w : List ℕ) (vs ws : List (List ℕ)) → length w ≤ j → Short a vs → Short j ws → Short (a + j) (next_rows b w vs ws)
next_short true a j w vs ws l h s = go (ltb 64 (length vs * length ws))
  where
    go : (b : Bool) → Short (a + j) (cond b [] (grown vs ws))
    go true = tt
    go false = short_grown a j vs ws h s
next_short false a j w [] ws l h s = tt
next_short false a j w (v ∷ vs) ws l h s = every_append (λ w. length w ≤ a + j) (grown (v ∷ vs) (w ∷ [])) (appends v ws) (short_grown a j (v ∷ vs) (w ∷ []) h (l, tt)) (short_appends a j v ws h.0 s)

pub next_first : (b : Bool) (w : List ℕ) (vs ws : List (List ℕ)) → HasFirst b vs → HasFirst b (next_rows b w vs ws)
next_first true w vs ws h = tt
next_first false w [] ws h = h
next_first false w (v ∷ vs) ws h = tt

-- how many
length_minus : (w : List ℕ) (vs ws : List (List ℕ)) → HasFirst false vs → length (next_rows false w vs ws) ≡ length vs + length ws
length_minus w [] ws h = absurd h
length_minus w (v ∷ vs) ws h = simp length-append (omega (arith, length_grown vs (w ∷ []), length_map (λ (w : List ℕ). v ++ w) ws))

pub next_few : (b : Bool) (sig : Signature) (k : ℕ) (p : Pattern) (qs : Patterns) (w : List ℕ) (vs : List (List ℕ)) → HasFirst b vs → few_begun b (length vs) (pcons p qs)
    → few_begun b (length (next_rows b w vs (words_of_rows sig k (rows_of sig k b p)))) qs × (length (next_rows b w vs (words_of_rows sig k (rows_of sig k b p))) ≤ 64)
next_few true sig k p qs w vs f h = go (ltb 64 (length vs * length (words_of_rows sig k (rows_plus sig k p)))) refl
  where
    at_most : length (words_of_rows sig k (rows_plus sig k p)) ≤ weight_plus p
    at_most = omega (arith, length_map (λ r. row_code (kinds_of sig) r k) (rows_plus sig k p), plus_count sig p k)

    go : (c : Bool) → ltb 64 (length vs * length (words_of_rows sig k (rows_plus sig k p))) ≡ c → (length (cond c [] (grown vs (words_of_rows sig k (rows_plus sig k p)))) * product_plus qs ≤ 64) × (length (cond c [] (grown vs (words_of_rows sig k (rows_plus sig k p)))) ≤ 64)
    go true e = (omega arith, omega arith)
    go false e =
        let n : length vs * length (words_of_rows sig k (rows_plus sig k p)) ≤ 64 = ltb-false 64 (length vs * length (words_of_rows sig k (rows_plus sig k p))) e in
        let m : (length vs * length (words_of_rows sig k (rows_plus sig k p))) * product_plus qs ≤ (length vs * weight_plus p) * product_plus qs = times_less (length vs * length (words_of_rows sig k (rows_plus sig k p))) (length vs * weight_plus p) (product_plus qs) (product_plus qs) (times_less (length vs) (length vs) (length (words_of_rows sig k (rows_plus sig k p))) (weight_plus p) (omega arith) at_most) (omega arith) in
        (rw (length_grown vs (words_of_rows sig k (rows_plus sig k p))) (le_trans m (rw (mul_assoc (length vs) (weight_plus p) (product_plus qs)) h)), rw (length_grown vs (words_of_rows sig k (rows_plus sig k p))) n)
next_few false sig k p qs w vs f h =
    let W = words_of_rows sig k (rows_minus sig k p) in
    let e = length_minus w vs W f in
    let z : length W ≤ weight_minus p = omega (arith, length_map (λ r. row_code (kinds_of sig) r k) (rows_minus sig k p), minus_count sig p k) in
    (omega (arith, e, z, h), omega (arith, e, z, h))

-- the rows of an argument, as words
pub words_filled : (sig : Signature) (k : ℕ) (rs : List Row) → Filled (words_of_rows sig k rs)
words_filled sig k [] = tt
words_filled sig k (r ∷ rs) = (code_long (kinds_of sig) k r, words_filled sig k rs)

pub words_short : (sig : Signature) (k l : ℕ) {rs : List Row} → All (λ r. place_count r ≤ l) rs → Short (3 * l) (words_of_rows sig k rs)
words_short sig k l none_left = tt
words_short sig k l (also r h t) = (omega (arith, code_places (kinds_of sig) r k), words_short sig k l t)

pub words_count : (sig : Signature) (k : ℕ) (rs : List Row) → length (words_of_rows sig k rs) ≡ length rs
words_count sig k rs = length_map (λ r. row_code (kinds_of sig) r k) rs
