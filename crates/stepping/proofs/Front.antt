-- What a step keeps of a state: its length and the words in front of the open values.
use mathlib.Core.Path.{◌≡◌, ap, ◌∙◌}
use mathlib.Core.List.{List}
use mathlib.Core.Option.{some}
use mathlib.Core.Bool.{◌&&◌}
use Prim.Native.Nat.{ℕ, suc, ◌+◌, ◌-◌, ◌*◌, ◌≤◌, ◌<◌}
use native.Mathlib.Omega.{arith}
use lib.Dec.{leb, ltb}
use lib.ListN.{length, take, drop, get_or, set, length-drop, length-set, get_or-append}
use lib.Seq.{length-take-le, get_or-take, get_or-set_same, get_or-set_other, drop-set-lt}
use Rattle.signature.specs.Limits.{booking_limit, constructor_limit, kind_limit}
use Rattle.signature.specs.Lists.{require}
use Rattle.booking.specs.Walk.{View, open_limit, next, rest, opened, step_by, laid}
use Rattle.stepping.specs.State.{number_at, read_at, open_at, heads_at, rows_at, values_at, state_words, signature_limit, number_in, read_in, opened_in, open_in, row_in, state_view, step_in, moved}
use Rattle.signature.proofs.Booleans.{and_right}
use Rattle.signature.proofs.Tests.{bind_some, require_some, some_inj, le_of}
use Rattle.booking.proofs.Laid.{length_laid, drop_laid, opened_short, rest_shorter}

-- one word more opens one value at most
step_short : (v : View) (i w : ℕ) (os qs : List ℕ) → step_by v i os w ≡ some qs → length qs ≤ length os + 2
step_short v i w os qs e =
    let (x, a, b) = bind_some (next v.rows i os) _ qs e in
    let (u, c, d) = bind_some (require (leb 1 x.1 && v.head x.0 w)) _ qs b in
    let f : length (opened (v.place w) (v.count w) (x.1 - 1) (rest i os)) ≡ length qs = ap length (some_inj _ qs d) in
    omega (arith, opened_short (v.place w) (v.count w) (x.1 - 1) (rest i os), rest_shorter i os)

-- as many words are open as the state says
pub open_length : (st : List ℕ) → length st ≡ state_words → opened_in st ≤ open_limit → length (open_in st) ≡ opened_in st
open_length st l m = omega (arith, length-drop (state_words - opened_in st) st)

-- what is open after a step fits in the state
pub step_fits : (ss st os : List ℕ) (w : ℕ) → length st ≡ state_words → step_in ss st w ≡ some os → length os ≤ open_limit
step_fits ss st os w l e =
    let (u, a, b) = bind_some (require (leb (length ss) signature_limit && (ltb (read_in st) booking_limit && leb (opened_in st + 2) open_limit))) _ os e in
    let c = and_right (ltb (read_in st) booking_limit) _ (and_right (leb (length ss) signature_limit) _ (require_some _ u a)) in
    let m : opened_in st + 2 ≤ open_limit = le_of (opened_in st + 2) open_limit c in
    omega (arith, step_short (state_view ss st) (read_in st) w (open_in st) os b, open_length st l (omega arith))

-- the state with what is open then
module _ (st os : List ℕ) (l : length st ≡ state_words) (m : length os ≤ open_limit) where
  -- the words in front of the open values stay where these are laid
  front_laid : (i : ℕ) → i < values_at → get_or (laid st os) i 0 ≡ get_or st i 0
  front_laid i h =
      let e : length (take (length st - length os) st) ≡ length st - length os = length-take-le (length st - length os) st (omega arith) in
      get_or-append (take (length st - length os) st) os 0 i (omega arith) ∙ get_or-take (length st - length os) st i 0 (omega arith)

  -- the open values laid
  laid_long : length (laid st os) ≡ state_words
  laid_long = length_laid st os (omega arith) ∙ l

  -- and the words counted
  counted_long : length (set (laid st os) read_at (suc (read_in st))) ≡ state_words
  counted_long = length-set (laid st os) read_at (suc (read_in st)) ∙ laid_long

  -- the state keeps its length
  pub moved_long : length (moved st (some os)) ≡ state_words
  moved_long = length-set (set (laid st os) read_at (suc (read_in st))) open_at (length os) ∙ counted_long

  -- of the words in front, only the two counts change
  pub moved_same : (i : ℕ) → i < values_at → (i ≡ read_at → ⊥) → (i ≡ open_at → ⊥) → get_or (moved st (some os)) i 0 ≡ get_or st i 0
  moved_same i h p q = get_or-set_other (set (laid st os) read_at (suc (read_in st))) open_at i (length os) 0 q ∙ get_or-set_other (laid st os) read_at i (suc (read_in st)) 0 p ∙ front_laid i h

  -- the refusal stays
  pub moved_number : number_in (moved st (some os)) ≡ number_in st
  moved_number = moved_same number_at (omega arith) (λ e. omega arith) (λ e. omega arith)

  -- the words of the heads stay
  pub moved_head : (j : ℕ) → j < 2 * kind_limit → get_or (moved st (some os)) (heads_at + j) 0 ≡ get_or st (heads_at + j) 0
  moved_head j h = moved_same (heads_at + j) (omega arith) (λ e. omega arith) (λ e. omega arith)

  -- and those of the rows
  pub moved_row : (c : ℕ) → c < constructor_limit → row_in (moved st (some os)) c ≡ row_in st c
  moved_row c h = moved_same (rows_at + c) (omega arith) (λ e. omega arith) (λ e. omega arith)

  -- one word more was read
  pub moved_read : read_in (moved st (some os)) ≡ suc (read_in st)
  moved_read = get_or-set_other (set (laid st os) read_at (suc (read_in st))) open_at read_at (length os) 0 (λ e. omega arith) ∙ get_or-set_same (laid st os) read_at (suc (read_in st)) 0 (omega (arith, laid_long))

  -- so many words are open
  pub moved_opened : opened_in (moved st (some os)) ≡ length os
  moved_opened = get_or-set_same (set (laid st os) read_at (suc (read_in st))) open_at (length os) 0 (omega (arith, counted_long))

  -- and these are the words
  pub moved_open : open_in (moved st (some os)) ≡ os
  moved_open =
      ap (λ n. drop (state_words - n) (moved st (some os))) moved_opened
      ∙ drop-set-lt (state_words - length os) (set (laid st os) read_at (suc (read_in st))) open_at (length os) (omega arith)
      ∙ drop-set-lt (state_words - length os) (laid st os) read_at (suc (read_in st)) (omega arith)
      ∙ drop_laid st os (state_words - length os) (omega arith)

-- a step that goes on tells no refusal that was not there
pub number_kept : (ss st os : List ℕ) (w : ℕ) → length st ≡ state_words → step_in ss st w ≡ some os → number_in (moved st (some os)) ≡ number_in st
number_kept ss st os w l e = moved_number st os l (step_fits ss st os w l e)
