-- What the passes of begin leave in the words of a state.
use Rattle.std.specs.Prelude.{◌⊎◌, ◌≡◌, List, ℕ, ◌+◌, ◌*◌, ◌≤◌, ◌<◌, length, get_or}
use Rattle.std.proofs.Math.Option.{some}
use Rattle.signature.specs.Read.{count_kinds}
use Rattle.signature.specs.Signature.{Signature}
use Rattle.stepping.specs.State.{heads_at, rows_at, head_word, row_word}

-- the heads of each kind are noted, and all other words stay
pub record HeadsNoted (sig : Signature) (st st' : List ℕ) : Type 0 where
  pub n : ℕ
  pub kinds_are : count_kinds sig ≡ some n
  pub long : length st' ≡ length st
  pub noted : (j : ℕ) → j < 2 * n → get_or st' (heads_at + j) 0 ≡ head_word sig j
  pub other : (i : ℕ) → (i < heads_at) ⊎ (heads_at + 2 * n ≤ i) → get_or st' i 0 ≡ get_or st i 0

-- where each row begins is noted, and all other words stay
pub record RowsNoted (sig : Signature) (st st' : List ℕ) : Type 0 where
  pub long : length st' ≡ length st
  pub noted : (c : ℕ) → c < length sig → get_or st' (rows_at + c) 0 ≡ row_word sig c
  pub other : (i : ℕ) → (i < rows_at) ⊎ (rows_at + length sig ≤ i) → get_or st' i 0 ≡ get_or st i 0
