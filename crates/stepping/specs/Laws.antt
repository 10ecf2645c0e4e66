-- 02, job 2: the claims about the stepped check. The function `laws` promises them.
use Rattle.std.specs.Prelude.{◌↔◌, ◌⊎◌, ◌≡◌, List, ◌++◌, ℕ, ◌+◌, ◌*◌, ◌≤◌, length}
use Rattle.std.proofs.Math.Option.{none}
use Rattle.signature.specs.Part.{part_call}
use Rattle.signature.specs.Read.{read_signature}
use Rattle.stepping.specs.State.{state_words, read_in, begin_state, step_state, steps, refusal_in, end_number}

pub record Laws : Type 0 where
  -- "Stepped once through any slice, it ends in the number that the check gives today": that of the part at place 0, which is 1, 13 or 0
  pub ends : (ss ws : List ℕ) → end_number (steps ss (begin_state ss) ws) ≡ (part_call ss ws 0).0
  -- "the state so far (at most 2,048 bytes)", and a step keeps its length
  pub small : 2 * state_words ≤ 2048
  pub begin_long : (ss : List ℕ) → length (begin_state ss) ≡ state_words
  pub step_long : (ss st : List ℕ) (w : ℕ) → length st ≡ state_words → length (step_state ss st w) ≡ state_words
  -- 1 is said at once, and of an unlawful signature alone
  pub unlawful : (ss : List ℕ) → ((refusal_in (begin_state ss) ≡ 1) ↔ (read_signature ss ≡ none))
  -- no later word mends a refusal, of any state
  pub stays : (ss st ws : List ℕ) → (refusal_in st ≡ 0 → ⊥) → (refusal_in (steps ss st ws) ≡ refusal_in st) × (end_number (steps ss st ws) ≡ refusal_in st)
  -- and 13 is said only where the check gives 13 whatever follows
  pub gone_wrong : (ss ws us : List ℕ) → refusal_in (steps ss (begin_state ss) ws) ≡ 13 → (part_call ss (ws ++ us) 0).0 ≡ 13
  -- the words that were read are counted, and that with which a booking goes wrong is not: the count is its place
  pub counts : (ss st ws : List ℕ) → length st ≡ state_words → refusal_in (steps ss st ws) ≡ 0 → read_in (steps ss st ws) ≡ read_in st + length ws
  pub uncounted : (ss st : List ℕ) (w : ℕ) → length st ≡ state_words → (refusal_in (step_state ss st w) ≡ 0 → ⊥) → read_in (step_state ss st w) ≡ read_in st
  -- no other number is given, whatever the state
  pub numbers : (st : List ℕ) → (end_number st ≡ 0) ⊎ (end_number st ≡ 1) ⊎ (end_number st ≡ 13)
