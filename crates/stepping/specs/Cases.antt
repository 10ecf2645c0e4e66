-- 02, job 2: bookings stepped word by word. The function `cases` promises them.
use Rattle.std.specs.Prelude.{◌≡◌, List, [], ◌∷◌, ℕ, replicate}
use Rattle.signature.specs.Cases.{words_T, words_L}
use Rattle.booking.specs.Walk.{open_word}
use Rattle.stepping.specs.State.{state_words, read_in, open_in, begin_state, step_state, steps, refusal_in, end_number}

abbrev pub stepped : List ℕ → List ℕ → List ℕ
stepped ss ws = steps ss (begin_state ss) ws

pub record Cases : Type 0 where
  -- 0 1 5 under T: the row of 0 begins at index 1, so that the kinds of its two arguments stand at 3 and 4; they may be nested 255 deep
  pub open_0 : open_in (stepped words_T (0 ∷ [])) ≡ 3 ∷ open_word 2 255 ∷ []
  pub open_1 : open_in (stepped words_T (0 ∷ 1 ∷ [])) ≡ 4 ∷ open_word 1 255 ∷ []
  pub open_5 : open_in (stepped words_T (0 ∷ 1 ∷ 5 ∷ [])) ≡ []
  pub no_words : end_number (stepped words_T []) ≡ 13
  pub cut_short : end_number (stepped words_T (0 ∷ 1 ∷ [])) ≡ 13
  pub whole : end_number (stepped words_T (0 ∷ 1 ∷ 5 ∷ [])) ≡ 0
  -- "a word after the end"; a word of another kind, after which two words were read and no later word mends it
  pub left_over : refusal_in (stepped words_T (0 ∷ 1 ∷ 5 ∷ 5 ∷ [])) ≡ 13
  pub wrong_at : read_in (stepped words_T (0 ∷ 1 ∷ 1 ∷ 5 ∷ [])) ≡ 2
  pub wrong : end_number (stepped words_T (0 ∷ 1 ∷ 1 ∷ 5 ∷ [])) ≡ 13
  -- levels, and the number row's own number
  pub level : end_number (stepped words_L (0 ∷ 1 ∷ 1037 ∷ [])) ≡ 0
  pub number_row : end_number (stepped words_L (0 ∷ 1 ∷ 3 ∷ [])) ≡ 13
  -- an unlawful signature
  pub unlawful : end_number (stepped [] (0 ∷ 1 ∷ 5 ∷ [])) ≡ 1
  -- a state that was begun under another signature, and one that was never begun
  pub other_signature : refusal_in (steps words_L (begin_state words_T) (0 ∷ 1 ∷ 5 ∷ [])) ≡ 13
  pub never_begun : refusal_in (step_state words_T (replicate state_words 0) 0) ≡ 13
