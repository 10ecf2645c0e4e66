-- Case T's signature and bookings, and a few unlawful ones. The function `cases` promises them.
use Rattle.std.specs.Prelude.{◌≡◌, List, [], ◌∷◌, true, false, ℕ}
use Rattle.std.proofs.Math.Option.{none, some}
use Rattle.signature.specs.Part.{part_call}
use Rattle.signature.specs.Read.{read_signature, read_booking}
use Rattle.signature.specs.Signature.{Signature, heads}
use Rattle.signature.specs.Value.{con, vnil, vcons}

-- "Signature 6 0 2 1 2 1 0 1 0 1 0 2 0 2 0"
abbrev pub words_T : List ℕ
words_T = 6 ∷ 0 ∷ 2 ∷ 1 ∷ 2 ∷ 1 ∷ 0 ∷ 1 ∷ 0 ∷ 1 ∷ 0 ∷ 2 ∷ 0 ∷ 2 ∷ 0 ∷ []

abbrev pub T : Signature
T = record { kind = 0; args = 1 ∷ 2 ∷ []; number = false } ∷ record { kind = 1; args = []; number = false } ∷ record { kind = 1; args = []; number = false } ∷ record { kind = 1; args = []; number = false } ∷ record { kind = 2; args = []; number = false } ∷ record { kind = 2; args = []; number = false } ∷ []

-- 02, job 1: a booking is a bus and its state of charge; constructor 0 has the kinds 1 and 2, of which 2 is a number kind
abbrev pub words_L : List ℕ
words_L = 4 ∷ 0 ∷ 2 ∷ 1 ∷ 2 ∷ 1 ∷ 0 ∷ 1 ∷ 0 ∷ 2 ∷ 5 ∷ []

abbrev pub L : Signature
L = record { kind = 0; args = 1 ∷ 2 ∷ []; number = false } ∷ record { kind = 1; args = []; number = false } ∷ record { kind = 1; args = []; number = false } ∷ record { kind = 2; args = []; number = true } ∷ []

pub record Cases : Type 0 where
  pub signature_T : read_signature words_T ≡ some T
  pub heads_T : heads T 1 ≡ 1 ∷ 2 ∷ 3 ∷ []
  pub booking_T : read_booking T (0 ∷ 1 ∷ 5 ∷ []) ≡ some (con 0 (vcons (con 1 vnil) (vcons (con 5 vnil) vnil)))
  pub part_T : part_call words_T (0 ∷ 1 ∷ 5 ∷ []) 2 ≡ (0, 5 ∷ [])
  pub part_whole : part_call words_T (0 ∷ 1 ∷ 5 ∷ []) 0 ≡ (0, 0 ∷ 1 ∷ 5 ∷ [])
  pub part_beyond : part_call words_T (0 ∷ 1 ∷ 5 ∷ []) 3 ≡ (16, [])
  -- the first refusal that applies: 1 before 13 before 16
  pub part_cut_short : part_call words_T (0 ∷ 1 ∷ []) 9 ≡ (13, [])
  pub part_unsigned : part_call [] [] 9 ≡ (1, [])
  -- words left over, another kind, no constructor
  pub left_over : read_booking T (0 ∷ 1 ∷ 5 ∷ 5 ∷ []) ≡ none
  pub other_kind : read_booking T (0 ∷ 5 ∷ 1 ∷ []) ≡ none
  pub no_constructor : read_booking T (6 ∷ []) ≡ none
  -- no constructor; a kind that does not exist; a kind whose only constructor needs the kind itself
  pub count_0 : read_signature (0 ∷ []) ≡ none
  pub no_kind : read_signature (1 ∷ 0 ∷ 1 ∷ 1 ∷ []) ≡ none
  pub no_value : read_signature (1 ∷ 0 ∷ 1 ∷ 0 ∷ []) ≡ none
  -- 02, job 1: levels. 1,037 is level 37; the number row's constructor number, 3, and a level at another kind are unlawful, and so is 1,101
  pub signature_L : read_signature words_L ≡ some L
  pub booking_L : read_booking L (0 ∷ 1 ∷ 1037 ∷ []) ≡ some (con 0 (vcons (con 1 vnil) (vcons (con 1037 vnil) vnil)))
  pub number_row : read_booking L (0 ∷ 1 ∷ 3 ∷ []) ≡ none
  pub level_elsewhere : read_booking L (0 ∷ 1037 ∷ 1037 ∷ []) ≡ none
  pub above_levels : read_booking L (0 ∷ 1 ∷ 1101 ∷ []) ≡ none
  -- kind 0 may be a number kind; its row is the only one of its kind; an argument count of 6 is unlawful
  pub kind_0_levels : read_booking (record { kind = 0; args = []; number = true } ∷ []) (1100 ∷ []) ≡ some (con 1100 vnil)
  pub number_and_other : read_signature (2 ∷ 0 ∷ 5 ∷ 0 ∷ 0 ∷ []) ≡ none
  pub two_numbers : read_signature (2 ∷ 0 ∷ 5 ∷ 0 ∷ 5 ∷ []) ≡ none
  pub six_arguments : read_signature (1 ∷ 0 ∷ 6 ∷ []) ≡ none
