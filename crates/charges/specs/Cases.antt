-- 02, job 6, on Case T: open charges answered again, and lists that are refused. The function `cases` promises them.
use Rattle.std.specs.Prelude.{◌≡◌, List, [], ◌∷◌, ◌++◌, ℕ, replicate, set, take}
use Rattle.signature.specs.Cases.{words_T}
use Rattle.signature.specs.Read.{read_signature}
use Rattle.tree.specs.Cases.{tree_T}
use Rattle.charges.specs.Charge.{Charge, list_words}
use Rattle.charges.specs.Replan.{Outcome, refused, replan_signature}

abbrev pub charge : ℕ → ℕ → List ℕ → Charge
charge r p bs = record { rule = r; plan = p; booking = bs }

-- three buses on the plug: rule 9 came after the second one, and rule 3 was withdrawn
abbrev pub plugged : List ℕ
plugged = list_words (charge 7 40 (0 ∷ 1 ∷ 5 ∷ []) ∷ charge 0 1 (0 ∷ 2 ∷ 5 ∷ []) ∷ charge 3 1 (0 ∷ 3 ∷ 4 ∷ []) ∷ [])

-- a charge that changes, then one that is refused: its booking has no second argument
abbrev pub cut_short : List ℕ
cut_short = list_words (charge 0 1 (0 ∷ 2 ∷ 5 ∷ []) ∷ charge 7 40 (0 ∷ 1 ∷ []) ∷ [])

-- T's tree with rule 0 in the leaf of rule 7: broken for the bookings 0 1 and what follows
abbrev pub broken_T : List ℕ
broken_T = set tree_T 12 0

abbrev pub replan_T : List ℕ → List ℕ → Outcome
replan_T tree before = replan_signature (read_signature words_T) tree before

pub record Cases : Type 0 where
  -- two rules change, one plan does
  pub answered_again : replan_T tree_T plugged ≡ (0, 1, list_words (charge 7 40 (0 ∷ 1 ∷ 5 ∷ []) ∷ charge 9 41 (0 ∷ 2 ∷ 5 ∷ []) ∷ charge 0 1 (0 ∷ 3 ∷ 4 ∷ []) ∷ []))
  -- what the record said before does not matter
  pub any_words : replan_T tree_T (list_words (charge 65535 65535 (0 ∷ 1 ∷ 5 ∷ []) ∷ [])) ≡ (0, 1, list_words (charge 7 40 (0 ∷ 1 ∷ 5 ∷ []) ∷ []))
  -- no charges: the tree is not looked at
  pub no_charges : replan_T [] [] ≡ (0, 0, [])
  -- "One bad record leaves the whole list as it was"
  pub left_as_it_was : replan_T tree_T cut_short ≡ refused 13 cut_short
  -- record by record: 15 of the first before 13 of the second, and the other way round
  pub first_15 : let before : List ℕ = list_words (charge 7 40 (0 ∷ 1 ∷ 5 ∷ []) ∷ charge 7 40 (0 ∷ 1 ∷ []) ∷ []) in replan_T broken_T before ≡ refused 15 before
  pub first_13 : let before : List ℕ = list_words (charge 7 40 (0 ∷ 1 ∷ []) ∷ charge 7 40 (0 ∷ 1 ∷ 5 ∷ []) ∷ []) in replan_T broken_T before ≡ refused 13 before
  -- 1 before 20, and 20 before 13, wherever they stand
  pub first_1 : replan_signature (read_signature []) tree_T (7 ∷ []) ≡ refused 1 (7 ∷ [])
  pub first_20 : let before : List ℕ = cut_short ++ (7 ∷ []) in replan_T tree_T before ≡ refused 20 before
  -- a record less a word, and one with a word more
  pub words_63 : let before : List ℕ = take 63 plugged in replan_T tree_T before ≡ refused 20 before
  pub words_65 : let before : List ℕ = take 65 plugged in replan_T tree_T before ≡ refused 20 before
  -- booking lengths 0 and 62; with 61 words it is the booking that is refused
  pub length_0 : let before : List ℕ = list_words (charge 7 40 [] ∷ []) in replan_T tree_T before ≡ refused 20 before
  pub length_61 : let before : List ℕ = list_words (charge 7 40 (replicate 61 0) ∷ []) in replan_T tree_T before ≡ refused 13 before
  pub length_62 : let before : List ℕ = 7 ∷ (40 ∷ (62 ∷ replicate 61 0)) in replan_T tree_T before ≡ refused 20 before
  -- a word behind the booking
  pub word_behind : let before : List ℕ = set plugged 63 1 in replan_T tree_T before ≡ refused 20 before
  pub word_next : let before : List ℕ = set plugged 6 1 in replan_T tree_T before ≡ refused 20 before
  -- 48 records, and one more
  pub charges_48 : replan_T tree_T (list_words (replicate 48 (charge 7 41 (0 ∷ 1 ∷ 4 ∷ [])))) ≡ (0, 48, list_words (replicate 48 (charge 7 40 (0 ∷ 1 ∷ 4 ∷ []))))
  pub charges_49 : let before : List ℕ = list_words (replicate 49 (charge 7 41 (0 ∷ 1 ∷ 4 ∷ []))) in replan_T tree_T before ≡ refused 20 before
