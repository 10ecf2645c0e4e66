-- What Case T and "Where a reader of the paper slips" say of rows and of refusals 7 to 10, and ranges. The function `cases` promises them.
use Rattle.std.specs.Prelude.{◌≡◌, [], ◌∷◌, ◌++◌, true, false}
use Rattle.signature.specs.Cases.{T, L}
use Rattle.pattern.specs.Cases.{ors_words}
use Rattle.pattern.specs.Pattern.{head, wild, neg, var, range, pnil, pcons}
use Rattle.row.specs.Admitted.{refusal_of_pattern}
use Rattle.row.specs.Overlap.{overlap, shares}
use Rattle.row.specs.Row.{rows_plus, open_row, named, free, rnil, rcons}

pub record Cases : Type 0 where
  -- "Calling two exclusions overlapping when together they exclude the whole kind": kind 2 has the constructors 4 and 5
  pub covered : overlap T 2 (neg (head 4 pnil)) (neg (head 5 pnil)) ≡ false
  pub not_covered : overlap T 1 (neg (head 1 pnil)) (neg (head 2 pnil)) ≡ true
  -- the only constructor of its kind named, and excluded
  pub only_named : rows_plus T 0 (head 0 (pcons wild (pcons wild pnil))) ≡ named [] 0 (rcons (free [] (1 ∷ 2 ∷ 3 ∷ [])) (rcons (free [] (4 ∷ 5 ∷ [])) rnil)) ∷ []
  pub only_excluded : rows_plus T 0 (neg (head 0 (pcons wild (pcons wild pnil)))) ≡ []
  -- variables on the dead side leave no trace; 260 260 261 keeps its variable
  pub dead_variable : rows_plus T 1 (neg (var 0)) ≡ []
  pub not_not_variable : rows_plus T 2 (neg (neg (var 0))) ≡ free (0 ∷ []) (4 ∷ 5 ∷ []) ∷ []
  -- rules 7 and 9 share no booking; 0 258 4 shares one with rule 7 and none with rule 9
  pub apart_7_9 : shares T (0 ∷ 1 ∷ 261 ∷ []) (0 ∷ 260 ∷ 1 ∷ 5 ∷ []) ≡ false
  pub shares_7 : shares T (0 ∷ 258 ∷ 4 ∷ []) (0 ∷ 1 ∷ 261 ∷ []) ≡ true
  pub shares_not_9 : shares T (0 ∷ 258 ∷ 4 ∷ []) (0 ∷ 260 ∷ 1 ∷ 5 ∷ []) ≡ false
  -- "Letting the left of an "or" win and so admitting 257 261 261"; refused also where no booking gets there
  pub or_twice : refusal_of_pattern T (257 ∷ 261 ∷ 261 ∷ []) ≡ 10
  pub unreached : refusal_of_pattern T (256 ∷ 259 ∷ 257 ∷ 261 ∷ 261 ∷ []) ≡ 10
  -- "260 260 261 takes all .. 260 261 takes none; .. 256 261 261 and 257 261 258: 8; 260 0 261 258 admitted; 260 0 260 261 258: 8"
  pub not_not : refusal_of_pattern T (260 ∷ 260 ∷ 261 ∷ []) ≡ 0
  pub not_variable : refusal_of_pattern T (260 ∷ 261 ∷ []) ≡ 0
  pub and_twice : refusal_of_pattern T (256 ∷ 261 ∷ 261 ∷ []) ≡ 8
  pub or_unequal : refusal_of_pattern T (257 ∷ 261 ∷ 258 ∷ []) ≡ 8
  pub not_con : refusal_of_pattern T (260 ∷ 0 ∷ 261 ∷ 258 ∷ []) ≡ 0
  pub not_con_not : refusal_of_pattern T (260 ∷ 0 ∷ 260 ∷ 261 ∷ 258 ∷ []) ≡ 8
  -- "weight 64, admitted; of 5 and 13: 65, refused"
  pub weight_64 : refusal_of_pattern T (256 ∷ (ors_words 7 ++ ors_words 7)) ≡ 0
  pub weight_65 : refusal_of_pattern T (256 ∷ (ors_words 4 ++ ors_words 12)) ≡ 9
  -- the first that applies: 7 before 8 before 9
  pub malformed : refusal_of_pattern T (256 ∷ 261 ∷ []) ≡ 7
  pub heavy_and_unequal : refusal_of_pattern T (257 ∷ 261 ∷ 256 ∷ (ors_words 7 ++ ors_words 8)) ≡ 8
  -- 02, job 1: rows of ranges, at the number kind 2 of L. "Not" of a range is the complement, in two stretches if need be; all 101 levels refine nothing, and without them there is no row
  pub range_row : rows_plus L 2 (range 20 22) ≡ free [] (1020 ∷ 1021 ∷ 1022 ∷ []) ∷ []
  pub not_range_row : rows_plus L 2 (neg (range 2 98)) ≡ free [] (1000 ∷ 1001 ∷ 1099 ∷ 1100 ∷ []) ∷ []
  pub all_levels : rows_plus L 2 (range 0 100) ≡ open_row L 2 ∷ []
  pub no_levels : rows_plus L 2 (neg (range 0 100)) ≡ []
  -- ranges that meet in one level, and ranges that do not
  pub ranges_meet : overlap L 2 (range 0 50) (range 50 100) ≡ true
  pub ranges_apart : overlap L 2 (range 0 49) (range 50 100) ≡ false
  pub range_and_not : overlap L 2 (range 20 80) (neg (range 20 80)) ≡ false
  -- an "or" of ranges with a variable beside each: admitted; with the level 5 in common ambiguous
  pub or_ranges : refusal_of_pattern L (0 ∷ 258 ∷ 257 ∷ 256 ∷ 261 ∷ 280 ∷ 0 ∷ 5 ∷ 256 ∷ 261 ∷ 280 ∷ 6 ∷ 9 ∷ []) ≡ 0
  pub or_ranges_meet : refusal_of_pattern L (0 ∷ 258 ∷ 257 ∷ 256 ∷ 261 ∷ 280 ∷ 0 ∷ 5 ∷ 256 ∷ 261 ∷ 280 ∷ 5 ∷ 9 ∷ []) ≡ 10
  -- 18 "stands directly after 7": before 8, and 7 is decided over the whole pattern first
  pub wrong_range : refusal_of_pattern L (0 ∷ 258 ∷ 260 ∷ 280 ∷ 6 ∷ 5 ∷ []) ≡ 18
  pub wrong_and_twice : refusal_of_pattern L (256 ∷ 261 ∷ 256 ∷ 261 ∷ 0 ∷ 258 ∷ 280 ∷ 0 ∷ 101 ∷ []) ≡ 18
  pub wrong_and_left_over : refusal_of_pattern L (0 ∷ 258 ∷ 280 ∷ 6 ∷ 5 ∷ 258 ∷ []) ≡ 7
