-- What Case T says of runs, and ways in which a tree is broken. The function `cases` promises them.
use Rattle.std.specs.Prelude.{◌≡◌, List, [], ◌∷◌, ◌++◌, true, ℕ, set}
use Rattle.std.proofs.Math.Option.{none, some}
use Rattle.signature.specs.Cases.{T, words_T, L}
use Rattle.signature.specs.Lists.{count_up}
use Rattle.signature.specs.Signature.{Signature, levels}
use Rattle.pattern.specs.Places.{unbound}
use Rattle.tree.specs.Answer.{no_rule}
use Rattle.tree.specs.Run.{run_words, nodes_words}
use Rattle.tree.specs.RunCall.{refusal, run_signature}
use Rattle.tree.specs.Tree.{Line, split, skip, hit, tnil, tcons, compile}
use Rattle.tree.specs.Words.{layout}
use Rattle.row.specs.Row.{rcons, rnil, free}
use Rattle.signature.specs.Read.{read_signature}

-- T's tree. 02, job 3: "Case T's tree .. change with it": its default leaves are 0 1
abbrev pub tree_T : List ℕ
tree_T = 2 ∷ 0 ∷ 1 ∷ 4 ∷ 2 ∷ 1 ∷ 3 ∷ 10 ∷ 17 ∷ 28 ∷ 3 ∷ 1 ∷ 7 ∷ 40 ∷ 1 ∷ 0 ∷ 2 ∷ 2 ∷ 4 ∷ 2 ∷ 22 ∷ 24 ∷ 0 ∷ 1 ∷ 1 ∷ 9 ∷ 41 ∷ 0 ∷ 2 ∷ 4 ∷ 2 ∷ 33 ∷ 35 ∷ 0 ∷ 1 ∷ 1 ∷ 9 ∷ 41 ∷ 0 ∷ []

-- a tree over the bookings of L: rule 7 at the levels to 50, else plan 5
abbrev pub tree_L : List ℕ
tree_L = 2 ∷ 0 ∷ 1 ∷ 4 ∷ 3 ∷ 4 ∷ 2 ∷ 50 ∷ 100 ∷ 11 ∷ 15 ∷ 1 ∷ 7 ∷ 40 ∷ 0 ∷ 0 ∷ 5 ∷ []

-- a booking is a level by itself
abbrev pub N : Signature
N = record { kind = 0; args = []; number = true } ∷ []

-- a rule's row over such bookings: one place, at which these levels are allowed
abbrev pub level_line : ℕ → ℕ → List ℕ → Line
level_line r p cs = record { rule = r; plan = p; binds = []; cells = rcons (free [] cs) rnil }

pub record Cases : Type 0 where
  -- "0 1 5: rule 7, plan 40, variable 0 at 2. 0 2 5: rule 9, plan 41. 0 3 4: default."
  pub runs_7 : run_signature (read_signature words_T) tree_T (0 ∷ 1 ∷ 5 ∷ []) ≡ (0, record { rule = 7; plan = 40; places = set unbound 0 2 })
  pub runs_9 : run_signature (read_signature words_T) tree_T (0 ∷ 2 ∷ 5 ∷ []) ≡ (0, record { rule = 9; plan = 41; places = unbound })
  pub runs_default : run_signature (read_signature words_T) tree_T (0 ∷ 3 ∷ 4 ∷ []) ≡ (0, no_rule 1)
  -- the nodes of the first: two tests, a skip and the leaf
  pub nodes_7 : nodes_words T tree_T (0 ∷ 1 ∷ 5 ∷ []) ≡ some (0 ∷ 4 ∷ 10 ∷ 11 ∷ [])
  -- 1 before 13 before 15; an empty tree is broken
  pub unlawful_signature : run_signature (read_signature []) [] [] ≡ refusal 1
  pub unlawful_booking : run_signature (read_signature words_T) [] (0 ∷ 1 ∷ []) ≡ refusal 13
  pub no_node : run_signature (read_signature words_T) [] (0 ∷ 1 ∷ 5 ∷ []) ≡ refusal 15
  -- a default leaf answers with its plan, with booking left too, whatever stands behind it; a hit leaf is broken then
  pub default_early : run_words T (0 ∷ 9 ∷ 7 ∷ []) (0 ∷ 1 ∷ 5 ∷ []) ≡ some (no_rule 9)
  pub default_last : run_words T (3 ∷ 0 ∷ 9 ∷ []) (0 ∷ 1 ∷ 5 ∷ []) ≡ some (no_rule 9)
  -- its plan outside the slice
  pub default_cut : run_signature (read_signature words_T) (0 ∷ []) (0 ∷ 1 ∷ 5 ∷ []) ≡ refusal 15
  pub hit_left : run_words T (1 ∷ 7 ∷ 40 ∷ 0 ∷ []) (0 ∷ 1 ∷ 5 ∷ []) ≡ none
  -- a skip takes the whole booking, and a second one finds none left
  pub skip_one : run_words T (3 ∷ 1 ∷ 7 ∷ 40 ∷ 0 ∷ []) (0 ∷ 1 ∷ 5 ∷ []) ≡ some (record { rule = 7; plan = 40; places = unbound })
  pub skip_two : run_words T (3 ∷ 3 ∷ 1 ∷ 7 ∷ 40 ∷ 0 ∷ []) (0 ∷ 1 ∷ 5 ∷ []) ≡ none
  -- another first word; rule 0 and rule 1,000; a visit not made; variables that do not rise
  pub other_word : run_words T (5 ∷ []) (0 ∷ 1 ∷ 5 ∷ []) ≡ none
  pub rule_0 : run_words T (3 ∷ 1 ∷ 0 ∷ 40 ∷ 0 ∷ []) (0 ∷ 1 ∷ 5 ∷ []) ≡ none
  pub rule_1000 : run_words T (3 ∷ 1 ∷ 1000 ∷ 40 ∷ 0 ∷ []) (0 ∷ 1 ∷ 5 ∷ []) ≡ none
  pub visit_made : run_words T (3 ∷ 1 ∷ 7 ∷ 40 ∷ 1 ∷ 15 ∷ 0 ∷ []) (0 ∷ 1 ∷ 5 ∷ []) ≡ some (record { rule = 7; plan = 40; places = set unbound 15 0 })
  pub visit_not_made : run_words T (3 ∷ 1 ∷ 7 ∷ 40 ∷ 1 ∷ 15 ∷ 1 ∷ []) (0 ∷ 1 ∷ 5 ∷ []) ≡ none
  pub variable_16 : run_words T (3 ∷ 1 ∷ 7 ∷ 40 ∷ 1 ∷ 16 ∷ 0 ∷ []) (0 ∷ 1 ∷ 5 ∷ []) ≡ none
  pub not_rising : run_words T (3 ∷ 1 ∷ 7 ∷ 40 ∷ 2 ∷ 3 ∷ 0 ∷ 3 ∷ 0 ∷ []) (0 ∷ 1 ∷ 5 ∷ []) ≡ none
  -- a wrong first constructor, a wrong count, a link at its own node; a link above it is followed, wherever it points
  pub wrong_kind : run_words T (2 ∷ 1 ∷ 1 ∷ 4 ∷ 0 ∷ 5 ∷ []) (0 ∷ 1 ∷ 5 ∷ []) ≡ none
  pub wrong_count : run_words T (2 ∷ 0 ∷ 2 ∷ 5 ∷ 5 ∷ 0 ∷ 5 ∷ []) (0 ∷ 1 ∷ 5 ∷ []) ≡ none
  pub link_not_above : run_words T (2 ∷ 0 ∷ 1 ∷ 0 ∷ []) (0 ∷ 1 ∷ 5 ∷ []) ≡ none
  pub link_above : run_words T (2 ∷ 0 ∷ 1 ∷ 1 ∷ []) (0 ∷ 1 ∷ 5 ∷ []) ≡ some (no_rule 1)
  -- 02, job 1: a split, at both sides of an end, and at the first and the last level
  pub level_50 : run_words L tree_L (0 ∷ 1 ∷ 1050 ∷ []) ≡ some (record { rule = 7; plan = 40; places = unbound })
  pub level_51 : run_words L tree_L (0 ∷ 1 ∷ 1051 ∷ []) ≡ some (no_rule 5)
  pub level_0 : run_words L tree_L (0 ∷ 2 ∷ 1000 ∷ []) ≡ some (record { rule = 7; plan = 40; places = unbound })
  pub level_100 : run_words L tree_L (0 ∷ 2 ∷ 1100 ∷ []) ≡ some (no_rule 5)
  pub nodes_51 : nodes_words L tree_L (0 ∷ 1 ∷ 1051 ∷ []) ≡ some (0 ∷ 4 ∷ 5 ∷ 15 ∷ [])
  -- one end is enough; none is not; a node 4 at a constructor and a node 2 at a level are broken
  pub one_end : run_words N (4 ∷ 1 ∷ 100 ∷ 4 ∷ 0 ∷ 5 ∷ []) (1037 ∷ []) ≡ some (no_rule 5)
  pub no_end : run_words N (4 ∷ 0 ∷ 100 ∷ 4 ∷ 0 ∷ 5 ∷ []) (1037 ∷ []) ≡ none
  pub split_at_constructor : run_words L (4 ∷ 1 ∷ 100 ∷ 4 ∷ 0 ∷ 5 ∷ []) (0 ∷ 1 ∷ 1037 ∷ []) ≡ none
  pub test_at_level : run_words N (2 ∷ 0 ∷ 1 ∷ 4 ∷ 0 ∷ 5 ∷ []) (1037 ∷ []) ≡ none
  pub test_of_levels : run_words N (2 ∷ 1000 ∷ 101 ∷ 3 ∷ 3 ∷ []) (1000 ∷ []) ≡ none
  -- ends that do not rise, that fall, that do not end in 100, that reach beyond the slice
  pub ends_not_rising : run_words N (4 ∷ 2 ∷ 100 ∷ 100 ∷ 6 ∷ 6 ∷ 0 ∷ 5 ∷ []) (1037 ∷ []) ≡ none
  pub ends_falling : run_words N (4 ∷ 2 ∷ 100 ∷ 50 ∷ 6 ∷ 6 ∷ 0 ∷ 5 ∷ []) (1037 ∷ []) ≡ none
  pub ends_below_100 : run_words N (4 ∷ 1 ∷ 99 ∷ 4 ∷ 0 ∷ 5 ∷ []) (1037 ∷ []) ≡ none
  pub ends_above_100 : run_words N (4 ∷ 1 ∷ 101 ∷ 4 ∷ 0 ∷ 5 ∷ []) (1037 ∷ []) ≡ none
  pub ends_outside : run_words N (4 ∷ 3 ∷ 50 ∷ 100 ∷ []) (1037 ∷ []) ≡ none
  -- a followed link at its own node; a link that is not followed may lie outside the slice
  pub split_not_above : run_words N (4 ∷ 1 ∷ 100 ∷ 0 ∷ []) (1037 ∷ []) ≡ none
  pub link_inside : run_words N (4 ∷ 2 ∷ 0 ∷ 100 ∷ 2 ∷ []) (1000 ∷ []) ≡ some (no_rule 100)
  pub link_outside : run_words N (4 ∷ 2 ∷ 0 ∷ 100 ∷ 2 ∷ []) (1001 ∷ []) ≡ none
  -- 02, job 3: "The default leaf becomes 0, plan"
  pub no_lines : layout (compile 5 9 T (0 ∷ []) [] 0) 0 ≡ 0 ∷ 5 ∷ []
  -- both edges of a range and of its complement are ends, and a row that refines nothing adds none; by itself it is skipped
  pub range_and_rest : compile 0 9 N (0 ∷ []) (level_line 7 40 (count_up 1020 41) ∷ level_line 9 41 (count_up 1000 20 ++ count_up 1061 40) ∷ []) 0 ≡ split (19 ∷ 60 ∷ 100 ∷ []) (tcons (hit 9 41 []) (tcons (hit 7 40 []) (tcons (hit 9 41 []) tnil)))
  pub range_and_all : compile 0 9 N (0 ∷ []) (level_line 7 40 (count_up 1000 51) ∷ level_line 9 41 levels ∷ []) 0 ≡ split (50 ∷ 100 ∷ []) (tcons (hit 7 40 []) (tcons (hit 9 41 []) tnil))
  pub all_alone : compile 0 9 N (0 ∷ []) (level_line 9 41 levels ∷ []) 0 ≡ skip (hit 9 41 [])
  pub split_words : layout (split (50 ∷ 100 ∷ []) (tcons (hit 7 40 []) (tcons (hit 9 41 []) tnil))) 0 ≡ 4 ∷ 2 ∷ 50 ∷ 100 ∷ 6 ∷ 10 ∷ 1 ∷ 7 ∷ 40 ∷ 0 ∷ 1 ∷ 9 ∷ 41 ∷ 0 ∷ []
