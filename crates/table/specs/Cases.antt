-- Case T, as far as it computes: the tree, the answers, the refusals, and lists of calls. CaseT has all of it as a single fact.
use Rattle.std.specs.Prelude.{◌≡◌, List, [], ◌∷◌, ◌++◌, ℕ, length, replicate, set, take}
use Rattle.std.proofs.Math.Option.{some}
use Rattle.signature.specs.Cases.{T, words_T, L}
use Rattle.signature.specs.Read.{read_signature}
use Rattle.signature.specs.Value.{Value}
use Rattle.pattern.specs.Cases.{ors_words}
use Rattle.pattern.specs.Places.{unbound}
use Rattle.pattern.specs.Weight.{weight}
use Rattle.tree.specs.Answer.{no_rule}
use Rattle.tree.specs.Cases.{tree_T}
use Rattle.tree.specs.RunCall.{run_signature}
use Rattle.table.specs.Calls.{start, long_table, decide_from}
use Rattle.table.specs.Decide.{direct}
use Rattle.table.specs.Limits.{limits, witness_length, table_length, emptied_default}
use Rattle.table.specs.ListsOfCalls.{ListCall, enter, withdraw, set_default, numbers_reckoned, rules_left, default_left}
use Rattle.table.specs.Matrix.{tree_words}
use Rattle.table.specs.Refusals.{entry_refusal, sharer}
use Rattle.table.specs.Rule.{Rule, default_of, table_words}
use Rattle.table.specs.Sound.{sound}

-- "Rule 7 plan 40: 0 1 261. Rule 9 plan 41: 0 260 1 5."
abbrev pub rules_T : List Rule
rules_T = record { number = 7; plan = 40; pattern = 0 ∷ 1 ∷ 261 ∷ [] } ∷ record { number = 9; plan = 41; pattern = 0 ∷ 260 ∷ 1 ∷ 5 ∷ [] } ∷ []

-- the table of these rules, with the default that emptying sets
abbrev pub table_T : List ℕ
table_T = table_words limits emptied_default rules_T

-- 02, job 1: levels. Rule 7 takes the levels to 50, rule 9 those above for bus 1
abbrev pub rules_L : List Rule
rules_L = record { number = 7; plan = 40; pattern = 0 ∷ 258 ∷ 280 ∷ 0 ∷ 50 ∷ [] } ∷ record { number = 9; plan = 41; pattern = 0 ∷ 1 ∷ 280 ∷ 51 ∷ 100 ∷ [] } ∷ []

-- one rule
abbrev pub sole : List ℕ → List Rule
sole ws = record { number = 1; plan = 2; pattern = ws } ∷ []

-- "And" of two "or"s of wildcards
abbrev pub ors_8_8 : List ℕ
ors_8_8 = 256 ∷ (ors_words 7 ++ ors_words 7)

abbrev pub ors_5_13 : List ℕ
ors_5_13 = 256 ∷ (ors_words 4 ++ ors_words 12)

-- rules 9 and 7 entered in this order, then a rule that shares a booking, a rule with a short witness buffer, a withdrawal of no rule
abbrev pub calls_T : List ListCall
calls_T = enter 9 41 (0 ∷ 260 ∷ 1 ∷ 5 ∷ []) (replicate witness_length 0) ∷ enter 7 40 (0 ∷ 1 ∷ 261 ∷ []) (replicate witness_length 0) ∷ enter 8 1 (0 ∷ 258 ∷ 4 ∷ []) (replicate witness_length 0) ∷ enter 8 1 (259 ∷ []) [] ∷ withdraw 3 ∷ []

pub record Cases : Type 0 where
  pub signature_T : read_signature words_T ≡ some T
  -- T's tree, 39 words
  pub tree : tree_words emptied_default T rules_T ≡ tree_T
  pub tree_length : length tree_T ≡ 39
  -- "0 1 5: rule 7, plan 40, variable 0 at 2. 0 2 5: rule 9, plan 41. 0 3 4: default.": by a run, and directly
  pub runs_7 : run_signature (read_signature words_T) tree_T (0 ∷ 1 ∷ 5 ∷ []) ≡ (0, record { rule = 7; plan = 40; places = set unbound 0 2 })
  pub runs_9 : run_signature (read_signature words_T) tree_T (0 ∷ 2 ∷ 5 ∷ []) ≡ (0, record { rule = 9; plan = 41; places = unbound })
  pub runs_default : run_signature (read_signature words_T) tree_T (0 ∷ 3 ∷ 4 ∷ []) ≡ (0, no_rule emptied_default)
  pub decides_7 : decide_from (default_of table_T) (start limits words_T (long_table limits table_T) table_T) (0 ∷ 1 ∷ 5 ∷ []) ≡ (0, record { rule = 7; plan = 40; places = set unbound 0 2 })
  pub decides_9 : decide_from (default_of table_T) (start limits words_T (long_table limits table_T) table_T) (0 ∷ 2 ∷ 5 ∷ []) ≡ (0, record { rule = 9; plan = 41; places = unbound })
  pub decides_default : decide_from (default_of table_T) (start limits words_T (long_table limits table_T) table_T) (0 ∷ 3 ∷ 4 ∷ []) ≡ (0, no_rule emptied_default)
  -- "Entry of 0 258 4: refusal 12, rule 7"
  pub refused_12 : entry_refusal limits T 8 (0 ∷ 258 ∷ 4 ∷ []) rules_T ≡ 12
  pub shares_7 : sharer T (0 ∷ 258 ∷ 4 ∷ []) rules_T ≡ 7
  -- "Into an empty table: 260 260 261 takes all, variable 0 at 0; 260 261 takes none"
  pub not_not_admitted : entry_refusal limits T 1 (260 ∷ 260 ∷ 261 ∷ []) [] ≡ 0
  pub not_not : (v : Value) → direct emptied_default T (sole (260 ∷ 260 ∷ 261 ∷ [])) v ≡ record { rule = 1; plan = 2; places = set unbound 0 0 }
  pub not_variable_admitted : entry_refusal limits T 1 (260 ∷ 261 ∷ []) [] ≡ 0
  pub not_variable : (v : Value) → direct emptied_default T (sole (260 ∷ 261 ∷ [])) v ≡ no_rule emptied_default
  -- "257 261 261: 10; 256 261 261 and 257 261 258: 8; 260 0 261 258 admitted; 260 0 260 261 258: 8"
  pub or_twice : entry_refusal limits T 1 (257 ∷ 261 ∷ 261 ∷ []) [] ≡ 10
  pub and_twice : entry_refusal limits T 1 (256 ∷ 261 ∷ 261 ∷ []) [] ≡ 8
  pub or_unequal : entry_refusal limits T 1 (257 ∷ 261 ∷ 258 ∷ []) [] ≡ 8
  pub not_con : entry_refusal limits T 1 (260 ∷ 0 ∷ 261 ∷ 258 ∷ []) [] ≡ 0
  pub not_con_not : entry_refusal limits T 1 (260 ∷ 0 ∷ 260 ∷ 261 ∷ 258 ∷ []) [] ≡ 8
  -- ""And" of two "or"s of 8 and 8 wildcards: weight 64, admitted; of 5 and 13: 65, refused."
  pub weight_64 : weight T ors_8_8 ≡ 64
  pub admitted_64 : entry_refusal limits T 1 ors_8_8 [] ≡ 0
  pub weight_65 : weight T ors_5_13 ≡ 65
  pub refused_65 : entry_refusal limits T 1 ors_5_13 [] ≡ 9
  -- a list that enters rule 9 first leaves the rules of T, rising by number
  pub numbers : numbers_reckoned limits T calls_T [] ≡ 0 ∷ 0 ∷ 12 ∷ 2 ∷ 6 ∷ []
  pub left : rules_left limits T calls_T [] ≡ rules_T
  pub words : take 16 table_T ≡ 2 ∷ 1 ∷ 7 ∷ 40 ∷ 3 ∷ 0 ∷ 1 ∷ 261 ∷ 9 ∷ 41 ∷ 4 ∷ 0 ∷ 260 ∷ 1 ∷ 5 ∷ 0 ∷ []
  pub holds : sound limits T table_T ≡ some rules_T
  -- 02, job 3: "Emptying sets it to 1": the last call that sets a default stands, and the rules are as they were
  pub kept_default : default_left limits T calls_T [] emptied_default ≡ 1
  pub set_twice : default_left limits T (set_default 5 ∷ withdraw 3 ∷ set_default 6 ∷ calls_T) [] emptied_default ≡ 6
  pub set_numbers : numbers_reckoned limits T (set_default 5 ∷ withdraw 3 ∷ set_default 6 ∷ []) [] ≡ 0 ∷ 6 ∷ 0 ∷ []
  pub set_rules : rules_left limits T (set_default 5 ∷ calls_T) [] ≡ rules_T
  -- zeros throughout are a sound table with default 0; no rules leave a tree of two words
  pub zeros_sound : sound limits T (replicate (table_length limits) 0) ≡ some []
  pub zeros_default : default_of (replicate (table_length limits) 0) ≡ 0
  pub empty_tree : tree_words 5 T [] ≡ 0 ∷ 5 ∷ []
  -- 4 before 5 before 7
  pub number_0 : entry_refusal limits T 0 [] rules_T ≡ 4
  pub number_1000 : entry_refusal limits T 1000 [] rules_T ≡ 4
  pub held_malformed : entry_refusal limits T 7 [] rules_T ≡ 5
  pub free_malformed : entry_refusal limits T 8 [] rules_T ≡ 7
  -- 02, job 1: a node 4 for each bus; another range with a level of rule 7's is 12, with none of either's it is admitted
  pub tree_of_levels : tree_words emptied_default L rules_L ≡ 2 ∷ 0 ∷ 1 ∷ 4 ∷ 2 ∷ 1 ∷ 2 ∷ 9 ∷ 23 ∷ 4 ∷ 2 ∷ 50 ∷ 100 ∷ 15 ∷ 19 ∷ 1 ∷ 7 ∷ 40 ∷ 0 ∷ 1 ∷ 9 ∷ 41 ∷ 0 ∷ 4 ∷ 2 ∷ 50 ∷ 100 ∷ 29 ∷ 33 ∷ 1 ∷ 7 ∷ 40 ∷ 0 ∷ 0 ∷ 1 ∷ []
  pub range_shared : entry_refusal limits L 8 (0 ∷ 2 ∷ 280 ∷ 50 ∷ 60 ∷ []) rules_L ≡ 12
  pub range_apart : entry_refusal limits L 8 (0 ∷ 2 ∷ 280 ∷ 51 ∷ 60 ∷ []) rules_L ≡ 0
  -- 18 after 7 and before 8; a range at another kind is 7
  pub range_falls : entry_refusal limits L 1 (0 ∷ 258 ∷ 280 ∷ 60 ∷ 20 ∷ []) [] ≡ 18
  pub range_high : entry_refusal limits L 1 (0 ∷ 258 ∷ 280 ∷ 0 ∷ 101 ∷ []) [] ≡ 18
  pub range_of_words : entry_refusal limits L 1 (0 ∷ 258 ∷ 280 ∷ 258 ∷ 258 ∷ []) [] ≡ 18
  pub range_then_malformed : entry_refusal limits L 1 (0 ∷ 258 ∷ 256 ∷ 280 ∷ 60 ∷ 20 ∷ 259 ∷ 258 ∷ []) [] ≡ 7
  pub range_then_twice : entry_refusal limits L 1 (0 ∷ 261 ∷ 256 ∷ 261 ∷ 280 ∷ 60 ∷ 20 ∷ []) [] ≡ 18
  pub range_elsewhere : entry_refusal limits L 1 (0 ∷ 280 ∷ 60 ∷ 20 ∷ 258 ∷ []) [] ≡ 7
