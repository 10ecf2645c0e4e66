-- Demand 3, "a single claim about whole lists": its statement. In quotation marks are the sentences of the demand, or of 01 where it is named.
use Rattle.std.specs.Prelude.{◌≡◌, ◌↔◌, List, [], ◌∷◌, ◌++◌, Bool, true, false, ℕ, ◌≤◌, ◌<◌, ◌+◌, length, take, drop}
use Rattle.std.proofs.Math.Option.{none, some}
use Rattle.signature.specs.Lists.{All}
use Rattle.signature.specs.Read.{read_booking, read_signature}
use Rattle.signature.specs.Signature.{Signature}
use Rattle.signature.specs.Value.{Value}
use Rattle.pattern.specs.Weight.{weight}
use Rattle.row.specs.Admitted.{Passed}
use Rattle.tree.specs.Answer.{Answer}
use Rattle.tree.specs.Limits.{last_number, tree_limit}
use Rattle.tree.specs.RunCall.{RunCall}
use Rattle.table.specs.Calls.{Entered, Enter, Compile, DecideCall, Empty}
use Rattle.table.specs.Decide.{Answered}
use Rattle.table.specs.Gap.{GapCall, ShowsGap}
use Rattle.table.specs.Limits.{Limits, limits, table_length, witness_length, emptied_default}
use Rattle.table.specs.ListsOfCalls.{ListCall, enter, withdraw, set_default, numbers_reckoned, rules_left, default_left, Calls}
use Rattle.table.specs.Matrix.{tree_words}
use Rattle.table.specs.Refusals.{SharesHeld}
use Rattle.table.specs.Rule.{Rule, default_of, held, total_weight, SameRules}
use Rattle.table.specs.Sound.{SoundTable}

-- the checks of an entry before 12 pass
pub record Earlier (l : Limits) (sig : Signature) (n : ℕ) (ws witness : List ℕ) (rs : List Rule) : Type 0 where
  pub witness_long : witness_length ≤ length witness
  pub low : 1 ≤ n
  pub high : n ≤ last_number
  pub new : held n rs ≡ false
  pub good : Passed sig ws
  pub room : length rs < l.rules
  pub light : weight sig ws + total_weight sig rs ≤ l.weight

-- a call that sets the default
abbrev pub sets : ListCall → Bool
sets (enter n plan ws witness) = false
sets (withdraw n) = false
sets (set_default plan) = true

-- what a list of calls gives and leaves, begun at a table that holds the rules rs; left are the rules that it leaves, and dft the default
pub record AfterList (ss : List ℕ) (sig : Signature) (table : List ℕ) (rs : List Rule) (cs : List ListCall) (ns last : List ℕ) (left : List Rule) (dft : ℕ) : Type 0 where
  -- 01: "Every call of a list gives the number so reckoned, never 3"
  pub numbers_are : ns ≡ numbers_reckoned limits sig cs rs
  pub never_3 : All (λ n. n ≡ 3 → ⊥) ns
  -- 01: "after every list the table holds exactly the rules left. Those are in force"; the words behind the table's own are untouched
  pub holds : SoundTable limits sig last left
  pub rest_is : drop (table_length limits) last ≡ drop (table_length limits) table
  -- 02, job 3: "the default that a list leaves"
  pub default_is : default_of last ≡ dft
  -- compile gives 0, or 14 exactly where the tree of the rules left exceeds the lent slice or 32,768 words
  pub compiles : (space space' : List ℕ) (number len : ℕ) → Compile limits ss last space number len space' → ((number ≡ 0) ↔ ((length (tree_words dft sig left) ≤ length space) × (length (tree_words dft sig left) ≤ tree_limit)))
  -- "Run over a tree compiled after any such list, every lawful booking gets the rule, plan and places of the one rule then in force that takes it, or the default if none does."
  -- 01: "gives 0, and answers by the rules that this list left, whatever is entered or withdrawn later": nothing but the tree is lent to the run
  pub runs : (space space' behind bs : List ℕ) (len number : ℕ) (v : Value) (a : Answer) → Compile limits ss last space 0 len space' → read_booking sig bs ≡ some v → RunCall ss (take len space' ++ behind) bs number a → (number ≡ 0) × Answered dft sig left bs a
  -- deciding from the table answers so too
  pub decides : (bs : List ℕ) (number : ℕ) (v : Value) (a : Answer) → read_booking sig bs ≡ some v → DecideCall limits ss last bs number a → (number ≡ 0) × Answered dft sig left bs a
  -- 02, job 4: the gap call tells of the rules left, whatever the default; 2 is left to refuse it, for a short witness buffer
  pub gaps : (witness witness' : List ℕ) (number len : ℕ) → witness_length ≤ length witness → GapCall limits ss last witness number len witness' → (number ≡ 0) × ShowsGap sig left len witness witness'

-- two tables cannot be told apart
pub record Alike (ss table table' : List ℕ) : Type 0 where
  -- "the first" 4,290 "words of the two tables are equal"; 02, job 3: "over all 4,290 words"
  pub same_words : take (table_length limits) table ≡ take (table_length limits) table'
  -- "compiled into lent space of equal length, both give the same refusal or the same tree, word for word"
  pub same_tree : (space space' out out' : List ℕ) (n n' len len' : ℕ) → length space ≡ length space' → Compile limits ss table space n len out → Compile limits ss table' space' n' len' out' → (n ≡ n') × (len ≡ len') × (n ≡ 0 → take len out ≡ take len' out')

-- under one lawful signature
pub record UnderOne (ss : List ℕ) (sig : Signature) : Type 0 where
  -- "each from a table just emptied": a list begun at any sound table, of which the emptied one, which holds no rule, is a case
  pub just_emptied : (lent emptied : List ℕ) → Empty limits lent 0 emptied → SoundTable limits sig emptied [] × (default_of emptied ≡ emptied_default) × (drop (table_length limits) emptied ≡ drop (table_length limits) lent)
  pub one_list : (table : List ℕ) (rs : List Rule) → SoundTable limits sig table rs → (cs : List ListCall) (ns last : List ℕ) → Calls limits ss table cs ns last → AfterList ss sig table rs cs ns last (rules_left limits sig cs rs) (default_left limits sig cs rs (default_of table))
  -- "Take every two lists of entries and withdrawals, refused ones included .. Whenever both leave the same rules, whatever else the lists tried";
  -- 02, job 3: "Equal tables and trees are now claimed for equal rules and equal default"
  pub two_lists : (table table' : List ℕ) (rs qs : List Rule) → SoundTable limits sig table rs → SoundTable limits sig table' qs → (cs ds : List ListCall) (ns ms last last' : List ℕ) → Calls limits ss table cs ns last → Calls limits ss table' ds ms last' → SameRules (rules_left limits sig cs rs) (rules_left limits sig ds qs) → default_left limits sig cs rs (default_of table) ≡ default_left limits sig ds qs (default_of table') → Alike ss last last'
  -- 01: "Compile gives two sound tables of equal rules, under one signature and into spaces of equal length, the same number and, on 0, the same length and that many equal words."
  pub two_tables : (table table' : List ℕ) (rs qs : List Rule) → SoundTable limits sig table rs → SoundTable limits sig table' qs → SameRules rs qs → default_of table ≡ default_of table' → Alike ss table table'
  -- 02, job 3: "what the last such call not refused set, or" that at the start "if there is none": under a lawful signature none is refused
  pub last_set : (cs ds : List ListCall) (plan dft : ℕ) (rs : List Rule) → All (λ c. sets c ≡ false) ds → default_left limits sig (cs ++ (set_default plan ∷ ds)) rs dft ≡ plan
  pub none_set : (cs : List ListCall) (dft : ℕ) (rs : List Rule) → All (λ c. sets c ≡ false) cs → default_left limits sig cs rs dft ≡ dft
  -- "Once the earlier checks pass, any entry, in such a list or not, is refused for overlap exactly when some lawful booking is taken by it and by a rule in force."
  pub overlap : (table : List ℕ) (rs : List Rule) → SoundTable limits sig table rs → (n plan : ℕ) (ws witness after witness' : List ℕ) (e : Entered) → Enter limits ss n plan ws table witness e after witness' → ((e.number ≡ 12) ↔ (Earlier limits sig n ws witness rs × SharesHeld sig ws rs))

-- Demand 3. 01: "The two lists have a table each, not always of one length; every call of both, and compile and run after them, gets the same signature."
pub record Demand3 : Type 0 where
  pub lawful : (ss : List ℕ) (sig : Signature) → read_signature ss ≡ some sig → UnderOne ss sig
  -- under an unlawful signature every call of a list is reckoned 1, and nothing changes
  pub unlawful : (ss : List ℕ) → read_signature ss ≡ none → (cs : List ListCall) (table ns last : List ℕ) → Calls limits ss table cs ns last → All (λ n. n ≡ 1) ns × (last ≡ table)
  -- every list has an outcome, so that the claim is not empty
  pub outcome : (ss : List ℕ) (cs : List ListCall) (table : List ℕ) → (ns : List ℕ) × (last : List ℕ) × Calls limits ss table cs ns last
