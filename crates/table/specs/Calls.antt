-- 01, Turned down, and Table: each call as a relation between what it is given, what it answers and what every lent word is afterwards, on refusals as well.
-- These relations are the calls' promises, and demand 3 speaks of chains of them.
use Rattle.std.specs.Prelude.{◌≡◌, List, [], ◌++◌, Bool, cond, ◌&&◌, ◌||◌, ℕ, ◌<◌, leb, eqb, ltb, length, drop, set}
use Rattle.std.proofs.Math.Option.{Option, none, some}
use Rattle.signature.specs.Lists.{In}
use Rattle.signature.specs.Read.{read_signature, read_booking}
use Rattle.signature.specs.Signature.{Signature}
use Rattle.signature.specs.Value.{Value}
use Rattle.pattern.specs.Match.{Binds}
use Rattle.pattern.specs.Takes.{Takes}
use Rattle.row.specs.Overlap.{SharesBooking}
use Rattle.tree.specs.Answer.{Answer}
use Rattle.tree.specs.Limits.{tree_limit}
use Rattle.tree.specs.RunCall.{refusal}
use Rattle.table.specs.Decide.{direct}
use Rattle.table.specs.Limits.{Limits, table_length, witness_length, default_at, emptied_default}
use Rattle.table.specs.Matrix.{tree_words}
use Rattle.table.specs.Refusals.{entry_refusal, withdrawal_refusal}
use Rattle.table.specs.Rule.{Rule, default_of, stored, add_rule, take_out}
use Rattle.table.specs.Sound.{sound}

-- refusals 1 to 3, in their order: the first that applies, or the signature and the rules in force
pub data Start : Type 0 where
  refused : ℕ → Start
  begin : Signature → List Rule → Start

-- 3: the table is not sound
abbrev pub on_sound : Signature → Option (List Rule) → Start
on_sound sig none = refused 3
on_sound sig (some rs) = begin sig rs

-- 2: "or a witness buffer under 4,096"
abbrev pub long_witness : List ℕ → Bool
long_witness witness = leb witness_length (length witness)

-- what enter answers: its number, the number of the rule that shares a booking, and that booking's length
pub record Entered : Type 0 where
  pub number : ℕ
  pub sharer : ℕ
  pub shown : ℕ

-- "12. It shares a booking with a held rule: the lowest such number and the booking's length are returned, the booking is written first in the witness buffer, the rest untouched."
-- "Which shared booking 12 shows, and so its length, is open: it is lawful and taken by both."
pub record Shows (sig : Signature) (rs : List Rule) (ws : List ℕ) (witness : List ℕ) (e : Entered) (witness' : List ℕ) : Type 0 where
  pub rule : Rule
  pub held : In rule rs
  pub named : e.sharer ≡ rule.number
  pub lowest : (s : Rule) → In s rs → s.number < rule.number → SharesBooking sig ws s.pattern → ⊥
  pub booking : List ℕ
  pub binds : Binds
  pub binds' : Binds
  pub taken : Takes sig ws booking binds
  pub taken' : Takes sig rule.pattern booking binds'
  pub length_is : e.shown ≡ length booking
  pub witness_is : witness' ≡ booking ++ drop (length booking) witness

-- withdraw: 1 to 4 and 6
abbrev pub withdraw_number : Start → ℕ → ℕ
withdraw_number (refused m) n = m
withdraw_number (begin sig rs) n = withdrawal_refusal n rs

-- 14: "The tree exceeds the lent slice or 32,768 words."
abbrev pub too_large : List ℕ → List ℕ → Bool
too_large tree space = ltb (length space) (length tree) || ltb tree_limit (length tree)

-- 14; or "the tree's length in words", and the tree "from index 0 of the lent space, whose other words stay untouched"
pub record TreeIn (tree space : List ℕ) (number len : ℕ) (space' : List ℕ) : Type 0 where
  pub number_is : number ≡ cond (too_large tree space) 14 0
  pub length_is : len ≡ cond (too_large tree space) 0 (length tree)
  pub space_is : space' ≡ cond (too_large tree space) space (tree ++ drop (length tree) space)

-- 02, job 3: "a new call, with refusals 1 to 3"
abbrev pub set_number : Start → ℕ
set_number (refused m) = m
set_number (begin sig rs) = 0

-- "sets another": the second word alone
abbrev pub set_table : Start → ℕ → List ℕ → List ℕ
set_table (refused m) plan before = before
set_table (begin sig rs) plan before = set before default_at plan

module _ (dft : ℕ) where
  -- compile: 1 to 3 and 14
  abbrev pub CompileFrom : Start → List ℕ → ℕ → ℕ → List ℕ → Type 0
  CompileFrom (refused m) space number len space' = (number ≡ m) × (len ≡ 0) × (space' ≡ space)
  CompileFrom (begin sig rs) space number len space' = TreeIn (tree_words dft sig rs) space number len space'

  -- 13: the booking is unlawful
  abbrev pub decide_booking : Signature → List Rule → Option Value → ℕ × Answer
  decide_booking sig rs none = refusal 13
  decide_booking sig rs (some v) = (0, direct dft sig rs v)

  -- decide: 1 to 3 and 13
  abbrev pub decide_from : Start → List ℕ → ℕ × Answer
  decide_from (refused m) bs = refusal m
  decide_from (begin sig rs) bs = decide_booking sig rs (read_booking sig bs)

module _ (l : Limits) where
  -- 1: the signature is unlawful; 2: a lent table or witness buffer is too short
  abbrev pub on_signature : Option Signature → Bool → List ℕ → Start
  on_signature none long table = refused 1
  on_signature (some sig) long table = cond long (on_sound sig (sound l sig table)) (refused 2)

  -- where a call on a table starts from
  abbrev pub start : List ℕ → Bool → List ℕ → Start
  start ss long table = on_signature (read_signature ss) long table

  -- 2: "A lent table is under" 4,290 words; 02, job 3: "refusal 2's length change"
  abbrev pub long_table : List ℕ → Bool
  long_table table = leb (table_length l) (length table)

  -- an entry is lent a witness buffer too; so is the gap call of 02, job 4
  abbrev pub enter_start : List ℕ → List ℕ → List ℕ → Start
  enter_start ss before witness = start ss (long_table before && long_witness witness) before

  -- empty: 2; on success the rule count 0, the default plan 1 and zeros up to 4,290, the rest untouched
  pub record Empty (before : List ℕ) (number : ℕ) (after : List ℕ) : Type 0 where
    pub number_is : number ≡ cond (long_table before) 0 2
    pub table_is : after ≡ cond (long_table before) (stored l emptied_default [] before) before

  -- enter: 1 to 5 and 7 to 12
  abbrev pub enter_number : Start → ℕ → List ℕ → ℕ
  enter_number (refused m) n ws = m
  enter_number (begin sig rs) n ws = entry_refusal l sig n ws rs

  -- on success the rule is added, and the default stays; on every refusal the table stays
  abbrev pub enter_table : Start → ℕ → ℕ → List ℕ → List ℕ → List ℕ
  enter_table (refused m) n plan ws before = before
  enter_table (begin sig rs) n plan ws before = cond (eqb (entry_refusal l sig n ws rs) 0) (stored l (default_of before) (add_rule (record { number = n; plan = plan; pattern = ws }) rs) before) before

  -- enter: what it is given, what it answers, the table and the witness buffer afterwards; "other results 0", also on success
  pub record Enter (ss : List ℕ) (n plan : ℕ) (ws before witness : List ℕ) (e : Entered) (after witness' : List ℕ) : Type 0 where
    pub number_is : e.number ≡ enter_number (enter_start ss before witness) n ws
    pub table_is : after ≡ enter_table (enter_start ss before witness) n plan ws before
    pub not_12 : (e.number ≡ 12 → ⊥) → (e.sharer ≡ 0) × (e.shown ≡ 0) × (witness' ≡ witness)
    pub on_12 : (sig : Signature) (rs : List Rule) → enter_start ss before witness ≡ begin sig rs → e.number ≡ 12 → Shows sig rs ws witness e witness'

  -- "Withdrawn space is used again."; the default stays
  abbrev pub withdraw_table : Start → ℕ → List ℕ → List ℕ
  withdraw_table (refused m) n before = before
  withdraw_table (begin sig rs) n before = cond (eqb (withdrawal_refusal n rs) 0) (stored l (default_of before) (take_out n rs) before) before

  -- withdraw: what it is given, its number, the table afterwards
  pub record Withdraw (ss : List ℕ) (n : ℕ) (before : List ℕ) (number : ℕ) (after : List ℕ) : Type 0 where
    pub number_is : number ≡ withdraw_number (start ss (long_table before) before) n
    pub table_is : after ≡ withdraw_table (start ss (long_table before) before) n before

  -- set_default: what it is given, its number, the table afterwards
  pub record SetDefault (ss : List ℕ) (plan : ℕ) (before : List ℕ) (number : ℕ) (after : List ℕ) : Type 0 where
    pub number_is : number ≡ set_number (start ss (long_table before) before)
    pub table_is : after ≡ set_table (start ss (long_table before) before) plan before

  -- compile: what it is given, its number, the tree's length, the lent space afterwards
  pub record Compile (ss table space : List ℕ) (number len : ℕ) (space' : List ℕ) : Type 0 where
    pub result_is : CompileFrom (default_of table) (start ss (long_table table) table) space number len space'

  -- decide: what it is given, its number and the answer
  pub record DecideCall (ss table bs : List ℕ) (number : ℕ) (a : Answer) : Type 0 where
    pub result_is : (number, a) ≡ decide_from (default_of table) (start ss (long_table table) table) bs
