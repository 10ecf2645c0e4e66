-- What is seen at a node of the search: the rows that meet its branch, and one that takes the branch's shortest value.
use Rattle.std.specs.Prelude.{◌≡◌, List, true, false, cond, ℕ, zero, suc, ◌+◌, ◌*◌, ◌≤◌, ◌<◌, length, take, Option as CodeOption, None, Some}
use Rattle.signature.specs.Lawful.{OfKind}
use Rattle.signature.specs.Limits.{booking_limit}
use Rattle.signature.specs.Signature.{Signature}
use Rattle.signature.specs.Value.{Value, code, size}
use Rattle.row.specs.Limits.{place_words}
use Rattle.row.specs.Row.{Row}
use Rattle.row.specs.RowFits.{row_fits}
use Rattle.rowset.specs.Member.{member, set_words}
use Rattle.path.specs.Rows.{Before}
use Rattle.views.specs.View.{kept_of, agrees, Closed}
use Rattle.search.specs.Search.{Missed}
use Rattle.search.specs.Branch.{step_width, row_at, on_path, GivenBranch}
use Rattle.search.specs.declared.look.Seen.{Seen}
use Rattle.search.specs.declared.look.Seen.TheVariants.{Nothing, Free, Taken}

-- every row that takes a value of the branch is in the set
abbrev pub Complete : Signature → List Row → List ℕ → ℕ → ℕ → List ℕ → Type 0
Complete sig rs path depth n s = (r : ℕ) (v : Value) → r < n → OfKind sig 0 v → on_path sig rs path depth v ≡ true → row_fits (row_at rs r) v ≡ true → member s r ≡ true

-- the members of the one among n are members of the other
abbrev pub Within : ℕ → List ℕ → List ℕ → Type 0
Within n s s' = (r : ℕ) → r < n → member s r ≡ true → member s' r ≡ true

-- how many of n are in a set
abbrev pub count : List ℕ → ℕ → ℕ
count s zero = 0
count s (suc n) = cond (member s n) 1 0 + count s n

-- a node: its branch, the rows that may take a value of it, and as many steps before it as rows are out of that set
pub record GivenNode (t a rows : List ℕ) (n : ℕ) (s path : List ℕ) (depth q o v : ℕ) : Type 0 where
  pub branch : GivenBranch t a rows n path depth q o
  pub complete : Complete branch.table.known.sig branch.table.rs path depth n s
  pub fewer : count s n + depth ≤ n
  pub room : booking_limit + place_words ≤ v

-- every value of the branch agrees with a row at the cells that are not open, and below an open one none is kept
abbrev pub Agree : Signature → List Row → List ℕ → ℕ → ℕ → ℕ → Type 0
Agree sig rs path depth r opened = Closed (kept_of opened) 0 (row_at rs r) × ((v : Value) → OfKind sig 0 v → on_path sig rs path depth v ≡ true → agrees (kept_of opened) 0 (row_at rs r) v ≡ true)

-- a row of the set takes a value of the branch, and the branch agrees with it but for the open cells
pub record TakenBy (sig : Signature) (rs : List Row) (n : ℕ) (s path : List ℕ) (depth r opened : ℕ) (live : List ℕ) : Type 0 where
  pub there : r < n
  pub sized : length live ≡ set_words
  pub alive : member live r ≡ true
  pub complete : Complete sig rs path depth n live
  pub within : Within n live s
  pub agree : Agree sig rs path depth r opened

-- the words of a value that no row takes stand first, so many
pub record FreeValue (sig : Signature) (rs : List Row) (m : ℕ) (v : List ℕ) : Type 0 where
  pub value : Value
  pub missed : Missed sig rs value
  pub size_is : m ≡ size value
  pub words_are : take m v ≡ code value

-- nothing that is as short as a booking; or a value that no row takes; or a row that takes one
pub record SeenOf (sig : Signature) (rs : List Row) (n : ℕ) (s path : List ℕ) (depth : ℕ) (res : Seen) (live v : List ℕ) : Type 0 where
  pub nothing : res ≡ Nothing → (u : Value) → Missed sig rs u → on_path sig rs path depth u ≡ true → ⊥
  pub free_value : (m : ℕ) → res ≡ Free m → FreeValue sig rs m v
  pub taken : (r opened : ℕ) → res ≡ Taken r opened → TakenBy sig rs n s path depth r opened live

-- what a node answers: None, and no value of the branch is missed; or one that is, and the steps before it stay
pub record NodeFound (sig : Signature) (rs : List Row) (path : List ℕ) (depth : ℕ) (res : CodeOption ℕ) (path' v : List ℕ) : Type 0 where
  pub none_there : res ≡ None → (u : Value) → Missed sig rs u → on_path sig rs path depth u ≡ true → ⊥
  pub one_there : (m : ℕ) → res ≡ Some m → FreeValue sig rs m v
  pub kept : Before (step_width * depth) path path'

-- row r is to be left: it is out of the set, and as many steps are before it, with its own, as rows are out
pub record GivenLeave (t a rows : List ℕ) (n : ℕ) (s path : List ℕ) (depth r cells q o v : ℕ) : Type 0 where
  pub branch : GivenBranch t a rows n path depth q o
  pub there : r < n
  pub complete : (p : ℕ) (u : Value) → p < n → OfKind branch.table.known.sig 0 u → on_path branch.table.known.sig branch.table.rs path depth u ≡ true → row_fits (row_at branch.table.rs r) u ≡ false → row_fits (row_at branch.table.rs p) u ≡ true → member s p ≡ true
  pub agree : Agree branch.table.known.sig branch.table.rs path depth r cells
  pub fewer : count s n + suc depth ≤ n
  pub room : booking_limit + place_words ≤ v
