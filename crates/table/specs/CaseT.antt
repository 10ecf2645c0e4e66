-- 01, Case T: "Proved together as a single fact, all of these". The function `case_t` promises it.
use Rattle.std.specs.Prelude.{◌≡◌, List, [], ◌∷◌, ℕ, ◌≤◌, false, length, drop}
use Rattle.std.proofs.Math.Option.{some}
use Rattle.signature.specs.Cases.{T, words_T}
use Rattle.signature.specs.Read.{read_booking}
use Rattle.signature.specs.Value.{Value}
use Rattle.pattern.specs.Match.{Binds}
use Rattle.pattern.specs.Takes.{Takes}
use Rattle.tree.specs.Cases.{tree_T}
use Rattle.tree.specs.Limits.{last_number}
use Rattle.table.specs.Calls.{Entered, Empty, Enter, Compile}
use Rattle.table.specs.Cases.{Cases, rules_T, ors_8_8, ors_5_13}
use Rattle.table.specs.Limits.{limits, witness_length, emptied_default}
use Rattle.table.specs.Rule.{held, stored}

-- an entry "into an empty table" gives this number, under any number and plan
abbrev pub IntoEmpty : List ℕ → ℕ → Type 0
IntoEmpty ws k = (n plan : ℕ) (lent emptied witness after witness' : List ℕ) (e : Entered) → 1 ≤ n → n ≤ last_number → witness_length ≤ length witness → Empty limits lent 0 emptied → Enter limits words_T n plan ws emptied witness e after witness' → e.number ≡ k

pub record CaseT : Type 0 where
  pub computed : Cases
  -- T's tree, 39 words: by compile, from every table that holds T's rules and the default 1; a space of 38 is too small
  pub tree_in_39 : (lent space space' : List ℕ) (number len : ℕ) → length space ≡ 39 → Compile limits words_T (stored limits emptied_default rules_T lent) space number len space' → (number ≡ 0) × (len ≡ 39) × (space' ≡ tree_T)
  pub tree_in_38 : (lent space space' : List ℕ) (number len : ℕ) → length space ≡ 38 → Compile limits words_T (stored limits emptied_default rules_T lent) space number len space' → (number ≡ 14) × (len ≡ 0) × (space' ≡ space)
  -- "Entry of 0 258 4: refusal 12, rule 7, shown 0 1 4", under any free number, whatever the promise leaves open
  pub entry : (n plan dft : ℕ) (lent witness after witness' : List ℕ) (e : Entered) → 1 ≤ n → n ≤ last_number → held n rules_T ≡ false → witness_length ≤ length witness → Enter limits words_T n plan (0 ∷ 258 ∷ 4 ∷ []) (stored limits dft rules_T lent) witness e after witness' → (e.number ≡ 12) × (e.sharer ≡ 7) × (e.shown ≡ 3) × (after ≡ stored limits dft rules_T lent) × (witness' ≡ 0 ∷ 1 ∷ 4 ∷ drop 3 witness)
  -- "Into an empty table: 260 260 261 takes all, variable 0 at 0; 260 261 takes none; 257 261 261: 10; 256 261 261 and 257 261 258: 8; 260 0 261 258 admitted; 260 0 260 261 258: 8."
  pub not_not : IntoEmpty (260 ∷ 260 ∷ 261 ∷ []) 0
  pub takes_all : (bs : List ℕ) (v : Value) → read_booking T bs ≡ some v → Takes T (260 ∷ 260 ∷ 261 ∷ []) bs ((0, 0) ∷ [])
  pub not_variable : IntoEmpty (260 ∷ 261 ∷ []) 0
  pub takes_none : (bs : List ℕ) (σ : Binds) → Takes T (260 ∷ 261 ∷ []) bs σ → ⊥
  pub or_twice : IntoEmpty (257 ∷ 261 ∷ 261 ∷ []) 10
  pub and_twice : IntoEmpty (256 ∷ 261 ∷ 261 ∷ []) 8
  pub or_unequal : IntoEmpty (257 ∷ 261 ∷ 258 ∷ []) 8
  pub not_con : IntoEmpty (260 ∷ 0 ∷ 261 ∷ 258 ∷ []) 0
  pub not_con_not : IntoEmpty (260 ∷ 0 ∷ 260 ∷ 261 ∷ 258 ∷ []) 8
  -- ""And" of two "or"s of 8 and 8 wildcards: weight 64, admitted; of 5 and 13: 65, refused."
  pub wildcards_64 : IntoEmpty ors_8_8 0
  pub wildcards_65 : IntoEmpty ors_5_13 9
