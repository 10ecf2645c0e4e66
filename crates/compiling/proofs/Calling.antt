-- The call compile, refusal by refusal.
use mathlib.Core.Path.{◌≡◌, refl, sym, subst}
use mathlib.Core.List.{List}
use mathlib.Core.Option.{none, some}
use Prim.Native.Nat.{ℕ}
use native.Mathlib.Omega.{arith}
use Rattle.std.specs.Prelude.{Option as CodeOption, None, Some, IsSome, Result}
use Rattle.signature.specs.Refusal.{number_in}
use Rattle.signature.specs.Signature.{Signature}
use Rattle.signature.specs.declared.refusals.Refusal.{Refusal}
use Rattle.builder.specs.Build.{row_room}
use Rattle.loading.specs.Add.{TooSmall, rows_room}
use lib.ListN.{length}
use Rattle.signature.proofs.Tests.{le_of}
use Rattle.table.specs.Limits.{limits, table_length}
use Rattle.table.specs.Calls.{Compile, on_sound, long_table, CompileFrom, TreeIn}
use Rattle.table.specs.Matrix.{tree_words}
use Rattle.table.specs.Rule.{Rule, default_of}
use Rattle.table.specs.Sound.{sound}
use Rattle.loading.specs.Load.{GivenLoad, Ready}
use Rattle.opening.specs.Open.{BeginsAs}
use Rattle.opening.proofs.Opens.{goes_on}
use Rattle.compiling.specs.Compile.{InTable, CompilesAs, TriedAs, length_in}

-- 3, or the tree
module _ {t table : List ℕ} (g : GivenLoad t table) (space : List ℕ) where
  pub unsound : sound limits g.known.sig table ≡ none → CompilesAs g.known.sig table space 3 0 space
  unsound e = subst (λ o. CompileFrom (default_of table) (on_sound g.known.sig o) space 3 0 space) (sym e) (refl, refl, refl)

  module _ (lists : List ℕ) (x : ℕ × ℕ) (d : (rs : List Rule) × (sound limits g.known.sig table ≡ some rs) × Ready g.known.sig rs x.0 x.1 lists) where
    pub in_table : InTable t table lists
    in_table = record { used = x.0; total = x.1; force = record { known = g.known; rs = d.0; is_sound = d.1; ready = d.2 } }

    pub answered : (number len : ℕ) (space' : List ℕ) → ((q : InTable t table lists) → TreeIn (tree_words (default_of table) q.force.known.sig q.force.rs) space number len space') → CompilesAs g.known.sig table space number len space'
    unfolding in_table
    answered number len space' f = subst (λ o. CompileFrom (default_of table) (on_sound g.known.sig o) space number len space') (sym d.1) (f in_table)

-- 1 and 2, then the tree with lists of one size or the other
module _ (ss table space t : List ℕ) (k : ℕ) (begin_so : BeginsAs ss (long_table limits table) k t) where
  pub turned_down : (k ≡ 0 → ⊥) → Compile limits ss table space k 0 space
  turned_down f = record { result_is = subst (λ x. CompileFrom (default_of table) x space k 0 space) (sym (begin_so.refuses f table)) (refl, refl, refl) }

  module _ (e : k ≡ 0) where
    abbrev pub given : GivenLoad t table
    given = record { known = (begin_so.begins e).0.known; long = le_of (table_length limits) (length table) (begin_so.begins e).1 }

    compiled : (number len : ℕ) (space' : List ℕ) → CompilesAs given.known.sig table space number len space' → Compile limits ss table space number len space'
    compiled number len space' h = record { result_is = subst (λ x. CompileFrom (default_of table) x space number len space') (sym (goes_on (begin_so.begins e).0 (long_table limits table) table (begin_so.begins e).1)) h }

    module _ (P : Type 0) (r : CodeOption (Result ℕ Refusal)) (space₁ space' : List ℕ) (gave : (g : GivenLoad t table) → TriedAs P g.known.sig table space₁ r space') where
      -- in the arrays that are tried first, or in those that are tried then, before which nothing was written
      pub compiled_in : (c : Result ℕ Refusal) → r ≡ Some c → space₁ ≡ space → Compile limits ss table space (number_in c) (length_in c) space'
      compiled_in c x same = compiled (number_in c) (length_in c) space' (subst (λ z. CompilesAs given.known.sig table z (number_in c) (length_in c) space') same (subst (λ z. TriedAs P given.known.sig table space₁ z space') x (gave given)))

      pub unwritten : r ≡ None → space' ≡ space₁
      unwritten x = (subst (λ z. TriedAs P given.known.sig table space₁ z space') x (gave given)).1

-- the largest arrays are never too small
pub always : (sig : Signature) (table space : List ℕ) (r : CodeOption (Result ℕ Refusal)) (space' : List ℕ) → TriedAs (TooSmall rows_room row_room) sig table space r space' → IsSome r
always sig table space None space' h = absurd (h.0 (omega arith) (omega arith))
always sig table space (Some c) space' h = refl
