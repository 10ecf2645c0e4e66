-- The gap call, refusal by refusal.
use mathlib.Core.Path.{◌≡◌, refl, sym, subst}
use mathlib.Core.List.{List}
use mathlib.Core.Option.{none, some}
use mathlib.Core.Bool.{Bool, ◌&&◌}
use Prim.Native.Nat.{ℕ}
use native.Mathlib.Omega.{arith}
use Rattle.std.specs.Prelude.{Option as CodeOption, None, Some, IsSome, Result}
use Rattle.signature.specs.Refusal.{number_in}
use Rattle.signature.specs.Signature.{Signature}
use Rattle.signature.specs.declared.refusals.Refusal.{Refusal}
use Rattle.builder.specs.Build.{row_room}
use Rattle.loading.specs.Add.{TooSmall, rows_room}
use Rattle.table.specs.Limits.{limits}
use Rattle.table.specs.Calls.{Start, enter_start, on_sound, refused, long_table, long_witness}
use Rattle.table.specs.Gap.{GapFrom, GapCall, ShowsGap}
use Rattle.table.specs.Rule.{Rule}
use Rattle.table.specs.Sound.{sound}
use Rattle.loading.specs.Load.{Ready}
use Rattle.opening.specs.Open.{BeginsAs}
use Rattle.entering.specs.Enter.{GivenEnter}
use Rattle.entering.proofs.Enters.{refused_start, given, starts}
use Rattle.compiling.specs.Compile.{InTable}
use Rattle.gap.specs.Answer.{GapsAs, TriedAs, Worded, length_in, shown}

-- 3, or what is shown
module _ {t table witness : List ℕ} (g : GivenEnter t table witness) where
  pub unsound : sound limits g.load.known.sig table ≡ none → GapsAs g.load.known.sig table witness 3 0 witness
  unsound e = subst (λ o. GapFrom (on_sound g.load.known.sig o) witness 3 0 witness) (sym e) (refl, refl, refl)

  module _ (lists : List ℕ) (x : ℕ × ℕ) (d : (rs : List Rule) × (sound limits g.load.known.sig table ≡ some rs) × Ready g.load.known.sig rs x.0 x.1 lists) where
    pub in_table : InTable t table lists
    in_table = record { used = x.0; total = x.1; force = record { known = g.load.known; rs = d.0; is_sound = d.1; ready = d.2 } }

    pub told : (m : CodeOption ℕ) (witness' : List ℕ) → ((q : InTable t table lists) → ShowsGap q.force.known.sig q.force.rs (shown m) witness witness') → GapsAs g.load.known.sig table witness 0 (shown m) witness'
    unfolding in_table
    told m witness' f = subst (λ o. GapFrom (on_sound g.load.known.sig o) witness 0 (shown m) witness') (sym d.1) (refl, f in_table)

-- 1 and 2, then the answer with lists of one size or the other
module _ (ss table witness : List ℕ) (long : Bool) (long_so : long ≡ (long_table limits table && long_witness witness)) (t : List ℕ) (k : ℕ) (begin_so : BeginsAs ss long k t) where
  from : (s : Start) → enter_start limits ss table witness ≡ s → (number len : ℕ) (witness' : List ℕ) → GapFrom s witness number len witness' → GapCall limits ss table witness number len witness'
  from s e number len witness' h = record { result_is = subst (λ x. GapFrom x witness number len witness') (sym e) h }

  pub turned_down : (k ≡ 0 → ⊥) → GapCall limits ss table witness k 0 witness
  turned_down f = from (refused k) (refused_start ss table witness long long_so t k begin_so f) k 0 witness (refl, refl, refl)

  module _ (e : k ≡ 0) where
    abbrev pub here : GivenEnter t table witness
    here = given ss table witness long long_so t k begin_so e

    answered : (number len : ℕ) (witness' : List ℕ) → GapsAs here.load.known.sig table witness number len witness' → GapCall limits ss table witness number len witness'
    answered number len witness' h = from (on_sound here.load.known.sig (sound limits here.load.known.sig table)) (starts ss table witness long long_so t k begin_so e) number len witness' h

    module _ (P : Type 0) (r : CodeOption (Result (CodeOption ℕ) Refusal)) (witness₁ : List ℕ) (gave : (g : GivenEnter t table witness) → TriedAs P g.load.known.sig table witness r witness₁) where
      pub answered_first : (a : Result (CodeOption ℕ) Refusal) → r ≡ Some a → GapCall limits ss table witness (number_in a) (length_in a) witness₁ × Worded a
      answered_first a x = let (w, h) = subst (λ z. TriedAs P here.load.known.sig table witness z witness₁) x (gave here) in (answered (number_in a) (length_in a) witness₁ h, w)

      module _ (x : r ≡ None) where
        same : witness₁ ≡ witness
        same = (subst (λ z. TriedAs P here.load.known.sig table witness z witness₁) x (gave here)).1

        pub here_again : GivenEnter t table witness₁
        here_again = subst (λ z. GivenEnter t table z) (sym same) here

        pub answered_then : (Q : Type 0) (q : CodeOption (Result (CodeOption ℕ) Refusal)) (a : Result (CodeOption ℕ) Refusal) (witness' : List ℕ) → ((g : GivenEnter t table witness₁) → TriedAs Q g.load.known.sig table witness₁ q witness') → q ≡ Some a → GapCall limits ss table witness (number_in a) (length_in a) witness' × Worded a
        answered_then Q q a witness' did y = let (w, h) = subst (λ z. TriedAs Q here.load.known.sig table witness z witness') y (subst (λ z. (g : GivenEnter t table z) → TriedAs Q g.load.known.sig table z q witness') same did here) in (answered (number_in a) (length_in a) witness' h, w)

-- the largest arrays are never too small
pub always : (sig : Signature) (table witness : List ℕ) (r : CodeOption (Result (CodeOption ℕ) Refusal)) (witness' : List ℕ) → TriedAs (TooSmall rows_room row_room) sig table witness r witness' → IsSome r
always sig table witness None witness' h = absurd (h.0 (omega arith) (omega arith))
always sig table witness (Some a) witness' h = refl
