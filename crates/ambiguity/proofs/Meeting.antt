-- Two lists of rows, gathered one behind the other, and the matrix of all rows.
use mathlib.Core.Path.{◌≡◌, refl, sym, subst, ◌∙◌}
use mathlib.Core.List.{List, [], ◌++◌, append-nil}
use mathlib.Core.Bool.{Bool, not}
use Prim.Native.Nat.{ℕ, ◌+◌, ◌*◌, ◌≤◌}
use native.Mathlib.Omega.{arith}
use lib.ListN.{length, length-append}
use Rattle.signature.specs.Lists.{is_empty, somes}
use Rattle.signature.proofs.Tests.{none≢some}
use Rattle.row.specs.Row.{Row, combine, each}
use Rattle.rowset.specs.Limits.{row_limit}
use Rattle.rowset.specs.Member.{set_words}
use Rattle.meeting.specs.Rows.{GivenGather, Gathers, GivenMeet, Matrix, SomeMet}
use Rattle.meeting.proofs.Reading.{lists_met}
use Rattle.ambiguity.specs.Parts.{GivenLists}

module _ {t a : List ℕ} {at room : ℕ} (g : GivenLists t a at room) (cur : List ℕ) where
  abbrev pub first_given : GivenGather a 0 0 cur
  first_given = record { K = g.K; t = t; kind = g.kind; rs = []; before = record { there = λ i r e. none≢some e; few = λ i r e. none≢some e }; many = refl; ss = g.rs; rest = g.rest_first; code_is = g.code_first; proper = g.proper_first; room = omega (arith, g.few) }

  module _ (cur1 : List ℕ) (x : ℕ) (h : (q : GivenGather a 0 0 cur) → Gathers q x cur1) where
    pub first_count : x ≡ length g.rs
    first_count = omega (arith, (h first_given).count)

    abbrev pub second_given : GivenGather a at x cur1
    second_given = record { K = g.K; t = t; kind = g.kind; rs = g.rs; before = (h first_given).rows; many = first_count; ss = g.ss; rest = g.rest_second; code_is = g.code_second; proper = g.proper_second; room = omega (arith, first_count, g.few) }

    module _ (cur2 : List ℕ) (n : ℕ) (h2 : (q : GivenGather a at x cur1) → Gathers q n cur2) where
      pub all_count : n ≡ length g.rs + length g.ss
      all_count = omega (arith, first_count, (h2 second_given).count)

      abbrev pub meet_given : GivenMeet t a n cur2 room
      meet_given = record { K = g.K; kind = g.kind; rs = g.rs ++ g.ss; rows = (h2 second_given).rows; many = all_count ∙ sym (length-append g.rs g.ss); few = omega (arith, all_count, g.few); roomy = omega (arith, all_count, g.roomy) }

      pub matrix_there : (x ≤ n) × (n ≤ row_limit) × (set_words * n ≤ room)
      matrix_there = (omega (arith, first_count, all_count), omega (arith, all_count, g.few), omega (arith, all_count, g.roomy))

      pub lists_answered : (m : List ℕ) → ((q : GivenMeet t a n cur2 room) → Matrix q.rs m) → (b : Bool) → SomeMet m x n b → b ≡ not (is_empty (somes (each combine g.rs g.ss)))
      lists_answered m f b s =
          lists_met g.rs g.ss [] m b
          (subst (λ (l : List Row). Matrix (g.rs ++ l) m) (sym (append-nil g.ss)) (f meet_given))
          (subst (λ (i : ℕ). SomeMet m (length g.rs) i b) all_count (subst (λ (i : ℕ). SomeMet m i n b) first_count s))
