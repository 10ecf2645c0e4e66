-- The rows of a pattern behind the words that are used.
use mathlib.Core.Path.{◌≡◌, ap, ap₂, ◌∙◌}
use mathlib.Core.List.{List, [], ◌∷◌, ◌++◌, append_assoc}
use Prim.Native.Nat.{ℕ, ◌+◌, ◌-◌, ◌≤◌}
use native.Mathlib.Numerals.{add-one}
use native.Mathlib.Omega.{arith}
use lib.ListN.{length, take, drop, get_or, set, length-append, length-drop}
use lib.Seq.{take-suc, set_at, length-take-le}
use Rattle.row.specs.Row.{rows_plus}
use Rattle.cell.specs.Coded.{kinds_of}
use Rattle.cell.specs.RowList.{list_code, from}
use Rattle.cell.proofs.Walk.{from_is, back}
use Rattle.builder.specs.Build.{GivenWhole, RowsFirst}
use Rattle.loading.specs.Add.{GivenPlace, ListPlaced}

-- a part to the end
pub part_length : (o : List ℕ) (i : ℕ) → i ≤ length o → length (from o i) ≡ length o - i
part_length o i h = ap length (from_is o i) ∙ length-drop i o

module _ {t ws : List ℕ} {used n m : ℕ} (g : GivenPlace t ws used n m) where
  pub at_le : used + 1 ≤ n
  at_le = omega (arith, g.room)

  pub whole : (n' : ℕ) → n' ≡ n - (used + 1) → GivenWhole t ws n' m
  whole n' e = record { known = g.known; p = g.p; words = g.words; light = g.light; ranges = g.ranges; room = omega (arith, e, g.words.at_most, g.room); work_room = omega (arith, g.words.at_most, g.work_room) }

  module _ (n' : ℕ) (e : n' ≡ n - (used + 1)) (k : ℕ) (ys : List ℕ) (gave : (q : GivenWhole t ws n' m) → RowsFirst q.known.sig q.p k ys) (l : length ys ≡ n') (o : List ℕ) (o_is : length o ≡ n) where
    first : RowsFirst g.known.sig g.p k ys
    unfolding whole
    first = gave (whole n' e)

    pub list_le : used + 1 + (k + 1) ≤ n
    list_le =
        let z : length ys ≡ length (list_code (kinds_of g.known.sig) 0 (rows_plus g.known.sig 0 g.p)) + length first.rest = ap length first.code_is ∙ length-append (list_code (kinds_of g.known.sig) 0 (rows_plus g.known.sig 0 g.p)) first.rest in
        omega (arith, l, e, g.room, first.size, z)

    split : back o (used + 1) ys ≡ take used o ++ (get_or o used 0 ∷ (ys ++ drop (length o - (used + 1)) (drop (used + 1) o)))
    split =
        let D = drop (length o - (used + 1)) (drop (used + 1) o) in
        ap (λ z. z ++ (ys ++ D)) (ap (λ z. take z o) (add-one used) ∙ take-suc o used 0 (omega (arith, o_is, g.room)))
        ∙ append_assoc (take used o) (get_or o used 0 ∷ []) (ys ++ D)

    pub placed : ListPlaced g.known.sig g.p used (used + 1 + k + 1) o (set (back o (used + 1) ys) used (k + 1))
    placed =
        let L = list_code (kinds_of g.known.sig) 0 (rows_plus g.known.sig 0 g.p) in
        let D = drop (length o - (used + 1)) (drop (used + 1) o) in
        record {
          rest = first.rest ++ D;
          code_is =
              ap (λ z. set z used (k + 1)) split
              ∙ set_at (take used o) (get_or o used 0) (ys ++ D) (k + 1) used (length-take-le used o (omega (arith, o_is, g.room)))
              ∙ ap₂ (λ x z. take used o ++ (x ∷ z)) first.size (ap (λ z. z ++ D) first.code_is ∙ append_assoc L first.rest D);
          next = omega (arith, first.size);
          small = omega (arith, first.small);
        }
