-- One rule more.
use mathlib.Core.Path.{◌≡◌, refl, sym, ap, ap₂, subst, ◌∙◌}
use mathlib.Core.List.{List, [], ◌∷◌, ◌++◌, append_assoc, append-nil}
use mathlib.Core.Bool.{Bool, true, false, cond}
use Prim.Native.Nat.{ℕ, suc, ◌+◌, ◌*◌, ◌-◌, ◌<◌, ◌≤◌}
use native.Mathlib.Omega.{arith}
use lib.Dec.{eqb, leb}
use lib.ListN.{length, take, drop, length-append}
use lib.Seq.{take_at, length-take-le}
use Rattle.signature.specs.Signature.{Signature}
use Rattle.signature.proofs.Tests.{eqb_eq, leb_yes, leb_no}
use Rattle.pattern.specs.Limits.{part_weight_limit}
use Rattle.pattern.specs.Side.{plus}
use Rattle.pattern.specs.Weight.{weight, weight_by, weight_plus}
use Rattle.pattern.proofs.PatternBack.{pattern_words}
use Rattle.pattern.proofs.StandsLaw.{light_weight}
use Rattle.row.specs.Admitted.{refusal_of_pattern, Passed as PassedWords}
use Rattle.row.specs.Row.{rows_plus}
use Rattle.row.proofs.PassedFacts.{passed_of}
use Rattle.cell.specs.Coded.{kinds_of}
use Rattle.cell.specs.RowList.{list_code}
use Rattle.cell.proofs.Walk.{back, each_append}
use Rattle.table.specs.Limits.{limits}
use Rattle.builder.specs.Build.{words_room}
use Rattle.admission.specs.Admission.{GivenWords, admission_of}
use Rattle.std.specs.Prelude.{Result, Ok, Err}
use Rattle.signature.specs.Refusal.{numbered}
use Rattle.signature.specs.declared.refusals.Refusal.{Refusal}
use Rattle.loading.specs.Add.{weights, GivenPlace, ListPlaced, GivenAdd, goes_with, Stepped, lists_room, row_words}
use Rattle.loading.specs.Lists.{rows_by, list_for, lists_for}

-- what the admission tells of the words
abbrev Tells : Signature → List ℕ → Result ℕ ℕ → Type 0
Tells sig ws (Ok w) = (refusal_of_pattern sig ws ≡ 0) × (w ≡ weight sig ws)
Tells sig ws (Err q) = eqb (refusal_of_pattern sig ws) 0 ≡ false

tells : (sig : Signature) (ws : List ℕ) → Tells sig ws (admission_of sig ws)
tells sig ws = go (eqb (refusal_of_pattern sig ws) 0) refl
  where
    go : (b : Bool) → eqb (refusal_of_pattern sig ws) 0 ≡ b → Tells sig ws (cond b (Ok (weight sig ws)) (Err (refusal_of_pattern sig ws)))
    go true e = (eqb_eq (refusal_of_pattern sig ws) 0 e, refl)
    go false e = e

-- a slice whose tail came back keeps its front
pub front_kept : (o ys : List ℕ) (used : ℕ) → used ≤ length o → take used (back o used ys) ≡ take used o
front_kept o ys used h = take_at (take used o) (ys ++ drop (length o - used) (drop used o)) used (length-take-le used o h)

module _ {t : List ℕ} {used total : ℕ} {rows : List ℕ} (g : GivenAdd t used total rows) where
  pub used_le : used ≤ lists_room limits.weight limits.rules
  used_le = omega (arith, g.small, g.light, g.few)

  pub le : used ≤ length rows
  le = omega (arith, g.used_is, ap length g.code_is, length-append (lists_for g.known.sig g.wss) g.rest)

  module _ {ws : List ℕ} {m : ℕ} (has : (used + 1 + words_room (length ws) ≤ length rows) × (words_room (length ws) ≤ m)) where
    pub words_given : (n' : ℕ) → n' ≡ length rows - used → GivenWords t ws n' m
    words_given n' e = record { known = g.known; room = omega (arith, e, has.0); work_room = has.1 }

  module _ (ws : List ℕ) {m : ℕ} (has : (used + 1 + words_room (length ws) ≤ length rows) × (words_room (length ws) ≤ m)) (n' : ℕ) (n'_is : n' ≡ length rows - used) (r : Result ℕ Refusal) (gave : (q : GivenWords t ws n' m) → numbered r ≡ admission_of q.known.sig ws) where
    told : Tells g.known.sig ws (numbered r)
    unfolding words_given
    told = subst (Tells g.known.sig ws) (sym (gave (words_given has n' n'_is))) (tells g.known.sig ws)

    pub refused : ((w : ℕ) → r ≡ Ok w → ⊥) → goes_with g.known.sig g.wss ws ≡ false
    refused f = go r f told
      where
        go : (s : Result ℕ Refusal) → ((w : ℕ) → s ≡ Ok w → ⊥) → Tells g.known.sig ws (numbered s) → goes_with g.known.sig g.wss ws ≡ false
        go (Ok w) f z = absurd (f w refl)
        go (Err q) f z = rw z

    module _ (w : ℕ) (e : r ≡ Ok w) where
      so : (refusal_of_pattern g.known.sig ws ≡ 0) × (w ≡ weight g.known.sig ws)
      so = subst (λ s. Tells g.known.sig ws (numbered s)) e told

      abbrev passed : PassedWords g.known.sig ws
      passed = passed_of g.known.sig ws so.0

      weight_is : w ≡ weight_plus passed.pat
      weight_is = so.1 ∙ ap weight_by passed.read

      pub few : w ≤ part_weight_limit
      few = omega (arith, weight_is, light_weight plus passed.pat passed.light)

      pub heavy : limits.weight < total + w → goes_with g.known.sig g.wss ws ≡ false
      heavy h =
          let z : leb (weight g.known.sig ws + weights g.known.sig g.wss) limits.weight ≡ false = leb_no (weight g.known.sig ws + weights g.known.sig g.wss) limits.weight (omega (arith, so.1, g.total_is, h)) in
          rw (so.0, z)

      module _ (fits : total + w ≤ limits.weight) (n'' m'' : ℕ) (n''_is : n'' ≡ length rows) (m''_is : m'' ≡ m) where
        pub place_given : GivenPlace t ws used n'' m''
        place_given = record { known = g.known; p = passed.pat; words = pattern_words g.known.sig ws passed.pat passed.read; light = passed.light; ranges = passed.ranges; room = omega (arith, n''_is, has.0); work_room = omega (arith, m''_is, has.1) }

        module _ (o : List ℕ) (kept : take used o ≡ take used rows) (r' : ℕ) (o' : List ℕ) (put : (q : GivenPlace t ws used n'' m'') → ListPlaced q.known.sig q.p used r' o o') where
          placed : ListPlaced g.known.sig passed.pat used r' o o'
          unfolding place_given
          placed = put place_given

          L : List ℕ
          L = list_for g.known.sig ws

          L_is : list_code (kinds_of g.known.sig) 0 (rows_plus g.known.sig 0 passed.pat) ≡ L
          unfolding L
          L_is = ap (λ z. list_code (kinds_of g.known.sig) 0 (rows_by g.known.sig z)) (sym passed.read)

          front : take used o ≡ lists_for g.known.sig g.wss
          front = kept ∙ ap (take used) g.code_is ∙ take_at (lists_for g.known.sig g.wss) g.rest used (sym g.used_is)

          code_so : o' ≡ lists_for g.known.sig g.wss ++ (length L ∷ (L ++ placed.rest))
          code_so = placed.code_is ∙ ap₂ (λ x y. x ++ (length y ∷ (y ++ placed.rest))) front L_is

          light : leb (weight g.known.sig ws + weights g.known.sig g.wss) limits.weight ≡ true
          light = leb_yes (weight g.known.sig ws + weights g.known.sig g.wss) limits.weight (omega (arith, so.1, g.total_is, fits))

          pub added : Stepped g.known.sig g.wss ws (length rows) m (Ok (r', total + w)) o'
          unfolding L
          added =
              let W = g.wss in
              let more : lists_for g.known.sig (W ++ (ws ∷ [])) ≡ lists_for g.known.sig W ++ (length L ∷ (L ++ [])) = each_append (list_for g.known.sig) W (ws ∷ []) in
              let len : length (lists_for g.known.sig (W ++ (ws ∷ []))) ≡ used + 1 + length L = ap length more ∙ length-append (lists_for g.known.sig W) (length L ∷ (L ++ [])) ∙ ap (λ z. length (lists_for g.known.sig W) + suc (length z)) (append-nil L) ∙ omega (arith, g.used_is) in (
                rw (so.0, light),
                omega (arith, so.1, g.total_is),
                placed.next ∙ ap (λ z. used + 1 + length z) L_is ∙ sym len,
                (placed.rest, code_so ∙ sym (ap (λ z. z ++ placed.rest) more ∙ append_assoc (lists_for g.known.sig W) (length L ∷ (L ++ [])) placed.rest ∙ ap (λ z. lists_for g.known.sig W ++ (length L ∷ z)) (append_assoc L [] placed.rest))),
                omega (arith, placed.small, weight_is, g.small, length-append W (ws ∷ []), spread total (weight_plus passed.pat)),
              )
            where
              spread : (a b : ℕ) → (a + b) * row_words ≡ a * row_words + b * row_words
              spread a b = omega arith
