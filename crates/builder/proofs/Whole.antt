-- A part and a whole pattern: what is asked of their rows, and what they are.
use mathlib.Core.Path.{◌≡◌, refl, ap, ◌∙◌, sym}
use mathlib.Core.List.{List, [], append-nil}
use mathlib.Core.Bool.{Bool, true, cond}
use Prim.Native.Nat.{ℕ, ◌+◌, ◌*◌, ◌≤◌, ◌<◌}
use native.Mathlib.Omega.{arith}
use lib.Dec.{ltb}
use lib.ListN.{length, drop, length-append}
use Rattle.cell.specs.Cell.{kind_tag}
use Rattle.signature.specs.Decoded.{count_of, decoded_length}
use Rattle.signature.specs.Limits.{kind_limit, heads_limit}
use Rattle.sets.specs.Set.{bit}
use Rattle.signature.proofs.KnownFacts.{long, words_of}
use Rattle.signature.proofs.Tests.{times_less}
use Rattle.pattern.specs.Pattern.{pattern_code}
use Rattle.pattern.specs.Weight.{weight_plus}
use Rattle.cell.specs.Coded.{kinds_of}
use Rattle.cell.specs.RowList.{entries}
use Rattle.row.specs.Row.{rows_plus}
use Rattle.row.proofs.RowCount.{plus_count}
use Rattle.rowlist.proofs.Kinded.{kind_zero, kinds_same, few_heads, full_set, open_kind}
use Rattle.builder.specs.Build.{GivenPat, GivenPart, GivenWhole, Made, RowsFirst}
use Rattle.builder.proofs.Parts.{in_front}
use Rattle.builder.proofs.Rooms.{entries_le, rows_places}

-- a part
module _ {t w : List ℕ} {k n m : ℕ} {b : Bool} (g : GivenPart t k w b n m) where
  pub part_known : (length t ≡ decoded_length) × (k < kind_limit) × (count_of t k ≤ heads_limit)
  part_known = (
    long g.known,
    omega (arith, g.there, kinds_same g.known, (words_of g.known).few_kinds),
    omega (arith, g.known.decoded.head_count k g.there, few_heads g.known k g.there),
  )

  module _ (full : ℕ) (f : (i : ℕ) → bit full i ≡ cond (ltb i (count_of t k)) 1 0) where
    pub part_given : GivenPat t (kind_tag + k) full w b n m
    part_given =
        let q = open_kind g.known k g.there in
        record {
          known = g.known;
          k = k;
          there = g.there;
          p = g.pattern;
          rest = g.rest;
          code_is = g.words;
          well = g.well;
          light = g.light;
          ranges = g.ranges;
          opened = record { kind = q.kind; some = q.some; within = q.within; tag_is = refl; full_is = full_set g.known k g.there full f };
          room = g.room;
          work_room = g.work_room;
        }

    pub part_made : (used read : ℕ) (o : List ℕ) → ((q : GivenPat t (kind_tag + k) full w b n m) → Made (kinds_of q.known.sig) q.known.sig q.k b q.p used read o) → Made (kinds_of g.known.sig) g.known.sig k b g.pattern used read o
    unfolding part_given
    part_made used read o h = h part_given

-- a whole pattern
module _ {t w : List ℕ} {n m : ℕ} (g : GivenWhole t w n m) where
  unfoldable pub whole_given : GivenPart t 0 w true n m
  whole_given =
      let s = ap length g.words.is_code in
      record {
        known = g.known;
        there = kind_zero g.known;
        pattern = g.p;
        rest = [];
        words = sym (append-nil (pattern_code g.p) ∙ g.words.is_code);
        few = omega (arith, s, g.words.at_most);
        well = g.words.well_formed;
        light = g.light;
        ranges = g.ranges;
        room = omega (arith, s, g.room);
        work_room = omega (arith, s, g.work_room);
      }

  pub whole_made : (used read : ℕ) (o : List ℕ) → ((q : GivenPart t 0 w true n m) → Made (kinds_of q.known.sig) q.known.sig 0 true q.pattern used read o) → RowsFirst g.known.sig g.p used o
  unfolding whole_given
  whole_made used read o h =
      let d = h whole_given in
      let s = ap length g.words.is_code in
      let K = kinds_of g.known.sig in
      let rs = rows_plus g.known.sig 0 g.p in
      let l = length (pattern_code g.p) in
      let a : length (entries K 0 rs) ≤ length rs * (1 + 3 * l) = entries_le K 0 l rs (rows_places g.known.sig 0 g.p true g.words.well_formed) in
      let b : length rs * (1 + 3 * l) ≤ weight_plus g.p * 193 = times_less (length rs) (weight_plus g.p) (1 + 3 * l) 193 (plus_count g.known.sig g.p 0) (omega (arith, s, g.words.at_most)) in
      record {
        rest = drop (used + 1) o;
        code_is = (in_front _ o used d.list).1;
        size = simp length-append (omega (arith, d.list.size));
        small = omega (arith, d.list.size, a, b);
      }
