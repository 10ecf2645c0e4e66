-- Two parts of a pattern, their rows behind each other.
use mathlib.Core.Path.{◌≡◌, refl, ap, ◌∙◌, sym}
use mathlib.Core.List.{List, ◌++◌, append_assoc}
use mathlib.Core.Bool.{Bool, true, false, not, cond}
use Prim.Native.Nat.{ℕ, ◌+◌, ◌≤◌, ◌<◌, ◌-◌}
use native.Mathlib.Omega.{arith}
use lib.Dec.{ltb}
use lib.ListN.{length, take, drop, length-append, length-drop}
use lib.Seq.{drop_at, length-take-le}
use Rattle.cell.specs.Cell.{kind_tag}
use Rattle.signature.specs.Decoded.{Known, count_of}
use Rattle.signature.specs.Limits.{kind_limit, heads_limit}
use Rattle.signature.specs.Lists.{All, none_left, also, is_empty, somes}
use Rattle.sets.specs.Set.{bit}
use Rattle.signature.specs.Signature.{Signature}
use Rattle.signature.proofs.KnownFacts.{words_of}
use Rattle.pattern.specs.Limits.{pattern_limit}
use Rattle.pattern.specs.Pattern.{Pattern, pattern_code}
use Rattle.pattern.specs.WellFormed.{WellFormed}
use Rattle.pattern.proofs.PatternBack.{some_pattern_word}
use Rattle.row.specs.Row.{Row, combine, each}
use Rattle.row.specs.RowFits.{place_count}
use Rattle.cell.specs.Coded.{kinds_of}
use Rattle.cell.specs.RowList.{Every, from, list_code}
use Rattle.cell.proofs.Walk.{from_is, back}
use Rattle.rowlist.specs.Sides.{rows_of, Open}
use Rattle.builder.specs.Build.{GivenPat, Made}
use Rattle.rowlist.proofs.Kinded.{few_heads, full_set, open_kind, kinds_same}
use Rattle.builder.proofs.Parts.{in_front}
use Rattle.builder.proofs.Rooms.{list_small, rows_few, rows_places}
use Rattle.rowlist.proofs.Typing.{typed_rows}
use Rattle.rowlist.specs.Product.{AllTyped}
use Rattle.meeting.specs.Rows.{Proper}
use Rattle.ambiguity.specs.Parts.{GivenTwo, GivenLists, meets}

meets_so : (b : Bool) (sig : Signature) (k : ℕ) (p q : Pattern) → not (is_empty (somes (each combine (rows_of sig k b p) (rows_of sig k b q)))) ≡ meets b sig k p q
meets_so true sig k p q = refl
meets_so false sig k p q = refl

-- the rows of a pattern of at most 64 words are of its kind and have at most 64 places
pub rows_proper : {t : List ℕ} (g : Known t) (p : Pattern) (b : Bool) (k : ℕ) → k < g.decoded.n → WellFormed g.sig k p → length (pattern_code p) ≤ pattern_limit → Every (Proper (kinds_of g.sig) t k) (rows_of g.sig k b p)
rows_proper {t} g p b k l w h = go (typed_rows g p b k l w) (rows_places g.sig k p b w)
  where
    go : {rs : List Row} → AllTyped (kinds_of g.sig) t k rs → All (λ r. place_count r ≤ length (pattern_code p)) rs → Every (Proper (kinds_of g.sig) t k) rs
    go e none_left = tt
    go e (also r q n) = (record { typed = e.0; few = omega (arith, q, h) }, go e.1 n)

pub full_so : (t : List ℕ) (k full c : ℕ) → c ≡ count_of t k → ((i : ℕ) → bit full i ≡ cond (ltb i c) 1 0) → (i : ℕ) → bit full i ≡ cond (ltb i (count_of t k)) 1 0
full_so t k full c e h i = h i ∙ ap (λ z. cond (ltb i z) 1 0) e

module _ {t : List ℕ} {k : ℕ} {w : List ℕ} {b : Bool} {n m : ℕ} (g : GivenTwo t k w b n m) where
  pub kind_small : k < kind_limit
  kind_small = omega (arith, g.there, kinds_same g.known, (words_of g.known).few_kinds)

  pub few_of_kind : count_of t k ≤ heads_limit
  few_of_kind = omega (arith, g.known.decoded.head_count k g.there, few_heads g.known k g.there)

  module _ (full : ℕ) (f : (i : ℕ) → bit full i ≡ cond (ltb i (count_of t k)) 1 0) where
    opened : Open (kinds_of g.known.sig) g.known.sig k (kind_tag + k) full
    opened = let q = open_kind g.known k g.there in record { kind = q.kind; some = q.some; within = q.within; tag_is = refl; full_is = full_set g.known k g.there full f }

    pub first_given : GivenPat t (kind_tag + k) full w b n m
    first_given = record {
      known = g.known;
      k = k;
      there = g.there;
      p = g.first;
      rest = pattern_code g.second ++ g.rest;
      code_is = g.words;
      well = g.well_first;
      light = g.light_first;
      ranges = g.ranges_first;
      opened = opened;
      room = omega (arith, g.room);
      work_room = omega (arith, g.work_room);
    }

    module _ (used read : ℕ) (o : List ℕ) (h : (q : GivenPat t (kind_tag + k) full w b n m) → Made (kinds_of q.known.sig) q.known.sig q.k b q.p used read o) where
      first_made : Made (kinds_of g.known.sig) g.known.sig k b g.first used read o
      unfolding first_given
      first_made = h first_given

      pub first_bounds : (read ≤ length w) × (used + 1 ≤ length o)
      first_bounds = (omega (arith, first_made.read_is, simp length-append at (ap length g.words)), (in_front _ o used first_made.list).0)

      pub second_given : (n' m' : ℕ) → length o ≡ n → n' ≡ length (from o (used + 1)) → m' ≡ m → GivenPat t (kind_tag + k) full (from w read) b n' m'
      second_given n' m' l i e = record {
        known = g.known;
        k = k;
        there = g.there;
        p = g.second;
        rest = g.rest;
        code_is = from_is w read ∙ ap (drop read) g.words ∙ drop_at (pattern_code g.first) (pattern_code g.second ++ g.rest) read (sym first_made.read_is);
        well = g.well_second;
        light = g.light_second;
        ranges = g.ranges_second;
        opened = opened;
        room =
            let z : n' ≡ n - (used + 1) = i ∙ ap length (from_is o (used + 1)) ∙ length-drop (used + 1) o ∙ ap (λ (x : ℕ). x - (used + 1)) l in
            omega (arith, z, g.room, some_pattern_word g.first, first_made.list.size, list_small g.known.sig k (kinds_of g.known.sig) g.first b g.well_first g.light_first);
        work_room = omega (arith, e, g.work_room);
      }

      module _ (n' m' used' read' : ℕ) (l : length o ≡ n) (i : n' ≡ length (from o (used + 1))) (e : m' ≡ m) (ys : List ℕ) (h' : (q : GivenPat t (kind_tag + k) full (from w read) b n' m') → Made (kinds_of q.known.sig) q.known.sig q.k b q.p used' read' ys) where
        second_made : Made (kinds_of g.known.sig) g.known.sig k b g.second used' read' ys
        unfolding second_given
        second_made = h' (second_given n' m' l i e)

        pub two_lists : (room : ℕ) → room ≡ m' → GivenLists t (back o (used + 1) ys) (used + 1) room
        two_lists room z =
            let D = drop (length o - (used + 1)) (drop (used + 1) o) in
            record {
              K = kinds_of g.known.sig;
              kind = k;
              rs = rows_of g.known.sig k b g.first;
              ss = rows_of g.known.sig k b g.second;
              rest_first = ys ++ D;
              rest_second = drop (used' + 1) ys ++ D;
              code_first = ap (λ (z : List ℕ). z ++ (ys ++ D)) first_made.list.list;
              code_second =
                  drop_at (take (used + 1) o) (ys ++ D) (used + 1) (length-take-le (used + 1) o first_bounds.1)
                  ∙ ap (λ (z : List ℕ). z ++ D) (in_front _ ys used' second_made.list).1
                  ∙ append_assoc (list_code (kinds_of g.known.sig) k (rows_of g.known.sig k b g.second)) (drop (used' + 1) ys) D;
              proper_first = rows_proper g.known g.first b k g.there g.well_first (omega (arith, g.few));
              proper_second = rows_proper g.known g.second b k g.there g.well_second (omega (arith, g.few));
              few = omega (arith, few_first, few_second);
              roomy = omega (arith, few_first, few_second, some_pattern_word g.first, some_pattern_word g.second, g.work_room, e, z);
              long = g.known.decoded.long;
            }
          where
            few_first : length (rows_of g.known.sig k b g.first) ≤ 64
            few_first = rows_few g.known.sig k g.first b g.light_first

            few_second : length (rows_of g.known.sig k b g.second) ≤ 64
            few_second = rows_few g.known.sig k g.second b g.light_second

        pub answered : (room : ℕ) → room ≡ m' → (r : Bool) → ((q : GivenLists t (back o (used + 1) ys) (used + 1) room) → r ≡ not (is_empty (somes (each combine q.rs q.ss)))) → r ≡ meets b g.known.sig k g.first g.second
        unfolding two_lists
        answered room z r f' = f' (two_lists room z) ∙ meets_so b g.known.sig k g.first g.second
