-- What each call asks and gives where one argument is taken.
use mathlib.Core.Path.{◌≡◌, refl, ap, ap₂, ◌∙◌, sym}
use mathlib.Core.List.{List, [], ◌∷◌, ◌++◌, append_assoc}
use mathlib.Core.Bool.{Bool, true, false, cond}
use Prim.Native.Nat.{ℕ, ◌+◌, ◌*◌, ◌≤◌, ◌<◌, ◌-◌}
use native.Mathlib.Nat.{zero-add}
use native.Mathlib.Omega.{arith}
use lib.Dec.{ltb}
use lib.ListN.{length, take, drop, length-append}
use lib.Seq.{drop_at, length-take-le}
use Rattle.signature.specs.Decoded.{arity_of, argument_of, count_of}
use Rattle.signature.specs.Limits.{kind_limit, heads_limit}
use Rattle.sets.specs.Set.{bit}
use Rattle.signature.specs.Signature.{Signature, arguments}
use Rattle.signature.proofs.KnownFacts.{argument_is, argument_small}
use Rattle.signature.proofs.Tests.{true≢false}
use Rattle.pattern.specs.Pattern.{Pattern, pattern_code, Patterns, pcons, patterns_code}
use Rattle.pattern.specs.Weight.{sum_minus}
use Rattle.builder.specs.Arguments.{GivenArgs, few_begun, HasFirst, words_of_rows}
use Rattle.rowlist.specs.Next.{GivenNext}
use Rattle.rowlist.specs.Sides.{rows_of, Open}
use Rattle.builder.specs.Build.{GivenPat, Made}
use Rattle.cell.specs.Cell.{kind_tag, cell_code}
use Rattle.cell.specs.Coded.{kinds_of, row_code}
use Rattle.rowlist.specs.Grow.{words_list, ListFirst}
use Rattle.row.specs.Row.{open_row, rows_minus}
use Rattle.cell.specs.RowList.{from}
use Rattle.builder.proofs.ArgSteps.{NextArg, next_arg, drop_next, args_count}
use Rattle.builder.proofs.Behind.{list_words}
use Rattle.rowlist.proofs.Kinded.{few_heads, full_set, open_kind}
use Rattle.sets.proofs.ListSets.{set_nil}
use Rattle.builder.proofs.NextLists.{words_filled, words_short, words_count}
use Rattle.builder.proofs.Parts.{in_front}
use Rattle.pattern.proofs.PatternBack.{some_pattern_word}
use Rattle.builder.proofs.Rooms.{rows_few, rows_places}
use Rattle.row.proofs.RowCount.{minus_count}
use Rattle.cell.proofs.Walk.{from_is, back}

module _ {t : List ℕ} {c j : ℕ} {w : List ℕ} {b : Bool} {used : ℕ} {o : List ℕ} {m : ℕ} (g : GivenArgs t c j w b used o m) where
  module _ (h : j < arity_of t c) (arg : ℕ) (arg_is : arg ≡ argument_of t c j) where
    below : j < length (arguments g.known.sig c)
    below = omega (arith, args_count g)

    pub arg_kind : arg < kind_limit
    arg_kind = rw arg_is (argument_small g.known c g.head j below)

    pub view : NextArg g.known.sig b g.known.decoded.n g.ks g.ps arg (drop (j + 1) (arguments g.known.sig c))
    view =
        next_arg g.known.sig b g.known.decoded.n arg (drop (j + 1) (arguments g.known.sig c)) g.ks g.ps
        (sym g.kinds ∙ drop_next j (arguments g.known.sig c) below ∙ ap (λ (k : ℕ). k ∷ drop (j + 1) (arguments g.known.sig c)) (sym (arg_is ∙ argument_is g.known c g.head j below)))
        g.well g.light g.ranges g.there

    pub few_of_kind : count_of t arg ≤ heads_limit
    few_of_kind = omega (arith, g.known.decoded.head_count arg view.there, few_heads g.known arg view.there)

    pub size_is : length (patterns_code g.ps) ≡ length (pattern_code view.p) + length (patterns_code view.qs)
    size_is = ap (λ (z : Patterns). length (patterns_code z)) view.parts_are ∙ simp length-append (omega arith)

    pub begun_fits : (used + 1 ≤ length o) × (used + 1 ≤ m)
    begun_fits = (omega (arith, g.small, g.room), omega (arith, g.small, g.work_room))

    module _ (full : ℕ) (f : (i : ℕ) → bit full i ≡ cond (ltb i (count_of t arg)) 1 0) where
      opened : Open (kinds_of g.known.sig) g.known.sig arg (kind_tag + arg) full
      opened = let q = open_kind g.known arg view.there in record { kind = q.kind; some = q.some; within = q.within; tag_is = refl; full_is = full_set g.known arg view.there full f }

      pub wild_is : ◌≡◌ {A = List ℕ} (cell_code (kind_tag + arg) 0 full) (row_code (kinds_of g.known.sig) (open_row g.known.sig arg) arg)
      wild_is = ap₂ (λ (x y : ℕ). cell_code (kind_tag + arg) x y) (sym (set_nil 0)) opened.full_is

      pub arg_given : (k k' : ℕ) → k ≡ m - (used + 1) → k' ≡ length o → GivenPat t (kind_tag + arg) full w b k k'
      arg_given k k' e e' = record {
        known = g.known;
        k = arg;
        there = view.there;
        p = view.p;
        rest = patterns_code view.qs ++ g.rest;
        code_is = g.code_is ∙ ap (λ (z : Patterns). patterns_code z ++ g.rest) view.parts_are ∙ append_assoc (pattern_code view.p) (patterns_code view.qs) g.rest;
        well = view.well;
        light = view.light;
        ranges = view.ranges.0;
        opened = opened;
        room = omega (arith, e, g.small, size_is, g.work_room);
        work_room = omega (arith, e', size_is, g.room);
      }

      module _ (k k' usedr read : ℕ) (e : k ≡ m - (used + 1)) (e' : k' ≡ length o) (ys : List ℕ) (f' : (q : GivenPat t (kind_tag + arg) full w b k k') → Made (kinds_of q.known.sig) q.known.sig q.k b q.p usedr read ys) where
        pub arg_made : Made (kinds_of g.known.sig) g.known.sig arg b view.p usedr read ys
        unfolding arg_given
        arg_made = f' (arg_given k k' e e')

        pub arg_read : (read ≤ length w) × (1 ≤ read)
        arg_read = (
          omega (arith, arg_made.read_is, simp length-append at (ap length g.code_is), size_is),
          omega (arith, arg_made.read_is, some_pattern_word view.p),
        )

        abbrev pub L : List (List ℕ)
        L = words_of_rows g.known.sig arg (rows_of g.known.sig arg b view.p)

        -- the two lists in the workspace, and room in the other slice
        module _ (v : List ℕ) (front : take (0 + (used + 1)) v ≡ take (used + 1) o) (l : length v ≡ m) where
          abbrev pub left : ListFirst (back v (used + 1) ys)
          left = record {
            rows = g.begun;
            rest = ys ++ drop (length v - (used + 1)) (drop (used + 1) v);
            code_is = ap (λ (z : List ℕ). z ++ (ys ++ drop (length v - (used + 1)) (drop (used + 1) v))) (ap (λ (i : ℕ). take i v) (sym (zero-add (used + 1))) ∙ front ∙ g.list.list);
            filled = g.filled;
          }

          abbrev pub right : ListFirst (from (back v (used + 1) ys) (used + 1))
          right =
              let D = drop (length v - (used + 1)) (drop (used + 1) v) in
              let q = words_list L ++ (0 ∷ []) in
              record {
                rows = L;
                rest = drop (usedr + 1) ys ++ D;
                code_is =
                    from_is (back v (used + 1) ys) (used + 1)
                    ∙ drop_at (take (used + 1) v) (ys ++ D) (used + 1) (length-take-le (used + 1) v (omega (arith, l, begun_fits.1)))
                    ∙ ap (λ (z : List ℕ). z ++ D) ((in_front _ ys usedr arg_made.list).1 ∙ ap (λ (z : List ℕ). (z ++ (0 ∷ [])) ++ drop (usedr + 1) ys) (sym (list_words (kinds_of g.known.sig) arg (rows_of g.known.sig arg b view.p))))
                    ∙ append_assoc q (drop (usedr + 1) ys) D;
                filled = words_filled g.known.sig arg (rows_of g.known.sig arg b view.p);
              }

          abbrev pub next_core : (k : ℕ) → k ≡ length o → GivenNext (back v (used + 1) ys) (used + 1) k
          next_core k e = record {
            left = left;
            within = simp length-append (omega (arith, length-take-le (used + 1) v (omega (arith, l, begun_fits.1))));
            right = right;
            a = 3 * g.a;
            j = 3 * length (pattern_code view.p);
            left_short = g.short;
            right_short = words_short g.known.sig arg (length (pattern_code view.p)) (rows_places g.known.sig arg view.p b view.well);
            left_few = g.count;
            right_few = omega (arith, words_count g.known.sig arg (rows_of g.known.sig arg b view.p), rows_few g.known.sig arg view.p b view.light);
            room = omega (arith, e, size_is, g.room, g.small);
          }

pub first_of : (vs : List (List ℕ)) → HasFirst false vs → (v : List ℕ) × (us : List (List ℕ)) × (vs ≡ v ∷ us)
first_of [] h = absurd h
first_of (v ∷ vs) h = (v, vs, refl)

pub minus_few : (sig : Signature) (k : ℕ) (p : Pattern) (qs ps : Patterns) (n : ℕ) (b : Bool) → b ≡ false → ps ≡ pcons p qs → few_begun b n ps → n + length (words_of_rows sig k (rows_of sig k b p)) ≤ 64
minus_few sig k p qs ps n true e f h = true≢false e
minus_few sig k p qs ps n false e f h = let z : n + sum_minus ps ≤ 64 = h in omega (arith, ap sum_minus f, z, words_count sig k (rows_minus sig k p), minus_count sig p k)
