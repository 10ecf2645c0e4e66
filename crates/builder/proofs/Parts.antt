-- The parts of the pattern in front of the words, and what is made of their rows.
use mathlib.Core.Path.{◌≡◌, ◌∙◌, ap, ap₂, sym, subst}
use mathlib.Core.List.{List, ◌∷◌, ◌++◌, append_assoc, []}
use mathlib.Core.Bool.{Bool, not}
use Prim.Native.Nat.{ℕ, ◌+◌, ◌≤◌, ◌-◌, ◌<◌, ◌^◌}
use native.Mathlib.Numerals.{add-one}
use native.Mathlib.Omega.{arith}
use lib.ListN.{drop, length, length-append, length-take, take-append-drop, get_or, length-drop, take}
use lib.Seq.{drop_at, length-take-le, take-take, take_at}
use Rattle.pattern.specs.Pattern.{Pattern, pattern_code, range}
use Rattle.pattern.specs.Read.{Form, form}
use Rattle.pattern.proofs.Opened.{shape, code_split, word_form}
use Rattle.pattern.proofs.PatternBack.{some_pattern_word}
use Rattle.pattern.specs.Word.{own_words}
use Rattle.builder.specs.Build.{GivenPat, GivenRange, Made, making_of}
use Rattle.builder.specs.declared.build.Making.{Making}
use Rattle.builder.specs.declared.build.Making.TheVariants.{Multiply, Add, One, Nothing, Swap, Range}
use Rattle.rowlist.specs.Sides.{rows_of}
use Rattle.cell.specs.Cell.{cell_code, first_word}
use Rattle.cell.specs.Coded.{row_code, kinds_of}
use Rattle.rowlist.specs.Product.{Product, GivenProduct, products}
use Rattle.row.specs.Row.{Row}
use Rattle.cell.specs.RowList.{from, WrittenFirst, entries, list_code}
use Rattle.builder.proofs.Building.{RangeOf, range_of, Negated, negated, Leaf, one_of, none_of, Two, Multiplied, multiplied, Added, added}
use Rattle.builder.proofs.Rooms.{list_small, all_small, rows_places}
use Rattle.rowlist.proofs.Typing.{typed_rows}
use Rattle.cell.proofs.Walk.{from_is, back, part_back, each_append}

-- the words of a part
pub first_part : (w : List ℕ) (x : ℕ) (u rest : List ℕ) (own : ℕ) → own ≡ 1 → w ≡ (x ∷ u) ++ rest → from w own ≡ u ++ rest
first_part w x u rest own o e = rw o (from_is w 1 ∙ ap (drop 1) e)

second_part : (w : List ℕ) (x : ℕ) (u v rest : List ℕ) (read own : ℕ) → own ≡ 1 → w ≡ (x ∷ (u ++ v)) ++ rest → read ≡ length u → from w (read + own) ≡ v ++ rest
second_part w x u v rest read own o e l =
    rw o
    (from_is w (read + 1)
    ∙ ap (drop (read + 1)) e
    ∙ ap₂ (λ (i : ℕ) (z : List ℕ). drop i (x ∷ z)) (add-one read) (append_assoc u v rest)
    ∙ drop_at u (v ++ rest) read (sym l))

abbrev pub Result : {ar : List ℕ} {tag full : ℕ} {w : List ℕ} {b : Bool} {n m : ℕ} → GivenPat ar tag full w b n m → ℕ → ℕ → List ℕ → Type 0
Result {b = b} g used read o = Made (kinds_of g.known.sig) g.known.sig g.k b g.p used read o

-- the step of the pattern in front, as the code finds it
pub stepped : {f : Form} {r s : Making} (w : List ℕ) (b : Bool) → f ≡ form (get_or w 0 0) → r ≡ making_of f b → r ≡ s → making_of (form (get_or w 0 0)) b ≡ s
stepped w b e h q = ap (λ (f : Form). making_of f b) (sym e) ∙ sym h ∙ q

-- a list in front
pub in_front : (w o : List ℕ) (n : ℕ) → Product w n o → (n + 1 ≤ length o) × (o ≡ (w ++ (0 ∷ [])) ++ drop (n + 1) o) × WrittenFirst (w ++ (0 ∷ [])) (n + 1) o
in_front w o n p =
    let l : length (w ++ (0 ∷ [])) ≡ n + 1 = simp length-append (omega (arith, p.size)) in (
      omega (arith, length-take (n + 1) o, ap length p.list),
      sym (take-append-drop (n + 1) o) ∙ ap (λ (z : List ℕ). z ++ drop (n + 1) o) p.list,
      (sym l, p.list),
    )

module _ {ar : List ℕ} {tag full : ℕ} {w : List ℕ} {b : Bool} {n m : ℕ} (g : GivenPat ar tag full w b n m) where
  -- what the first word is
  shape_is : form (get_or w 0 0) ≡ shape g.p
  shape_is = ap (λ (l : List ℕ). form (get_or l 0 0)) (g.code_is ∙ ap (λ (l : List ℕ). l ++ g.rest) (code_split g.p)) ∙ word_form g.known.sig g.well

  -- and how its rows are made
  pub step_is : {s : Making} → making_of (form (get_or w 0 0)) b ≡ s → making_of (shape g.p) b ≡ s
  step_is h = ap (λ (f : Form). making_of f b) (sym shape_is) ∙ h

  pub some_word : 1 ≤ length w
  some_word = omega (arith, some_pattern_word g.p, simp length-append at (ap length g.code_is))

module _ {ar : List ℕ} {tag full : ℕ} {w : List ℕ} {b : Bool} {n m : ℕ} (g : GivenPat ar tag full w b n m) where
  -- not
  module _ (h : making_of (form (get_or w 0 0)) b ≡ Swap) (own : ℕ) (own_is : own ≡ 1) where
    neg_view : Negated g.known.sig g.k g.p b
    neg_view = negated g.known.sig g.k g.p b g.well g.light g.ranges (step_is g h)

    pub neg_given : GivenPat ar tag full (from w own) (not b) n m
    neg_given = record {
      known = g.known;
      k = g.k;
      there = g.there;
      p = neg_view.q;
      rest = g.rest;
      code_is = first_part w 260 (pattern_code neg_view.q) g.rest own own_is (g.code_is ∙ ap (λ (l : List ℕ). l ++ g.rest) neg_view.code_is);
      well = neg_view.well;
      light = neg_view.light;
      ranges = neg_view.ranges;
      opened = g.opened;
      room = omega (arith, g.room, ap length neg_view.code_is);
      work_room = omega (arith, g.work_room, ap length neg_view.code_is);
    }

    pub neg_made : (used read : ℕ) (o : List ℕ) → ((q : GivenPat ar tag full (from w own) (not b) n m) → Result q used read o) → Result g used (read + own) o × (read + own ≤ length w)
    unfolding neg_given
    neg_made used read o f =
        let d = f neg_given in
        let c = neg_view.code_is in (
          record { read_is = omega (arith, d.read_is, ap length c); list = subst (λ (l : List Row). Product (entries (kinds_of g.known.sig) g.k l) used o) (sym neg_view.rows_is) d.list },
          omega (arith, d.read_is, ap length c, simp length-append at (ap length g.code_is)),
        )

module _ {ar : List ℕ} {tag full : ℕ} {w : List ℕ} {b : Bool} {n m : ℕ} (g : GivenPat ar tag full w b n m) where
  -- a leaf
  abbrev LeafOf : List ℕ → Type 0
  LeafOf ws = Leaf (kinds_of g.known.sig) g.known.sig g.k tag full g.opened g.p b ws

  leaf_room : {ws : List ℕ} → LeafOf ws → 5 ≤ n
  leaf_room e = omega (arith, g.room, e.short)

  leaf_made : {ws : List ℕ} → LeafOf ws → (used own : ℕ) (o : List ℕ) → own ≡ 1 → Product ws used o → Result g used own o
  leaf_made e used own o own_is p = record { read_is = own_is ∙ sym e.short; list = subst (λ (z : List ℕ). Product z used o) e.rows_is p }

  one_view : (v : ℕ) → making_of (form (get_or w 0 0)) b ≡ One v → LeafOf (3 ∷ cell_code tag v full) × (v < 65536)
  one_view v h = one_of (kinds_of g.known.sig) g.known.sig g.k tag full g.opened g.p b v g.well (step_is g h)

  none_view : making_of (form (get_or w 0 0)) b ≡ Nothing → LeafOf []
  none_view h = none_of (kinds_of g.known.sig) g.known.sig g.k tag full g.opened g.p b (step_is g h)

  pub one_given : (v : ℕ) → making_of (form (get_or w 0 0)) b ≡ One v → (5 ≤ n) × (first_word tag v < 2 ^ 64)
  one_given v h = (leaf_room (one_view v h).0, omega (arith, (one_view v h).1, g.opened.tag_is, g.opened.kind))

  pub one_made : (v : ℕ) → making_of (form (get_or w 0 0)) b ≡ One v → (used own : ℕ) (o : List ℕ) → own ≡ 1 → Product (3 ∷ cell_code tag v full) used o → Result g used own o
  one_made v h = leaf_made (one_view v h).0

  pub none_given : making_of (form (get_or w 0 0)) b ≡ Nothing → 1 ≤ n
  none_given h = omega (arith, leaf_room (none_view h))

  pub none_made : making_of (form (get_or w 0 0)) b ≡ Nothing → (used own : ℕ) (o : List ℕ) → own ≡ 1 → Product [] used o → Result g used own o
  none_made h = leaf_made (none_view h)

  -- a range
  module _ (h : making_of (form (get_or w 0 0)) b ≡ Range) where
    range_view : RangeOf g.known.sig g.k g.p
    range_view = range_of g.known.sig g.k g.p b g.well g.ranges (step_is g h)

    pub range_given : GivenRange tag full w n
    range_given = record {
      sig = g.known.sig;
      k = g.k;
      low = range_view.low;
      high = range_view.high;
      rest = g.rest;
      code_is = g.code_is ∙ ap (λ (p : Pattern). pattern_code p ++ g.rest) range_view.p_is;
      number = range_view.number;
      right = range_view.right;
      opened = g.opened;
      room = omega (arith, g.room, ap (λ (p : Pattern). length (pattern_code p)) range_view.p_is);
    }

    pub range_made : (used own : ℕ) (o : List ℕ) → own ≡ own_words (form (get_or w 0 0))
        → ((q : GivenRange tag full w n) → Product (entries (kinds_of q.sig) q.k (rows_of q.sig q.k b (range q.low q.high))) used o) → Result g used own o
    unfolding range_given
    range_made used own o e f = record {
      read_is = e ∙ ap own_words (shape_is g ∙ ap shape range_view.p_is) ∙ ap (λ (p : Pattern). length (pattern_code p)) (sym range_view.p_is);
      list = subst (λ (p : Pattern). Product (entries (kinds_of g.known.sig) g.k (rows_of g.known.sig g.k b p)) used o) (sym range_view.p_is) (f range_given);
    }

module _ {ar : List ℕ} {tag full : ℕ} {w : List ℕ} {b : Bool} {n m : ℕ} (g : GivenPat ar tag full w b n m) where
  -- two parts that are multiplied: the first in the workspace, the second behind it
  module _ (h : making_of (form (get_or w 0 0)) b ≡ Multiply) (own : ℕ) (own_is : own ≡ 1) where
    mult_view : Multiplied g.known.sig g.k g.p b
    mult_view = multiplied g.known.sig g.k g.p b g.well g.light g.ranges (step_is g h)

    abbrev mult_two : Two g.known.sig g.k g.p b
    mult_two = mult_view.two

    mult_length : length (pattern_code g.p) ≡ 1 + (length (pattern_code mult_two.q) + length (pattern_code mult_two.r))
    mult_length = ap length mult_two.code_is ∙ simp length-append (omega arith)

    mult_code : w ≡ (mult_two.word ∷ (pattern_code mult_two.q ++ pattern_code mult_two.r)) ++ g.rest
    mult_code = g.code_is ∙ ap (λ (l : List ℕ). l ++ g.rest) mult_two.code_is

    pub mult_first : GivenPat ar tag full (from w own) b m n
    mult_first = record {
      known = g.known;
      k = g.k;
      there = g.there;
      p = mult_two.q;
      rest = pattern_code mult_two.r ++ g.rest;
      code_is = first_part w _ (pattern_code mult_two.q ++ pattern_code mult_two.r) g.rest own own_is mult_code ∙ append_assoc (pattern_code mult_two.q) (pattern_code mult_two.r) g.rest;
      well = mult_two.well.0;
      light = mult_two.light.0;
      ranges = mult_two.ranges.0;
      opened = g.opened;
      room = omega (arith, g.work_room, mult_length);
      work_room = omega (arith, g.room, mult_length);
    }

module _ {ar : List ℕ} {tag full : ℕ} {w : List ℕ} {b : Bool} {n m : ℕ} (g : GivenPat ar tag full w b n m) where
  module _ (h : making_of (form (get_or w 0 0)) b ≡ Multiply) (own : ℕ) (own_is : own ≡ 1) where
    module _ (used read : ℕ) (o : List ℕ) (f : (q : GivenPat ar tag full (from w own) b m n) → Result q used read o) where
      mult_made_first : Made (kinds_of g.known.sig) g.known.sig g.k b (mult_two g h own own_is).q used read o
      unfolding mult_first
      mult_made_first = f (mult_first g h own own_is)

      pub mult_bounds : (read + own ≤ length w) × (used + 1 ≤ length o)
      mult_bounds = (
        omega (arith, mult_made_first.read_is, simp length-append at (ap length (mult_code g h own own_is))),
        (in_front _ o used mult_made_first.list).0,
      )

      pub mult_second : (n' m' : ℕ) → length o ≡ m → n' ≡ n → m' ≡ length (from o (used + 1)) → GivenPat ar tag full (from w (read + own)) b m' n'
      mult_second n' m' l e i = record {
        known = g.known;
        k = g.k;
        there = g.there;
        p = (mult_two g h own own_is).r;
        rest = g.rest;
        code_is = second_part w _ (pattern_code (mult_two g h own own_is).q) (pattern_code (mult_two g h own own_is).r) g.rest read own own_is (mult_code g h own own_is) mult_made_first.read_is;
        well = (mult_two g h own own_is).well.1;
        light = (mult_two g h own own_is).light.1;
        ranges = (mult_two g h own own_is).ranges.1;
        opened = g.opened;
        room =
            let z : m' ≡ m - (used + 1) = i ∙ ap length (from_is o (used + 1)) ∙ length-drop (used + 1) o ∙ ap (λ (x : ℕ). x - (used + 1)) l in
            omega (arith, z, g.work_room, mult_length g h own own_is, mult_made_first.list.size, list_small g.known.sig g.k (kinds_of g.known.sig) (mult_two g h own own_is).q b (mult_two g h own own_is).well.0 (mult_two g h own own_is).light.0);
        work_room = omega (arith, e, g.room, mult_length g h own own_is);
      }

module _ {ar : List ℕ} {tag full : ℕ} {w : List ℕ} {b : Bool} {n m : ℕ} (g : GivenPat ar tag full w b n m) where
  module _ (h : making_of (form (get_or w 0 0)) b ≡ Multiply) (own : ℕ) (own_is : own ≡ 1) where
    module _ (used read : ℕ) (o : List ℕ) (f : (q : GivenPat ar tag full (from w own) b m n) → Result q used read o) where
      module _ (n' m' used' read' : ℕ) (l : length o ≡ m) (e : n' ≡ n) (i : m' ≡ length (from o (used + 1))) (ys : List ℕ) (f' : (q : GivenPat ar tag full (from w (read + own)) b m' n') → Result q used' read' ys) (k : length ys ≡ length (from o (used + 1))) where
        mult_made_second : Made (kinds_of g.known.sig) g.known.sig g.k b (mult_two g h own own_is).r used' read' ys
        unfolding mult_second
        mult_made_second = f' (mult_second g h own own_is used read o f n' m' l e i)

        pub mult_read : read + own + read' ≤ length w
        mult_read = omega (arith, (mult_made_first g h own own_is used read o f).read_is, mult_made_second.read_is, simp length-append at (ap length (mult_code g h own own_is)))

        front_kept : take (used + 1) o ≡ entries (kinds_of g.known.sig) g.k (rows_of g.known.sig g.k b (mult_two g h own own_is).q) ++ (0 ∷ [])
        front_kept = (mult_made_first g h own own_is used read o f).list.list

        behind : from (back o (used + 1) ys) (used + 1) ≡ ys ++ drop (length o - (used + 1)) (drop (used + 1) o)
        behind = from_is (back o (used + 1) ys) (used + 1) ∙ drop_at (take (used + 1) o) (ys ++ drop (length o - (used + 1)) (drop (used + 1) o)) (used + 1) (length-take-le (used + 1) o (mult_bounds g h own own_is used read o f).1)

        pub mult_at : used + 1 ≤ length (back o (used + 1) ys)
        mult_at = simp length-append (omega (arith, length-take-le (used + 1) o (mult_bounds g h own own_is used read o f).1))

        pub mult_lists : (o' : List ℕ) → length o' ≡ n → GivenProduct ar (back o (used + 1) ys) (from (back o (used + 1) ys) (used + 1)) o'
        mult_lists o' j = record {
          K = kinds_of g.known.sig;
          kind = g.k;
          rs = rows_of g.known.sig g.k b (mult_two g h own own_is).q;
          ss = rows_of g.known.sig g.k b (mult_two g h own own_is).r;
          rest_x = ys ++ drop (length o - (used + 1)) (drop (used + 1) o);
          rest_y = drop (used' + 1) ys ++ drop (length o - (used + 1)) (drop (used + 1) o);
          code_x = ap (λ (z : List ℕ). z ++ (ys ++ drop (length o - (used + 1)) (drop (used + 1) o))) front_kept;
          code_y = behind ∙ ap (λ (z : List ℕ). z ++ drop (length o - (used + 1)) (drop (used + 1) o)) (in_front _ ys used' mult_made_second.list).1 ∙ append_assoc (list_code (kinds_of g.known.sig) g.k (rows_of g.known.sig g.k b (mult_two g h own own_is).r)) (drop (used' + 1) ys) (drop (length o - (used + 1)) (drop (used + 1) o));
          typed_r = typed_rows g.known (mult_two g h own own_is).q b g.k g.there (mult_two g h own own_is).well.0;
          typed_s = typed_rows g.known (mult_two g h own own_is).r b g.k g.there (mult_two g h own own_is).well.1;
          room = omega (arith, j, g.room, mult_length g h own own_is, all_small (kinds_of g.known.sig) g.k (length (pattern_code (mult_two g h own own_is).q)) (length (pattern_code (mult_two g h own own_is).r)) (rows_of g.known.sig g.k b (mult_two g h own own_is).q) (rows_of g.known.sig g.k b (mult_two g h own own_is).r) (rows_places g.known.sig g.k (mult_two g h own own_is).q b (mult_two g h own own_is).well.0) (rows_places g.known.sig g.k (mult_two g h own own_is).r b (mult_two g h own own_is).well.1) (mult_view g h own own_is).few);
        }

        pub mult_made : (o' o'' : List ℕ) (r : ℕ) → length o' ≡ n
            → ((q : GivenProduct ar (back o (used + 1) ys) (from (back o (used + 1) ys) (used + 1)) o') → Product (entries q.K q.kind (products q)) r o'')
            → Result g r (read + own + read') o''
        unfolding mult_lists
        mult_made o' o'' r j f'' = record {
          read_is = let c = ap length (mult_two g h own own_is).code_is in omega (arith, (mult_made_first g h own own_is used read o f).read_is, mult_made_second.read_is, simp length-append at c);
          list = subst (λ (z : List Row). Product (entries (kinds_of g.known.sig) g.k z) r o'') (sym (mult_view g h own own_is).rows_is) (f'' (mult_lists o' j));
        }

module _ {ar : List ℕ} {tag full : ℕ} {w : List ℕ} {b : Bool} {n m : ℕ} (g : GivenPat ar tag full w b n m) where
  -- two parts that are added: the second behind the first
  module _ (h : making_of (form (get_or w 0 0)) b ≡ Add) (own : ℕ) (own_is : own ≡ 1) where
    add_view : Added g.known.sig g.k g.p b
    add_view = added g.known.sig g.k g.p b g.well g.light g.ranges (step_is g h)

    abbrev add_two : Two g.known.sig g.k g.p b
    add_two = add_view.two

    add_length : length (pattern_code g.p) ≡ 1 + (length (pattern_code add_two.q) + length (pattern_code add_two.r))
    add_length = ap length add_two.code_is ∙ simp length-append (omega arith)

    add_code : w ≡ (add_two.word ∷ (pattern_code add_two.q ++ pattern_code add_two.r)) ++ g.rest
    add_code = g.code_is ∙ ap (λ (l : List ℕ). l ++ g.rest) add_two.code_is

    pub add_first : GivenPat ar tag full (from w own) b n m
    add_first = record {
      known = g.known;
      k = g.k;
      there = g.there;
      p = add_two.q;
      rest = pattern_code add_two.r ++ g.rest;
      code_is = first_part w _ (pattern_code add_two.q ++ pattern_code add_two.r) g.rest own own_is add_code ∙ append_assoc (pattern_code add_two.q) (pattern_code add_two.r) g.rest;
      well = add_two.well.0;
      light = add_two.light.0;
      ranges = add_two.ranges.0;
      opened = g.opened;
      room = omega (arith, g.room, add_length);
      work_room = omega (arith, g.work_room, add_length);
    }

module _ {ar : List ℕ} {tag full : ℕ} {w : List ℕ} {b : Bool} {n m : ℕ} (g : GivenPat ar tag full w b n m) where
  module _ (h : making_of (form (get_or w 0 0)) b ≡ Add) (own : ℕ) (own_is : own ≡ 1) where
    module _ (used read : ℕ) (o : List ℕ) (f : (q : GivenPat ar tag full (from w own) b n m) → Result q used read o) where
      add_made_first : Made (kinds_of g.known.sig) g.known.sig g.k b (add_two g h own own_is).q used read o
      unfolding add_first
      add_made_first = f (add_first g h own own_is)

      pub add_bounds : (read + own ≤ length w) × (used + 1 ≤ length o)
      add_bounds = (
        omega (arith, add_made_first.read_is, simp length-append at (ap length (add_code g h own own_is))),
        (in_front _ o used add_made_first.list).0,
      )

      pub add_second : (n' m' : ℕ) → length o ≡ n → m' ≡ m → n' ≡ length (from o used) → GivenPat ar tag full (from w (read + own)) b n' m'
      add_second n' m' l e i = record {
        known = g.known;
        k = g.k;
        there = g.there;
        p = (add_two g h own own_is).r;
        rest = g.rest;
        code_is = second_part w _ (pattern_code (add_two g h own own_is).q) (pattern_code (add_two g h own own_is).r) g.rest read own own_is (add_code g h own own_is) add_made_first.read_is;
        well = (add_two g h own own_is).well.1;
        light = (add_two g h own own_is).light.1;
        ranges = (add_two g h own own_is).ranges.1;
        opened = g.opened;
        room =
            let z : n' ≡ n - used = i ∙ ap length (from_is o used) ∙ length-drop used o ∙ ap (λ (x : ℕ). x - used) l in
            omega (arith, z, g.room, add_length g h own own_is, add_made_first.list.size, list_small g.known.sig g.k (kinds_of g.known.sig) (add_two g h own own_is).q b (add_two g h own own_is).well.0 (add_two g h own own_is).light.0);
        work_room = omega (arith, e, g.work_room, add_length g h own own_is);
      }

module _ {ar : List ℕ} {tag full : ℕ} {w : List ℕ} {b : Bool} {n m : ℕ} (g : GivenPat ar tag full w b n m) where
  module _ (h : making_of (form (get_or w 0 0)) b ≡ Add) (own : ℕ) (own_is : own ≡ 1) where
    module _ (used read : ℕ) (o : List ℕ) (f : (q : GivenPat ar tag full (from w own) b n m) → Result q used read o) where
      module _ (n' m' used' read' : ℕ) (l : length o ≡ n) (e : m' ≡ m) (i : n' ≡ length (from o used)) (ys : List ℕ) (f' : (q : GivenPat ar tag full (from w (read + own)) b n' m') → Result q used' read' ys) (k : length ys ≡ length (from o used)) where
        add_made_second : Made (kinds_of g.known.sig) g.known.sig g.k b (add_two g h own own_is).r used' read' ys
        unfolding add_second
        add_made_second = f' (add_second g h own own_is used read o f n' m' l e i)

        pub add_read : (read + own + read' ≤ length w) × (used + used' + 1 ≤ length o)
        add_read = (
          omega (arith, (add_made_first g h own own_is used read o f).read_is, add_made_second.read_is, simp length-append at (ap length (add_code g h own own_is))),
          omega (arith, (in_front _ ys used' add_made_second.list).0, k, ap length (from_is o used), length-drop used o, (add_bounds g h own own_is used read o f).1),
        )

        pub add_made : Result g (used + used') (read + own + read') (back o used ys)
        add_made =
            let A = entries (kinds_of g.known.sig) g.k (rows_of g.known.sig g.k b (add_two g h own own_is).q) in
            let B = entries (kinds_of g.known.sig) g.k (rows_of g.known.sig g.k b (add_two g h own own_is).r) in
            let one : take used o ≡ A = sym (take-take used (used + 1) o (omega arith)) ∙ ap (take used) (add_made_first g h own own_is used read o f).list.list ∙ take_at A (0 ∷ []) used (sym (add_made_first g h own own_is used read o f).list.size) in
            let two = part_back o ys A (B ++ (0 ∷ [])) (drop (length o - used) (drop used o)) used (used' + 1) (omega (arith, (add_bounds g h own own_is used read o f).1)) one (in_front _ ys used' add_made_second.list).2 in
            let rows = ap (entries (kinds_of g.known.sig) g.k) (add_view g h own own_is).rows_is ∙ each_append (λ r. row_code (kinds_of g.known.sig) r g.k) (rows_of g.known.sig g.k b (add_two g h own own_is).q) (rows_of g.known.sig g.k b (add_two g h own own_is).r) in
            record {
              read_is = let c = ap length (add_two g h own own_is).code_is in omega (arith, (add_made_first g h own own_is used read o f).read_is, add_made_second.read_is, simp length-append at c);
              list = rw rows (record {
                size = simp length-append (omega (arith, (add_made_first g h own own_is used read o f).list.size, add_made_second.list.size));
                list = let j : used + used' + 1 ≡ used + (used' + 1) = omega arith in rw j (two ∙ sym (append_assoc A B (0 ∷ [])));
              });
            }
