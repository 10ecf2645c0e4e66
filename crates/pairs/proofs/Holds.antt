-- A pattern that passes the checks, and its rows behind those that are held.
use mathlib.Core.Path.{◌≡◌, refl, sym, ap, ap₂, subst, ◌∙◌}
use mathlib.Core.List.{List, [], ◌∷◌, ◌++◌, append_assoc}
use mathlib.Core.Option.{some}
use mathlib.Core.Bool.{Bool, true, false, cond}
use Prim.Native.Nat.{ℕ, ◌+◌, ◌-◌, ◌≤◌}
use native.Mathlib.Omega.{arith}
use lib.ListN.{length, take, drop, set, length-append, length-drop}
use lib.Seq.{take_at}
use Rattle.std.specs.Prelude.{Option, Some, None}
use Rattle.signature.specs.Decoded.{Known}
use Rattle.signature.specs.Lists.{All, none_left, also, is_some}
use Rattle.booking.proofs.PartLaws.{there}
use Rattle.pattern.specs.Given.{Patterned}
use Rattle.pattern.specs.Limits.{pattern_limit}
use Rattle.pattern.specs.Pattern.{Pattern, pattern_code}
use Rattle.pattern.specs.Ranged.{ranged}
use Rattle.pattern.specs.Read.{read_pattern}
use Rattle.pattern.specs.Weight.{weight_plus, light_plus}
use Rattle.pattern.specs.WellFormed.{PatternWords}
use Rattle.pattern.proofs.PatternBack.{pattern_words}
use Rattle.reading.specs.Ranges.{Readable}
use Rattle.weighing.specs.Weighing.{weighed}
use Rattle.row.specs.Row.{Row, rows_plus}
use Rattle.row.specs.RowFits.{place_count}
use Rattle.row.proofs.Places.{plus_places}
use Rattle.row.proofs.RowCount.{plus_count}
use Rattle.cell.specs.Cell.{Kinds}
use Rattle.cell.specs.Coded.{kinds_of, row_code}
use Rattle.cell.specs.RowList.{Every, entries, list_code, from}
use Rattle.cell.proofs.Walk.{each_append, from_is, back, back_length}
use Rattle.rowlist.specs.Product.{AllTyped}
use Rattle.rowlist.proofs.Kinded.{kind_zero}
use Rattle.rowlist.proofs.Typing.{every_append, typed_rows}
use Rattle.rowset.specs.Limits.{row_limit}
use Rattle.builder.specs.Build.{GivenWhole, RowsFirst, row_room}
use Rattle.meeting.specs.Rows.{Proper}
use Rattle.pairs.specs.Held.{Holding, rows_room}

-- what the weighing says of a pattern
abbrev Says : Pattern → Option ℕ → Type 0
Says p (Some w) = (light_plus p ≡ true) × (w ≡ weight_plus p)
Says p None = Unit {0}

says : (p : Pattern) → Says p (weighed p)
says p = go (light_plus p) refl
  where
    go : (b : Bool) → light_plus p ≡ b → Says p (cond b (Some (weight_plus p)) None)
    go true e = (e, refl)
    go false e = tt

module _ {t : List ℕ} (g : Known t) (ws : List ℕ) (b : Bool) (is : (k : Known t) → b ≡ is_some (read_pattern k.sig ws)) (e : b ≡ true) where
  the_pattern : (p : Pattern) × (read_pattern g.sig ws ≡ some p)
  the_pattern = there (read_pattern g.sig ws) (sym e ∙ is g)

  pub patterned : Patterned t ws
  patterned = record { known = g; pattern = the_pattern.0; read = the_pattern.1 }

  pub readable : Readable ws
  readable = record { sig = g.sig; pattern = the_pattern.0; read = the_pattern.1 }

  module _ (u : Bool) (u_is : (q : Readable ws) → u ≡ ranged q.pattern) (v : u ≡ true) (r : Option ℕ) (r_is : (q : Patterned t ws) → r ≡ weighed q.pattern) (w : ℕ) (light : r ≡ Some w) where
    ranged_so : ranged the_pattern.0 ≡ true
    unfolding readable
    ranged_so = sym (u_is readable) ∙ v

    so : (light_plus the_pattern.0 ≡ true) × (w ≡ weight_plus the_pattern.0)
    unfolding patterned
    so = subst (Says the_pattern.0) (sym (r_is patterned) ∙ light) (says the_pattern.0)

    -- a pattern that passes, of this weight
    pub record Passing : Type 0 where
      pub p : Pattern
      pub words : PatternWords g.sig ws p
      pub is_light : light_plus p ≡ true
      pub ranges : ranged p ≡ true
      pub weighs : w ≡ weight_plus p

    pub passing : Passing
    passing = record { p = the_pattern.0; words = pattern_words g.sig ws the_pattern.0 the_pattern.1; is_light = so.0; ranges = ranged_so; weighs = so.1 }

    pub whole : {n m : ℕ} → row_room ≤ n → row_room ≤ m → GivenWhole t ws n m
    unfolding passing
    whole x y = record { known = g; p = passing.p; words = passing.words; light = passing.is_light; ranges = passing.ranges; room = omega (arith, x, passing.words.at_most); work_room = omega (arith, y, passing.words.at_most) }

    pub rows_first : {n m k : ℕ} {ys : List ℕ} → row_room ≤ n → row_room ≤ m → ((q : GivenWhole t ws n m) → RowsFirst q.known.sig q.p k ys) → RowsFirst g.sig passing.p k ys
    unfolding whole
    rows_first x y f = f (whole x y)

-- the rows of a pattern are of its kind and have few places
proper_rows : (t : List ℕ) (K : Kinds) (l : ℕ) → l ≤ pattern_limit → (rs : List Row) → AllTyped K t 0 rs → All (λ r. place_count r ≤ l) rs → Every (Proper K t 0) rs
proper_rows t K l h [] e none_left = tt
proper_rows t K l h (r ∷ rs) e (also x a bs) = (record { typed = e.0; few = omega (arith, a, h) }, proper_rows t K l h rs e.1 bs)

module _ {t : List ℕ} {used weight : ℕ} {a : List ℕ} {m : ℕ} (h : Holding t used weight a m) where
  at_le : used + row_room ≤ length a
  at_le = omega (arith, h.small, h.light, h.room)

  pub part_room : row_room ≤ length (from a used)
  part_room = omega (arith, at_le, ap length (from_is a used) ∙ length-drop used a)

  module _ {ws : List ℕ} (p : Pattern) (words : PatternWords h.listed.known.sig ws p) (w : ℕ) (w_is : w ≡ weight_plus p) (fits : weight + w ≤ row_limit) (k : ℕ) (ys : List ℕ) (f : RowsFirst h.listed.known.sig p k ys) (l : length ys ≡ length (from a used)) (m' : ℕ) (m_is : m' ≡ m) where
    abbrev K : Kinds
    K = kinds_of h.listed.known.sig

    abbrev rs : List Row
    rs = h.listed.rs

    abbrev ss : List Row
    ss = rows_plus h.listed.known.sig 0 p

    abbrev D : List ℕ
    D = drop (length a - used) (drop used a)

    front : take used a ≡ entries K 0 rs
    front =
        ap (take used) (h.listed.code_is ∙ append_assoc (entries K 0 rs) (0 ∷ []) h.listed.rest)
        ∙ take_at (entries K 0 rs) ((0 ∷ []) ++ h.listed.rest) used (sym h.used_is)

    both : entries K 0 (rs ++ ss) ≡ entries K 0 rs ++ entries K 0 ss
    both = each_append (λ r. row_code K r 0) rs ss

    code_so : back a used ys ≡ list_code K 0 (rs ++ ss) ++ (f.rest ++ D)
    code_so =
        ap₂ (λ x y. x ++ (y ++ D)) front f.code_is
        ∙ ap (λ z. entries K 0 rs ++ z) (append_assoc (list_code K 0 ss) f.rest D)
        ∙ sym (append_assoc (entries K 0 rs) (list_code K 0 ss) (f.rest ++ D))
        ∙ ap (λ z. z ++ (f.rest ++ D)) (sym (append_assoc (entries K 0 rs) (entries K 0 ss) (0 ∷ [])) ∙ ap (λ z. z ++ (0 ∷ [])) (sym both))

    size : k + 1 ≡ length (entries K 0 ss) + 1
    size = f.size ∙ length-append (entries K 0 ss) (0 ∷ [])

    pub held : Holding t (used + k) (weight + w) (back a used ys) m'
    held = record {
      listed = record {
        known = h.listed.known;
        rs = rs ++ ss;
        rest = f.rest ++ D;
        code_is = code_so;
        proper = every_append (Proper K t 0) rs ss h.listed.proper (proper_rows t K (length (pattern_code p)) (omega (arith, ap length words.is_code, words.at_most)) ss (typed_rows h.listed.known p true 0 (kind_zero h.listed.known) words.well_formed) (plus_places h.listed.known.sig p words.well_formed));
        few = omega (arith, length-append rs ss, plus_count h.listed.known.sig p 0, h.many, w_is, fits);
      };
      used_is = omega (arith, h.used_is, size, ap length both ∙ length-append (entries K 0 rs) (entries K 0 ss));
      many = omega (arith, length-append rs ss, plus_count h.listed.known.sig p 0, h.many, w_is);
      light = fits;
      small = omega (arith, h.small, f.small, w_is);
      room = omega (arith, back_length a ys used (omega (arith, at_le)) l, h.room);
      work_room = omega (arith, m_is, h.work_room);
    }

-- no row yet
pub none_held : {t : List ℕ} (g : Known t) (a : List ℕ) (m : ℕ) → rows_room ≤ length a → row_room ≤ m → Holding t 0 0 (set a 0 0) m
none_held g [] m x y = absurd (omega (arith, x))
none_held g (z ∷ a) m x y = record {
  listed = record { known = g; rs = []; rest = a; code_is = refl; proper = tt; few = omega arith };
  used_is = refl;
  many = omega arith;
  light = omega arith;
  small = omega arith;
  room = x;
  work_room = y;
}
