-- How many columns are a row's own at each of its cells.
use mathlib.Core.Path.{◌≡◌, refl, sym, ap, subst, ◌∙◌}
use mathlib.Core.List.{List, [], ◌∷◌, ◌++◌, append-nil}
use Prim.Native.Nat.{ℕ, zero, suc, ◌+◌, ◌-◌, ◌*◌, ◌≤◌, ◌<◌}
use native.Mathlib.Omega.{arith}
use borrow.Author.Tests.{lt-ltb, le-ltb}
use lib.ListN.{length, get_or, drop, set, length-append, length-set, length-drop}
use lib.Seq.{get_or-set_same, get_or-set_other}
use Rattle.signature.specs.Signature.{Signature, arguments}
use Rattle.row.specs.Row.{Row, Rows, named, free, rnil, rcons}
use Rattle.cell.specs.Cell.{kind_tag, words, all_words}
use Rattle.cell.specs.Coded.{kinds_of, cells, all_cells, row_code}
use Rattle.cell.specs.Cursor.{opens_of}
use Rattle.tree.specs.Tree.{rappend}
use Rattle.path.specs.Standing.{RowStands, RowsStand, At, tag_of}
use Rattle.path.specs.State.{row_stride, own_of}
use Rattle.path.specs.Rows.{GivenRow, RowCounted, RowIndexed, Before}
use Rattle.path.proofs.StandingLaws.{RealAt, is_real}
use Rattle.path.proofs.StepLaws.{after_named, after_free, its_cell, row_tag}

module _ (sig : Signature) (t : List ℕ) where
  three_words : (r : Row) (k : ℕ) → 3 ≤ length (words (cells (kinds_of sig) r k))
  three_words (named vs c rs) k = omega arith
  three_words (free vs cs) k = omega arith

  many_words : (qs : Rows) (ks : List ℕ) → RowsStand sig t qs ks → 3 * length ks ≤ length (all_words (all_cells (kinds_of sig) qs ks))
  many_words rnil [] g = omega arith
  many_words rnil (k ∷ ks) g = absurd g
  many_words (rcons r rs) [] g = absurd g
  many_words (rcons r rs) (k ∷ ks) g = simp length-append (omega (arith, three_words r k, many_words rs ks g.1))

  no_words : (qs : Rows) (ks : List ℕ) → RowsStand sig t qs ks → length ks ≡ 0 → length (all_words (all_cells (kinds_of sig) qs ks)) ≡ 0
  no_words rnil [] g e = refl
  no_words rnil (k ∷ ks) g e = absurd g
  no_words (rcons r rs) [] g e = absurd g
  no_words (rcons r rs) (k ∷ ks) g e = absurd (omega arith)

  -- columns that are all the row's own
  pub record OwnAt (a : List ℕ) (stop at own : ℕ) : Type 0 where
    pub ks : List ℕ
    pub rs : Rows
    pub here : At sig t a stop at own ks rs
    pub all : own ≡ length ks

  pub own_cells : (a : List ℕ) (stop at own : ℕ) → OwnAt a stop at own → at + 3 * own ≤ stop
  own_cells a stop at own w = let h = w.here in omega (arith, many_words h.qs h.mine h.good, h.own_is, h.ends)

  pub own_end : (a : List ℕ) (stop at own : ℕ) → OwnAt a stop at own → own ≤ 0 → at ≡ stop
  own_end a stop at own w l = let h = w.here in omega (arith, no_words h.qs h.mine h.good (omega (arith, h.own_is)), h.ends)

  own_step : (a : List ℕ) (stop at own k : ℕ) (ks : List ℕ) (rs : Rows) (r : Row) (w : RealAt sig t a stop at k ks rs) → w.r ≡ r → own ≡ suc (length ks) → OwnAt a stop (at + 3) (own - 1 + opens_of t (tag_of a at))
  own_step a stop at own k ks rs (named vs c ps) w e o =
      let g : RowStands sig t (named vs c ps) k = subst (λ (r : Row). RowStands sig t r k) e w.good in
      let tag : tag_of a at ≡ c = (its_cell sig t a stop at k ks rs w).tag ∙ ap (λ (r : Row). row_tag r k) e in
      record {
        ks = arguments sig c ++ ks;
        rs = rappend ps w.qs;
        here = after_named sig t a stop at own k ks w.qs w.rest vs c ps g w.goods (w.code_is ∙ ap (λ (r : Row). words (cells (kinds_of sig) r k) ++ (all_words (all_cells (kinds_of sig) w.qs ks) ++ w.rest)) e) (ap (λ (r : Row). at + (length (words (cells (kinds_of sig) r k)) + length (all_words (all_cells (kinds_of sig) w.qs ks)))) (sym e) ∙ w.ends) o;
        all = rw (tag, lt-ltb c kind_tag g.0.tag) (simp length-append (omega (arith, g.0.arity)));
      }
  own_step a stop at own k ks rs (free vs cs) w e o =
      let g : RowStands sig t (free vs cs) k = subst (λ (r : Row). RowStands sig t r k) e w.good in
      let tag : tag_of a at ≡ kind_tag + k = (its_cell sig t a stop at k ks rs w).tag ∙ ap (λ (r : Row). row_tag r k) e in
      record {
        ks = ks;
        rs = w.qs;
        here = after_free sig t a stop at own k [] ks w.qs w.rest vs cs g.0 w.goods (w.code_is ∙ ap (λ (r : Row). words (cells (kinds_of sig) r k) ++ (all_words (all_cells (kinds_of sig) w.qs ks) ++ w.rest)) e) (ap (λ (r : Row). at + (length (words (cells (kinds_of sig) r k)) + length (all_words (all_cells (kinds_of sig) w.qs ks)))) (sym e) ∙ w.ends) o;
        all = rw (tag, le-ltb (kind_tag + k) kind_tag (omega arith)) (omega arith);
      }

  pub own_next : (a : List ℕ) (stop at own : ℕ) → OwnAt a stop at own → 0 < own → OwnAt a stop (at + 3) (own - 1 + opens_of t (tag_of a at))
  own_next a stop at own w l = go w.ks w.here w.all
    where
      go : (ks : List ℕ) → At sig t a stop at own ks w.rs → own ≡ length ks → OwnAt a stop (at + 3) (own - 1 + opens_of t (tag_of a at))
      go [] h e = absurd (omega arith)
      go (k ∷ ks) h e = let v = is_real sig t a stop at own k ks w.rs h e in own_step a stop at own k ks w.rs v.r v refl e

  -- the whole row: one column
  pub one_column : (a : List ℕ) (start : ℕ) (r : Row) (rest : List ℕ) → RowStands sig t r 0 → drop start a ≡ row_code (kinds_of sig) r 0 ++ rest → start ≤ length a → At sig t a (start + length (row_code (kinds_of sig) r 0)) start 1 (0 ∷ []) (rcons r rnil)
  one_column a start r rest g e l = record {
    virt = [];
    mine = 0 ∷ [];
    qs = rcons r rnil;
    rest = rest;
    kinds_are = refl;
    columns_are = refl;
    good = (g, tt);
    code_is = e ∙ ap (λ (z : List ℕ). z ++ rest) (sym (append-nil (row_code (kinds_of sig) r 0)));
    within = l;
    own_is = refl;
    ends = ap (λ (z : List ℕ). start + length z) (append-nil (row_code (kinds_of sig) r 0));
  }

pub own_start : {t a : List ℕ} {start len : ℕ} (g : GivenRow t a start len) → OwnAt g.known.sig t a (start + len) (start + 3 * 0) 1
own_start {t} {a} {start} {len} g =
    let z : start + 3 * 0 ≡ start = omega arith in
    rw (z, g.len_is) (record { ks = 0 ∷ []; rs = rcons g.row rnil; here = one_column g.known.sig t a start g.row g.rest g.good g.code_is g.within; all = refl })

pub row_within : {t a : List ℕ} {start len : ℕ} (g : GivenRow t a start len) → start + len ≤ length a
row_within {t} {a} {start} {len} g = omega (arith, g.len_is, length-drop start a, ap length g.code_is, length-append (row_code (kinds_of g.known.sig) g.row 0) g.rest, g.within)

pub own_on : {t a : List ℕ} {start len : ℕ} (g : GivenRow t a start len) (i left x : ℕ) → OwnAt g.known.sig t a (start + len) (start + 3 * i) left → 0 < left → x ≡ opens_of t (tag_of a (start + 3 * i)) → OwnAt g.known.sig t a (start + len) (start + 3 * (i + 1)) (left - 1 + x)
own_on {t} {a} {start} {len} g i left x w l e =
    let z : start + 3 * (i + 1) ≡ start + 3 * i + 3 = omega arith in
    rw (z, e) (own_next g.known.sig t a (start + len) (start + 3 * i) left w l)

-- the counts so far

pub record Counting (t a rows : List ℕ) (r start i left : ℕ) : Type 0 where
  pub zero : i ≡ 0 → left ≡ 1
  pub one : 0 < i → own_of rows r 0 ≡ 1
  pub steps : (q : ℕ) → q + 1 < i → own_of rows r (q + 1) ≡ own_of rows r q - 1 + opens_of t (tag_of a (start + 3 * q))
  pub last : (q : ℕ) → q + 1 ≡ i → left ≡ own_of rows r q - 1 + opens_of t (tag_of a (start + 3 * q))

pub counting_start : (t a rows : List ℕ) (r start : ℕ) → Counting t a rows r start 0 1
counting_start t a rows r start = record { zero = λ e. refl; one = λ l. absurd (omega arith); steps = λ q l. absurd (omega arith); last = λ q e. absurd (omega (arith, e)) }

module _ (t a rows : List ℕ) (r start i left : ℕ) (w : Counting t a rows r start i left) (l : row_stride * r + 4 + i < length rows) where
  here : own_of (set rows (row_stride * r + 4 + i) left) r i ≡ left
  here = get_or-set_same rows (row_stride * r + 4 + i) left 0 l

  there : (q : ℕ) → q < i → own_of (set rows (row_stride * r + 4 + i) left) r q ≡ own_of rows r q
  there q h = get_or-set_other rows (row_stride * r + 4 + i) (row_stride * r + 4 + q) left 0 (λ z. absurd (omega (arith, z)))

  first : own_of (set rows (row_stride * r + 4 + i) left) r 0 ≡ 1
  first = go i refl
    where
      go : (j : ℕ) → i ≡ j → own_of (set rows (row_stride * r + 4 + i) left) r 0 ≡ 1
      go zero e = ap (λ (z : ℕ). own_of (set rows (row_stride * r + 4 + i) left) r z) (sym e) ∙ here ∙ w.zero e
      go (suc j) e = there 0 (omega (arith, e)) ∙ w.one (omega (arith, e))

  step : (q : ℕ) → q < i → own_of (set rows (row_stride * r + 4 + i) left) r (q + 1) ≡ own_of (set rows (row_stride * r + 4 + i) left) r q - 1 + opens_of t (tag_of a (start + 3 * q))
  step q h = go (i - (q + 1)) refl
    where
      back : own_of rows r q - 1 + opens_of t (tag_of a (start + 3 * q)) ≡ own_of (set rows (row_stride * r + 4 + i) left) r q - 1 + opens_of t (tag_of a (start + 3 * q))
      back = ap (λ (z : ℕ). z - 1 + opens_of t (tag_of a (start + 3 * q))) (sym (there q h))

      go : (j : ℕ) → i - (q + 1) ≡ j → own_of (set rows (row_stride * r + 4 + i) left) r (q + 1) ≡ own_of (set rows (row_stride * r + 4 + i) left) r q - 1 + opens_of t (tag_of a (start + 3 * q))
      go zero e =
          let z : q + 1 ≡ i = omega (arith, e) in
          ap (λ (y : ℕ). own_of (set rows (row_stride * r + 4 + i) left) r y) z ∙ here ∙ w.last q z ∙ back
      go (suc j) e = there (q + 1) (omega (arith, e)) ∙ w.steps q (omega (arith, e)) ∙ back

  pub counting_next : Counting t a (set rows (row_stride * r + 4 + i) left) r start (i + 1) (left - 1 + opens_of t (tag_of a (start + 3 * i)))
  counting_next = record {
    zero = λ e. absurd (omega (arith, e));
    one = λ h. first;
    steps = λ q h. step q (omega arith);
    last = λ q e.
        let z : q ≡ i = omega (arith, e) in
        rw z (ap (λ (y : ℕ). y - 1 + opens_of t (tag_of a (start + 3 * i))) (sym here));
  }

  pub counting_end : (len x : ℕ) → len ≡ 3 * i → x ≡ left → RowCounted t a (set rows (row_stride * r + 4 + i) x) r start len
  counting_end len x e f = rw f (record { one = first; counts = λ q h. step q (omega arith) })

pub counted_on : (t a rows : List ℕ) (r start i left x : ℕ) → Counting t a rows r start i left → row_stride * r + 4 + i < length rows → x ≡ opens_of t (tag_of a (start + 3 * i)) → Counting t a (set rows (row_stride * r + 4 + i) left) r start (i + 1) (left - 1 + x)
counted_on t a rows r start i left x w l e = rw e (counting_next t a rows r start i left w l)

pub before_set : (k i x : ℕ) (xs ys : List ℕ) → Before k xs ys → k ≤ i → Before k xs (set ys i x)
before_set k i x xs ys b l j h = get_or-set_other ys i j x 0 (λ z. absurd (omega (arith, z))) ∙ b j h

-- what a row's table says where its first words are set before its counts
pub row_indexed : (t a rows rows' : List ℕ) (r start len rule plan : ℕ) → row_stride * r + row_stride ≤ length rows
    → RowCounted t a rows' r start len × Before (row_stride * r + 4) (set (set (set (set rows (row_stride * r) start) (row_stride * r + 1) (start + len)) (row_stride * r + 2) rule) (row_stride * r + 3) plan) rows'
    → RowIndexed t a rows' r start len rule plan × Before (row_stride * r) rows rows'
row_indexed t a rows rows' r start len rule plan l (c, b) = (
  record {
    start_is = b (row_stride * r) (omega arith) ∙ at_other (set (set rows (row_stride * r) start) (row_stride * r + 1) (start + len)) (row_stride * r + 3) (row_stride * r + 2) (row_stride * r) plan rule (omega arith) (omega arith) ∙ get_or-set_other (set rows (row_stride * r) start) (row_stride * r + 1) (row_stride * r) (start + len) 0 (λ z. absurd (omega (arith, z))) ∙ get_or-set_same rows (row_stride * r) start 0 (omega arith);
    stop_is = b (row_stride * r + 1) (omega arith) ∙ at_other (set (set rows (row_stride * r) start) (row_stride * r + 1) (start + len)) (row_stride * r + 3) (row_stride * r + 2) (row_stride * r + 1) plan rule (omega arith) (omega arith) ∙ get_or-set_same (set rows (row_stride * r) start) (row_stride * r + 1) (start + len) 0 (simp length-set (omega arith));
    rule_is = b (row_stride * r + 2) (omega arith) ∙ get_or-set_other (set (set (set rows (row_stride * r) start) (row_stride * r + 1) (start + len)) (row_stride * r + 2) rule) (row_stride * r + 3) (row_stride * r + 2) plan 0 (λ z. absurd (omega (arith, z))) ∙ get_or-set_same (set (set rows (row_stride * r) start) (row_stride * r + 1) (start + len)) (row_stride * r + 2) rule 0 (simp length-set (omega arith));
    plan_is = b (row_stride * r + 3) (omega arith) ∙ get_or-set_same (set (set (set rows (row_stride * r) start) (row_stride * r + 1) (start + len)) (row_stride * r + 2) rule) (row_stride * r + 3) plan 0 (simp length-set (omega arith));
    counted = c;
  },
  λ i h. b i (omega arith) ∙ at_other (set (set rows (row_stride * r) start) (row_stride * r + 1) (start + len)) (row_stride * r + 3) (row_stride * r + 2) i plan rule (omega arith) (omega arith) ∙ at_other rows (row_stride * r + 1) (row_stride * r) i (start + len) start (omega arith) (omega arith),
)
  where
    at_other : (xs : List ℕ) (i j q x y : ℕ) → q < i → q < j → get_or (set (set xs j y) i x) q 0 ≡ get_or xs q 0
    at_other xs i j q x y h k = get_or-set_other (set xs j y) i q x 0 (λ z. absurd (omega (arith, z))) ∙ get_or-set_other xs j q y 0 (λ z. absurd (omega (arith, z)))
