-- The rows of a list put into the table of rows, one after the other.
use mathlib.Core.Path.{◌≡◌, refl, sym, ap, ◌∙◌}
use mathlib.Core.Logic.{◌⊎◌, inl, inr}
use mathlib.Core.List.{List, [], ◌∷◌, ◌++◌, append_assoc, append-nil}
use mathlib.Core.Option.{some}
use Prim.Native.Nat.{ℕ, ◌+◌, ◌-◌, ◌*◌, ◌≤◌, ◌<◌}
use native.Mathlib.Omega.{arith}
use lib.ListN.{length, get_or, drop, length-append, length-drop, get_elem?}
use lib.Seq.{drop_at, drop-drop}
use Rattle.signature.specs.Lists.{All, none_left, also}
use Rattle.signature.specs.Signature.{Signature}
use Rattle.signature.proofs.ListFacts.{all_at, all_append}
use Rattle.signature.proofs.Tests.{none≢some}
use Rattle.pattern.specs.Limits.{pattern_limit}
use Rattle.row.specs.Row.{Row}
use Rattle.cell.specs.Coded.{kinds_of, row_code}
use Rattle.cell.specs.Cursor.{opens_of}
use Rattle.cell.specs.RowList.{entries}
use Rattle.cell.proofs.Walk.{word_at}
use Rattle.builder.proofs.NextLists.{words_filled}
use Rattle.meeting.proofs.Gathering.{last_or}
use Rattle.path.specs.Standing.{tag_of}
use Rattle.path.specs.State.{row_stride}
use Rattle.signature.specs.Limits.{word_limit}
use Rattle.path.specs.Rows.{RuleRow, GivenRow, RowIndexed, Before, RowKept, Fit}
use Rattle.indexing.specs.Indexing.{row_of, GivenList, ListIndexed}

-- a row of the table stays where later rows are filled
pub placed_same : (sig : Signature) (t a tab tab' : List ℕ) (r q : ℕ) (e : RuleRow) → length (row_code (kinds_of sig) e.row 0) ≤ 3 * pattern_limit → q < r → Before (row_stride * r) tab tab' → RowKept sig t a tab q e → RowKept sig t a tab' q e
placed_same sig t a tab tab' r q e s l b w = let i = w.indexed in record {
  start = w.start;
  rest = w.rest;
  code_is = w.code_is;
  within = w.within;
  indexed = record {
    start_is = b (row_stride * q) (omega arith) ∙ i.start_is;
    stop_is = b (row_stride * q + 1) (omega arith) ∙ i.stop_is;
    rule_is = b (row_stride * q + 2) (omega arith) ∙ i.rule_is;
    plan_is = b (row_stride * q + 3) (omega arith) ∙ i.plan_is;
    counted = record {
      one = b (row_stride * q + 4 + 0) (omega arith) ∙ i.counted.one;
      counts = λ j h. b (row_stride * q + 4 + (j + 1)) (omega arith) ∙ i.counted.counts j h ∙ ap (λ (z : ℕ). z - 1 + opens_of t (tag_of a (w.start + 3 * j))) (sym (b (row_stride * q + 4 + j) (omega arith)));
    };
  };
}

module _ {t a : List ℕ} {from r room : ℕ} (g : GivenList t a from r room) (number plan : ℕ) (tab₀ : List ℕ) where
  abbrev codes : List Row → List ℕ
  codes ws = entries (kinds_of g.known.sig) 0 ws

  abbrev fits : List Row → Type 0
  fits ws = All (λ w. Fit g.known.sig t (row_of 0 0 w)) ws

  -- the rows up to q are filled, and the words of the others begin at a word
  pub record Filling (p q : ℕ) (tab : List ℕ) : Type 0 where
    pub done : List Row
    pub todo : List Row
    pub split : g.ws ≡ done ++ todo
    pub count : q ≡ r + length done
    pub code_is : drop p a ≡ codes todo ++ (0 ∷ g.rest)
    pub within : p ≤ length a
    pub near : p + length (codes todo) < word_limit
    pub short : fits done
    pub fit : fits todo
    pub placed : (j : ℕ) (w : Row) → get_elem? done j ≡ some w → RowKept g.known.sig t a tab (r + j) (row_of number plan w)
    pub kept : Before (row_stride * r) tab₀ tab

  pub filling_start : Filling from r tab₀
  filling_start = record { done = []; todo = g.ws; split = refl; count = omega arith; code_is = g.code_is; within = g.within; near = g.near; short = none_left; fit = g.fit; placed = λ j w i. none≢some i; kept = λ i l. refl }

  module _ (p q : ℕ) (tab : List ℕ) (f : Filling p q tab) where
    -- a word stands there, the number of the next row's or the end's
    pub word_there : p < length a
    word_there = go f.todo f.code_is
      where
        go : (ws : List Row) → drop p a ≡ codes ws ++ (0 ∷ g.rest) → p < length a
        go [] e = (word_at a p 0 _ e).1
        go (w ∷ ws) e = (word_at a p _ _ e).1

    pub filling_end : get_or a p 0 ≤ 0 → ListIndexed g.known.sig t a g.ws number plan r q tab₀ tab
    filling_end z = go f.todo refl f.code_is
      where
        go : (ws : List Row) → f.todo ≡ ws → drop p a ≡ codes ws ++ (0 ∷ g.rest) → ListIndexed g.known.sig t a g.ws number plan r q tab₀ tab
        go [] e c = rw (f.split, e, append-nil f.done) (record { many = f.count; placed = f.placed; kept = f.kept })
        go (w ∷ ws) e c = absurd (omega (arith, z, (word_at a p _ _ c).0, (words_filled g.known.sig 0 (w ∷ ws)).0))

    -- the row that is next
    pub record Next : Type 0 where
      pub w : Row
      pub more : List Row
      pub todo_is : f.todo ≡ w ∷ more
      pub fit : Fit g.known.sig t (row_of 0 0 w)
      pub fits_more : fits more

    pub next_row : 0 < get_or a p 0 → Next
    next_row l = go f.todo refl f.code_is f.fit
      where
        go : (ws : List Row) → f.todo ≡ ws → drop p a ≡ codes ws ++ (0 ∷ g.rest) → fits ws → Next
        go [] e c none_left = absurd (omega (arith, l, (word_at a p 0 _ c).0))
        go (x ∷ more) e c (also y h hs) = record { w = x; more = more; todo_is = e; fit = h; fits_more = hs }

    module _ (x : Next) where
      abbrev its_code : List ℕ
      its_code = row_code (kinds_of g.known.sig) x.w 0

      abbrev later : List ℕ
      later = codes x.more ++ (0 ∷ g.rest)

      behind : drop p a ≡ length its_code ∷ (its_code ++ later)
      behind = f.code_is ∙ ap (λ (ws : List Row). codes ws ++ (0 ∷ g.rest)) x.todo_is ∙ ap (λ (l : List ℕ). length its_code ∷ l) (append_assoc its_code (codes x.more) (0 ∷ g.rest))

      row_length : (get_or a p 0 ≡ length its_code) × (p < length a)
      row_length = let h = word_at a p (length its_code) _ behind in (h.0, h.1)

      near_more : p + 1 + get_or a p 0 + length (codes x.more) < word_limit
      near_more = omega (arith, row_length.0, f.near, ap (λ (ws : List Row). length (codes ws)) x.todo_is, length-append its_code (codes x.more))

      pub row_bounds : (get_or a p 0 ≤ 3 * pattern_limit) × (p + 1 + get_or a p 0 < word_limit)
      row_bounds = (omega (arith, row_length.0, x.fit.short), omega (arith, near_more))

      pub row_room : row_stride * q + row_stride ≤ room
      row_room = omega (arith, f.count, g.room_is, ap length f.split, length-append f.done f.todo, ap length x.todo_is)

      code_behind : drop (p + 1) a ≡ its_code ++ later
      code_behind = (word_at a p (length its_code) _ behind).2

      pub row_given : GivenRow t a (p + 1) (get_or a p 0)
      row_given = record {
        known = g.known;
        row = x.w;
        rest = later;
        good = x.fit.good;
        code_is = code_behind;
        within = omega (arith, row_length.1);
        len_is = row_length.0;
        short = row_bounds.0;
      }

      after_code : drop (p + 1 + get_or a p 0) a ≡ later
      after_code = sym (drop-drop (get_or a p 0) (p + 1) a) ∙ ap (drop (get_or a p 0)) code_behind ∙ drop_at its_code later (get_or a p 0) (sym row_length.0)

      pub row_filled : (tab' : List ℕ) → RowIndexed t a tab' q (p + 1) (get_or a p 0) number plan × Before (row_stride * q) tab tab' → Filling (p + 1 + get_or a p 0) (q + 1) tab'
      row_filled tab' (i, b) = record {
        done = f.done ++ (x.w ∷ []);
        todo = x.more;
        split = f.split ∙ ap (λ (ws : List Row). f.done ++ ws) x.todo_is ∙ sym (append_assoc f.done (x.w ∷ []) x.more);
        count = simp length-append (omega (arith, f.count));
        code_is = after_code;
        within = omega (arith, row_length, length-drop (p + 1) a, ap length code_behind, length-append its_code later);
        near = near_more;
        short = all_append f.short (also x.w x.fit none_left);
        fit = x.fits_more;
        placed = λ j w h. go j w (last_or f.done x.w j w h);
        kept = λ j l. b j (omega (arith, f.count)) ∙ f.kept j l;
      }
        where
          mine : RowKept g.known.sig t a tab' q (row_of number plan x.w)
          mine = record {
            start = p + 1;
            rest = later;
            code_is = code_behind;
            within = omega (arith, row_length.1);
            indexed = rw (← row_length.0) i;
          }

          go : (j : ℕ) (w : Row) → ((get_elem? f.done j ≡ some w) × (j < length f.done)) ⊎ ((j ≡ length f.done) × (x.w ≡ w)) → RowKept g.known.sig t a tab' (r + j) (row_of number plan w)
          go j w (inl (h, l)) = placed_same g.known.sig t a tab tab' q (r + j) (row_of number plan w) (all_at f.short j w h).short (omega (arith, f.count)) b (f.placed j w h)
          go j w (inr (h, k)) = let z : r + j ≡ q = omega (arith, h, f.count) in rw (z, ← k) mine
