-- Where the writer begins: every row alive at its first cell, one column of kind 0.
use borrow.Author.Tests.{lt-ltb}
use mathlib.Core.Path.{◌≡◌, refl, sym, ap, subst, ◌∙◌}
use mathlib.Core.List.{List, [], ◌∷◌, map}
use mathlib.Core.Option.{Option, some}
use Prim.Native.Nat.{ℕ, zero, suc, ◌+◌, ◌*◌, ◌≤◌, ◌<◌}
use native.Mathlib.Omega.{arith}
use lib.Dec.{ltb}
use lib.ListN.{length, get_or, length-append, length-drop, get_elem?}
use Rattle.signature.specs.Lists.{none_left, also, somes, ◌>>=◌}
use Rattle.signature.proofs.LawfulFacts.{kinds_above}
use Rattle.signature.proofs.KnownFacts.{at_some}
use Rattle.signature.proofs.ListFacts.{all_at}
use Rattle.pattern.specs.Limits.{pattern_limit}
use Rattle.cell.specs.Coded.{kinds_of, row_code}
use Rattle.tree.specs.Limits.{tree_limit}
use Rattle.rowset.specs.Limits.{row_limit}
use Rattle.tree.specs.Tree.{Line, Tree, compile}
use Rattle.rowset.specs.Member.{member}
use Rattle.path.specs.State.{row_stride, default_in, options, Indexed, LineAt, State}
use Rattle.path.specs.Rows.{RuleRow, line_of, RowKept, Fit}
use Rattle.writer.specs.Write.{GivenRows, tree_of_rows}
use Rattle.path.specs.Wrote.{Wrote}
use Rattle.preorder.specs.Node.{Given, tree_of}
use Rattle.path.proofs.IndexLaws.{one_column}

module _ {B : Type 0} where
  options_on : (f : ℕ → Option B) (i n : ℕ) → options f (suc i) n ≡ options (λ r. f (suc r)) i n
  options_on f i zero = refl
  options_on f i (suc n) = ap (λ (l : List (Option B)). f (suc i) ∷ l) (options_on f (suc i) n)

module _ {A B : Type 0} where
  -- the elements of a list, by their numbers
  listed : (h : A → B) (xs : List A) → somes (options (λ r. get_elem? xs r >>= λ a. some (h a)) 0 (length xs)) ≡ map h xs
  listed h [] = refl
  listed h (x ∷ xs) = ap (λ (l : List B). h x ∷ l) (ap somes (options_on (λ r. get_elem? (x ∷ xs) r >>= λ a. some (h a)) 0 (length xs)) ∙ listed h xs)

module _ {t a tab : List ℕ} {n : ℕ} (g : GivenRows t a tab n) where
  -- row r, and its place
  record RowAt (r : ℕ) : Type 0 where
    e : RuleRow
    there : get_elem? g.rows r ≡ some e
    fit : Fit g.known.sig t e
    place : RowKept g.known.sig t a tab r e

  row_at : (r : ℕ) → r < n → RowAt r
  row_at r l = let (e, h) = at_some g.rows r (omega (arith, g.count)) in record { e = e; there = h; fit = all_at g.fit r e h; place = g.placed r e h }

  ends : (r : ℕ) (w : RowAt r) → w.place.start + length (row_code (kinds_of g.known.sig) w.e.row 0) ≤ length a
  ends r w = omega (arith, w.place.within, length-drop w.place.start a, ap length w.place.code_is, length-append (row_code (kinds_of g.known.sig) w.e.row 0) w.place.rest)

  pub indexed : row_stride * row_limit < length tab → Indexed t a tab n
  indexed l = record {
    long = omega (arith, l, g.few);
    whole = l;
    counts = λ r q h i.
        let w = row_at r h in
        let x = w.place.indexed in
        rw x.start_is (x.counted.counts q (omega (arith, x.start_is, x.stop_is)));
    within = λ r h.
        let w = row_at r h in
        let x = w.place.indexed in
        (omega (arith, x.stop_is, ends r w), omega (arith, x.start_is, x.stop_is, w.fit.short));
  }

  abbrev pub start_lines : ℕ → Option Line
  start_lines r = get_elem? g.rows r >>= λ e. some (line_of e)

  line_at : (vis : List ℕ) (r : ℕ) (w : RowAt r) → LineAt g.known.sig t a tab n vis r 0 (0 ∷ []) (line_of w.e)
  line_at vis r w =
      let x = w.place.indexed in
      let z : w.place.start + 3 * 0 ≡ w.place.start = omega arith in
      record {
        here = rw (x.start_is, x.stop_is, x.counted.one, z) (one_column g.known.sig t a w.place.start w.e.row w.place.rest w.fit.good w.place.code_is w.place.within);
        rule_is = sym x.rule_is;
        plan_is = sym x.plan_is;
        binds_are = refl;
      }

  start_state : (s cur vis : List ℕ) → ((r : ℕ) → r < row_limit → member s r ≡ ltb r n) → ((r : ℕ) → r < n → get_or cur r 0 ≡ 0) → State g.known.sig t a tab n (member s) cur vis (0 ∷ []) start_lines
  start_state s cur vis m z r l = let w = row_at r l in rw (m r (omega (arith, l, g.few)) ∙ lt-ltb r n l, z r l, w.there) (line_at vis r w)

  module _ (s cur vis : List ℕ) (long : row_stride * row_limit < length tab) (cursors : n ≤ length cur) (visits : pattern_limit * n ≤ length vis) (m : (r : ℕ) → r < row_limit → member s r ≡ ltb r n) (z : (r : ℕ) → r < n → get_or cur r 0 ≡ 0) (len : ℕ) (small : len ≤ tree_limit) where
    pub start_given : Given t a tab n s cur vis 1 0 0 len
    start_given = record {
      known = g.known;
      ok = indexed long;
      few = g.few;
      cursors = cursors;
      visits = visits;
      low = λ r l. omega (arith, z r l);
      ks = 0 ∷ [];
      f = start_lines;
      kinds = also 0 (kinds_above g.known.sig g.known.decoded.n g.known.decoded.kinds_are) none_left;
      state = start_state s cur vis m z;
      columns = refl;
      ncols_fit = omega arith;
      visits_fit = omega arith;
      links_fit = omega arith;
    }

    pub start_tree : (fuel : ℕ) → tree_of start_given (default_in tab) fuel ≡ tree_of_rows g fuel
    unfolding start_given
    start_tree fuel = ap (λ (ls : List Line). compile (default_in tab) fuel g.known.sig (0 ∷ []) ls 0) (ap (λ (k : ℕ). somes (options start_lines 0 k)) g.count ∙ listed line_of g.rows)

    -- what is written for the lines is written for the rows
    pub started : (u : ℕ) (space ys : List ℕ) → len ≡ length space → ((g2 : Given t a tab n s cur vis 1 0 0 len) (f2 : ℕ) → length space < f2 → Wrote (tree_of g2 (default_in tab) f2) 0 u space ys) → (fuel : ℕ) → tree_limit < fuel → Wrote (tree_of_rows g fuel) 0 u space ys
    started u space ys e call fuel h = subst (λ (T : Tree). Wrote T 0 u space ys) (start_tree fuel) (call start_given fuel (omega arith))
