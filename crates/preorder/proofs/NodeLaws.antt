-- The tree of the lines at each kind of node.
use mathlib.Core.Path.{◌≡◌, refl, sym, ap, ap₂, subst, ◌∙◌}
use mathlib.Core.Logic.{◌⊎◌}
use mathlib.Core.List.{List, [], ◌∷◌, ◌++◌, map}
use mathlib.Core.Option.{Option, none, some}
use mathlib.Core.Bool.{Bool, true, false, ◌&&◌, cond}
use Prim.Native.Nat.{ℕ, zero, suc, ◌+◌, ◌-◌, ◌≤◌, ◌<◌}
use native.Mathlib.Omega.{arith}
use lib.ListN.{length, get_or, drop}
use Rattle.cell.specs.Cell.{kind_tag}
use Rattle.std.specs.Prelude.{Option as Answer, Some, None}
use Rattle.signature.specs.Lists.{◌>>=◌, All, memb, somes, any}
use Rattle.signature.specs.Signature.{Signature, heads, arguments}
use Rattle.signature.proofs.Booleans.{and_left, and_right}
use Rattle.signature.proofs.ListFacts.{rest_of}
use Rattle.signature.proofs.Tests.{eqb_eq, none≢some, true≢false}
use Rattle.pattern.specs.Limits.{pattern_limit}
use Rattle.rowlist.proofs.Kinded.{sized_kind}
use Rattle.tree.proofs.RunFacts.{some_word}
use Rattle.tree.specs.Tree.{Tree, Line, default, hit, skip, refined, taken, passed, after, compile, branches, branch, children}
use Rattle.rowset.specs.Member.{member, FirstIn}
use Rattle.path.specs.Standing.{At, refined_cell, tag_of, allowed_of}
use Rattle.path.specs.State.{options, State, RowIs, LineAt, Raised, real_of, cell_of, own_of, stop_of, rule_of, plan_of, bound, one_if}
use Rattle.column.specs.Column.{Column, tag_at}
use Rattle.path.specs.Wrote.{Wrote}
use Rattle.preorder.specs.Node.{Given, Branching, lines, tree_of, branch_of}
use Rattle.preorder.proofs.Options.{somes_none, somes_first, FirstIs, somes_step, any_no, any_yes}
use Rattle.path.proofs.StateLaws.{state_pass, row_refined}
use Rattle.path.proofs.StepLaws.{real_room, real_tag}

-- no room
pub no_room : (T : Tree) (base : ℕ) (o o2 : List ℕ) → length o ≡ 0 → Wrote T base 1 o o2
no_room T base o o2 e = record { much = omega (arith, some_word T); wrote = λ h. absurd (omega (arith, some_word T)) }

-- 3
pub wrote_skip : (T : Tree) (base u : ℕ) (o o2 : List ℕ) → 0 < length o → Wrote T (suc base) u (drop 1 o) o2 → Wrote (skip T) base (u + 1) o (3 ∷ o2)
wrote_skip T base u [] o2 h w = absurd (omega arith)
wrote_skip T base u (x ∷ o) o2 h w = record { much = omega (arith, w.much); wrote = λ l. ap (λ (z : List ℕ). 3 ∷ z) (w.wrote (omega arith)) }

module _ (sig : Signature) (t a rows : List ℕ) (n : ℕ) where
  row_dead : (b : Bool) (o : Option Line) (vis : List ℕ) (r q : ℕ) (ks : List ℕ) → RowIs sig t a rows n b o vis r q ks → b ≡ false → o ≡ none
  row_dead true o vis r q ks w e = true≢false e
  row_dead false none vis r q ks w e = refl
  row_dead false (some l) vis r q ks w e = absurd w

  pub record Alive (o : Option Line) (vis : List ℕ) (r q : ℕ) (ks : List ℕ) : Type 0 where
    pub line : Line
    pub is : o ≡ some line
    pub at : LineAt sig t a rows n vis r q ks line

  pub row_alive : (b : Bool) (o : Option Line) (vis : List ℕ) (r q : ℕ) (ks : List ℕ) → RowIs sig t a rows n b o vis r q ks → b ≡ true → Alive o vis r q ks
  row_alive false o vis r q ks w e = true≢false (sym e)
  row_alive true none vis r q ks w e = absurd w
  row_alive true (some l) vis r q ks w e = record { line = l; is = refl; at = w }

  row_member : (b : Bool) (o : Option Line) (vis : List ℕ) (r q : ℕ) (ks : List ℕ) (l : Line) → RowIs sig t a rows n b o vis r q ks → o ≡ some l → b ≡ true
  row_member true o vis r q ks l w e = refl
  row_member false none vis r q ks l w e = none≢some e
  row_member false (some x) vis r q ks l w e = absurd w

  -- the state by the members of another set that are the same
  pub state_same : (p q : ℕ → Bool) (cur vis ks : List ℕ) (f : ℕ → Option Line) → ((r : ℕ) → r < n → q r ≡ p r) → State sig t a rows n p cur vis ks f → State sig t a rows n q cur vis ks f
  state_same p q cur vis ks f h s r l = rw (h r l) (s r l)

module _ {t a rows : List ℕ} {n : ℕ} {s cur vis : List ℕ} {ncols vn base len : ℕ} (g : Given t a rows n s cur vis ncols vn base len) where
  -- no line
  pub tree_none : (dft fuel : ℕ) → 0 < fuel → FirstIn s n n → tree_of g dft fuel ≡ default dft
  tree_none dft zero h x = absurd (omega arith)
  tree_none dft (suc fuel) h x =
      let e : lines g ≡ [] = somes_none g.f 0 n (λ r i l. row_dead g.known.sig t a rows n _ (g.f r) vis r (get_or cur r 0) g.ks (g.state r (omega arith)) (x.before r (omega arith))) in
      rw e

  -- the first line
  pub first_line : (r : ℕ) → r < n → FirstIn s n r → (l : Line) × FirstIs l (lines g) × LineAt g.known.sig t a rows n vis r (get_or cur r 0) g.ks l × (g.f r ≡ some l)
  first_line r h x =
      let v = row_alive g.known.sig t a rows n (member s r) (g.f r) vis r (get_or cur r 0) g.ks (g.state r h) (x.there h) in
      (v.line, somes_first g.f 0 n r v.line (omega arith) (omega arith) v.is (λ q i l. row_dead g.known.sig t a rows n _ (g.f q) vis q (get_or cur q 0) g.ks (g.state q (omega arith)) (x.before q l)), v.at, v.is)

  tree_hit_at : (dft : ℕ) (ks : List ℕ) (ls : List Line) (l : Line) (ms : List Line) (fuel : ℕ) → length ks ≡ 0 → ls ≡ l ∷ ms → compile dft (suc fuel) g.known.sig ks ls vn ≡ hit l.rule l.plan l.binds
  tree_hit_at dft [] ls l ms fuel h e = rw e
  tree_hit_at dft (k ∷ ks) ls l ms fuel h e = absurd (omega arith)

  -- a row without a line has no cell in the column
  pub row_dead_line : (re : List ℕ) → ((r : ℕ) → r < n → member re r ≡ real_of rows (member s) cur ncols r) → (r : ℕ) → r < n → g.f r ≡ none → member re r ≡ false
  row_dead_line re h r i e = h r i ∙ go (member s r) refl
    where
      go : (b : Bool) → member s r ≡ b → real_of rows (member s) cur ncols r ≡ false
      go false q = rw q
      go true q =
          let v = row_alive g.known.sig t a rows n (member s r) (g.f r) vis r (get_or cur r 0) g.ks (g.state r i) q in
          none≢some (sym e ∙ v.is)

  -- no column
  pub tree_hit : (dft fuel r : ℕ) → 0 < fuel → r < n → FirstIn s n r → ncols ≡ 0 → tree_of g dft fuel ≡ hit (rule_of rows r) (plan_of rows r) (bound a rows vis r (get_or cur r 0))
  tree_hit dft zero r z h x c = absurd (omega arith)
  tree_hit dft (suc fuel) r z h x c =
      let w = first_line r h x in
      tree_hit_at dft g.ks (lines g) w.0 w.1.rest fuel (omega (arith, g.columns)) w.1.is
      ∙ (rw (w.2.rule_is, w.2.plan_is, w.2.binds_are))

  -- the first column, refined or not
  compile_step : (dft fuel k : ℕ) (ks : List ℕ) (ls : List Line) (l : Line) (ms : List Line) (b : Bool) → ls ≡ l ∷ ms → any (λ m. refined g.known.sig k m.cells) ls ≡ b
      → compile dft (suc fuel) g.known.sig (k ∷ ks) ls vn
      ≡ cond b (branch g.known.sig k (branches g.known.sig k ls) (children (λ c. compile dft fuel g.known.sig (arguments g.known.sig c ++ ks) (somes (map (after vn (taken g.known.sig (arguments g.known.sig c) c)) ls)) (suc vn)) (branches g.known.sig k ls)))
      (skip (compile dft fuel g.known.sig ks (somes (map (after vn passed) ls)) (suc vn)))
  compile_step dft fuel k ks ls l ms b e h = let q : any (λ m. refined g.known.sig k m.cells) (l ∷ ms) ≡ b = ap (any (λ m. refined g.known.sig k m.cells)) (sym e) ∙ h in rw (e, q)

  -- refined, by what the look at the column says
  pub real_same : (re : List ℕ) (k : ℕ) (ks : List ℕ) → g.ks ≡ k ∷ ks → ((r : ℕ) → r < n → member re r ≡ real_of rows (member s) cur ncols r) → (r : ℕ) → r < n → real_of rows (member s) cur (suc (length ks)) r ≡ member re r
  real_same re k ks e h r l = let q : suc (length ks) ≡ ncols = sym (g.columns ∙ ap length e) in ap (λ (m : ℕ). real_of rows (member s) cur m r) q ∙ sym (h r l)

  refined_is : (re : List ℕ) (k : ℕ) (ks : List ℕ) → g.ks ≡ k ∷ ks → k < g.known.decoded.n → ((r : ℕ) → r < n → member re r ≡ real_of rows (member s) cur ncols r) → (r : ℕ) (l : Line) → r < n → g.f r ≡ some l
      → refined g.known.sig k l.cells ≡ (member re r && refined_cell g.known.sig k (tag_of a (cell_of rows r (get_or cur r 0))) (allowed_of a (cell_of rows r (get_or cur r 0))))
  refined_is re k ks e u h r l i x =
      let st = subst (λ (z : List ℕ). State g.known.sig t a rows n (member s) cur vis z g.f) e g.state in
      row_refined g.known.sig t a rows n vis r (get_or cur r 0) k ks (sized_kind g.known k u) (member s r) (g.f r) _ l (st r i) x refl
      ∙ ap (λ (b : Bool). b && refined_cell g.known.sig k (tag_of a (cell_of rows r (get_or cur r 0))) (allowed_of a (cell_of rows r (get_or cur r 0)))) (real_same re k ks e h r i)

  pub none_refined : (re : List ℕ) (k : ℕ) (res : Answer ℕ) (ks : List ℕ) → g.ks ≡ k ∷ ks → k < g.known.decoded.n → ((r : ℕ) → r < n → member re r ≡ real_of rows (member s) cur ncols r)
      → Column g.known.sig a rows n re cur k res → res ≡ None → (r : ℕ) (l : Line) → r < n → g.f r ≡ some l → refined g.known.sig k l.cells ≡ false
  none_refined re k res ks e u h c z r l i x = refined_is re k ks e u h r l i x ∙ go (member re r) refl
    where
      go : (b : Bool) → member re r ≡ b → (b && refined_cell g.known.sig k (tag_of a (cell_of rows r (get_or cur r 0))) (allowed_of a (cell_of rows r (get_or cur r 0)))) ≡ false
      go true q = c.plain z r i q
      go false q = refl

  pub some_refined : (re : List ℕ) (k : ℕ) (res : Answer ℕ) (ks : List ℕ) → g.ks ≡ k ∷ ks → k < g.known.decoded.n → ((r : ℕ) → r < n → member re r ≡ real_of rows (member s) cur ncols r)
      → Column g.known.sig a rows n re cur k res → (y : ℕ) → res ≡ Some y → any (λ m. refined g.known.sig k m.cells) (lines g) ≡ true
  some_refined re k res ks e u h c y z =
      let w = c.row y z in
      let b : member s w.0 ≡ true = and_left (member s w.0) _ (sym (h w.0 w.1) ∙ w.2) in
      let v = row_alive g.known.sig t a rows n (member s w.0) (g.f w.0) vis w.0 (get_or cur w.0 0) g.ks (g.state w.0 w.1) b in
      any_yes (λ m. refined g.known.sig k m.cells) g.f 0 n w.0 v.line (omega arith) (omega (arith, w.1)) v.is (refined_is re k ks e u h w.0 v.line w.1 v.is ∙ ap₂ ◌&&◌ w.2 w.3)

  pub raised_same : (p q : ℕ → Bool) (cur2 vis2 : List ℕ) → ((r : ℕ) → r < n → q r ≡ p r) → Raised n p vn cur vis cur2 vis2 → Raised n q vn cur vis cur2 vis2
  raised_same p q cur2 vis2 h w = record {
    cursor = λ r l. w.cursor r l ∙ ap (λ (b : Bool). get_or cur r 0 + one_if b) (sym (h r l));
    beyond = w.beyond;
    visit = λ r l e. w.visit r l (sym (h r l) ∙ e);
    others = w.others;
  }

  -- a row whose own cell stands in the column
  real_own : (re : List ℕ) (k : ℕ) (ks : List ℕ) → g.ks ≡ k ∷ ks → ((r : ℕ) → r < n → member re r ≡ real_of rows (member s) cur ncols r) → (r : ℕ) → r < n → member re r ≡ true
      → (l : Line) × (own_of rows r (get_or cur r 0) ≡ suc (length ks)) × At g.known.sig t a (stop_of rows r) (cell_of rows r (get_or cur r 0)) (own_of rows r (get_or cur r 0)) (k ∷ ks) l.cells
  real_own re k ks e h r l i =
      let z : real_of rows (member s) cur ncols r ≡ true = sym (h r l) ∙ i in
      let w = row_alive g.known.sig t a rows n (member s r) (g.f r) vis r (get_or cur r 0) g.ks (g.state r l) (and_left (member s r) _ z) in
      (w.line, eqb_eq _ _ (and_right (member s r) _ z) ∙ (g.columns ∙ ap length e), subst (λ (y : List ℕ). At g.known.sig t a (stop_of rows r) (cell_of rows r (get_or cur r 0)) (own_of rows r (get_or cur r 0)) y w.line.cells) e w.at.here)

  pub real_cell : (re : List ℕ) (k : ℕ) (ks : List ℕ) → g.ks ≡ k ∷ ks → ((r : ℕ) → r < n → member re r ≡ real_of rows (member s) cur ncols r) → (r : ℕ) → r < n → member re r ≡ true
      → (get_or cur r 0 < pattern_limit) × (cell_of rows r (get_or cur r 0) + 3 ≤ length a) × ((tag_at a rows cur r ≡ kind_tag + k) ⊎ ((tag_at a rows cur r < kind_tag) × (memb (tag_at a rows cur r) (heads g.known.sig k) ≡ true)))
  real_cell re k ks e h r l i =
      let w = real_own re k ks e h r l i in
      let o = g.ok.within r l in
      let room = real_room g.known.sig t a (stop_of rows r) (cell_of rows r (get_or cur r 0)) (own_of rows r (get_or cur r 0)) k ks w.0.cells w.2 w.1 in
      (omega (arith, room.1, o.1), room.0, real_tag g.known.sig t a (stop_of rows r) (cell_of rows r (get_or cur r 0)) (own_of rows r (get_or cur r 0)) k ks w.0.cells w.2 w.1)

  -- raised cursors are no further than the last cell
  pub raised_low : (re cur2 vis2 : List ℕ) (k : ℕ) (ks : List ℕ) → g.ks ≡ k ∷ ks → ((r : ℕ) → r < n → member re r ≡ real_of rows (member s) cur ncols r) → Raised n (member re) vn cur vis cur2 vis2 → (r : ℕ) → r < n → get_or cur2 r 0 ≤ pattern_limit
  raised_low re cur2 vis2 k ks e h w r l = go (member re r) refl
    where
      go : (b : Bool) → member re r ≡ b → get_or cur2 r 0 ≤ pattern_limit
      go true q = omega (arith, w.cursor r l, ap one_if q, (real_cell re k ks e h r l q).0)
      go false q = omega (arith, w.cursor r l, ap one_if q, g.low r l)

  -- 3: the child's lines
  pub skip_given : (re cur2 vis2 : List ℕ) (k : ℕ) (res : Answer ℕ) (ks : List ℕ) → g.ks ≡ k ∷ ks → k < g.known.decoded.n → ((r : ℕ) → r < n → member re r ≡ real_of rows (member s) cur ncols r)
      → Column g.known.sig a rows n re cur k res → res ≡ None → Raised n (member re) vn cur vis cur2 vis2 → length cur2 ≡ length cur → length vis2 ≡ length vis → (len2 : ℕ) → len2 < len
      → Given t a rows n s cur2 vis2 (ncols - 1) (vn + 1) (base + 1) len2
  skip_given re cur2 vis2 k res ks e u h c z w lc lv len2 l = record {
    known = g.known;
    ok = g.ok;
    few = g.few;
    cursors = omega (arith, g.cursors);
    visits = omega (arith, g.visits);
    low = raised_low re cur2 vis2 k ks e h w;
    ks = ks;
    f = λ r. g.f r >>= after vn passed;
    kinds = rest_of (subst (All (λ i. i < g.known.decoded.n)) e g.kinds);
    state = state_pass g.known.sig t a rows n g.ok (member s) cur vis cur2 vis2 vn k ks g.f (λ r x i q. none_refined re k res ks e u h c z r x i q)
        (subst (λ (y : List ℕ). State g.known.sig t a rows n (member s) cur vis y g.f) e g.state) (raised_same (member re) (real_of rows (member s) cur (suc (length ks))) cur2 vis2 (real_same re k ks e h) w);
    columns = omega (arith, g.columns, ap length e);
    ncols_fit = omega (arith, g.ncols_fit);
    visits_fit = omega (arith, g.visits_fit);
    links_fit = omega (arith, g.links_fit);
  }

  pub tree_skip : (re cur2 vis2 : List ℕ) (k : ℕ) (res : Answer ℕ) (ks : List ℕ) (e : g.ks ≡ k ∷ ks) (u : k < g.known.decoded.n) (h : (r : ℕ) → r < n → member re r ≡ real_of rows (member s) cur ncols r)
      (c : Column g.known.sig a rows n re cur k res) (z : res ≡ None) (w : Raised n (member re) vn cur vis cur2 vis2) (lc : length cur2 ≡ length cur) (lv : length vis2 ≡ length vis) (len2 : ℕ) (l : len2 < len)
      (dft fuel r : ℕ) → r < n → FirstIn s n r → tree_of g dft (suc fuel) ≡ skip (tree_of (skip_given re cur2 vis2 k res ks e u h c z w lc lv len2 l) dft fuel)
  unfolding skip_given
  tree_skip re cur2 vis2 k res ks e u h c z w lc lv len2 l dft fuel r i x =
      let v = first_line r i x in
      ap (λ (y : List ℕ). compile dft (suc fuel) g.known.sig y (lines g) vn) e
      ∙ compile_step dft fuel k ks (lines g) v.0 v.1.rest false v.1.is (any_no (λ m. refined g.known.sig k m.cells) g.f 0 n (λ q y j o p. none_refined re k res ks e u h c z q y (omega arith) p))
      ∙ ap (λ (y : List Line). skip (compile dft fuel g.known.sig ks y (suc vn))) (somes_step g.f (after vn passed) 0 n)
      ∙ ap (λ (y : ℕ). skip (compile dft fuel g.known.sig ks (somes (options (λ r. g.f r >>= after vn passed) 0 n)) y)) (let q : suc vn ≡ vn + 1 = omega arith in q)

  -- 2 or 4
  pub branch_given : (re cur2 vis2 : List ℕ) (k : ℕ) (ks : List ℕ) → g.ks ≡ k ∷ ks → ((r : ℕ) → r < n → member re r ≡ real_of rows (member s) cur ncols r)
      → Raised n (member re) vn cur vis cur2 vis2 → length cur2 ≡ length cur → length vis2 ≡ length vis → Branching t a rows n s re cur2 vis2 ncols vn base len k
  branch_given re cur2 vis2 k ks e h w lc lv = record { cur0 = cur; vis0 = vis; given = g; ks = ks; ks_are = e; real = h; raised = w; cursors = omega (arith, g.cursors); visits = omega (arith, g.visits) }

  pub tree_branch : (re cur2 vis2 : List ℕ) (k : ℕ) (res : Answer ℕ) (ks : List ℕ) (e : g.ks ≡ k ∷ ks) (u : k < g.known.decoded.n) (h : (r : ℕ) → r < n → member re r ≡ real_of rows (member s) cur ncols r)
      (c : Column g.known.sig a rows n re cur k res) (y : ℕ) (z : res ≡ Some y) (w : Raised n (member re) vn cur vis cur2 vis2) (lc : length cur2 ≡ length cur) (lv : length vis2 ≡ length vis)
      (dft fuel r : ℕ) → r < n → FirstIn s n r → tree_of g dft (suc fuel) ≡ branch_of (branch_given re cur2 vis2 k ks e h w lc lv) dft fuel
  unfolding branch_given
  tree_branch re cur2 vis2 k res ks e u h c y z w lc lv dft fuel r i x =
      let v = first_line r i x in
      ap (λ (y : List ℕ). compile dft (suc fuel) g.known.sig y (lines g) vn) e
      ∙ compile_step dft fuel k ks (lines g) v.0 v.1.rest true v.1.is (some_refined re k res ks e u h c y z)
