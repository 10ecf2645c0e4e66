-- The steps of a line by its cursor: a column taken, or passed over.
use mathlib.Core.Path.{◌≡◌, refl, sym, ap, ap₂, subst, ◌∙◌}
use mathlib.Core.Logic.{◌⊎◌, inl, inr}
use mathlib.Core.List.{List, [], ◌∷◌, ◌++◌}
use mathlib.Core.Option.{Option, some, none}
use mathlib.Core.Bool.{Bool, true, false, not}
use Prim.Native.Nat.{ℕ, suc, ◌+◌, ◌-◌, ◌≤◌, ◌<◌}
use native.Mathlib.Omega.{arith}
use borrow.Author.Tests.{lt-ltb, le-ltb}
use lib.Dec.{eqb}
use lib.ListN.{length, drop}
use Rattle.signature.specs.Lists.{memb, first}
use Rattle.rowlist.proofs.Kinded.{Sized}
use Rattle.sets.specs.Set.{bit, set_of}
use Rattle.signature.specs.Signature.{Signature, heads, arguments}
use Rattle.signature.proofs.Heads.{open_refs}
use Rattle.signature.proofs.Tests.{eqb_eq, eqb_no, eqb_self, eqb_sym, true≢false}
use Rattle.row.specs.Row.{Row, Rows, named, free, rcons, open_rows}
use Rattle.cell.specs.Cell.{kind_tag, all_words, words}
use Rattle.cell.specs.Coded.{kinds_of, cells, all_cells}
use Rattle.cell.specs.Cursor.{opens_of}
use Rattle.cell.proofs.Columns.{cell_there, CellAt as Words}
use Rattle.sets.specs.Heads.{number_of}
use Rattle.sets.proofs.HeadSets.{number_words}
use Rattle.sets.proofs.ListSets.{one_if, set_nil}
use Rattle.tree.specs.Tree.{rappend, taken, passed, refined, holds}
use Rattle.path.specs.Standing.{RowStands, RowsStand, At, refined_cell, tag_of, vars_of, allowed_of}
use Rattle.path.specs.Variables.{Once}
use Rattle.path.proofs.HeadSets.{one_yes, one_no, bit_memb, bit_only, full_is}
use Rattle.path.proofs.StandingLaws.{RealAt, is_virt, is_real, opened, entered}

-- a row's first cell
abbrev pub row_tag : Row → ℕ → ℕ
row_tag (named vs c rs) k = c
row_tag (free vs cs) k = kind_tag + k

abbrev pub row_vars : Row → List ℕ
row_vars (named vs c rs) = vs
row_vars (free vs cs) = vs

abbrev pub row_heads : Row → List ℕ
row_heads (named vs c rs) = c ∷ []
row_heads (free vs cs) = cs

module _ (sig : Signature) (t : List ℕ) where
  -- the next columns of a line, and what is bound
  pub record Next (a : List ℕ) (stop at own : ℕ) (ks : List ℕ) (vars : ℕ) (o : Option (List ℕ × Rows)) : Type 0 where
    pub vs : List ℕ
    pub rs : Rows
    pub is : o ≡ some (vs, rs)
    pub vars_are : set_of 0 vs ≡ vars
    pub once : Once vs
    pub here : At sig t a stop at own ks rs

  module _ (a : List ℕ) (stop at own k : ℕ) (ks : List ℕ) (rs : Rows) (h : At sig t a stop at own (k ∷ ks) rs) where
    -- a wildcard

    pub virt_taken : (c : ℕ) → memb c (heads sig k) ≡ true → own < suc (length ks) → Next a stop at own (arguments sig c ++ ks) 0 (taken sig (arguments sig c) c rs)
    virt_taken c m l =
        let w = is_virt sig t a stop at own k ks rs h l in
        rw (w.is, m) (record { vs = []; rs = rappend (open_rows sig (arguments sig c)) w.cols; is = refl; vars_are = set_nil 0; once = tt; here = opened sig t a stop at own (arguments sig c) ks w.cols w.here })

    pub virt_passed : own < suc (length ks) → Next a stop at own ks 0 (passed rs)
    virt_passed l = let w = is_virt sig t a stop at own k ks rs h l in rw w.is (record { vs = []; rs = w.cols; is = refl; vars_are = set_nil 0; once = tt; here = w.here })

    pub virt_refined : own < suc (length ks) → refined sig k rs ≡ false
    virt_refined l = let w = is_virt sig t a stop at own k ks rs h l in rw (w.is, open_refs sig k)

    pub virt_holds : (c : ℕ) → memb c (heads sig k) ≡ true → own < suc (length ks) → holds rs c ≡ true
    virt_holds c m l = let w = is_virt sig t a stop at own k ks rs h l in rw (w.is, m)

  -- a cell

  pub record CellAt (a : List ℕ) (stop at k : ℕ) (r : Row) (rest : List ℕ) : Type 0 where
    pub tag : tag_of a at ≡ row_tag r k
    pub vars : vars_of a at ≡ set_of 0 (row_vars r)
    pub allowed : allowed_of a at ≡ set_of (first (heads sig k)) (row_heads r)
    pub room : at + 3 ≤ length a
    pub before : at + 3 ≤ stop

  read_cell : (a : List ℕ) (stop at k : ℕ) (r : Row) (rest after : List ℕ) → Words a at (row_tag r k) (set_of 0 (row_vars r)) (set_of (first (heads sig k)) (row_heads r)) after → at + 3 ≤ stop → CellAt a stop at k r rest
  read_cell a stop at k r rest after h l = record { tag = ap (λ x. x.tag) h.cell; vars = ap (λ x. x.vars) h.cell; allowed = ap (λ x. number_of x.allowed) h.cell ∙ number_words _; room = h.room; before = l }

  cell_of : (a : List ℕ) (stop at k : ℕ) (r : Row) (rest : List ℕ) (n : ℕ) → RowStands sig t r k → drop at a ≡ words (cells (kinds_of sig) r k) ++ rest → at + (length (words (cells (kinds_of sig) r k)) + n) ≡ stop → CellAt a stop at k r rest
  cell_of a stop at k (named vs c rs) rest n g e s = read_cell a stop at k (named vs c rs) rest _ (cell_there a at c (set_of 0 vs) (set_of (first (heads sig k)) (c ∷ [])) _ (omega (arith, g.0.tag)) e) (omega arith)
  cell_of a stop at k (free vs cs) rest n g e s = read_cell a stop at k (free vs cs) rest _ (cell_there a at (kind_tag + k) (set_of 0 vs) (set_of (first (heads sig k)) cs) _ (omega (arith, g.0)) e) (omega arith)

  module _ (a : List ℕ) (stop at k : ℕ) (ks : List ℕ) (rs : Rows) (w : RealAt sig t a stop at k ks rs) where
    pub its_cell : CellAt a stop at k w.r (all_words (all_cells (kinds_of sig) w.qs ks) ++ w.rest)
    its_cell = cell_of a stop at k w.r _ (length (all_words (all_cells (kinds_of sig) w.qs ks))) w.good w.code_is w.ends

  -- the columns behind a cell that names c, and behind one that names none
  pub after_named : (a : List ℕ) (stop at own k : ℕ) (ks : List ℕ) (qs : Rows) (rest vs : List ℕ) (c : ℕ) (ps : Rows) → RowStands sig t (named vs c ps) k → RowsStand sig t qs ks
      → drop at a ≡ words (cells (kinds_of sig) (named vs c ps) k) ++ (all_words (all_cells (kinds_of sig) qs ks) ++ rest)
      → at + (length (words (cells (kinds_of sig) (named vs c ps) k)) + length (all_words (all_cells (kinds_of sig) qs ks))) ≡ stop → own ≡ suc (length ks)
      → At sig t a stop (at + 3) (own - 1 + opens_of t (tag_of a at)) (arguments sig c ++ ks) (rappend ps qs)
  after_named a stop at own k ks qs rest vs c ps g h e s o =
      let b = cell_there a at c (set_of 0 vs) (set_of (first (heads sig k)) (c ∷ [])) _ (omega (arith, g.0.tag)) e in
      let n : own - 1 + opens_of t (tag_of a at) ≡ length (arguments sig c) + length ks = rw (ap (λ x. x.tag) b.cell, lt-ltb c kind_tag g.0.tag) (omega (arith, g.0.arity)) in
      rw n (entered sig t a stop (at + 3) ps (arguments sig c) qs ks rest g.3 h b.after b.room (omega arith))

  pub after_free : (a : List ℕ) (stop at own k : ℕ) (js ks : List ℕ) (qs : Rows) (rest vs cs : List ℕ) → k < 256 → RowsStand sig t qs ks
      → drop at a ≡ words (cells (kinds_of sig) (free vs cs) k) ++ (all_words (all_cells (kinds_of sig) qs ks) ++ rest)
      → at + (3 + length (all_words (all_cells (kinds_of sig) qs ks))) ≡ stop → own ≡ suc (length ks)
      → At sig t a stop (at + 3) (own - 1 + opens_of t (tag_of a at)) (js ++ ks) (rappend (open_rows sig js) qs)
  after_free a stop at own k js ks qs rest vs cs g h e s o =
      let b = cell_there a at (kind_tag + k) (set_of 0 vs) (set_of (first (heads sig k)) cs) _ (omega arith) e in
      let n : own - 1 + opens_of t (tag_of a at) ≡ length ks = rw (ap (λ x. x.tag) b.cell, le-ltb (kind_tag + k) kind_tag (omega arith)) (omega arith) in
      rw n (opened sig t a stop (at + 3) (length ks) js ks qs (record { virt = []; mine = ks; qs = qs; rest = rest; kinds_are = refl; columns_are = refl; good = h; code_is = b.after; within = b.room; own_is = refl; ends = omega arith }))

  -- a head that the cell allows is taken
  take_cell : (a : List ℕ) (stop at own c k : ℕ) (ks : List ℕ) (r : Row) (qs : Rows) (rest : List ℕ) → first (heads sig k) ≤ c → RowStands sig t r k → RowsStand sig t qs ks
      → drop at a ≡ words (cells (kinds_of sig) r k) ++ (all_words (all_cells (kinds_of sig) qs ks) ++ rest)
      → at + (length (words (cells (kinds_of sig) r k)) + length (all_words (all_cells (kinds_of sig) qs ks))) ≡ stop → own ≡ suc (length ks)
      → bit (set_of (first (heads sig k)) (row_heads r)) (c - first (heads sig k)) ≡ 1
      → Next a stop (at + 3) (own - 1 + opens_of t (tag_of a at)) (arguments sig c ++ ks) (set_of 0 (row_vars r)) (taken sig (arguments sig c) c (rcons r qs))
  take_cell a stop at own c k ks (named vs d ps) qs rest l g h e s o b =
      let i : c ≡ d = eqb_eq c d (one_yes (eqb c d) (sym (bit_only (first (heads sig k)) c d g.0.low g.0.high l) ∙ b)) in
      rw (i, eqb_self d) (record { vs = vs; rs = rappend ps qs; is = refl; vars_are = refl; once = g.2; here = after_named a stop at own k ks qs rest vs d ps g h e s o })
  take_cell a stop at own c k ks (free vs cs) qs rest l g h e s o b =
      let i : memb c cs ≡ true = one_yes (memb c cs) (sym (bit_memb (first (heads sig k)) c cs g.1 l) ∙ b) in
      rw i (record { vs = vs; rs = rappend (open_rows sig (arguments sig c)) qs; is = refl; vars_are = refl; once = g.3; here = after_free a stop at own k (arguments sig c) ks qs rest vs cs g.0 h e s o })

  -- a head that it excludes drops the line
  drop_cell : (c k : ℕ) (r : Row) (qs : Rows) → first (heads sig k) ≤ c → RowStands sig t r k → bit (set_of (first (heads sig k)) (row_heads r)) (c - first (heads sig k)) ≡ 0 → taken sig (arguments sig c) c (rcons r qs) ≡ none
  drop_cell c k (named vs d ps) qs l g b =
      let e : eqb c d ≡ false = one_no (eqb c d) (sym (bit_only (first (heads sig k)) c d g.0.low g.0.high l) ∙ b) in
      let f : eqb d c ≡ false = eqb_no d c (λ z. true≢false (sym (eqb_self d) ∙ ap (λ (n : ℕ). eqb n d) z ∙ e)) in
      rw f
  drop_cell c k (free vs cs) qs l g b =
      let e : memb c cs ≡ false = one_no (memb c cs) (sym (bit_memb (first (heads sig k)) c cs g.1 l) ∙ b) in
      rw e

  -- a cell that is not refined is passed over
  pass_cell : (a : List ℕ) (stop at own k : ℕ) (ks : List ℕ) (r : Row) (qs : Rows) (rest : List ℕ) → refined sig k (rcons r qs) ≡ false → RowStands sig t r k → RowsStand sig t qs ks
      → drop at a ≡ words (cells (kinds_of sig) r k) ++ (all_words (all_cells (kinds_of sig) qs ks) ++ rest)
      → at + (length (words (cells (kinds_of sig) r k)) + length (all_words (all_cells (kinds_of sig) qs ks))) ≡ stop → own ≡ suc (length ks)
      → Next a stop (at + 3) (own - 1 + opens_of t (tag_of a at)) ks (set_of 0 (row_vars r)) (passed (rcons r qs))
  pass_cell a stop at own k ks (named vs d ps) qs rest f g h e s o = true≢false f
  pass_cell a stop at own k ks (free vs cs) qs rest f g h e s o = record { vs = vs; rs = qs; is = refl; vars_are = refl; once = g.3; here = after_free a stop at own k [] ks qs rest vs cs g.0 h e s o }

  refined_is : (k : ℕ) (r : Row) (qs : Rows) → Sized sig k → RowStands sig t r k → refined sig k (rcons r qs) ≡ refined_cell sig k (row_tag r k) (set_of (first (heads sig k)) (row_heads r))
  refined_is k (named vs d ps) qs w g = rw (lt-ltb d kind_tag g.0.tag)
  refined_is k (free vs cs) qs w g = rw (le-ltb (kind_tag + k) kind_tag (omega arith)) (ap not (sym (full_is (first (heads sig k)) cs (heads sig k) g.1 w.0 g.2 w.1)))

  -- whether the cell allows a head
  one_test : (b : Bool) → eqb (one_if b) 1 ≡ b
  one_test true = refl
  one_test false = refl

  holds_is : (c k : ℕ) (r : Row) (qs : Rows) → first (heads sig k) ≤ c → RowStands sig t r k → holds (rcons r qs) c ≡ eqb (bit (set_of (first (heads sig k)) (row_heads r)) (c - first (heads sig k))) 1
  holds_is c k (named vs d ps) qs l g = eqb_sym d c ∙ sym (ap (λ n. eqb n 1) (bit_only (first (heads sig k)) c d g.0.low g.0.high l) ∙ one_test (eqb c d))
  holds_is c k (free vs cs) qs l g = sym (ap (λ n. eqb n 1) (bit_memb (first (heads sig k)) c cs g.1 l) ∙ one_test (memb c cs))

  tag_is : (k : ℕ) (r : Row) → RowStands sig t r k → (row_tag r k ≡ kind_tag + k) ⊎ ((row_tag r k < kind_tag) × (memb (row_tag r k) (heads sig k) ≡ true))
  tag_is k (named vs d ps) g = inr (g.0.tag, g.1)
  tag_is k (free vs cs) g = inl refl

  module _ (a : List ℕ) (stop at own k : ℕ) (ks : List ℕ) (rs : Rows) (h : At sig t a stop at own (k ∷ ks) rs) (o : own ≡ suc (length ks)) where
    real : RealAt sig t a stop at k ks rs
    real = is_real sig t a stop at own k ks rs h o

    pub real_room : (at + 3 ≤ length a) × (at + 3 ≤ stop)
    real_room = ((its_cell a stop at k ks rs real).room, (its_cell a stop at k ks rs real).before)

    pub real_taken : (c : ℕ) → first (heads sig k) ≤ c → bit (allowed_of a at) (c - first (heads sig k)) ≡ 1
        → Next a stop (at + 3) (own - 1 + opens_of t (tag_of a at)) (arguments sig c ++ ks) (vars_of a at) (taken sig (arguments sig c) c rs)
    real_taken c l b =
        let w = real in
        let e = its_cell a stop at k ks rs w in
        rw (w.is, e.vars) (take_cell a stop at own c k ks w.r w.qs w.rest l w.good w.goods w.code_is w.ends o (ap (λ (n : ℕ). bit n (c - first (heads sig k))) (sym e.allowed) ∙ b))

    pub real_not : (c : ℕ) → first (heads sig k) ≤ c → bit (allowed_of a at) (c - first (heads sig k)) ≡ 0 → taken sig (arguments sig c) c rs ≡ none
    real_not c l b =
        let w = real in
        let e = its_cell a stop at k ks rs w in
        rw w.is (drop_cell c k w.r w.qs l w.good (ap (λ (n : ℕ). bit n (c - first (heads sig k))) (sym e.allowed) ∙ b))

    pub real_passed : refined sig k rs ≡ false → Next a stop (at + 3) (own - 1 + opens_of t (tag_of a at)) ks (vars_of a at) (passed rs)
    real_passed f =
        let w = real in
        let e = its_cell a stop at k ks rs w in
        rw (w.is, e.vars) (pass_cell a stop at own k ks w.r w.qs w.rest (ap (refined sig k) (sym w.is) ∙ f) w.good w.goods w.code_is w.ends o)

    pub real_refined : Sized sig k → refined sig k rs ≡ refined_cell sig k (tag_of a at) (allowed_of a at)
    real_refined z =
        let w = real in
        let e = its_cell a stop at k ks rs w in
        ap (refined sig k) w.is ∙ refined_is k w.r w.qs z w.good ∙ ap₂ (λ (m n : ℕ). refined_cell sig k m n) (sym e.tag) (sym e.allowed)

    pub real_holds : (c : ℕ) → first (heads sig k) ≤ c → holds rs c ≡ eqb (bit (allowed_of a at) (c - first (heads sig k))) 1
    real_holds c l =
        let w = real in
        let e = its_cell a stop at k ks rs w in
        ap (λ (z : Rows). holds z c) w.is ∙ holds_is c k w.r w.qs l w.good ∙ ap (λ (n : ℕ). eqb (bit n (c - first (heads sig k))) 1) (sym e.allowed)

    pub real_tag : (tag_of a at ≡ kind_tag + k) ⊎ ((tag_of a at < kind_tag) × (memb (tag_of a at) (heads sig k) ≡ true))
    real_tag =
        let w = real in
        let e = its_cell a stop at k ks rs w in
        subst (λ (n : ℕ). (n ≡ kind_tag + k) ⊎ ((n < kind_tag) × (memb n (heads sig k) ≡ true))) (sym e.tag) (tag_is k w.r w.good)
