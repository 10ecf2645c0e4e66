-- The children of a node, one for each head of the first column's kind.
use mathlib.Core.Path.{◌≡◌, refl, sym, ap, ap₂, subst, ◌∙◌}
use mathlib.Core.List.{List, ◌++◌}
use mathlib.Core.Bool.{Bool, true, false, ◌&&◌, not, cond}
use Prim.Native.Nat.{ℕ, suc, ◌+◌, ◌-◌, ◌*◌, ◌^◌, ◌≤◌, ◌<◌}
use native.Mathlib.Omega.{arith}
use lib.Dec.{eqb, ltb}
use lib.ListN.{length, get_or, length-append}
use Rattle.signature.specs.Decoded.{first_of, count_of, head_arity}
use Rattle.signature.specs.Limits.{argument_limit, constructor_limit, heads_limit, kind_limit, level_base, last_level, word_limit}
use Rattle.signature.specs.Lists.{◌>>=◌, All, first}
use Rattle.sets.specs.Set.{bit, heads_width}
use Rattle.signature.specs.Signature.{heads, arguments}
use Rattle.signature.proofs.ListFacts.{all_append, all_first}
use Rattle.tree.specs.Tree.{taken, after, compile}
use Rattle.signature.proofs.Tests.{le_of}
use Rattle.rowset.specs.Member.{member}
use Rattle.path.specs.Standing.{allowed_of}
use Rattle.path.specs.State.{State, real_of, kept_of, cell_of, one_if, Kept}
use Rattle.column.specs.Column.{Keeping, has_child}
use Rattle.preorder.specs.Node.{Given, Branching, tree_of, child_of}
use Rattle.preorder.proofs.KindLaws.{kind_below, heads_few, head_there, head_low, head_number, head_below, head_word, head_columns, head_arguments, head_kinds}
use Rattle.preorder.proofs.NodeLaws.{state_same, real_same, raised_same, raised_low, real_cell}
use Rattle.preorder.proofs.Options.{somes_step}
use Rattle.path.proofs.StateLaws.{keep_of, state_take, state_frame}

module _ {t a rows : List ℕ} {n : ℕ} {s re cur vis : List ℕ} {ncols vn base len k : ℕ} (b : Branching t a rows n s re cur vis ncols vn base len k) where
  kinds : (k < b.given.known.decoded.n) × All (λ i. i < b.given.known.decoded.n) b.ks
  kinds = all_first (subst (All (λ i. i < b.given.known.decoded.n)) b.ks_are b.given.kinds)

  pub kind_there : k < b.given.known.decoded.n
  kind_there = kinds.0

  real_is : (r : ℕ) → r < n → real_of rows (member s) b.cur0 (suc (length b.ks)) r ≡ member re r
  real_is r l = real_same b.given re k b.ks b.ks_are b.real r l

  -- with the cursors raised the cell lies one before
  kept_is : (j r : ℕ) → r < n → kept_of a rows (member s) (member re) cur j r ≡ keep_of a rows (member s) (real_of rows (member s) b.cur0 (suc (length b.ks))) b.cur0 j r
  kept_is j r l = ap (λ (z : Bool). member s r && not z) (go (member re r) refl) ∙ ap (λ (z : Bool). member s r && not (z && eqb (bit (allowed_of a (cell_of rows r (get_or b.cur0 r 0))) j) 0)) (sym (real_is r l))
    where
      go : (z : Bool) → member re r ≡ z → (member re r && eqb (bit (allowed_of a (cell_of rows r (get_or cur r 0 - 1))) j) 0) ≡ (member re r && eqb (bit (allowed_of a (cell_of rows r (get_or b.cur0 r 0))) j) 0)
      go true e =
          let q : get_or cur r 0 - 1 ≡ get_or b.cur0 r 0 = omega (arith, b.raised.cursor r l, ap one_if e) in
          ap (λ (y : ℕ). member re r && eqb (bit (allowed_of a (cell_of rows r y)) j) 0) q
      go false e = rw e

  module _ (j : ℕ) (h : j < count_of t k) where
    abbrev head : ℕ
    head = first_of t k + j

    child_state : (x visj : List ℕ) → ((r : ℕ) → r < n → member x r ≡ kept_of a rows (member s) (member re) cur j r) → Kept n cur vis visj
        → State b.given.known.sig t a rows n (member x) cur visj (arguments b.given.known.sig head ++ b.ks) (λ r. b.given.f r >>= after vn (taken b.given.known.sig (arguments b.given.known.sig head) head))
    child_state x visj m kv =
        let g = b.given in
        let sig = g.known.sig in
        let al : ℕ → Bool = keep_of a rows (member s) (real_of rows (member s) b.cur0 (suc (length b.ks))) b.cur0 (head - first (heads sig k)) in
        let st = state_take sig t a rows n g.ok (member s) b.cur0 b.vis0 cur vis vn head k b.ks g.f (head_there g.known k kind_there j h) (head_low g.known k kind_there j h)
        (subst (λ (y : List ℕ). State sig t a rows n (member s) b.cur0 b.vis0 y g.f) b.ks_are g.state)
        (raised_same g (member re) (real_of rows (member s) b.cur0 (suc (length b.ks))) cur vis real_is b.raised) in
        state_same sig t a rows n al (member x) cur visj (arguments sig head ++ b.ks) _ (λ r i. m r i ∙ kept_is j r i ∙ ap (λ (y : ℕ). keep_of a rows (member s) (real_of rows (member s) b.cur0 (suc (length b.ks))) b.cur0 y r) (sym (head_number g.known k kind_there j h)))
        (state_frame sig t a rows n al cur vis visj (arguments sig head ++ b.ks) _ st kv)

    pub child_given : (x curj visj : List ℕ) (at : ℕ) → curj ≡ cur → ((r : ℕ) → r < n → member x r ≡ kept_of a rows (member s) (member re) cur j r) → Kept n cur vis visj → length visj ≡ length vis
        → (len2 : ℕ) → 1 ≤ at → len2 + at ≤ len → Given t a rows n x curj visj (ncols - 1 + head_arity t head) (vn + 1) (base + at) len2
    child_given x curj visj at ec m kv lv len2 l1 l2 =
        let g = b.given in
        let sig = g.known.sig in
        record {
          known = g.known;
          ok = g.ok;
          few = g.few;
          cursors = omega (arith, b.cursors, ap length ec);
          visits = omega (arith, b.visits);
          low = rw ec (raised_low g re cur vis k b.ks b.ks_are b.real b.raised);
          ks = arguments sig head ++ b.ks;
          f = λ r. g.f r >>= after vn (taken sig (arguments sig head) head);
          kinds = all_append (head_kinds g.known k kind_there j h) kinds.1;
          state = rw ec (child_state x visj m kv);
          columns = simp length-append (omega (arith, g.columns, ap length b.ks_are, head_columns g.known k kind_there j h));
          ncols_fit = omega (arith, g.ncols_fit, head_arguments g.known k kind_there j h);
          visits_fit = omega (arith, g.visits_fit);
          links_fit = omega (arith, g.links_fit);
        }

    pub child_tree : (x curj visj : List ℕ) (at : ℕ) (ec : curj ≡ cur) (m : (r : ℕ) → r < n → member x r ≡ kept_of a rows (member s) (member re) cur j r) (kv : Kept n cur vis visj) (lv : length visj ≡ length vis)
        (len2 : ℕ) (l1 : 1 ≤ at) (l2 : len2 + at ≤ len) (dft fuel : ℕ) → tree_of (child_given x curj visj at ec m kv lv len2 l1 l2) dft fuel ≡ child_of b dft fuel head
    unfolding child_given
    child_tree x curj visj at ec m kv lv len2 l1 l2 dft fuel =
        let sig = b.given.known.sig in
        ap₂ (λ ls z. compile dft fuel sig (arguments sig head ++ b.ks) ls z)
        (sym (somes_step b.given.f (after vn (taken sig (arguments sig head) head)) 0 n)) (let q : vn + 1 ≡ suc vn = omega arith in q)

  -- what the calls in the loop ask

  pub head_bounds : (count_of t k ≤ heads_limit) × (k < kind_limit)
  head_bounds = (heads_few b.given.known k kind_there, kind_below b.given.known k kind_there)

  pub bounds : (0 < ncols) × (ncols + word_limit * len < 2 ^ 63) × (vn + len ≤ word_limit) × (base + len ≤ word_limit)
  bounds = (omega (arith, b.given.columns, ap length b.ks_are), b.given.ncols_fit, b.given.visits_fit, b.given.links_fit)

  pub head_fits : (j : ℕ) → j < count_of t k → (first_of t k + j ≤ level_base + last_level) × (first_of t k + j < level_base → first_of t k + j < constructor_limit) × (head_arity t (first_of t k + j) ≤ argument_limit)
  head_fits j h = (head_word b.given.known k kind_there j h, head_below b.given.known k kind_there j h, head_arguments b.given.known k kind_there j h)

  pub head_width : (j f w : ℕ) → j < count_of t k → f ≡ first_of t k → w ≡ head_arity t (f + j) → w ≤ argument_limit
  head_width j f w h e i = omega (arith, i ∙ ap (λ (z : ℕ). head_arity t (z + j)) e, (head_fits j h).2)

  -- what head_arity asks
  pub head_asked : (j f : ℕ) → j < count_of t k → f ≡ first_of t k → f + j < level_base → f + j < constructor_limit
  head_asked j f h e = rw e (head_fits j h).1

  -- the set of the heads that have a child: a member is one of the kind's
  abbrev pub AreHeads : ℕ → Type 0
  AreHeads all = (j : ℕ) → bit all j ≡ cond (ltb j (count_of t k) && has_child t a rows n (member re) cur k j) 1 0

  pub member_small : (all left j : ℕ) → AreHeads all → ((i : ℕ) → bit left i ≡ 1 → bit all i ≡ 1) → bit left j ≡ 1 → j < count_of t k
  member_small all left j h g e = go (ltb j (count_of t k)) refl (sym (h j) ∙ g j e)
    where
      go : (z : Bool) → ltb j (count_of t k) ≡ z → cond {A = ℕ} (z && has_child t a rows n (member re) cur k j) 1 0 ≡ 1 → j < count_of t k
      go true q w = le_of (suc j) (count_of t k) q
      go false q w = absurd (omega (arith, w))

  pub keeping : (curj : List ℕ) (j : ℕ) → curj ≡ cur → j < heads_width → Keeping a rows n re curj j
  keeping curj j e h = record {
    few = b.given.few;
    cursors = omega (arith, b.cursors, ap length e);
    long = b.given.ok.long;
    bit_small = h;
    cell = λ r l i. rw e (
        let w = real_cell b.given re k b.ks b.ks_are b.real r l i in
        let q : get_or cur r 0 - 1 ≡ get_or b.cur0 r 0 = omega (arith, b.raised.cursor r l, ap one_if i) in
        (omega (arith, b.raised.cursor r l, ap one_if i), rw q w.1));
  }
