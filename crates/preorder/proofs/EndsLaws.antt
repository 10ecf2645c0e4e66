-- The levels that are ends by the cells of the rows are those of the lines.
use mathlib.Core.Path.{◌≡◌, refl, sym, ap, ap₂, subst, ◌∙◌}
use mathlib.Core.List.{List, ◌∷◌}
use mathlib.Core.Option.{Option, none, some}
use mathlib.Core.Bool.{Bool, true, false, ◌&&◌, ◌||◌, cond}
use Prim.Native.Nat.{ℕ, zero, suc, ◌+◌, ◌-◌, ◌≤◌, ◌<◌}
use native.Mathlib.Omega.{arith}
use lib.Dec.{eqb, ltb}
use lib.ListN.{get_or}
use Rattle.signature.specs.Decoded.{first_of, count_of}
use Rattle.signature.specs.Limits.{level_base, last_level, level_count}
use Rattle.signature.specs.Lists.{memb, first, keep, any, somes, count_up}
use Rattle.signature.specs.Signature.{Signature, heads, levels, is_number_kind}
use Rattle.signature.proofs.Heads.{memb_count}
use Rattle.signature.proofs.KnownFacts.{number_first}
use Rattle.signature.proofs.Tests.{eqb_eq, eqb_ne, eqb_no, le_of, true≢false}
use Rattle.sets.specs.Set.{bit, heads_width}
use Rattle.tree.specs.Tree.{Line, holds, just_one, is_end, branches}
use Rattle.tree.proofs.EndFacts.{number_heads, split_branches, test_branches}
use Rattle.rowset.specs.Member.{member}
use Rattle.path.specs.Standing.{allowed_of}
use Rattle.path.specs.State.{options, State, cell_of, one_if}
use Rattle.path.proofs.StateLaws.{row_holds}
use Rattle.column.specs.Column.{edge_of, end_of, has_child}
use Rattle.preorder.specs.Front.{heads_in}
use Rattle.preorder.specs.Node.{Branching, lines}
use Rattle.preorder.proofs.HeadsLaws.{heads_kept, keep_all}
use Rattle.preorder.proofs.KindLaws.{heads_are, heads_few}
use Rattle.preorder.proofs.NodeLaws.{row_dead_line, real_same}

-- a test of those that are there, by their numbers
any_options : {A : Type 0} (p : A → Bool) (q : ℕ → Bool) (f : ℕ → Option A) (i n : ℕ) → ((r : ℕ) → i ≤ r → r < i + n → f r ≡ none → q r ≡ false) → ((r : ℕ) (a : A) → i ≤ r → r < i + n → f r ≡ some a → p a ≡ q r) → any p (somes (options f i n)) ≡ any q (count_up i n)
any_options p q f i zero g h = refl
any_options {A} p q f i (suc n) g h = go (f i) refl (any_options p q f (suc i) n (λ r x y. g r (omega arith) (omega arith)) (λ r a x y. h r a (omega arith) (omega arith)))
  where
    go : (o : Option A) → f i ≡ o → any p (somes (options f (suc i) n)) ≡ any q (count_up (suc i) n) → any p (somes (o ∷ options f (suc i) n)) ≡ (q i || any q (count_up (suc i) n))
    go none e k = k ∙ rw (g i (omega arith) (omega arith) e)
    go (some a) e k = ap₂ (λ x y. x || y) (h i a (omega arith) (omega arith) e) k

module _ {t a rows : List ℕ} {n : ℕ} {s re cur vis : List ℕ} {ncols vn base len k : ℕ} (b : Branching t a rows n s re cur vis ncols vn base len k) (there : k < b.given.known.decoded.n) where
  abbrev sig : Signature
  sig = b.given.known.sig

  state : State sig t a rows n (member s) b.cur0 b.vis0 (k ∷ b.ks) b.given.f
  state = subst (λ (y : List ℕ). State sig t a rows n (member s) b.cur0 b.vis0 y b.given.f) b.ks_are b.given.state

  -- what a row's cell says of a head, where its cursor is past it
  abbrev says : ℕ → ℕ → Bool
  says r j = eqb (bit (allowed_of a (cell_of rows r (get_or cur r 0 - 1))) j) 1

  line_holds : (r j : ℕ) (l : Line) → r < n → b.given.f r ≡ some l → memb (first (heads sig k) + j) (heads sig k) ≡ true → holds l.cells (first (heads sig k) + j) ≡ cond (member re r) (says r j) true
  line_holds r j l i e m =
      row_holds sig t a rows n b.vis0 r (get_or b.cur0 r 0) (first (heads sig k) + j) k b.ks m (omega arith) (member s r) (b.given.f r) _ l (state r i) e refl
      ∙ ap (λ (z : Bool). cond z (eqb (bit (allowed_of a (cell_of rows r (get_or b.cur0 r 0))) (first (heads sig k) + j - first (heads sig k))) 1) true) (real_same b.given re k b.ks b.ks_are b.real r i)
      ∙ go (member re r) refl
    where
      go : (z : Bool) → member re r ≡ z → cond z (eqb (bit (allowed_of a (cell_of rows r (get_or b.cur0 r 0))) (first (heads sig k) + j - first (heads sig k))) 1) true ≡ cond z (says r j) true
      go true q =
          let u : get_or b.cur0 r 0 ≡ get_or cur r 0 - 1 = omega (arith, b.raised.cursor r i, ap one_if q) in
          let v : first (heads sig k) + j - first (heads sig k) ≡ j = omega arith in
          rw (u, v)
      go false q = refl

  module _ (num : is_number_kind sig k ≡ true) where
    first_level : first (heads sig k) ≡ level_base
    first_level = ap first (number_heads sig k num)

    level_there : (j : ℕ) → j < level_count → memb (first (heads sig k) + j) (heads sig k) ≡ true
    level_there j l = ap (memb (first (heads sig k) + j)) (number_heads sig k num) ∙ ap (λ (z : ℕ). memb (z + j) levels) first_level ∙ memb_count (level_base + j) level_base level_count (omega arith) (omega arith)

    edge_line : (j r : ℕ) (l : Line) → j < last_level → r < n → b.given.f r ≡ some l → just_one (holds l.cells (level_base + j)) (holds l.cells (suc (level_base + j))) ≡ edge_of a rows (member re) cur j r
    edge_line j r l m i e =
        ap₂ just_one (ap (λ (z : ℕ). holds l.cells (z + j)) (sym first_level) ∙ line_holds r j l i e (level_there j (omega arith)))
        (ap (holds l.cells) (let q : suc (level_base + j) ≡ level_base + (j + 1) = omega arith in q) ∙ ap (λ (z : ℕ). holds l.cells (z + (j + 1))) (sym first_level) ∙ line_holds r (j + 1) l i e (level_there (j + 1) (omega arith)))
        ∙ go (member re r)
      where
        go : (z : Bool) → just_one (cond z (says r j) true) (cond z (says r (j + 1)) true) ≡ (z && just_one (says r j) (says r (j + 1)))
        go true = refl
        go false = refl

    none_edge : (j r : ℕ) → r < n → b.given.f r ≡ none → edge_of a rows (member re) cur j r ≡ false
    none_edge j r i e = go (member re r) refl
      where
        go : (z : Bool) → member re r ≡ z → edge_of a rows (member re) cur j r ≡ false
        go false q = rw q
        go true q = true≢false (sym q ∙ row_dead_line b.given re b.real r i e)

    end_line : (j : ℕ) → j < level_count → is_end (lines b.given) (level_base + j) ≡ end_of a rows n (member re) cur j
    end_line j l = go (eqb j last_level) refl
      where
        go : (z : Bool) → eqb j last_level ≡ z → is_end (lines b.given) (level_base + j) ≡ end_of a rows n (member re) cur j
        go true q =
            let y : level_base + j ≡ level_base + last_level = ap (λ (w : ℕ). level_base + w) (eqb_eq j last_level q) in
            let x : eqb (level_base + j) (level_base + last_level) ≡ true = ap (λ (w : ℕ). eqb w (level_base + last_level)) y in
            rw (x, q)
        go false q =
            let d : ¬ (j ≡ last_level) = eqb_ne j last_level q in
            let x : eqb (level_base + j) (level_base + last_level) ≡ false = eqb_no (level_base + j) (level_base + last_level) (λ y. d (omega (arith, y))) in
            let m : j < last_level = omega (arith, d) in
            rw (x, q) (any_options (λ l. just_one (holds l.cells (level_base + j)) (holds l.cells (suc (level_base + j)))) (edge_of a rows (member re) cur j) b.given.f 0 n (λ r u v. none_edge j r (omega arith)) (λ r x u v. edge_line j r x m (omega arith)))

  -- the heads that have a child
  pub heads_branches : (hs : ℕ) → ((j : ℕ) → bit hs j ≡ cond (ltb j (count_of t k) && has_child t a rows n (member re) cur k j) 1 0) → heads_in (first_of t k) hs ≡ branches sig k (lines b.given)
  heads_branches hs h = go (is_number_kind sig k) refl
    where
      few : count_of t k ≤ heads_width
      few = omega (arith, heads_few b.given.known k there)

      is_first : (z : Bool) → is_number_kind sig k ≡ z → eqb (first_of t k) level_base ≡ z
      is_first z q = sym (number_first b.given.known k there) ∙ q

      go : (z : Bool) → is_number_kind sig k ≡ z → heads_in (first_of t k) hs ≡ branches sig k (lines b.given)
      go false q =
          let e : eqb (first_of t k) level_base ≡ false = is_first false q in
          heads_kept (first_of t k) hs (count_of t k) (λ c. true) few (λ j. h j ∙ rw e)
          ∙ keep_all (λ c. true) (first_of t k) (count_of t k) (λ j. refl)
          ∙ sym (heads_are b.given.known k there)
          ∙ sym (test_branches sig k (lines b.given) q)
      go true q =
          let e : eqb (first_of t k) level_base ≡ true = is_first true q in
          let f : first_of t k ≡ level_base = eqb_eq (first_of t k) level_base e in
          heads_kept (first_of t k) hs (count_of t k) (is_end (lines b.given)) few (λ j. h j ∙ bits q e f j (ltb j (count_of t k)) refl)
          ∙ ap (keep (is_end (lines b.given))) (sym (heads_are b.given.known k there))
          ∙ sym (split_branches sig k (lines b.given) q)
        where
          bits : is_number_kind sig k ≡ true → eqb (first_of t k) level_base ≡ true → first_of t k ≡ level_base → (j : ℕ) (z : Bool) → ltb j (count_of t k) ≡ z → cond {A = ℕ} (z && has_child t a rows n (member re) cur k j) 1 0 ≡ cond (z && is_end (lines b.given) (first_of t k + j)) 1 0
          bits q e f j false y = refl
          bits q e f j true y = rw (e, f) (ap (λ (c : Bool). cond {A = ℕ} c 1 0) (sym (end_line q j (omega (arith, le_of (suc j) (count_of t k) y, heads_few b.given.known k there)))))
