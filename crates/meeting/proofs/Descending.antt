-- The descent: what one class leaves, what the classes of a place leave, and what the arguments of a class leave.
use borrow.Author.Tests.{ltb-true, ltb-false}
use mathlib.Core.Path.{◌≡◌, refl, ap, ap₂, sym, subst, ◌∙◌}
use mathlib.Core.List.{List, [], ◌∷◌, ◌++◌, append_assoc}
use mathlib.Core.Bool.{Bool, true, false, not, cond, ◌&&◌, ◌||◌}
use Prim.Native.Nat.{ℕ, ◌+◌, ◌-◌, ◌≤◌, ◌<◌, ◌^◌}
use native.Mathlib.Omega.{arith}
use lib.Dec.{eqb, ltb}
use lib.ListN.{length, drop, get_or, set, length-append, length-drop}
use lib.Seq.{get_or-set_same, get_or-set_other, drop-drop, drop_at}
use Rattle.signature.specs.Lists.{is_some}
use Rattle.signature.proofs.Booleans.{and_left, and_right}
use Rattle.signature.proofs.Members.{some_both}
use Rattle.signature.proofs.Tests.{eqb_eq, eqb_ne, eqb_self, true≢false}
use Rattle.sets.specs.Heads.{number_of}
use Rattle.cell.specs.Cell.{all_words}
use Rattle.cell.specs.Coded.{row_code, all_cells}
use Rattle.cell.specs.Cursor.{cell_at, opens_of}
use Rattle.cell.specs.declared.cell.Cell.{Cell}
use Rattle.row.specs.Row.{Row, Rows, free, rnil, rcons, combine, combines}
use Rattle.row.specs.RowFits.{place_count, places_count}
use Rattle.rowset.specs.Limits.{row_limit}
use Rattle.rowset.specs.Member.{member, FirstIn}
use Rattle.meeting.specs.Matrix.{meets}
use Rattle.meeting.specs.Part.{RowAt, RowsAt, GivenPart, same_cell, apart_cell}
use Rattle.meeting.specs.Descent.{cell_of_row, Cells, Passable, Roomy, Moved, Kept, Standing, words_of, combine_of, Visited, Taken, StandingArgs, ArgsVisited}
use Rattle.meeting.proofs.Pairs.{tag_of, heads_of, args_of, kinds_by, places_args, Seen, seen, Says, says, same_args, self_some, other_class, same_tags, same_touch}

-- bits of two rows, by whether they are in the set and in the class
class_bits : (pi pj si sj ai aj f g m : Bool) → (pi ≡ true → pj ≡ true → si ≡ true → sj ≡ true → f ≡ g) → (pi ≡ true → pj ≡ true → si ≡ true → sj ≡ false → f ≡ not aj) → (pi ≡ true → pj ≡ true → si ≡ false → sj ≡ true → f ≡ not ai)
    → (pi ≡ true → si ≡ true → ai ≡ false) → (pj ≡ true → sj ≡ true → aj ≡ false)
    → cond ((pi && si) && (pj && sj)) ((m && not ((pi && si) && (pj && aj)) && not ((pi && ai) && (pj && sj))) && g) (m && not ((pi && si) && (pj && aj)) && not ((pi && ai) && (pj && sj))) ≡ cond (pi && pj && (si || sj)) (m && f) m
class_bits false pj si sj ai aj f g true a b c d e = refl
class_bits false pj si sj ai aj f g false a b c d e = refl
class_bits true false si sj ai aj f g m a b c d e = gone si ai m
  where
    gone : (si ai m : Bool) → cond (si && false) ((m && not (si && false) && not (ai && false)) && g) (m && not (si && false) && not (ai && false)) ≡ m
    gone true true true = refl
    gone true true false = refl
    gone true false true = refl
    gone true false false = refl
    gone false true true = refl
    gone false true false = refl
    gone false false true = refl
    gone false false false = refl
class_bits true true true true ai aj f g m a b c d e = rw (d refl refl, e refl refl, a refl refl refl refl) (both m)
  where
    both : (m : Bool) → ((m && true && true) && g) ≡ (m && g)
    both true = refl
    both false = refl
class_bits true true true false ai aj f g m a b c d e = rw (b refl refl refl refl) (one m ai aj)
  where
    one : (m ai aj : Bool) → (m && not aj && not (ai && false)) ≡ (m && not aj)
    one true true true = refl
    one true true false = refl
    one true false true = refl
    one true false false = refl
    one false ai aj = refl
class_bits true true false true ai aj f g m a b c d e = rw (c refl refl refl refl) (one m ai)
  where
    one : (m ai : Bool) → (m && true && not (ai && true)) ≡ (m && not ai)
    one true true = refl
    one true false = refl
    one false ai = refl
class_bits true true false false ai aj f g m a b c d e = one m ai
  where
    one : (m ai : Bool) → (m && true && not (ai && false)) ≡ m
    one true true = refl
    one true false = refl
    one false ai = refl

pub some_roomy : (p f : ℕ → Bool) (x : List ℕ) (n : ℕ) → ((q : ℕ) → q < row_limit → member x q ≡ (p q && f q)) → Roomy p n → Roomy (member x) n
some_roomy p f x n e r q k z = r q k (and_left (p q) (f q) (sym (e q k) ∙ z))

module _ {t a : List ℕ} {p : ℕ → Bool} {deep : ℕ} {cur : List ℕ} (g : Standing t a p deep cur) where
  -- row q is seen
  pub sees : (q : ℕ) → q < row_limit → p q ≡ true → Seen g.K t a g.kind (get_or cur q 0) (g.part q)
  sees q l h = seen g.K t a g.kind (get_or cur q 0) (g.part q) (g.stands q l h)

  pub at_cells : Cells p a cur
  at_cells q l h = (sees q l h).room

  pub deep_some : (q : ℕ) → q < row_limit → p q ≡ true → 1 ≤ deep
  deep_some q l h = omega (arith, g.small q l h, places_args (g.part q))

  -- what is asked of a set of some of them
  pub some_passable : (f : ℕ → Bool) (x : List ℕ) → ((q : ℕ) → q < row_limit → member x q ≡ (p q && f q)) → length a < 2 ^ 64 → Passable (member x) cur
  some_passable f x e n q k z = omega (arith, n, at_cells q k (and_left (p q) (f q) (sym (e q k) ∙ z)))

  abbrev pub part_given : (q : ℕ) → q < row_limit → p q ≡ true → GivenPart t a (get_or cur q 0)
  part_given q l h = record { K = g.K; kind = g.kind; r = g.part q; there = g.stands q l h }

  -- a class: the rows at the cell of row i
  module _ (i : ℕ) (l : i < row_limit) (h : p i ≡ true) (c : Cell) (c_is : c ≡ cell_at a (get_or cur i 0)) where
    abbrev in_class : ℕ → Bool
    in_class q = same_cell c (cell_of_row a cur q)

    abbrev clashes : ℕ → Bool
    clashes q = apart_cell c (cell_of_row a cur q)

    pub first_says : Says g.K g.kind c (g.part i)
    first_says = says g.K g.kind c (g.part i) (c_is ∙ (sees i l h).cell)

    module _ (q : ℕ) (k : q < row_limit) (e : p q ≡ true) where
      says_of : Says g.K g.kind (cell_of_row a cur q) (g.part q)
      says_of = says g.K g.kind (cell_of_row a cur q) (g.part q) (sees q k e).cell

      tags : in_class q ≡ true → (tag_of g.K g.kind (g.part i) ≡ tag_of g.K g.kind (g.part q)) × (heads_of g.K g.kind (g.part i) ≡ heads_of g.K g.kind (g.part q))
      tags = same_tags g.K t g.kind c (cell_of_row a cur q) (g.part i) (g.part q) (g.stands i l h).typed (g.stands q k e).typed first_says says_of

      touch : in_class q ≡ true → clashes q ≡ false
      touch = same_touch g.K t g.kind c (cell_of_row a cur q) (g.part i) (g.part q) (g.stands i l h).typed (g.stands q k e).typed first_says says_of

      -- the cell of the class says the tag and the heads of each of its rows
      class_says : in_class q ≡ true → Says g.K g.kind c (g.part q)
      class_says s = record { tag = first_says.tag ∙ (tags s).0; heads = first_says.heads ∙ (tags s).1 }

    -- two rows of the class; one of the class and one that is not
    module _ (x y : ℕ) (kx : x < row_limit) (ky : y < row_limit) (ex : p x ≡ true) (ey : p y ≡ true) (sx : in_class x ≡ true) where
      two : in_class y ≡ true → combine_of g x y ≡ is_some (combines (args_of (g.part x)) (args_of (g.part y)))
      two sy =
          let tx = tags x kx ex sx in
          let ty = tags y ky ey sy in
          same_args g.K t g.kind (g.part x) (g.part y) (g.stands x kx ex).typed (g.stands y ky ey).typed (sym tx.0 ∙ ty.0) (sym tx.1 ∙ ty.1)

      other : in_class y ≡ false → (combine_of g x y ≡ not (clashes y)) × (combine_of g y x ≡ not (clashes y))
      other = other_class g.K t g.kind c (cell_of_row a cur y) (g.part x) (g.part y) (g.stands x kx ex).typed (g.stands y ky ey).typed (class_says x kx ex sx) (says_of y ky ey)

    pub first_in_class : in_class i ≡ true
    first_in_class = rw c_is (rw (eqb_self (cell_of_row a cur i).tag, eqb_self (number_of (cell_of_row a cur i).allowed)) refl)

    -- the two sets, and the matrix once they are held apart
    module _ (same clash m m1 : List ℕ) (same_is : (q : ℕ) → q < row_limit → member same q ≡ (p q && in_class q)) (clash_is : (q : ℕ) → q < row_limit → member clash q ≡ (p q && clashes q))
        (noted : (x y : ℕ) → x < row_limit → y < row_limit → meets m1 x y ≡ (meets m x y && not (member same x && member clash y) && not (member clash x && member same y))) where
      -- with what is left to be said of two rows of the class
      bits : (G : ℕ → ℕ → Bool) (m2 : List ℕ) → ((x y : ℕ) (kx : x < row_limit) (ky : y < row_limit) → p x ≡ true → p y ≡ true → in_class x ≡ true → in_class y ≡ true → combine_of g x y ≡ G x y)
          → ((x y : ℕ) → x < row_limit → y < row_limit → meets m2 x y ≡ cond (member same x && member same y) (meets m1 x y && G x y) (meets m1 x y))
          → Kept (λ x y. p x && p y && (in_class x || in_class y)) (combine_of g) m m2
      bits G m2 H f x y kx ky =
          f x y kx ky
          ∙ ap (λ (z : Bool). cond (member same x && member same y) (z && G x y) z) (noted x y kx ky)
          ∙ (rw (same_is x kx, same_is y ky, clash_is x kx, clash_is y ky) (class_bits (p x) (p y) (in_class x) (in_class y) (clashes x) (clashes y) (combine_of g x y) (G x y) (meets m x y)
          (λ ex ey sx sy. H x y kx ky ex ey sx sy)
          (λ ex ey sx sy. (other x y kx ky ex ey sx sy).0)
          (λ ex ey sx sy. (other y x ky kx ey ex sy sx).1)
          (λ ex sx. touch x kx ex sx)
          (λ ey sy. touch y ky ey sy)))

      abbrev of_class : ℕ → Bool
      of_class q = p q && in_class q

      left_is : (rest' : List ℕ) → ((q : ℕ) → q < row_limit → member rest' q ≡ (p q && not (member same q))) → (q : ℕ) → q < row_limit → member rest' q ≡ (p q && not (in_class q))
      left_is rest' f q k = f q k ∙ ap (λ (z : Bool). p q && not z) (same_is q k) ∙ less (p q) (in_class q)
        where
          less : (x y : Bool) → (x && not (x && y)) ≡ (x && not y)
          less true y = refl
          less false y = refl

      -- a class of one row: its part is skipped
      pub one_taken : (rest' : List ℕ) (end : ℕ) → ((q : ℕ) → q < row_limit → member rest' q ≡ (p q && not (member same q))) → ((q : ℕ) → q < row_limit → member same q ≡ true → q ≡ i) → i < length cur → end ≡ get_or cur i 0 + words_of g i
          → Taken g i rest' (set cur i end) m m1
      one_taken rest' end f only long e = record { class = in_class; has_first = first_in_class; left = left_is rest' f; moved = moved; kept = bits (λ x y. true) m1 lone (λ x y kx ky. sym (same_true (member same x && member same y) (meets m1 x y))) }
        where
          same_true : (z b : Bool) → cond z (b && true) b ≡ b
          same_true true true = refl
          same_true true false = refl
          same_true false b = refl

          is_first : (q : ℕ) → q < row_limit → p q ≡ true → in_class q ≡ true → q ≡ i
          is_first q k pq sq = only q k (same_is q k ∙ (rw (pq, sq) refl))

          lone : (x y : ℕ) (kx : x < row_limit) (ky : y < row_limit) → p x ≡ true → p y ≡ true → in_class x ≡ true → in_class y ≡ true → combine_of g x y ≡ true
          lone x y kx ky ex ey sx sy = ap₂ (combine_of g) (is_first x kx ex sx) (is_first y ky ey sy) ∙ self_some g.K t (g.part i) g.kind (g.stands i l h).typed

          moved : Moved of_class (words_of g) cur (set cur i end)
          moved q k = go (eqb q i) refl
            where
              not_both : (x y : Bool) → p q ≡ x → in_class q ≡ y → (p q ≡ true → in_class q ≡ true → ⊥) → (p q && in_class q) ≡ false
              not_both true true ex ey never = absurd (never ex ey)
              not_both true false ex ey never = rw (ex, ey) refl
              not_both false y ex ey never = rw ex refl

              go : (b : Bool) → eqb q i ≡ b → get_or (set cur i end) q 0 ≡ cond (of_class q) (get_or cur q 0 + words_of g q) (get_or cur q 0)
              go true z =
                  let n : q ≡ i = eqb_eq q i z in
                  rw n (rw (h, first_in_class) (get_or-set_same cur i end 0 long ∙ e))
              go false z =
                  let n : ¬ (q ≡ i) = eqb_ne q i z in
                  get_or-set_other cur i q end 0 n ∙ sym (ap (λ (b : Bool). cond b (get_or cur q 0 + words_of g q) (get_or cur q 0)) (not_both (p q) (in_class q) refl refl (λ x y. n (is_first q k x y))))

      -- a class of several rows: they are past their cells, and stand at their arguments
      module _ (cur1 : List ℕ) (past : Moved (member same) (λ q. 3) cur cur1) where
        pub in_same : (q : ℕ) → q < row_limit → member same q ≡ true → (p q ≡ true) × (in_class q ≡ true)
        in_same q k e = let z : (p q && in_class q) ≡ true = sym (same_is q k) ∙ e in (and_left (p q) (in_class q) z, and_right (p q) (in_class q) z)

        pub class_tag : (q : ℕ) (k : q < row_limit) → member same q ≡ true → tag_of g.K g.kind (g.part q) ≡ c.tag
        class_tag q k e = let b = in_same q k e in sym (class_says q k b.0 b.1).tag

        pub moved_on : (q : ℕ) → q < row_limit → member same q ≡ true → get_or cur1 q 0 ≡ get_or cur q 0 + 3
        moved_on q k e = past q k ∙ (rw e refl)

        unfoldable pub args_given : (n : ℕ) → n ≡ opens_of t c.tag → StandingArgs t a (member same) n (deep - 1) cur1
        args_given n e = record {
          K = g.K;
          ks = kinds_by g.K c.tag;
          many = e ∙ ap (opens_of t) first_says.tag ∙ (sees i l h).opens ∙ ap (λ (z : ℕ). length (kinds_by g.K z)) (sym first_says.tag);
          parts = λ q. args_of (g.part q);
          stands = λ q k z.
              let b = in_same q k z in
              subst (λ (tag : ℕ). RowsAt g.K t a (kinds_by g.K tag) (get_or cur1 q 0) (args_of (g.part q))) (class_tag q k z) (subst (λ (at : ℕ). RowsAt g.K t a (kinds_by g.K (tag_of g.K g.kind (g.part q))) at (args_of (g.part q))) (sym (moved_on q k z)) (sees q k b.0).args);
          small = λ q k z. let b = in_same q k z in omega (arith, g.small q k b.0, places_args (g.part q));
        }

        pub many_taken : (n : ℕ) (e : n ≡ opens_of t c.tag) (rest' cur2 m2 : List ℕ) → ((q : ℕ) → q < row_limit → member rest' q ≡ (p q && not (member same q))) → ArgsVisited (args_given n e) cur2 m1 m2 → Taken g i rest' cur2 m m2
        unfolding args_given
        many_taken n e rest' cur2 m2 f v = record {
          class = in_class;
          has_first = first_in_class;
          left = left_is rest' f;
          moved = moved;
          kept = bits (λ x y. is_some (combines (args_of (g.part x)) (args_of (g.part y)))) m2 (λ x y kx ky ex ey sx sy. two x y kx ky ex ey sx sy) v.kept;
        }
          where
            moved : Moved of_class (words_of g) cur cur2
            moved q k = v.moved q k ∙ go (member same q) refl
              where
                go : (b : Bool) → member same q ≡ b → cond b (get_or cur1 q 0 + length (all_words (all_cells g.K (args_of (g.part q)) (kinds_by g.K c.tag)))) (get_or cur1 q 0) ≡ cond (of_class q) (get_or cur q 0 + words_of g q) (get_or cur q 0)
                go true z =
                    let b = in_same q k z in
                    let s : words_of g q ≡ 3 + length (all_words (all_cells g.K (args_of (g.part q)) (kinds_by g.K c.tag))) = (sees q k b.0).size ∙ ap (λ (tag : ℕ). 3 + length (all_words (all_cells g.K (args_of (g.part q)) (kinds_by g.K tag)))) (class_tag q k z) in
                    rw (b.0, b.1) (omega (arith, moved_on q k z, s))
                go false z =
                    let n : (p q && in_class q) ≡ false = sym (same_is q k) ∙ z in
                    rw n (past q k ∙ (rw z refl))

-- the arguments, one after the other
abbrev head_of : Rows → Row
head_of rnil = free [] []
head_of (rcons r rs) = r

abbrev tail_of : Rows → Rows
tail_of rnil = rnil
tail_of (rcons r rs) = rs

module _ {t a : List ℕ} {p : ℕ → Bool} {n deep : ℕ} {cur : List ℕ} (g : StandingArgs t a p n deep cur) where
  abbrev long_of : Rows → List ℕ → ℕ
  long_of rs ks = length (all_words (all_cells g.K rs ks))

  -- the arguments that are still to come
  pub record Coming (m : List ℕ) (j : ℕ) (cur1 m1 : List ℕ) (ks : List ℕ) (todo : ℕ → Rows) : Type 0 where
    pub many : j + length ks ≡ n
    pub stands : (q : ℕ) → q < row_limit → p q ≡ true → RowsAt g.K t a ks (get_or cur1 q 0) (todo q)
    pub small : (q : ℕ) → q < row_limit → p q ≡ true → places_count (todo q) ≤ deep
    pub moved : (q : ℕ) → q < row_limit → p q ≡ true → get_or cur1 q 0 + long_of (todo q) ks ≡ get_or cur q 0 + long_of (g.parts q) g.ks
    pub stay : (q : ℕ) → q < row_limit → p q ≡ false → get_or cur1 q 0 ≡ get_or cur q 0
    pub kept : (x y : ℕ) → x < row_limit → y < row_limit → p x ≡ true → p y ≡ true → (meets m1 x y && is_some (combines (todo x) (todo y))) ≡ (meets m x y && is_some (combines (g.parts x) (g.parts y)))
    pub off : (x y : ℕ) → x < row_limit → y < row_limit → (p x && p y) ≡ false → meets m1 x y ≡ meets m x y

  abbrev pub Now : List ℕ → ℕ → List ℕ → List ℕ → Type 0
  Now m j cur1 m1 = (ks : List ℕ) × (todo : ℕ → Rows) × Coming m j cur1 m1 ks todo

  pub start : (m : List ℕ) → Now m 0 cur m
  start m = (
    g.ks,
    g.parts,
    record {
      many = omega (arith, g.many);
      stands = g.stands;
      small = g.small;
      moved = λ q k e. refl;
      stay = λ q k e. refl;
      kept = λ x y kx ky ex ey. refl;
      off = λ x y kx ky e. refl;
    },
  )

  -- the next argument
  module _ (m : List ℕ) (j : ℕ) (cur1 m1 : List ℕ) where
    cons_at : (k : ℕ) (ks : List ℕ) (at : ℕ) (rs : Rows) → RowsAt g.K t a (k ∷ ks) at rs → rs ≡ rcons (head_of rs) (tail_of rs)
    cons_at k ks at rnil h = absurd h.typed
    cons_at k ks at (rcons r rs) h = refl

    head_at : (k : ℕ) (ks : List ℕ) (at : ℕ) (rs : Rows) → RowsAt g.K t a (k ∷ ks) at rs → RowAt g.K t a k at (head_of rs)
    head_at k ks at rnil h = absurd h.typed
    head_at k ks at (rcons r rs) h = record { rest = all_words (all_cells g.K rs ks) ++ h.rest; code_is = h.code_is ∙ append_assoc (row_code g.K r k) (all_words (all_cells g.K rs ks)) h.rest; within = h.within; typed = h.typed.0 }

    tail_at : (k : ℕ) (ks : List ℕ) (at at' : ℕ) (rs : Rows) → RowsAt g.K t a (k ∷ ks) at rs → at' ≡ at + length (row_code g.K (head_of rs) k) → RowsAt g.K t a ks at' (tail_of rs)
    tail_at k ks at at' rnil h e = absurd h.typed
    tail_at k ks at at' (rcons r rs) h e =
        let w : List ℕ = row_code g.K r k in
        let c : drop at a ≡ w ++ (all_words (all_cells g.K rs ks) ++ h.rest) = h.code_is ∙ append_assoc w (all_words (all_cells g.K rs ks)) h.rest in
        record {
          rest = h.rest;
          code_is = ap (λ (z : ℕ). drop z a) e ∙ sym (drop-drop (length w) at a) ∙ ap (drop (length w)) c ∙ drop_at w (all_words (all_cells g.K rs ks) ++ h.rest) (length w) refl;
          within = omega (arith, e, length-drop at a, simp length-append at (ap length c), h.within);
          typed = h.typed.1;
        }

    long_cons : (k : ℕ) (ks : List ℕ) (at : ℕ) (rs : Rows) → RowsAt g.K t a (k ∷ ks) at rs → long_of rs (k ∷ ks) ≡ length (row_code g.K (head_of rs) k) + long_of (tail_of rs) ks
    long_cons k ks at rnil h = absurd h.typed
    long_cons k ks at (rcons r rs) h = length-append (row_code g.K r k) (all_words (all_cells g.K rs ks))

    places_cons : (k : ℕ) (ks : List ℕ) (at : ℕ) (rs : Rows) → RowsAt g.K t a (k ∷ ks) at rs → places_count rs ≡ place_count (head_of rs) + places_count (tail_of rs)
    places_cons k ks at rnil h = absurd h.typed
    places_cons k ks at (rcons r rs) h = refl

    unfoldable given_at : (k : ℕ) (ks : List ℕ) (todo : ℕ → Rows) → Coming m j cur1 m1 (k ∷ ks) todo → Standing t a p deep cur1
    given_at k ks todo c = record {
      K = g.K;
      kind = k;
      part = λ q. head_of (todo q);
      stands = λ q l e. head_at k ks (get_or cur1 q 0) (todo q) (c.stands q l e);
      small = λ q l e. omega (arith, c.small q l e, places_cons k ks (get_or cur1 q 0) (todo q) (c.stands q l e));
    }

    pub given : Now m j cur1 m1 → j < n → Standing t a p deep cur1
    given (ks, todo, c) l = go ks c
      where
        go : (ks : List ℕ) → Coming m j cur1 m1 ks todo → Standing t a p deep cur1
        go [] c = absurd (omega (arith, c.many))
        go (k ∷ ks) c = given_at k ks todo c

    turn_at : (k : ℕ) (ks : List ℕ) (todo : ℕ → Rows) (c : Coming m j cur1 m1 (k ∷ ks) todo) (cur2 m2 : List ℕ) → Visited (given_at k ks todo c) cur2 m1 m2 → Coming m (j + 1) cur2 m2 ks (λ q. tail_of (todo q))
    unfolding given_at
    turn_at k ks todo c cur2 m2 v = record {
      many = omega (arith, c.many);
      stands = λ q l e. tail_at k ks (get_or cur1 q 0) (get_or cur2 q 0) (todo q) (c.stands q l e) (on q l e);
      small = λ q l e. omega (arith, c.small q l e, places_cons k ks (get_or cur1 q 0) (todo q) (c.stands q l e));
      moved = λ q l e. omega (arith, on q l e, c.moved q l e, long_cons k ks (get_or cur1 q 0) (todo q) (c.stands q l e));
      stay = λ q l e. v.moved q l ∙ (rw e (c.stay q l e));
      kept = λ x y lx ly ex ey. one x y lx ly ex ey ∙ c.kept x y lx ly ex ey;
      off = λ x y lx ly e. v.kept x y lx ly ∙ (rw e (c.off x y lx ly e));
    }
      where
        on : (q : ℕ) → q < row_limit → p q ≡ true → get_or cur2 q 0 ≡ get_or cur1 q 0 + length (row_code g.K (head_of (todo q)) k)
        on q l e = v.moved q l ∙ (rw e refl)

        assoc : (x y z : Bool) → ((x && y) && z) ≡ (x && (y && z))
        assoc true y z = refl
        assoc false y z = refl

        one : (x y : ℕ) (lx : x < row_limit) (ly : y < row_limit) → p x ≡ true → p y ≡ true → (meets m2 x y && is_some (combines (tail_of (todo x)) (tail_of (todo y)))) ≡ (meets m1 x y && is_some (combines (todo x) (todo y)))
        one x y lx ly ex ey =
            let cx = cons_at k ks (get_or cur1 x 0) (todo x) (c.stands x lx ex) in
            let cy = cons_at k ks (get_or cur1 y 0) (todo y) (c.stands y ly ey) in
            let r : Row = head_of (todo x) in
            let s : Row = head_of (todo y) in
            let rs : Rows = tail_of (todo x) in
            let ss : Rows = tail_of (todo y) in
            let z : meets m2 x y ≡ (meets m1 x y && is_some (combine r s)) = v.kept x y lx ly ∙ (rw (ex, ey) refl) in
            ap (λ (b : Bool). b && is_some (combines rs ss)) z
            ∙ assoc (meets m1 x y) (is_some (combine r s)) (is_some (combines rs ss))
            ∙ ap (λ (z : Bool). meets m1 x y && z) (sym (some_both (combine r s) (combines rs ss) rcons))
            ∙ ap₂ (λ (u w : Rows). meets m1 x y && is_some (combines u w)) (sym cx) (sym cy)

    pub turn : (w : Now m j cur1 m1) (l : j < n) (cur2 m2 : List ℕ) → ((h : Standing t a p deep cur1) → Visited h cur2 m1 m2) → Now m (j + 1) cur2 m2
    turn (ks, todo, c) l cur2 m2 f = go ks c
      where
        go : (ks : List ℕ) → Coming m j cur1 m1 ks todo → Now m (j + 1) cur2 m2
        go [] c = absurd (omega (arith, c.many))
        go (k ∷ ks) c = (ks, λ q. tail_of (todo q), turn_at k ks todo c cur2 m2 (f (given_at k ks todo c)))

    pub finished : Now m j cur1 m1 → n ≤ j → ArgsVisited g cur1 m m1
    finished (ks, todo, c) l = go ks c
      where
        nil_at : (rs : Rows) (at : ℕ) → RowsAt g.K t a [] at rs → rs ≡ rnil
        nil_at rnil at h = refl
        nil_at (rcons r rs) at h = absurd h.typed

        and_true : (x : Bool) → (x && true) ≡ x
        and_true true = refl
        and_true false = refl

        go : (ks : List ℕ) → Coming m j cur1 m1 ks todo → ArgsVisited g cur1 m m1
        go (k ∷ ks) c = absurd (omega (arith, c.many))
        go [] c = record { moved = moved; kept = kept }
          where
            gone : (q : ℕ) (l : q < row_limit) → p q ≡ true → todo q ≡ rnil
            gone q l e = nil_at (todo q) (get_or cur1 q 0) (c.stands q l e)

            moved : Moved p (λ q. long_of (g.parts q) g.ks) cur cur1
            moved q l = by (p q) refl
              where
                by : (b : Bool) → p q ≡ b → get_or cur1 q 0 ≡ cond b (get_or cur q 0 + long_of (g.parts q) g.ks) (get_or cur q 0)
                by true e = let z : long_of (todo q) [] ≡ 0 = ap (λ (rs : Rows). long_of rs []) (gone q l e) in omega (arith, c.moved q l e, z)
                by false e = c.stay q l e

            kept : Kept (λ x y. p x && p y) (λ x y. is_some (combines (g.parts x) (g.parts y))) m m1
            kept x y lx ly = by (p x && p y) refl
              where
                by : (b : Bool) → (p x && p y) ≡ b → meets m1 x y ≡ cond b (meets m x y && is_some (combines (g.parts x) (g.parts y))) (meets m x y)
                by true e =
                    let ex = and_left (p x) (p y) e in
                    let ey = and_right (p x) (p y) e in
                    sym (and_true (meets m1 x y)) ∙ ap₂ (λ (u w : Rows). meets m1 x y && is_some (combines u w)) (sym (gone x lx ex)) (sym (gone y ly ey)) ∙ c.kept x y lx ly ex ey
                by false e = c.off x y lx ly e

-- the classes of a place, one after the other
module _ {t a : List ℕ} {p : ℕ → Bool} {deep : ℕ} {cur : List ℕ} (g : Standing t a p deep cur) where
  -- the rows of `left` are still to come
  pub record Classed (m : List ℕ) (left : List ℕ) (cur1 m1 : List ℕ) : Type 0 where
    pub within : (q : ℕ) → q < row_limit → member left q ≡ true → p q ≡ true
    pub moved : Moved (λ q. p q && not (member left q)) (words_of g) cur cur1
    pub kept : Kept (λ x y. p x && p y && not (member left x && member left y)) (combine_of g) m m1

  unfoldable pub given_left : (m left cur1 m1 : List ℕ) → Classed m left cur1 m1 → Standing t a (member left) deep cur1
  given_left m left cur1 m1 c = record {
    K = g.K;
    kind = g.kind;
    part = g.part;
    stands = λ q l e. subst (λ (at : ℕ). RowAt g.K t a g.kind at (g.part q)) (sym (still q l e)) (g.stands q l (c.within q l e));
    small = λ q l e. g.small q l (c.within q l e);
  }
    where
      still : (q : ℕ) → q < row_limit → member left q ≡ true → get_or cur1 q 0 ≡ get_or cur q 0
      still q l e = c.moved q l ∙ (rw (c.within q l e, e) refl)

  pub start_classes : (m left : List ℕ) → ((q : ℕ) → q < row_limit → member left q ≡ p q) → Classed m left cur m
  start_classes m left e = record {
    within = λ q l h. sym (e q l) ∙ h;
    moved = λ q l. sym (ap (λ (b : Bool). cond b (get_or cur q 0 + words_of g q) (get_or cur q 0)) (ap (λ (b : Bool). p q && not b) (e q l) ∙ never (p q)));
    kept = λ x y lx ly. sym (ap (λ (b : Bool). cond b (meets m x y && combine_of g x y) (meets m x y)) (ap₂ (λ (b c : Bool). p x && p y && not (b && c)) (e x lx) (e y ly) ∙ never_both (p x) (p y)));
  }
    where
      never : (b : Bool) → (b && not b) ≡ false
      never true = refl
      never false = refl

      never_both : (b c : Bool) → (b && c && not (b && c)) ≡ false
      never_both true true = refl
      never_both true false = refl
      never_both false c = refl

  -- cursors and bits, by whether rows are in the set, left and in the class
  next_cursor : (p l c : Bool) (x w y z : ℕ) → (l ≡ true → p ≡ true) → y ≡ cond (p && not l) (x + w) x → z ≡ cond (l && c) (y + w) y → z ≡ cond (p && not (l && not c)) (x + w) x
  next_cursor true true true x w y z h e f = f ∙ ap (λ (n : ℕ). n + w) e
  next_cursor true true false x w y z h e f = f ∙ e
  next_cursor true false c x w y z h e f = f ∙ e
  next_cursor false true c x w y z h e f = true≢false (sym (h refl))
  next_cursor false false c x w y z h e f = f ∙ e

  next_bit : (px py lx ly cx cy f m m1 m2 : Bool) → (lx ≡ true → px ≡ true) → (ly ≡ true → py ≡ true) → m1 ≡ cond (px && py && not (lx && ly)) (m && f) m → m2 ≡ cond (lx && ly && (cx || cy)) (m1 && f) m1
      → m2 ≡ cond (px && py && not ((lx && not cx) && (ly && not cy))) (m && f) m
  next_bit px py true true cx cy f m m1 m2 h k e g = go px py cx cy (h refl) (k refl) e g
    where
      go : (px py cx cy : Bool) → px ≡ true → py ≡ true → m1 ≡ cond (px && py && false) (m && f) m → m2 ≡ cond (cx || cy) (m1 && f) m1 → m2 ≡ cond (px && py && not (not cx && not cy)) (m && f) m
      go true true true cy x y e g = g ∙ ap (λ (b : Bool). b && f) e
      go true true false true x y e g = g ∙ ap (λ (b : Bool). b && f) e
      go true true false false x y e g = g ∙ e
      go true false cx cy x y e g = true≢false (sym y)
      go false py cx cy x y e g = true≢false (sym x)
  next_bit px py true false cx cy f m m1 m2 h k e g = g ∙ e ∙ ap (λ (b : Bool). cond (px && py && not b) (m && f) m) (sym (no_more (not cx)))
    where
      no_more : (b : Bool) → (b && false) ≡ false
      no_more true = refl
      no_more false = refl
  next_bit px py false ly cx cy f m m1 m2 h k e g = g ∙ e

  pub next_class : (m left cur1 m1 : List ℕ) (c : Classed m left cur1 m1) (i : ℕ) (rest' cur2 m2 : List ℕ) → Taken (given_left m left cur1 m1 c) i rest' cur2 m1 m2 → Classed m rest' cur2 m2
  unfolding given_left
  next_class m left cur1 m1 c i rest' cur2 m2 T = record {
    within = λ q l e. c.within q l (and_left (member left q) (not (T.class q)) (sym (T.left q l) ∙ e));
    moved = λ q l. next_cursor (p q) (member left q) (T.class q) (get_or cur q 0) (words_of g q) (get_or cur1 q 0) (get_or cur2 q 0) (c.within q l) (c.moved q l) (T.moved q l) ∙ ap (λ (b : Bool). cond (p q && not b) (get_or cur q 0 + words_of g q) (get_or cur q 0)) (sym (T.left q l));
    kept = λ x y lx ly.
        next_bit (p x) (p y) (member left x) (member left y) (T.class x) (T.class y) (combine_of g x y) (meets m x y) (meets m1 x y) (meets m2 x y) (c.within x lx) (c.within y ly) (c.kept x y lx ly) (T.kept x y lx ly)
        ∙ ap₂ (λ (b d : Bool). cond (p x && p y && not (b && d)) (meets m x y && combine_of g x y) (meets m x y)) (sym (T.left x lx)) (sym (T.left y ly));
  }

  pub all_classes : (m left cur1 m1 : List ℕ) → Classed m left cur1 m1 → ((q : ℕ) → q < row_limit → member left q ≡ false) → Visited g cur1 m m1
  all_classes m left cur1 m1 c e = record {
    moved = λ q l. c.moved q l ∙ ap (λ (b : Bool). cond b (get_or cur q 0 + words_of g q) (get_or cur q 0)) (ap (λ (b : Bool). p q && not b) (e q l) ∙ and_true (p q));
    kept = λ x y lx ly. c.kept x y lx ly ∙ ap (λ (b : Bool). cond b (meets m x y && combine_of g x y) (meets m x y)) (ap (λ (b : Bool). p x && p y && not (b && member left y)) (e x lx) ∙ and_true (p x && p y));
  }
    where
      and_true : (b : Bool) → (b && true) ≡ b
      and_true true = refl
      and_true false = refl

-- the first row left rises
pub rises : (left rest' : List ℕ) (class : ℕ → Bool) (i j : ℕ) → i < row_limit → FirstIn left row_limit i → class i ≡ true → ((q : ℕ) → q < row_limit → member rest' q ≡ (member left q && not (class q))) → FirstIn rest' row_limit j → i < j
rises left rest' class i j l f c e h = go (ltb i j) refl
  where
    out : (q : ℕ) → q < row_limit → q ≤ i → member rest' q ≡ false
    out q k z = by (eqb q i) refl
      where
        by : (b : Bool) → eqb q i ≡ b → member rest' q ≡ false
        by true n = let s : q ≡ i = eqb_eq q i n in e q k ∙ (rw (s, c) (last (member left i)))
          where
            last : (b : Bool) → (b && false) ≡ false
            last true = refl
            last false = refl
        by false n = e q k ∙ ap (λ (b : Bool). b && not (class q)) (f.before q (omega (arith, z, eqb_ne q i n)))

    go : (b : Bool) → ltb i j ≡ b → i < j
    go true n = ltb-true i j n
    go false n = let z : j ≤ i = ltb-false i j n in true≢false (sym (sym (out j (omega (arith, z, l)) z) ∙ h.there (omega (arith, z, l))))
