-- The list without its first row, behind the row of the other heads, as it is written.
use mathlib.Core.Path.{◌≡◌, refl, ap, ap₂, ◌∙◌, sym}
use mathlib.Core.List.{List, [], ◌∷◌, ◌++◌, append_assoc}
use mathlib.Core.Bool.{Bool, true, false, cond}
use Prim.Native.Nat.{ℕ, ◌+◌, ◌-◌, ◌≤◌}
use native.Mathlib.Nat.{zero-add}
use native.Mathlib.Numerals.{add-one}
use native.Mathlib.Omega.{arith}
use borrow.Author.Tests.{ne_eqb}
use lib.Dec.{eqb}
use lib.ListN.{length, set, take, drop, get_or, length-append, length-take, take-append-drop}
use lib.Seq.{drop_at, take_at}
use Rattle.rowlist.specs.Grow.{words_list}
use Rattle.rowlist.specs.Next.{GivenOthers, others_code}
use Rattle.rowlist.specs.Product.{Product}
use Rattle.sets.specs.Heads.{number_of}
use Rattle.sets.specs.declared.heads.Heads.{Heads}
use Rattle.cell.specs.Cell.{cell_code}
use Rattle.cell.specs.Cursor.{put_cell}
use Rattle.cell.specs.RowList.{from, WrittenFirst}
use Rattle.cell.proofs.Walk.{from_is}

code_short : (tag rest : ℕ) → length (others_code tag rest) ≤ 4
code_short tag rest = go (eqb rest 0)
  where
    go : (b : Bool) → length (cond b [] (3 ∷ cell_code tag 0 rest)) ≤ 4
    go true = omega arith
    go false = omega arith

-- the row of the other heads
pub no_other : (tag rest : ℕ) (o : List ℕ) → rest ≡ 0 → WrittenFirst (others_code tag rest) 0 o
no_other tag rest o z = rw z (refl, refl)

pub some_other : (tag : ℕ) (rest : Heads) (o : List ℕ) → ¬ (number_of rest ≡ 0) → 4 ≤ length o → WrittenFirst (others_code tag (number_of rest)) 4 (put_cell (set o 0 3) 1 (record { tag = tag; vars = 0; allowed = rest }))
some_other tag rest o z h = rw (ne_eqb (number_of rest) 0 z) (refl, four o h)
  where
    four : (o : List ℕ) → 4 ≤ length o → take 4 (put_cell (set o 0 3) 1 (record { tag = tag; vars = 0; allowed = rest })) ≡ 3 ∷ cell_code tag 0 (number_of rest)
    four [] h = absurd (omega arith)
    four (a ∷ []) h = absurd (omega arith)
    four (a ∷ (b ∷ [])) h = absurd (omega arith)
    four (a ∷ (b ∷ (c ∷ []))) h = absurd (omega arith)
    four (a ∷ (b ∷ (c ∷ (d ∷ o)))) h = refl

module _ {used : ℕ} {o : List ℕ} {m : ℕ} (g : GivenOthers used o m) where
  abbrev others_list : List ℕ
  others_list = words_list g.vs ++ (0 ∷ [])

  whole_size : used ≡ 1 + (length g.v + length (words_list g.vs))
  whole_size = g.list.size ∙ simp length-append (omega arith)

  pub others_fit : (used + 1 ≤ length o) × (used + 1 ≤ m)
  others_fit = (omega (arith, length-take (used + 1) o, simp length-append at (ap length g.list.list), whole_size), g.room)

  -- the copy of the list in the workspace w
  module _ (w : List ℕ) (f : take (0 + (used + 1)) w ≡ take (used + 1) o) where
    whole : w ≡ length g.v ∷ (g.v ++ (others_list ++ drop (used + 1) w))
    whole = sym (take-append-drop (used + 1) w) ∙ ap (λ (z : List ℕ). z ++ drop (used + 1) w) (ap (λ (i : ℕ). take i w) (sym (zero-add (used + 1))) ∙ f ∙ g.list.list) ∙ simp append_assoc refl

    first_is : get_or w 0 0 ≡ length g.v
    first_is = ap (λ (z : List ℕ). get_or z 0 0) whole

    left_is : used + 1 - (get_or w 0 0 + 1) ≡ length (words_list g.vs) + 1
    left_is = omega (arith, first_is, whole_size)

    behind_is : from w (get_or w 0 0 + 1) ≡ others_list ++ drop (used + 1) w
    behind_is =
        from_is w (get_or w 0 0 + 1)
        ∙ ap (drop (get_or w 0 0 + 1)) whole
        ∙ ap (λ (i : ℕ). drop i (length g.v ∷ (g.v ++ (others_list ++ drop (used + 1) w)))) (add-one (get_or w 0 0))
        ∙ drop_at g.v (others_list ++ drop (used + 1) w) (get_or w 0 0) (sym first_is)

    left_take : take (used + 1 - (get_or w 0 0 + 1)) (from w (get_or w 0 0 + 1)) ≡ others_list
    left_take = rw behind_is (take_at others_list (drop (used + 1) w) (used + 1 - (get_or w 0 0 + 1)) (simp length-append (omega (arith, left_is))))

    pub skip_fits : (get_or w 0 0 + 1 ≤ used) × (get_or w 0 0 + 1 ≤ length w) × (4 ≤ get_or w 0 0 + 1)
    skip_fits = (
      omega (arith, first_is, whole_size),
      omega (arith, first_is, simp length-append at (ap length whole)),
      omega (arith, first_is, g.cell),
    )

    pub left_fits : (tag rest n : ℕ) → n ≡ length (others_code tag rest) → (used + 1 - (get_or w 0 0 + 1) ≤ length (from w (get_or w 0 0 + 1))) × (n + (used + 1 - (get_or w 0 0 + 1)) ≤ length o) × (1 ≤ used + 1 - (get_or w 0 0 + 1))
    left_fits tag rest n e = (
      omega (arith, left_is, simp length-append at (ap length behind_is)),
      omega (arith, left_is, others_fit.0, whole_size, g.cell, e, code_short tag rest),
      omega (arith, left_is),
    )

    pub others_made : (tag rest n : ℕ) (o₁ o' : List ℕ) → WrittenFirst (others_code tag rest) n o₁ → take (n + (used + 1 - (get_or w 0 0 + 1))) o' ≡ take n o₁ ++ take (used + 1 - (get_or w 0 0 + 1)) (from w (get_or w 0 0 + 1))
        → Product (others_code tag rest ++ words_list g.vs) (n + (used + 1 - (get_or w 0 0 + 1)) - 1) o'
    others_made tag rest n o₁ o' b e =
        let i : n + (used + 1 - (get_or w 0 0 + 1)) - 1 + 1 ≡ n + (used + 1 - (get_or w 0 0 + 1)) = omega (arith, left_is) in
        record {
          size = simp length-append (omega (arith, left_is, b.0));
          list = rw i (e ∙ ap₂ (λ (x y : List ℕ). x ++ y) b.1 left_take ∙ sym (append_assoc (others_code tag rest) (words_list g.vs) (0 ∷ [])));
        }
