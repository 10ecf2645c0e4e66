-- The row of a range of levels: the set of those in it, or of all others.
use mathlib.Core.Path.{◌≡◌, refl, ap, ap₂, ◌∙◌, sym, subst}
use mathlib.Core.List.{List, [], ◌∷◌}
use mathlib.Core.Bool.{Bool, true, false, not, cond, ◌&&◌}
use Prim.Native.Nat.{ℕ, ◌+◌, ◌≤◌}
use native.Mathlib.Omega.{arith}
use borrow.Author.Tests.{eq-eqb, ne_eqb, leb-false}
use lib.Dec.{eqb, leb}
use lib.ListN.{length, get_or}
use Rattle.signature.specs.Limits.{level_base, last_level}
use Rattle.signature.specs.Lists.{memb, keep}
use Rattle.signature.specs.Signature.{Signature, heads, is_level}
use Rattle.signature.proofs.Booleans.{and_left, and_right}
use Rattle.signature.proofs.Heads.{level_member, is_level_of}
use Rattle.signature.proofs.Tests.{le_of, leb_yes, leb_no, true≢false}
use Rattle.pattern.specs.Pattern.{range}
use Rattle.pattern.specs.Range.{within}
use Rattle.sets.specs.Set.{bit, set_of, Within}
use Rattle.sets.proofs.ListSets.{one_if, bit_set_of, set_keep, set_nil, set_some, within_keep}
use Rattle.sets.proofs.SetLaws.{bit_zero}
use Rattle.cell.specs.Cell.{kind_tag, cell_code}
use Rattle.cell.specs.Coded.{kinds_of}
use Rattle.cell.specs.RowList.{entries}
use Rattle.row.specs.Row.{allowing}
use Rattle.rowlist.specs.Next.{others_code}
use Rattle.rowlist.specs.Product.{Product}
use Rattle.rowlist.specs.Sides.{rows_of}
use Rattle.builder.specs.Build.{GivenRange}

-- the row of the heads that are allowed, if there are any, by their set
pub allowing_list : (sig : Signature) (k : ℕ) (cs : List ℕ) → Within ((kinds_of sig).first k) cs → others_code (kind_tag + k) (set_of ((kinds_of sig).first k) cs) ≡ entries (kinds_of sig) k (allowing cs)
allowing_list sig k [] w = rw (set_nil ((kinds_of sig).first k))
allowing_list sig k (d ∷ ds) w = rw (ne_eqb _ 0 (set_some ((kinds_of sig).first k) d ds w), set_nil 0)

-- levels are counted from the first
leb_behind : (a b : ℕ) → leb (level_base + a) (level_base + b) ≡ leb a b
leb_behind a b = go (leb a b) refl
  where
    go : (t : Bool) → leb a b ≡ t → leb (level_base + a) (level_base + b) ≡ t
    go true e = leb_yes (level_base + a) (level_base + b) (omega (arith, le_of a b e))
    go false e = leb_no (level_base + a) (level_base + b) (omega (arith, leb-false a b e))

within_is : (low high i : ℕ) → within low high (level_base + i) ≡ (leb low i && leb i high)
within_is low high i = ap₂ ◌&&◌ (leb_behind low i) (leb_behind i high)

level_there : (i : ℕ) → i ≤ last_level → is_level (level_base + i) ≡ true
level_there i l = is_level_of (level_base + i) (omega arith) (omega (arith, l))

module _ {tag full : ℕ} {w : List ℕ} {n : ℕ} (g : GivenRange tag full w n) where
  pub ends : (3 ≤ length w) × (get_or w 1 0 ≡ g.low) × (get_or w 2 0 ≡ g.high)
  ends = (omega (arith, ap length g.code_is), ap (λ (l : List ℕ). get_or l 1 0) g.code_is, ap (λ (l : List ℕ). get_or l 2 0) g.code_is)

  pub in_order : (g.low ≤ g.high) × (g.high ≤ last_level)
  in_order = (le_of g.low g.high (and_left (leb g.low g.high) (leb g.high last_level) g.right), le_of g.high last_level (and_right (leb g.low g.high) (leb g.high last_level) g.right))

  abbrev f : ℕ
  f = (kinds_of g.sig).first g.k

  first_level : f ≡ level_base
  first_level = rw g.number

  level_of_kind : (i : ℕ) → memb (level_base + i) (heads g.sig g.k) ≡ is_level (level_base + i)
  level_of_kind i = rw g.number (level_member (level_base + i))

  -- the levels that pass a test, by the bits of their set
  passing : (t : ℕ → Bool) (s : ℕ) → ((i : ℕ) → bit s i ≡ one_if (is_level (level_base + i) && t (level_base + i))) → s ≡ set_of f (keep t (heads g.sig g.k))
  passing t s h = set_keep f t (heads g.sig g.k) s g.opened.within (λ i. h i ∙ ap₂ (λ (m : Bool) (j : ℕ). one_if (m && t j)) (sym (level_of_kind i)) refl ∙ ap (λ (j : ℕ). one_if (memb (j + i) (heads g.sig g.k) && t (j + i))) (sym first_level))

  module _ (s : ℕ) (h : (j : ℕ) → bit s j ≡ cond (leb (get_or w 1 0) j && leb j (get_or w 2 0)) 1 0) where
    bits : (j : ℕ) → bit s j ≡ one_if (within g.low g.high (level_base + j))
    bits j = h j ∙ ap₂ (λ (a b : ℕ). cond (leb a j && leb j b) 1 0) ends.1 ends.2 ∙ one_is (leb g.low j && leb j g.high) ∙ ap one_if (sym (within_is g.low g.high j))
      where
        one_is : (b : Bool) → cond b 1 0 ≡ one_if b
        one_is true = refl
        one_is false = refl

    -- those in it
    range_set : s ≡ set_of f (keep (λ d. within g.low g.high d) (heads g.sig g.k))
    range_set = passing (λ d. within g.low g.high d) s (λ j. bits j ∙ level j (within g.low g.high (level_base + j)) refl)
      where
        level : (j : ℕ) (b : Bool) → within g.low g.high (level_base + j) ≡ b → one_if b ≡ one_if (is_level (level_base + j) && b)
        level j true e =
            let z : j ≤ g.high = le_of j g.high (and_right (leb g.low j) (leb j g.high) (sym (within_is g.low g.high j) ∙ e)) in
            rw (level_there j (omega (arith, z, in_order.1)))
        level j false e = no (is_level (level_base + j))
          where
            no : (a : Bool) → 0 ≡ one_if (a && false)
            no true = refl
            no false = refl

    some_level : ¬ (s ≡ 0)
    some_level e =
        let a : bit s g.low ≡ 1 = h g.low ∙ ap₂ (λ (a b : ℕ). cond (leb a g.low && leb g.low b) 1 0) ends.1 ends.2 ∙ rw (leb_yes g.low g.low (omega arith), leb_yes g.low g.high in_order.0) in
        let z : ◌≡◌ {A = ℕ} 0 1 = sym (bit_zero g.low) ∙ ap (λ (m : ℕ). bit m g.low) (sym e) ∙ a in
        omega (arith, z)

    -- all others
    module _ (r : ℕ) (k : (j : ℕ) → bit r j ≡ cond (eqb (bit s j) 1) 0 (bit full j)) where
      others_set : r ≡ set_of f (keep (λ d. not (within g.low g.high d)) (heads g.sig g.k))
      others_set = passing (λ d. not (within g.low g.high d)) r (λ j. k j ∙ ap₂ (λ (a b : ℕ). cond (eqb a 1) 0 b) (bits j) (all_levels j) ∙ neither (within g.low g.high (level_base + j)) (is_level (level_base + j)))
        where
          all_levels : (j : ℕ) → bit full j ≡ one_if (is_level (level_base + j))
          all_levels j = ap (λ (m : ℕ). bit m j) g.opened.full_is ∙ bit_set_of f j (heads g.sig g.k) g.opened.within ∙ ap (λ (i : ℕ). one_if (memb (i + j) (heads g.sig g.k))) first_level ∙ ap one_if (level_of_kind j)

          neither : (a b : Bool) → cond (eqb (one_if a) 1) 0 (one_if b) ≡ one_if (b && not a)
          neither true true = refl
          neither true false = refl
          neither false true = refl
          neither false false = refl

      by_others : others_code tag r ≡ entries (kinds_of g.sig) g.k (rows_of g.sig g.k false (range g.low g.high))
      by_others =
          ap₂ others_code g.opened.tag_is others_set
          ∙ allowing_list g.sig g.k (keep (λ d. not (within g.low g.high d)) (heads g.sig g.k)) (within_keep f (λ d. not (within g.low g.high d)) (heads g.sig g.k) g.opened.within)

      pub no_others : (b : Bool) (used : ℕ) (o : List ℕ) → b ≡ false → r ≡ 0 → Product [] used o → Product (entries (kinds_of g.sig) g.k (rows_of g.sig g.k b (range g.low g.high))) used o
      no_others true used o e z p = true≢false e
      no_others false used o e z p = subst (λ (l : List ℕ). Product l used o) (ap (λ (t : Bool). cond t [] (3 ∷ cell_code tag 0 r)) (sym (eq-eqb r 0 z)) ∙ by_others) p

      pub some_others : (b : Bool) (used : ℕ) (o : List ℕ) → b ≡ false → ¬ (r ≡ 0) → Product (3 ∷ cell_code tag 0 r) used o → Product (entries (kinds_of g.sig) g.k (rows_of g.sig g.k b (range g.low g.high))) used o
      some_others true used o e z p = true≢false e
      some_others false used o e z p = subst (λ (l : List ℕ). Product l used o) (ap (λ (t : Bool). cond t [] (3 ∷ cell_code tag 0 r)) (sym (ne_eqb r 0 z)) ∙ by_others) p

    by_range : others_code tag s ≡ entries (kinds_of g.sig) g.k (rows_of g.sig g.k true (range g.low g.high))
    by_range =
        ap₂ others_code g.opened.tag_is range_set
        ∙ allowing_list g.sig g.k (keep (λ d. within g.low g.high d) (heads g.sig g.k)) (within_keep f (λ d. within g.low g.high d) (heads g.sig g.k) g.opened.within)

    pub in_range : (b : Bool) (used : ℕ) (o : List ℕ) → b ≡ true → Product (3 ∷ cell_code tag 0 s) used o → Product (entries (kinds_of g.sig) g.k (rows_of g.sig g.k b (range g.low g.high))) used o
    in_range true used o e p = subst (λ (l : List ℕ). Product l used o) (ap (λ (t : Bool). cond t [] (3 ∷ cell_code tag 0 s)) (sym (ne_eqb s 0 some_level)) ∙ by_range) p
    in_range false used o e p = true≢false (sym e)
