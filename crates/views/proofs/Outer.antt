-- What stands for a cell that is not kept: the set of its heads.
use mathlib.Core.Path.{◌≡◌, refl, ap, ap₂, sym, ◌∙◌}
use mathlib.Core.List.{List, [], ◌∷◌}
use mathlib.Core.Bool.{Bool, true, false, cond, not, ◌&&◌}
use Prim.Native.Nat.{ℕ, ◌+◌, ◌-◌, ◌^◌, ◌<◌}
use lib.Dec.{eqb, ltb}
use Rattle.signature.specs.Decoded.{Known, count_of}
use Rattle.signature.specs.Lists.{All, first, memb}
use Rattle.signature.specs.Signature.{Signature, heads}
use Rattle.signature.proofs.ListFacts.{keep_all}
use Rattle.signature.proofs.Members.{all_of}
use Rattle.row.specs.Row.{Row, named, free}
use Rattle.row.specs.RowFits.{Good, good_free}
use Rattle.sets.specs.Heads.{number_of}
use Rattle.sets.specs.declared.heads.Heads.{Heads}
use Rattle.sets.specs.Set.{bit, set_of, Within}
use Rattle.sets.proofs.ListSets.{one_if, bit_set_of, set_keep, set_nil, set_some, within_keep}
use Rattle.sets.proofs.SetLaws.{bit_below}
use Rattle.cell.specs.Cell.{kind_tag}
use Rattle.cell.specs.declared.cell.Cell.{Cell}
use Rattle.cell.specs.Coded.{kinds_of, row_code}
use Rattle.cell.proofs.CursorFacts.{cell_words}
use Rattle.rowlist.proofs.Kinded.{full_set, within_kind}
use Rattle.views.specs.View.{others, outside, view}
use Rattle.cell.specs.Cursor.{cell_kind}
use Rattle.views.specs.Write.{Outside}
use Rattle.views.proofs.Standing.{allowed_of}

-- as the code makes it
pub left_there : (t : List ℕ) (c : Cell) (left : Bool) (kind n : ℕ) (all rest : Heads) → left ≡ true → kind ≡ cell_kind t c.tag → n ≡ count_of t kind → ((j : ℕ) → bit (number_of all) j ≡ cond (ltb j n) 1 0)
    → ((j : ℕ) → bit (number_of rest) j ≡ cond (eqb (bit (number_of c.allowed) j) 1) 0 (bit (number_of all) j)) → Outside t c left (record { tag = kind_tag + kind; vars = 0; allowed = rest })
left_there t c left kind n all rest e ek en f m = record { tag_is = rw ek; vars_are = refl; allowed_are = λ j. rw (e, ← ek, ← en) (m j ∙ ap (λ (x : ℕ). cond (eqb (bit (number_of c.allowed) j) 1) 0 x) (f j)) }

pub left_elsewhere : (t : List ℕ) (c : Cell) (left : Bool) (kind n : ℕ) (all : Heads) → left ≡ false → kind ≡ cell_kind t c.tag → n ≡ count_of t kind → ((j : ℕ) → bit (number_of all) j ≡ cond (ltb j n) 1 0) → Outside t c left (record { tag = kind_tag + kind; vars = 0; allowed = all })
left_elsewhere t c left kind n all e ek en f = record { tag_is = rw ek; vars_are = refl; allowed_are = λ j. rw (e, ← ek, ← en) (f j) }

minus_one : (a b : Bool) → cond (eqb (one_if b) 1) 0 (one_if a) ≡ one_if (a && not b)
minus_one true true = refl
minus_one true false = refl
minus_one false true = refl
minus_one false false = refl

module _ (sig : Signature) (kept : ℕ → Bool) (left k i : ℕ) where
  -- a cell that is not kept
  pub open_view : (r : Row) → kept i ≡ false → view sig kept left k i r ≡ free [] (outside sig kept left k i (allowed_of r))
  open_view (named xs c rs) e = rw e
  open_view (free xs cs) e = rw e

  -- which heads may stand for it
  pub outside_heads : (cs : List ℕ) → All (λ d. memb d (heads sig k) ≡ true) (outside sig kept left k i cs)
  outside_heads cs = go (eqb i left)
    where
      go : (b : Bool) → All (λ d. memb d (heads sig k) ≡ true) (cond b (others sig k cs) (heads sig k))
      go true = keep_all (λ d. not (memb d cs)) (all_of (heads sig k) (λ d m. m))
      go false = all_of (heads sig k) (λ d m. m)

  outside_within : (cs : List ℕ) → Within (first (heads sig k)) (heads sig k) → Within (first (heads sig k)) (outside sig kept left k i cs)
  outside_within cs w = go (eqb i left)
    where
      go : (b : Bool) → Within (first (heads sig k)) (cond b (others sig k cs) (heads sig k))
      go true = within_keep (first (heads sig k)) (λ d. not (memb d cs)) (heads sig k) w
      go false = w

  -- none, where their set is empty; else a row of the kind
  pub none_outside : (cs : List ℕ) → Within (first (heads sig k)) (heads sig k) → set_of (first (heads sig k)) (outside sig kept left k i cs) ≡ 0 → outside sig kept left k i cs ≡ []
  none_outside cs w e = go (outside sig kept left k i cs) (outside_within cs w) e
    where
      go : (ds : List ℕ) → Within (first (heads sig k)) ds → set_of (first (heads sig k)) ds ≡ 0 → ds ≡ []
      go [] v z = refl
      go (d ∷ ds) v z = absurd (set_some (first (heads sig k)) d ds v z)

  pub some_outside : (cs : List ℕ) → ¬ (set_of (first (heads sig k)) (outside sig kept left k i cs) ≡ 0) → Good sig k (free [] (outside sig kept left k i cs))
  some_outside cs n = go (outside sig kept left k i cs) (outside_heads cs) n
    where
      go : (ds : List ℕ) → All (λ d. memb d (heads sig k) ≡ true) ds → ¬ (set_of (first (heads sig k)) ds ≡ 0) → Good sig k (free [] ds)
      go [] a n = absurd (n (set_nil (first (heads sig k))))
      go (d ∷ ds) a n = good_free a

module _ {t : List ℕ} (g : Known t) (k : ℕ) (l : k < g.decoded.n) (cs : List ℕ) (w : Within (first (heads g.sig k)) cs) where
  full_bits : (j : ℕ) → cond (ltb j (count_of t k)) 1 0 ≡ one_if (memb (first (heads g.sig k) + j) (heads g.sig k))
  full_bits j =
      sym (bit_below (count_of t k) j)
      ∙ ap (λ (s : ℕ). bit s j) (full_set g k l (2 ^ count_of t k - 1) (bit_below (count_of t k)))
      ∙ bit_set_of (first (heads g.sig k)) j (heads g.sig k) (within_kind g k l)

  others_set : (s a : ℕ) → a ≡ set_of (first (heads g.sig k)) cs → ((j : ℕ) → bit s j ≡ cond (eqb (bit a j) 1) 0 (cond (ltb j (count_of t k)) 1 0)) → s ≡ set_of (first (heads g.sig k)) (others g.sig k cs)
  others_set s a e h =
      let f = first (heads g.sig k) in
      set_keep f (λ d. not (memb d cs)) (heads g.sig k) s (within_kind g k l) (λ j.
      h j
      ∙ ap₂ (λ (x y : ℕ). cond (eqb x 1) 0 y) (ap (λ (n : ℕ). bit n j) e ∙ bit_set_of f j cs w) (full_bits j)
      ∙ minus_one (memb (f + j) (heads g.sig k)) (memb (f + j) cs))

  -- the set that is written
  outside_set : (kept : ℕ → Bool) (left i : ℕ) (b : Bool) (s a : ℕ) → b ≡ eqb i left → a ≡ set_of (first (heads g.sig k)) cs → ((j : ℕ) → bit s j ≡ cond (b && eqb (bit a j) 1) 0 (cond (ltb j (count_of t k)) 1 0))
      → s ≡ set_of (first (heads g.sig k)) (outside g.sig kept left k i cs)
  outside_set kept left i true s a q e h = rw (← q) (others_set s a e h)
  outside_set kept left i false s a q e h = rw (← q) (full_set g k l s h)

  -- and the words of its cell
  pub outside_cell : (kept : ℕ → Bool) (left i : ℕ) (b : Bool) (c r : Cell) → b ≡ eqb i left → cell_kind t c.tag ≡ k → number_of c.allowed ≡ set_of (first (heads g.sig k)) cs → Outside t c b r
      → (number_of r.allowed ≡ set_of (first (heads g.sig k)) (outside g.sig kept left k i cs)) × (cell_words r ≡ row_code (kinds_of g.sig) (free [] (outside g.sig kept left k i cs)) k)
  outside_cell kept left i b c r q ek e O =
      let s = outside_set kept left i b (number_of r.allowed) (number_of c.allowed) q e (rw ek at O.allowed_are) in
      (s, rw (O.tag_is, O.vars_are, s, ek, set_nil 0))
