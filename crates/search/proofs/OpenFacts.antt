-- The row of all values of kind 0, in words.
use mathlib.Core.Path.{◌≡◌, refl, ap, ◌∙◌, sym, subst}
use mathlib.Core.List.{List, [], ◌∷◌, ◌++◌}
use mathlib.Core.Bool.{true, false, cond}
use Prim.Native.Nat.{ℕ, ◌≤◌}
use native.Mathlib.Omega.{arith}
use lib.Dec.{ltb}
use lib.ListN.{length, drop}
use Rattle.signature.specs.Decoded.{Known, count_of}
use Rattle.signature.specs.Lists.{All, memb, is_empty, first}
use Rattle.signature.specs.Signature.{Signature, heads}
use Rattle.signature.proofs.Members.{all_of}
use Rattle.signature.proofs.Tests.{true≢false}
use Rattle.row.specs.Row.{free, open_row}
use Rattle.row.specs.RowFits.{Good, good_free}
use Rattle.cell.specs.Cell.{cell_code}
use Rattle.cell.specs.Cursor.{put_cell}
use Rattle.cell.specs.declared.cell.Cell.{Cell}
use Rattle.sets.specs.Heads.{number_of}
use Rattle.sets.specs.Set.{bit, heads_width, set_of}
use Rattle.sets.specs.declared.heads.Heads.{Heads}
use Rattle.sets.proofs.ListSets.{set_nil}
use Rattle.rowlist.proofs.Kinded.{kind_zero, few_heads, full_set, open_kind}
use Rattle.search.specs.Branch.{Opened}

pub first_cell : (q : List ℕ) (c : Cell) → 3 ≤ length q → put_cell q 0 c ≡ cell_code c.tag c.vars (number_of c.allowed) ++ drop 3 q
first_cell [] c l = absurd (omega (arith, l))
first_cell (x ∷ []) c l = absurd (omega (arith, l))
first_cell (x ∷ (y ∷ [])) c l = absurd (omega (arith, l))
first_cell (x ∷ (y ∷ (z ∷ q))) c l = refl

open_good : (sig : Signature) (k : ℕ) → is_empty (heads sig k) ≡ false → Good sig k (open_row sig k)
open_good sig k e = go (heads sig k) refl e (all_of (heads sig k) (λ d m. m))
  where
    go : (hs : List ℕ) → heads sig k ≡ hs → is_empty (heads sig k) ≡ false → All (λ d. memb d (heads sig k) ≡ true) (heads sig k) → Good sig k (free [] (heads sig k))
    go [] q f a = true≢false (rw q at f)
    go (c ∷ cs) q f a = subst (λ (xs : List ℕ). All (λ d. memb d (heads sig k) ≡ true) xs → Good sig k (free [] xs)) (sym q) (λ b. good_free b) a

module _ {t : List ℕ} (g : Known t) where
  pub few_counted : count_of t 0 ≤ heads_width
  few_counted = omega (arith, g.decoded.head_count 0 (kind_zero g), few_heads g 0 (kind_zero g))

  pub opened : (q : List ℕ) (f : Heads) (n : ℕ) → 3 ≤ length q → n ≡ count_of t 0 → ((j : ℕ) → bit (number_of f) j ≡ cond (ltb j n) 1 0) → Opened g.sig 3 (put_cell q 0 (record { tag = 256; vars = 0; allowed = f }))
  opened q f n l e h = record {
    rest = drop 3 q;
    code_is = first_cell q (record { tag = 256; vars = 0; allowed = f }) l ∙ ap (λ (m : ℕ). cell_code 256 0 m ++ drop 3 q) (full_set g 0 (kind_zero g) (number_of f) (λ j. h j ∙ ap (λ (m : ℕ). cond (ltb j m) 1 0) e)) ∙ ap (λ (x : ℕ). cell_code 256 x (set_of (first (heads g.sig 0)) (heads g.sig 0)) ++ drop 3 q) (sym (set_nil 0));
    words_are = refl;
    good = open_good g.sig 0 (open_kind g 0 (kind_zero g)).some;
  }
