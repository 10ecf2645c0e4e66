-- At which cells a value of a branch may leave a row.
use mathlib.Core.Logic.{◌⊎◌, inl, inr}
use mathlib.Core.Path.{◌≡◌, refl, ap, ◌∙◌, sym}
use mathlib.Core.List.{List, ◌++◌}
use mathlib.Core.Bool.{Bool, true, false, cond, ◌&&◌}
use mathlib.Core.Option.{Option, none, some}
use Prim.Native.Nat.{ℕ, ◌≤◌}
use native.Mathlib.Omega.{arith}
use lib.Dec.{eqb, ltb}
use lib.ListN.{length}
use Rattle.signature.specs.Lists.{is_some}
use Rattle.signature.specs.Value.{Value}
use Rattle.signature.proofs.Tests.{true≢false}
use Rattle.pattern.specs.Limits.{pattern_limit}
use Rattle.row.specs.Row.{Row, combine}
use Rattle.row.specs.RowFits.{Good, row_fits}
use Rattle.row.proofs.Kept.{kept_fits}
use Rattle.row.proofs.RowMeet.{combine_fits}
use Rattle.sets.specs.Set.{bit}
use Rattle.cell.specs.Coded.{kinds_of, row_code}
use Rattle.overlap.specs.Pair.{TwoRows}
use Rattle.witness.proofs.Pairs.{typed_good}
use Rattle.views.specs.View.{kept_of, with_cell, agrees, edge, view}
use Rattle.views.specs.Write.{GivenRow, GivenView}
use Rattle.views.proofs.Laws.{laws}
use Rattle.views.proofs.Opened.{one_more, none_kept}
use Rattle.search.specs.Cells.{GivenBeside, NotLeft, AgreeBeside}

-- rows that are not one share no value
pub apart_rows : (r s : Row) (v : Value) → is_some (combine r s) ≡ false → row_fits r v ≡ true → row_fits s v ≡ false
apart_rows r s v e h = go (combine r s) refl
  where
    go : (m : Option Row) → combine r s ≡ m → row_fits s v ≡ false
    go none q = let z : false ≡ (row_fits r v && row_fits s v) = ap (λ (x : Option Row). kept_fits x v) (sym q) ∙ combine_fits r s v in sym (z ∙ (rw h refl))
    go (some x) q = true≢false (ap is_some (sym q) ∙ e)

module _ {t row q : List ℕ} (g : GivenBeside t row q) where
  abbrev pub to_row : GivenRow t row
  to_row = record {
    part = record { known = g.known; kind = 0; r = g.r; rest = g.rest_r; good = g.proper.good; code_is = g.code_r };
    few = g.proper.few;
  }

  abbrev pub to_view : (e : List ℕ) → 192 ≤ length e → GivenView t row e
  to_view e l = record { given = to_row; room = l }

  module _ (opened c : ℕ) where
    abbrev seen : Row
    seen = view g.known.sig (kept_of opened) c 0 0 g.r

    abbrev pub beside_view : (e' : List ℕ) (rest : List ℕ) → e' ≡ row_code (kinds_of g.known.sig) seen 0 ++ rest → Good g.known.sig 0 seen → TwoRows t q e'
    beside_view e' rest e h = record {
      K = kinds_of g.known.sig;
      kind = 0;
      r = g.s;
      s = seen;
      rest_a = g.rest_s;
      rest_b = rest;
      code_a = g.code_s;
      code_b = e;
      typed_r = typed_good g.known g.good;
      typed_s = typed_good g.known h;
    }

    pub not_met : (b : Bool) → b ≡ is_some (combine g.s seen) → b ≡ false → NotLeft g opened c
    not_met b e f v h = apart_rows g.s seen v (sym e ∙ f) h

    -- a cell at which the row is not left is kept
    pub agree_more : (opened' : ℕ) → AgreeBeside g opened → NotLeft g opened c → edge (kept_of opened) c 0 g.r ≡ true → ((j : ℕ) → bit opened' j ≡ cond (eqb j c) 0 (bit opened j)) → AgreeBeside g opened'
    agree_more opened' (C, A) N e h = (
      laws.closed_same (with_cell (kept_of opened) c) (kept_of opened') g.r (λ i. sym (one_more opened opened' c h i)) (laws.closed_more (kept_of opened) c g.r C e),
      λ v k f. go v f (laws.cover g.known.sig (kept_of opened) c 0 g.r v g.proper.good C k (A v k f)),
    )
      where
        go : (v : Value) → row_fits g.s v ≡ true → (row_fits seen v ≡ true) ⊎ (agrees (with_cell (kept_of opened) c) 0 g.r v ≡ true) → agrees (kept_of opened') 0 g.r v ≡ true
        go v f (inl x) = true≢false (sym x ∙ N v f)
        go v f (inr x) = sym (laws.same_kept (with_cell (kept_of opened) c) (kept_of opened') g.r v (λ i. sym (one_more opened opened' c h i))) ∙ x

  -- at first every cell is open
  pub agree_first : (opened : ℕ) → ((j : ℕ) → bit opened j ≡ cond (ltb j pattern_limit) 1 0) → AgreeBeside g opened
  agree_first opened h = (
    laws.closed_none (kept_of opened) g.r (λ i l. none_kept opened pattern_limit h i (omega (arith, l, g.proper.few))),
    λ v k f. laws.none_kept (kept_of opened) g.r v (none_kept opened pattern_limit h 0 (omega arith)),
  )
