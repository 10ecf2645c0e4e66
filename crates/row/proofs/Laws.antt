-- The laws of rows hold.
use mathlib.Core.Logic.{◌↔◌}
use mathlib.Core.Path.{◌≡◌, sym, ap, ◌∙◌}
use mathlib.Core.Bool.{true, not}
use Prim.Native.Nat.{ℕ}
use Rattle.signature.specs.Lawful.{OfKind}
use Rattle.signature.specs.Lists.{In}
use Rattle.signature.specs.Signature.{Signature}
use Rattle.signature.specs.Value.{Value}
use Rattle.signature.proofs.LawfulFacts.{sig_facts, small_0, args_small, few}
use Rattle.signature.proofs.ListFacts.{any_in, in_any, all_in}
use Rattle.signature.proofs.Booleans.{not_true}
use Rattle.pattern.specs.Ambiguous.{Ambiguous}
use Rattle.pattern.specs.Decide.{decide, is_fit}
use Rattle.pattern.specs.Linear.{linear_plus}
use Rattle.pattern.specs.Match.{Binds, Fits, Fails}
use Rattle.pattern.specs.Pattern.{Pattern}
use Rattle.pattern.specs.Places.{binds}
use Rattle.pattern.specs.WellFormed.{WellFormed}
use Rattle.pattern.proofs.Decided.{decide_fits, decide_fails, fits_decide, fails_decide}
use Rattle.pattern.proofs.Unique.{same_fits}
use Rattle.row.specs.Laws.{Laws}
use Rattle.row.specs.Row.{Row, rows_plus, rows_minus}
use Rattle.row.specs.RowFits.{row_fits, row_binds}
use Rattle.row.proofs.Exists.{overlap_booking, booking_overlap, ambiguous_exists, ambiguous_decided, shares_exists, exists_shares}
use Rattle.row.proofs.OverlapFacts.{overlap_shared}
use Rattle.row.proofs.PassedFacts.{passed_of, of_passed}
use Rattle.row.proofs.Places.{plus_places}
use Rattle.row.proofs.RowBinds.{plus_means}
use Rattle.row.proofs.RowCount.{plus_count, minus_count}
use Rattle.row.proofs.RowTheorem.{plus_fits, minus_fits}
use Rattle.row.proofs.Symmetric.{shares_sym}

module _ (sig : Signature) (k i : ℕ) (p : Pattern) (v : Value) (w : WellFormed sig k p) (h : OfKind sig k v) where
  fits_row : ((σ : Binds) × Fits p v i σ) ↔ ((r : Row) × In r (rows_plus sig k p) × (row_fits r v ≡ true))
  fits_row = (λ f. any_in (λ r. row_fits r v) (rows_plus sig k p) (plus_fits sig p w v h i ∙ fits_decide sig p w h f.1), λ r. decide_fits sig p i w h (sym (plus_fits sig p w v h i) ∙ in_any (λ s. row_fits s v) (rows_plus sig k p) r.0 r.1 r.2))

  fails_row : ((σ : Binds) × Fails p v i σ) ↔ ((r : Row) × In r (rows_minus sig k p) × (row_fits r v ≡ true))
  fails_row = (λ f. any_in (λ r. row_fits r v) (rows_minus sig k p) (minus_fits sig p w v h i ∙ ap not (fails_decide sig p w h f.1)), λ r. decide_fails sig p i w h (not_true (is_fit (decide p v i)) (sym (minus_fits sig p w v h i) ∙ in_any (λ s. row_fits s v) (rows_minus sig k p) r.0 r.1 r.2)))

row_binds_so : (sig : Signature) (k i : ℕ) (p : Pattern) (v : Value) (r : Row) → In r (rows_plus sig k p) → row_fits r v ≡ true → (σ : Binds) × Fits p v i σ × ((x j : ℕ) → binds x j σ ≡ row_binds r v i x j)
row_binds_so sig k i p v r m e = all_in (plus_means sig k p) m v i e

fit_binds_so : (sig : Signature) (k i : ℕ) (p : Pattern) (v : Value) (σ : Binds) → WellFormed sig k p → OfKind sig k v → linear_plus p ≡ true → (Ambiguous sig k p → ⊥) → Fits p v i σ → (r : Row) × In r (rows_plus sig k p) × (row_fits r v ≡ true) × ((x j : ℕ) → binds x j σ ≡ row_binds r v i x j)
fit_binds_so sig k i p v σ w h l n f =
    let (r, m, e) = (fits_row sig k i p v w h).0 (σ, f) in
    let (τ, g, a) = row_binds_so sig k i p v r m e in
    (r, m, e, λ x j. same_fits sig p l n h f g x j ∙ a x j)

pub laws : Laws
laws = record {
  fits_row = fits_row;
  fails_row = fails_row;
  row_binds_so = row_binds_so;
  fit_binds_so = fit_binds_so;
  few_rows = λ sig k p. (plus_count sig p k, minus_count sig p k);
  few_places = λ sig k p r w m. all_in (plus_places sig p w) m;
  overlap_shared = λ sig signed us ws p q a b. (overlap_booking sig (sig_facts sig signed) us ws p q a b, booking_overlap sig (sig_facts sig signed) us ws p q a b);
  shown_bound = λ sig signed p q a b e.
      let f = sig_facts sig signed in
      let (v, h, x, y, l, d) = overlap_shared sig (args_small sig f) (few sig f) p q (small_0 sig f) a b e in
      (v, h, decide_fits sig p 0 a h x, decide_fits sig q 0 b h y, l, d);
  shares_booking = λ sig signed us ws. (shares_exists sig signed us ws, exists_shares sig signed us ws);
  shares_either_way = shares_sym;
  ambiguous = λ sig signed p w. (ambiguous_exists sig (sig_facts sig signed) p (small_0 sig (sig_facts sig signed)) w, ambiguous_decided sig p w);
  passed = λ sig signed ws. (passed_of sig ws, of_passed sig signed ws);
}
