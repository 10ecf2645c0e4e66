-- What a row binds, as 16 places.
use mathlib.Core.Path.{◌≡◌, refl, ap, ◌∙◌, sym}
use mathlib.Core.List.{[], ◌∷◌, List}
use mathlib.Core.Option.{some}
use mathlib.Core.Bool.{◌&&◌, Bool, cond, true, false, ◌||◌}
use Prim.Native.Nat.{ℕ, suc, ◌+◌, ◌≤◌}
use native.Mathlib.Omega.{arith}
use lib.Dec.{eqb, leb}
use Rattle.signature.specs.Lists.{memb}
use Rattle.signature.specs.Read.{read_booking}
use Rattle.signature.specs.Signature.{Signature}
use Rattle.signature.specs.Value.{Value, con, Values, vnil, vcons, size}
use Rattle.signature.proofs.Booleans.{or_swap, split_and, or_turn, or_false}
use Rattle.pattern.specs.Linear.{E}
use Rattle.pattern.specs.Match.{Binds, Fits}
use Rattle.pattern.specs.Places.{binds, times, bind_all, unbound}
use Rattle.pattern.proofs.Once.{same_places, tick_one, once_fits}
use Rattle.row.specs.Admitted.{Passed}
use Rattle.row.specs.Row.{Row, named, free, Rows, rnil, rcons}
use Rattle.row.specs.RowFits.{row_binds, rows_bind, row_fits}
use Rattle.row.proofs.PassedFacts.{one_list_of}
use Rattle.row.proofs.RowBinds.{Means}
use Rattle.row.proofs.RowCount.{occurs, occurs_all, OnceIn}
use Rattle.tree.specs.Tree.{insert, inserts}
use Rattle.tree.proofs.TreeFacts.{final, finals}
use Rattle.tree.proofs.TreeRuns.{times_inserts}

binds_insert : (x j y i : ℕ) (bs : Binds) → binds x j (insert (y, i) bs) ≡ ((eqb x y && eqb j i) || binds x j bs)
binds_insert x j y i [] = refl
binds_insert x j y i (b ∷ bs) = go (leb y b.0) (binds_insert x j y i bs)
  where
    go : (c : Bool) → binds x j (insert (y, i) bs) ≡ ((eqb x y && eqb j i) || binds x j bs) → binds x j (cond c ((y, i) ∷ (b ∷ bs)) (b ∷ insert (y, i) bs)) ≡ ((eqb x y && eqb j i) || ((eqb x b.0 && eqb j b.1) || binds x j bs))
    go true h = refl
    go false h = ap (λ z. (eqb x b.0 && eqb j b.1) || z) h ∙ or_swap (eqb x b.0 && eqb j b.1) (eqb x y && eqb j i) (binds x j bs)

binds_inserts : (x j i : ℕ) (xs : List ℕ) (bs : Binds) → binds x j (inserts i xs bs) ≡ ((memb x xs && eqb j i) || binds x j bs)
binds_inserts x j i [] bs = refl
binds_inserts x j i (y ∷ xs) bs = binds_insert x j y i (inserts i xs bs) ∙ ap (λ z. (eqb x y && eqb j i) || z) (binds_inserts x j i xs bs) ∙ split_and (eqb x y) (memb x xs) (eqb j i) (binds x j bs)

mutual
  pub final_binds : (r : Row) (v : Value) (i x j : ℕ) (σ : Binds) → binds x j (final r v i σ) ≡ (row_binds r v i x j || binds x j σ)
  final_binds (named xs c rs) (con d us) i x j σ = finals_bind rs us (suc i) x j (inserts i xs σ) ∙ ap (λ z. rows_bind rs us (suc i) x j || z) (binds_inserts x j i xs σ) ∙ or_turn (rows_bind rs us (suc i) x j) (memb x xs && eqb j i) (binds x j σ)
  final_binds (free xs cs) v i x j σ = binds_inserts x j i xs σ

  finals_bind : (rs : Rows) (vs : Values) (i x j : ℕ) (σ : Binds) → binds x j (finals rs vs i σ) ≡ (rows_bind rs vs i x j || binds x j σ)
  finals_bind rnil vs i x j σ = refl
  finals_bind (rcons r rs) vnil i x j σ = refl
  finals_bind (rcons r rs) (vcons v vs) i x j σ = finals_bind rs vs (i + size v) x j (final r v i σ) ∙ ap (λ z. rows_bind rs vs (i + size v) x j || z) (final_binds r v i x j σ) ∙ or_turn (rows_bind rs vs (i + size v) x j) (row_binds r v i x j) (binds x j σ)

mutual
  pub final_times : (r : Row) (v : Value) (i x : ℕ) (σ : Binds) → times x (final r v i σ) ≤ occurs x r + times x σ
  final_times (named xs c rs) (con d us) i x σ = omega (arith, finals_times rs us (suc i) x (inserts i xs σ), times_inserts x i xs σ)
  final_times (free xs cs) v i x σ = omega (arith, times_inserts x i xs σ)

  finals_times : (rs : Rows) (vs : Values) (i x : ℕ) (σ : Binds) → times x (finals rs vs i σ) ≤ occurs_all x rs + times x σ
  finals_times rnil vs i x σ = omega arith
  finals_times (rcons r rs) vnil i x σ = omega arith
  finals_times (rcons r rs) (vcons v vs) i x σ = omega (arith, finals_times rs vs (i + size v) x (final r v i σ), final_times r v i x σ)

module _ (sig : Signature) where
  -- a row of a rule that fits gives the places of every fit
  pub row_places : (ws bs : List ℕ) (h : Passed sig ws) (v : Value) (w : Row) {σ : Binds} → read_booking sig bs ≡ some v → Fits h.pat v 0 σ → Means (Fits h.pat) w → OnceIn (E h.pat) w → row_fits w v ≡ true → bind_all (final w v 0 []) unbound ≡ bind_all σ unbound
  row_places ws bs h v w {σ} b f m o e =
      let (τ, g, a) = m v 0 e in
      same_places (final w v 0 []) τ unbound (λ x. omega (arith, final_times w v 0 x [], o x, tick_one (memb x (E h.pat)))) (once_fits h.pat h.linear g) (λ x j. final_binds w v 0 x j [] ∙ or_false (row_binds w v 0 x j) ∙ sym (a x j))
      ∙ one_list_of sig ws bs h v b g f
