-- The law of the matrix holds: rows that combine have a value, and what fits both rows fits their combination.
use mathlib.Core.Path.{◌≡◌, refl, sym, ap, ap₂, subst, ◌∙◌}
use mathlib.Core.List.{List, [], ◌∷◌}
use mathlib.Core.Bool.{Bool, true, false, ◌&&◌, ◌||◌}
use mathlib.Core.Option.{Option, none, some}
use Prim.Native.Nat.{ℕ, suc, ◌+◌, ◌≤◌}
use native.Mathlib.Omega.{arith}
use lib.ListN.{length}
use Rattle.signature.specs.Lawful.{LawfulBooking}
use Rattle.signature.specs.Lists.{is_some, somes}
use Rattle.signature.specs.Read.{Signed}
use Rattle.signature.specs.Signature.{Signature}
use Rattle.signature.specs.Value.{Value, con, code, size}
use Rattle.signature.proofs.Booleans.{and_left, and_right}
use Rattle.signature.proofs.ListFacts.{Kept, kept}
use Rattle.signature.proofs.LawfulFacts.{args_small, few, sig_facts}
use Rattle.signature.proofs.Tests.{true≢false}
use Rattle.signature.proofs.Values.{length_code}
use Rattle.pattern.specs.Limits.{pattern_limit}
use Rattle.row.specs.Row.{Row, combine}
use Rattle.row.specs.RowFits.{Good, place_count, row_fits, fits_some}
use Rattle.row.proofs.OverlapFacts.{combine_good, fill}
use Rattle.row.proofs.Places.{combine_places}
use Rattle.row.proofs.RowTheorem.{products_fit}
use Rattle.meeting.specs.Laws.{Laws}

or_false : (b : Bool) → (b || false) ≡ b
or_false true = refl
or_false false = refl

-- what the combination of two rows fits
fits_both : (r s : Row) (o : Option Row) (v : Value) → combine r s ≡ o → fits_some (somes (o ∷ [])) v ≡ (row_fits r v && row_fits s v)
fits_both r s o v e = ap (λ (z : Option Row). fits_some (somes (z ∷ [])) v) (sym e) ∙ products_fit (r ∷ []) (s ∷ []) v ∙ ap₂ (λ (a b : Bool). a && b) (or_false (row_fits r v)) (or_false (row_fits s v))

module _ (sig : Signature) (lawful : Signed sig) (r s : Row) (gr : Good sig 0 r) (gs : Good sig 0 s) (fr : place_count r ≤ pattern_limit) (fs : place_count s ≤ pattern_limit) where
  abbrev NoneFits : Type 0
  NoneFits = (ws : List ℕ) (v : Value) → LawfulBooking sig ws v → row_fits r v ≡ true → row_fits s v ≡ true → ⊥

  none_fits : (o : Option Row) → combine r s ≡ o → is_some o ≡ false → NoneFits
  none_fits none e n ws v l a b = true≢false (sym (fits_both r s none v e ∙ (rw (a, b) refl)))
  none_fits (some t) e n ws v l a b = true≢false n

  kept_of : {P : Row → Type 0} (t : Row) → Kept P (some t) → P t
  kept_of t (kept x p) = p

  some_fits : (o : Option Row) → combine r s ≡ o → NoneFits → is_some o ≡ false
  some_fits none e n = refl
  some_fits (some t) e n =
      let facts = sig_facts sig lawful in
      let g : Good sig 0 t = kept_of t (subst (Kept (Good sig 0)) e (combine_good sig r s gr gs)) in
      let p : suc (place_count t) ≤ place_count r + place_count s = kept_of t (subst (Kept (λ q. suc (place_count q) ≤ place_count r + place_count s)) e (combine_places r s)) in
      let (v, h, f, l, d) = fill sig (args_small sig facts) (few sig facts) t g in
      let both : (row_fits r v && row_fits s v) ≡ true = sym (fits_both r s (some t) v e) ∙ or_false (row_fits t v) ∙ f in
      absurd (n (code v) v (record { kind_0 = h; is_code = refl; some_words = one v (length_code v); at_most = omega (arith, l, p, fr, fs, length_code v); deep = omega (arith, d, p, fr, fs) }) (and_left (row_fits r v) (row_fits s v) both) (and_right (row_fits r v) (row_fits s v) both))
    where
      one : (v : Value) → length (code v) ≡ size v → 1 ≤ length (code v)
      one (con c vs) n = omega arith

pub laws : Laws
laws = record {
  off = λ sig l rs m M i j r s e f gr gs fr fs. (
    λ n. none_fits sig l r s gr gs fr fs (combine r s) refl (sym (M.pairs i j r s e f) ∙ n),
    λ n. M.pairs i j r s e f ∙ some_fits sig l r s gr gs fr fs (combine r s) refl n,
  );
}
