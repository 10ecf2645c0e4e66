-- The rows of rules: what a rule more adds to them.
use mathlib.Core.Path.{◌≡◌, refl, sym, ap, ◌∙◌}
use mathlib.Core.Logic.{◌⊎◌, inl, inr}
use mathlib.Core.List.{List, [], ◌∷◌, ◌++◌, map, append_assoc, append-nil}
use mathlib.Core.Option.{some}
use Prim.Native.Nat.{ℕ, zero, suc, ◌+◌, ◌≤◌}
use native.Mathlib.Omega.{arith}
use lib.ListN.{length, length-append, length-map, get_elem?}
use Rattle.signature.specs.Signature.{Signature}
use Rattle.signature.proofs.Tests.{none≢some, some_inj}
use Rattle.table.specs.Rule.{Rule}
use Rattle.loading.specs.Lists.{rows_for}
use Rattle.indexing.specs.Indexing.{row_of, rule_rows, rows_all}

module _ {A B : Type 0} (f : A → B) where
  -- an element of a list that was made from another
  pub at_made : (xs : List A) (i : ℕ) (b : B) → get_elem? (map f xs) i ≡ some b → (a : A) × (get_elem? xs i ≡ some a) × (f a ≡ b)
  at_made [] i b e = none≢some e
  at_made (x ∷ xs) zero b e = (x, refl, some_inj (f x) b e)
  at_made (x ∷ xs) (suc i) b e = at_made xs i b e

module _ {A : Type 0} where
  -- an element of two lists is one of the first or of the second
  pub at_either : (xs ys : List A) (q : ℕ) (e : A) → get_elem? (xs ++ ys) q ≡ some e → (get_elem? xs q ≡ some e) ⊎ ((j : ℕ) × (q ≡ length xs + j) × (get_elem? ys j ≡ some e))
  at_either [] ys q e h = inr (q, omega arith, h)
  at_either (x ∷ xs) ys zero e h = inl h
  at_either (x ∷ xs) ys (suc q) e h = go (at_either xs ys q e h)
    where
      go : (get_elem? xs q ≡ some e) ⊎ ((j : ℕ) × (q ≡ length xs + j) × (get_elem? ys j ≡ some e)) → (get_elem? xs q ≡ some e) ⊎ ((j : ℕ) × (suc q ≡ suc (length xs) + j) × (get_elem? ys j ≡ some e))
      go (inl k) = inl k
      go (inr (j, k, l)) = inr (j, omega arith, l)

module _ (sig : Signature) where
  pub all_append : (before later : List Rule) → rows_all sig (before ++ later) ≡ rows_all sig before ++ rows_all sig later
  all_append [] later = refl
  all_append (r ∷ before) later = ap (λ z. rule_rows sig r ++ z) (all_append before later) ∙ sym (append_assoc (rule_rows sig r) (rows_all sig before) (rows_all sig later))

  pub all_last : (before : List Rule) (r : Rule) → rows_all sig (before ++ (r ∷ [])) ≡ rows_all sig before ++ rule_rows sig r
  all_last before r = all_append before (r ∷ []) ∙ ap (λ z. rows_all sig before ++ z) (append-nil (rule_rows sig r))

  pub count_last : (before : List Rule) (r : Rule) → length (rows_all sig (before ++ (r ∷ []))) ≡ length (rows_all sig before) + length (rows_for sig r.pattern)
  count_last before r = ap length (all_last before r) ∙ length-append (rows_all sig before) (rule_rows sig r) ∙ ap (λ (n : ℕ). length (rows_all sig before) + n) (length-map (rows_for sig r.pattern) (row_of r.number r.plan))

  -- what the rules so far have, all have
  pub count_less : (before later : List Rule) → length (rows_all sig before) ≤ length (rows_all sig (before ++ later))
  count_less before later = omega (arith, ap length (all_append before later), length-append (rows_all sig before) (rows_all sig later))
