-- The rows of a sound table's rules take a lawful booking exactly where a rule does.
use mathlib.Core.Path.{◌≡◌, refl, ap, sym, subst, ◌∙◌}
use mathlib.Core.Logic.{◌⊎◌, inl, inr}
use mathlib.Core.List.{List, [], ◌∷◌, ◌++◌, map, map-append}
use mathlib.Core.Bool.{Bool, true, false}
use Prim.Native.Nat.{ℕ}
use Rattle.signature.specs.Decoded.{Known}
use Rattle.signature.specs.Lawful.{LawfulBooking}
use Rattle.signature.specs.Lists.{All, none_left, In, in_here, in_there}
use Rattle.signature.specs.Signature.{Signature}
use Rattle.signature.specs.Value.{Value}
use Rattle.signature.proofs.ListFacts.{all_append, any_in, in_any, in_append, no_in}
use Rattle.signature.proofs.Tests.{true≢false}
use Rattle.signature.proofs.Values.{lawful_booking}
use Rattle.pattern.specs.Decide.{decide, is_fit}
use Rattle.pattern.specs.Match.{Binds}
use Rattle.pattern.specs.Takes.{TakesNot}
use Rattle.pattern.proofs.Decided.{decide_fails, fails_decide}
use Rattle.pattern.proofs.PatternBack.{pattern_words}
use Rattle.row.specs.Admitted.{Passed}
use Rattle.row.specs.Row.{Row}
use Rattle.row.specs.RowFits.{row_fits, fits_some}
use Rattle.row.proofs.PassedFacts.{takes_fails}
use Rattle.row.proofs.RowTheorem.{plus_fits}
use Rattle.table.specs.Rule.{Rule}
use Rattle.witness.specs.Pair.{Proper}
use Rattle.loading.specs.Lists.{rows_by, rows_for}
use Rattle.indexing.specs.Indexing.{row_of, rule_rows, rows_all}
use Rattle.witness.proofs.Showing.{proper_rows as witness_rows}
use Rattle.gap.specs.Rows.{rows_in}

in_first : {A : Type 0} {x : A} {xs : List A} (ys : List A) → In x xs → In x (xs ++ ys)
in_first ys in_here = in_here
in_first ys (in_there i) = in_there (in_first ys i)

in_second : {A : Type 0} {x : A} (xs : List A) {ys : List A} → In x ys → In x (xs ++ ys)
in_second [] i = i
in_second (z ∷ xs) i = in_there (in_second xs i)

module _ (sig : Signature) where
  -- a rule's own rows
  own_rows : (n plan : ℕ) (ws : List Row) → map (λ e. e.row) (map (row_of n plan) ws) ≡ ws
  own_rows n plan [] = refl
  own_rows n plan (w ∷ ws) = ap (λ z. w ∷ z) (own_rows n plan ws)

  pub rows_first : (r : Rule) (rs : List Rule) → rows_in sig (r ∷ rs) ≡ rows_for sig r.pattern ++ rows_in sig rs
  rows_first r rs = map-append (λ e. e.row) (rule_rows sig r) (rows_all sig rs) ∙ ap (λ z. z ++ rows_in sig rs) (own_rows r.number r.plan (rows_for sig r.pattern))

  row_in : {r : Rule} {rs : List Rule} {w : Row} → In r rs → In w (rows_for sig r.pattern) → In w (rows_in sig rs)
  row_in {r} {rs} {w} (in_here {xs = qs}) j = subst (In w) (sym (rows_first r qs)) (in_first (rows_in sig qs) j)
  row_in {r} {rs} {w} (in_there {y = s} {xs = qs} i) j = subst (In w) (sym (rows_first s qs)) (in_second (rows_for sig s.pattern) (row_in i j))

  rule_of : (rs : List Rule) (w : Row) → In w (rows_in sig rs) → (r : Rule) × In r rs × In w (rows_for sig r.pattern)
  rule_of [] w i = no_in i
  rule_of (r ∷ rs) w i = go (in_append (rows_for sig r.pattern) (rows_in sig rs) (subst (In w) (rows_first r rs) i)) (rule_of rs w)
    where
      go : In w (rows_for sig r.pattern) ⊎ In w (rows_in sig rs) → (In w (rows_in sig rs) → (q : Rule) × In q rs × In w (rows_for sig q.pattern)) → (q : Rule) × In q (r ∷ rs) × In w (rows_for sig q.pattern)
      go (inl j) f = (r, in_here, j)
      go (inr j) f = let (q, k, l) = f j in (q, in_there k, l)

  module _ (rs : List Rule) (passed : (r : Rule) → In r rs → Passed sig r.pattern) (bs : List ℕ) (v : Value) (lawful : LawfulBooking sig bs v) where
    -- the rows of one rule take what its pattern fits
    rule_rows_fit : (r : Rule) (i : In r rs) → fits_some (rows_for sig r.pattern) v ≡ is_fit (decide (passed r i).pat v 0)
    rule_rows_fit r i =
        let h = passed r i in
        ap (λ o. fits_some (rows_by sig o) v) h.read ∙ plus_fits sig h.pat (pattern_words sig r.pattern h.pat h.read).well_formed v lawful.kind_0 0

    -- no row takes it: every rule fails on it
    pub fails_all : fits_some (rows_in sig rs) v ≡ false → (r : Rule) → In r rs → (σ : Binds) × TakesNot sig r.pattern bs σ
    fails_all e r i = go (fits_some (rows_for sig r.pattern) v) refl
      where
        go : (b : Bool) → fits_some (rows_for sig r.pattern) v ≡ b → (σ : Binds) × TakesNot sig r.pattern bs σ
        go true q =
            let (w, j, f) = any_in (λ x. row_fits x v) (rows_for sig r.pattern) q in
            true≢false (sym (in_any (λ x. row_fits x v) (rows_in sig rs) w (row_in i j) f) ∙ e)
        go false q =
            let h = passed r i in
            let (σ, f) = decide_fails sig h.pat 0 (pattern_words sig r.pattern h.pat h.read).well_formed lawful.kind_0 (sym (rule_rows_fit r i) ∙ q) in
            (σ, (h.pat, v, h.read, lawful_booking sig bs v lawful, f))

    -- and back
    pub taken_by_none : ((r : Rule) → In r rs → (σ : Binds) × TakesNot sig r.pattern bs σ) → fits_some (rows_in sig rs) v ≡ false
    taken_by_none f = go (fits_some (rows_in sig rs) v) refl
      where
        go : (b : Bool) → fits_some (rows_in sig rs) v ≡ b → b ≡ false
        go false q = refl
        go true q =
            let (w, j, x) = any_in (λ y. row_fits y v) (rows_in sig rs) q in
            let (r, i, k) = rule_of rs w j in
            let h = passed r i in
            let (σ, y) = f r i in
            let e : is_fit (decide h.pat v 0) ≡ false = fails_decide sig h.pat (pattern_words sig r.pattern h.pat h.read).well_formed lawful.kind_0 (takes_fails sig r.pattern bs h v (lawful_booking sig bs v lawful) y) in
            true≢false (sym (in_any (λ z. row_fits z v) (rows_for sig r.pattern) w k x) ∙ rule_rows_fit r i ∙ e)

module _ {t : List ℕ} (g : Known t) where
  -- the rows of a pattern have at most 64 places
  proper_rows : (ws : List ℕ) → Passed g.sig ws → All (Proper g.sig 0) (rows_for g.sig ws)
  proper_rows ws h =
      subst (λ o. All (Proper g.sig 0) (rows_by g.sig o)) (sym h.read) (witness_rows g ws h.pat (pattern_words g.sig ws h.pat h.read))

  pub proper_in : (rs : List Rule) → ((r : Rule) → In r rs → Passed g.sig r.pattern) → All (Proper g.sig 0) (rows_in g.sig rs)
  proper_in [] f = none_left
  proper_in (r ∷ rs) f = subst (All (Proper g.sig 0)) (sym (rows_first g.sig r rs)) (all_append (proper_rows r.pattern (f r in_here)) (proper_in rs (λ q i. f q (in_there i))))
