-- The loop over a booking's words: the walk from here on.
use Rattle.std.specs.Prelude.{None, Some}
use Rattle.std.specs.Prelude as prelude
use mathlib.Core.Path.{◌≡◌, refl, sym, ap, ◌∙◌}
use mathlib.Core.List.{List, [], ◌∷◌}
use mathlib.Core.Option.{some, none}
use mathlib.Core.Bool.{false}
use Prim.Native.Nat.{ℕ, zero, suc, ◌+◌, ◌≤◌, ◌<◌}
use native.Mathlib.Numerals.{add-one}
use native.Mathlib.Omega.{arith}
use lib.Dec.{eqb}
use lib.ListN.{length, drop, get_or, drop_of_length-le, length-drop}
use lib.Seq.{drop-cons}
use Rattle.signature.specs.Lists.{◌>>=◌, is_empty}
use Rattle.signature.specs.Signature.{Signature}
use Rattle.booking.specs.Walk.{Due, View, open_limit, walk_word, walk, first_due, ended, due_in, due_after, step_by, Nested, still_open, Inside}
use Rattle.signature.proofs.Tests.{eqb_no}
use Rattle.booking.proofs.Steps.{Sees, step_walks, step_kept, ended_open}

pub next_place : (r : prelude.Option ℕ) (m : ℕ) → r ≡ Some m → Inside r → m ≤ open_limit
next_place r m e h = rw e at h

module _ (sig : Signature) (n : ℕ) (v : View) (s : Sees sig n v) (b : List ℕ) (i : ℕ) where
  walk_rest : (xs : List Due) → i < length b → walk sig xs (drop i b) ≡ (walk_word sig xs (get_or b i 0) >>= λ ys. walk sig ys (drop (i + 1) b))
  walk_rest xs h = let e : drop i b ≡ get_or b i 0 ∷ drop (i + 1) b = rw add-one (drop-cons b i 0 h) in rw e

  module _ (os ws : List ℕ) (r : prelude.Option ℕ) (l : i < length b) (a : Nested v.rows n os) (e : still_open r ws ≡ step_by v i os (get_or b i 0)) (f : walk sig first_due b ≡ walk sig (due_after v.rows i os) (drop i b)) where
    pub kept : (m : ℕ) → r ≡ Some m → Nested v.rows n (drop m ws)
    kept m q = step_kept sig n v s i (get_or b i 0) os (drop m ws) a (sym (rw q at e))

    pub on : (m : ℕ) → r ≡ Some m → walk sig first_due b ≡ walk sig (due_after v.rows (i + 1) (drop m ws)) (drop (i + 1) b)
    on m q =
        let g : some (drop m ws) ≡ step_by v i os (get_or b i 0) = rw q at e in
        let h : walk_word sig (due_after v.rows i os) (get_or b i 0) ≡ some (due_in v.rows (drop m ws)) = step_walks sig n v s i (get_or b i 0) os a ∙ (rw (← g)) in
        let k : due_after v.rows (i + 1) (drop m ws) ≡ due_in v.rows (drop m ws) = rw add-one in
        f ∙ walk_rest (due_after v.rows i os) l ∙ (rw (h, k))

    pub stop : r ≡ None → false ≡ ended (walk sig first_due b)
    stop q =
        let g : none ≡ step_by v i os (get_or b i 0) = rw q at e in
        let h : walk_word sig (due_after v.rows i os) (get_or b i 0) ≡ none = step_walks sig n v s i (get_or b i 0) os a ∙ (rw (← g)) in
        let k : walk sig first_due b ≡ none = f ∙ walk_rest (due_after v.rows i os) l ∙ (rw h) in
        rw k

  pub done : (ws : List ℕ) (at : ℕ) → (length b ≡ 0 → ⊥) → length b ≤ i → i ≤ length b → length ws ≡ open_limit → at ≤ open_limit → Nested v.rows n (drop at ws) → walk sig first_due b ≡ walk sig (due_after v.rows i (drop at ws)) (drop i b) → eqb at open_limit ≡ ended (walk sig first_due b)
  done ws at z h m l k a f =
      let g : walk sig first_due b ≡ some (due_in v.rows (drop at ws)) = f ∙ (rw (drop_of_length-le b {i = i} h)) ∙ ap some (later i (omega arith)) in
      empty (drop at ws) refl ∙ sym (ended_open v.rows n (drop at ws) a) ∙ sym (ap ended g)
    where
      later : (j : ℕ) → 0 < j → due_after v.rows j (drop at ws) ≡ due_in v.rows (drop at ws)
      later zero q = absurd (omega arith)
      later (suc j) q = refl

      empty : (os : List ℕ) → drop at ws ≡ os → eqb at open_limit ≡ is_empty os
      empty [] q = let e : length (drop at ws) ≡ 0 = ap length q in let p : at ≡ open_limit = omega (arith, length-drop at ws) in rw p
      empty (x ∷ xs) q = let e : length (drop at ws) ≡ suc (length xs) = ap length q in eqb_no at open_limit (λ p. omega (arith, length-drop at ws))
