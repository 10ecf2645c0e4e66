-- What is due next, as the code finds it.
use Rattle.std.specs.Prelude.{None}
use mathlib.Core.Path.{◌≡◌, refl, sym, ap, ◌∙◌}
use mathlib.Core.List.{List, [], ◌∷◌}
use mathlib.Core.Option.{none}
use Prim.Native.Nat.{ℕ, zero, suc, ◌+◌, ◌-◌, ◌≤◌, ◌<◌}
use native.Mathlib.Omega.{arith}
use lib.ListN.{length, drop, get_or, length-drop}
use Rattle.booking.specs.Walk.{next, next_open, next_as}
use Rattle.booking.proofs.Laid.{front}

module _ (rows ws : List ℕ) (at i : ℕ) (n : i ≡ 0 → ⊥) where
  pub later : (os : List ℕ) → next rows i os ≡ next_open rows os
  later os = go i n
    where
      go : (i : ℕ) → (i ≡ 0 → ⊥) → next rows i os ≡ next_open rows os
      go zero h = absurd (h refl)
      go (suc i) h = refl

  pub few : (os : List ℕ) → length os < 2 → next_open rows os ≡ none
  few [] h = refl
  few (p ∷ []) h = refl
  few (p ∷ (x ∷ os)) h = absurd (omega arith)

  pub nothing_open : length ws - at < 2 → None ≡ next_as (next rows i (drop at ws))
  nothing_open h = sym (ap next_as (later (drop at ws) ∙ few (drop at ws) (omega (arith, length-drop at ws))))

  pub open_is : at + 2 ≤ length ws → next rows i (drop at ws) ≡ next_open rows (get_or ws at 0 ∷ (get_or ws (at + 1) 0 ∷ drop (at + 2) ws))
  open_is l = later (drop at ws) ∙ ap (next_open rows) (front ws at l)
