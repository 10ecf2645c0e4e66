-- A step by its cases, from what the code finds on the way.
use mathlib.Core.Path.{◌≡◌, sym, ap, ◌∙◌}
use mathlib.Core.List.{List}
use mathlib.Core.Option.{some, none}
use mathlib.Core.Bool.{true, false}
use Prim.Native.Nat.{ℕ, suc, ◌+◌, ◌-◌}
use native.Mathlib.Omega.{arith}
use lib.ListN.{length, set}
use lib.Seq.{get_or-set_same}
use Rattle.signature.specs.Lists.{is_some}
use Rattle.booking.specs.Walk.{laid}
use Rattle.stepping.specs.State.{state_words, number_at, read_at, open_at, number_in, read_in, step_in, moved, step_state, refusal_of, refusal_in}
use Rattle.signature.proofs.Tests.{eqb_no}
use Rattle.booking.proofs.PartLaws.{there, missing}
use Rattle.stepping.proofs.Front.{number_kept}

module _ (ss st : List ℕ) (w : ℕ) where
  -- nothing moves
  pub stays : step_in ss st w ≡ none → record { moved : st ≡ moved st (step_in ss st w); told : false ≡ is_some (step_in ss st w) }
  stays e = record { moved = ap (moved st) (sym e); told = ap is_some (sym e) }

  -- the words are written
  pub moves : (os us : List ℕ) (to : ℕ) → length st ≡ state_words → step_in ss st w ≡ some os → us ≡ laid st os → to + length os ≡ length st
      → record { moved : set (set us read_at (read_in st + 1)) open_at (state_words - to) ≡ moved st (step_in ss st w); told : true ≡ is_some (step_in ss st w) }
  moves os us to l e f g =
      let a : state_words - to ≡ length os = omega arith in
      let b : read_in st + 1 ≡ suc (read_in st) = omega arith in
      record { moved = rw (e, f, a, b); told = ap is_some (sym e) }

  -- a state that has gone wrong
  pub stuck : (number_in st ≡ 0 → ⊥) → (r : ℕ) → r ≡ refusal_of (number_in st) → (st ≡ step_state ss st w) × (r ≡ refusal_in (step_state ss st w))
  stuck n r e = let f : step_state ss st w ≡ st = rw (eqb_no (number_in st) 0 n) in (sym f, e ∙ ap refusal_in (sym f))

  here : number_in st ≡ 0 → (os : List ℕ) → step_in ss st w ≡ some os → step_state ss st w ≡ moved st (some os)
  here z os q = rw (z, q)

  wrong : number_in st ≡ 0 → step_in ss st w ≡ none → step_state ss st w ≡ set st number_at 13
  wrong z q = rw (z, q)

  module _ (l : length st ≡ state_words) (z : number_in st ≡ 0) (us : List ℕ) (e : us ≡ moved st (step_in ss st w)) where
    pub goes_on : true ≡ is_some (step_in ss st w) → (us ≡ step_state ss st w) × (0 ≡ refusal_in (step_state ss st w))
    goes_on t =
        let (os, q) = there (step_in ss st w) t in
        let f : step_state ss st w ≡ moved st (some os) = here z os q in
        let g : us ≡ moved st (some os) = e ∙ ap (moved st) q in
        (g ∙ sym f, sym (ap refusal_in f ∙ ap refusal_of (number_kept ss st os w l q ∙ z)))

    pub goes_wrong : false ≡ is_some (step_in ss st w) → (set us number_at 13 ≡ step_state ss st w) × (13 ≡ refusal_in (step_state ss st w))
    goes_wrong t =
        let q : step_in ss st w ≡ none = missing (step_in ss st w) t in
        let f : step_state ss st w ≡ set st number_at 13 = wrong z q in
        let g : us ≡ st = e ∙ ap (moved st) q in
        (ap (λ vs. set vs number_at 13) g ∙ sym f, sym (ap refusal_in f ∙ ap refusal_of (get_or-set_same st number_at 13 0 (omega arith))))
