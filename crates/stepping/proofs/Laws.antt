-- The laws of the stepped check.
use mathlib.Core.Logic.{◌↔◌, ◌⊎◌, inl, inr}
use mathlib.Core.Path.{◌≡◌, refl, sym, ap, ◌∙◌}
use mathlib.Core.List.{List, [], ◌∷◌, ◌++◌}
use mathlib.Core.Option.{Option, some, none}
use mathlib.Core.Bool.{Bool, true, false, cond}
use Prim.Native.Nat.{ℕ, suc, ◌+◌, ◌-◌, ◌≤◌}
use native.Mathlib.Decide.{dec_le}
use native.Mathlib.Omega.{arith}
use lib.Dec.{eqb}
use lib.ListN.{length, length-set, length-replicate}
use lib.Seq.{get_or-set_same, get_or-set_other}
use Rattle.signature.specs.Part.{part_call}
use Rattle.signature.specs.Read.{read_signature}
use Rattle.signature.specs.Signature.{Signature}
use Rattle.stepping.specs.Laws.{Laws}
use Rattle.stepping.specs.State.{number_at, read_at, state_words, number_in, read_in, opened_in, begun, begin_state, step_in, after, step_state, steps, refusal_of, refusal_in, end_number}
use Rattle.signature.proofs.Tests.{none≢some, eqb_no}
use Rattle.stepping.proofs.Ends.{stays, ends}
use Rattle.stepping.proofs.Front.{step_fits, moved_long, moved_read, number_kept}
use Rattle.stepping.proofs.Shown.{begun_is, begun_shows}

-- the state before the first word has its length
begin_long : (ss : List ℕ) → length (begin_state ss) ≡ state_words
begin_long ss = go (read_signature ss)
  where
    go : (o : Option Signature) → length (begun o) ≡ state_words
    go none = omega (arith, length-replicate {A = ℕ} (state_words - 1) 0)
    go (some sig) = (begun_shows sig).long

-- a step keeps it
step_long : (ss st : List ℕ) (w : ℕ) → length st ≡ state_words → length (step_state ss st w) ≡ state_words
step_long ss st w l = go (eqb (number_in st) 0)
  where
    on : (o : Option (List ℕ)) → step_in ss st w ≡ o → length (after st o) ≡ state_words
    on none q = length-set st number_at 13 ∙ l
    on (some os) q = moved_long st os l (step_fits ss st os w l q)

    go : (b : Bool) → length (cond b (after st (step_in ss st w)) st) ≡ state_words
    go true = on (step_in ss st w) refl
    go false = l

-- 1 is said of an unlawful signature alone
unlawful : (ss : List ℕ) → ((refusal_in (begin_state ss) ≡ 1) ↔ (read_signature ss ≡ none))
unlawful ss = go (read_signature ss)
  where
    go : (o : Option Signature) → ((refusal_in (begun o) ≡ 1) ↔ (o ≡ none))
    go none = (λ e. refl, λ e. refl)
    go (some sig) = (λ e. absurd (let z : refusal_in (begun (some sig)) ≡ 0 = rw (begun_is sig number_at (omega arith)) in omega arith), λ e. none≢some (sym e))

-- the steps over two slices
steps_append : (ss st ws us : List ℕ) → steps ss st (ws ++ us) ≡ steps ss (steps ss st ws) us
steps_append ss st [] us = refl
steps_append ss st (w ∷ ws) us = steps_append ss (step_state ss st w) ws us

-- a booking gone wrong stays so
gone_wrong : (ss ws us : List ℕ) → refusal_in (steps ss (begin_state ss) ws) ≡ 13 → (part_call ss (ws ++ us) 0).0 ≡ 13
gone_wrong ss ws us e = sym (ends ss (ws ++ us)) ∙ ap end_number (steps_append ss (begin_state ss) ws us) ∙ (stays ss (steps ss (begin_state ss) ws) us (λ z. omega arith)).1 ∙ e

-- a state tells a refusal where its number is not 0
told : (q : ℕ) → (q ≡ 0 → ⊥) → refusal_of q ≡ 0 → ⊥
told q h e = go (eqb q 1) (rw (eqb_no q 0 h) at e)
  where
    go : (b : Bool) → ◌≡◌ {A = ℕ} (cond b 1 13) 0 → ⊥
    go true f = omega arith
    go false f = omega arith

-- what a step does to the count, by what may stand there
module _ (ss st : List ℕ) (w : ℕ) (l : length st ≡ state_words) where
  going : number_in st ≡ 0 → (o : Option (List ℕ)) → step_in ss st w ≡ o → step_state ss st w ≡ after st o
  going z o q = rw (z, q)

  ending : (number_in st ≡ 0 → ⊥) → step_state ss st w ≡ st
  ending h = rw (eqb_no (number_in st) 0 h)

  counted : refusal_in (step_state ss st w) ≡ 0 → read_in (step_state ss st w) ≡ suc (read_in st)
  counted e = go (dec_le (number_in st) 0)
    where
      on : number_in st ≡ 0 → (o : Option (List ℕ)) → step_in ss st w ≡ o → read_in (step_state ss st w) ≡ suc (read_in st)
      on z none q = absurd (told 13 (λ p. omega arith) (ap refusal_of (sym (get_or-set_same st number_at 13 0 (omega arith))) ∙ ap refusal_in (sym (going z none q)) ∙ e))
      on z (some os) q = ap read_in (going z (some os) q) ∙ moved_read st os l (step_fits ss st os w l q)

      go : Dec (number_in st ≤ 0) → read_in (step_state ss st w) ≡ suc (read_in st)
      go (yes m) = on (omega arith) (step_in ss st w) refl
      go (no m) = absurd (told (number_in st) (λ p. omega arith) (ap refusal_in (sym (ending (λ p. omega arith))) ∙ e))

  uncounted : (refusal_in (step_state ss st w) ≡ 0 → ⊥) → read_in (step_state ss st w) ≡ read_in st
  uncounted h = go (dec_le (number_in st) 0)
    where
      on : number_in st ≡ 0 → (o : Option (List ℕ)) → step_in ss st w ≡ o → read_in (step_state ss st w) ≡ read_in st
      on z none q = ap read_in (going z none q) ∙ get_or-set_other st number_at read_at 13 0 (λ p. omega arith)
      on z (some os) q = absurd (h (ap refusal_in (going z (some os) q) ∙ ap refusal_of (number_kept ss st os w l q ∙ z)))

      go : Dec (number_in st ≤ 0) → read_in (step_state ss st w) ≡ read_in st
      go (yes m) = on (omega arith) (step_in ss st w) refl
      go (no m) = ap read_in (ending (λ p. omega arith))

counts : (ss st ws : List ℕ) → length st ≡ state_words → refusal_in (steps ss st ws) ≡ 0 → read_in (steps ss st ws) ≡ read_in st + length ws
counts ss st [] l e = omega arith
counts ss st (w ∷ ws) l e =
    let z : refusal_in (step_state ss st w) ≡ 0 = go (dec_le (refusal_in (step_state ss st w)) 0) in
    omega (arith, counts ss (step_state ss st w) ws (step_long ss st w l) e, counted ss st w l z)
  where
    go : Dec (refusal_in (step_state ss st w) ≤ 0) → refusal_in (step_state ss st w) ≡ 0
    go (yes m) = omega arith
    go (no m) = absurd (let h : refusal_in (step_state ss st w) ≡ 0 → ⊥ = λ p. omega arith in h (sym (stays ss (step_state ss st w) ws h).0 ∙ e))

-- the numbers of the check
abbrev Number : ℕ → Type 0
Number q = (q ≡ 0) ⊎ (q ≡ 1) ⊎ (q ≡ 13)

-- no other number is given
numbers : (st : List ℕ) → Number (end_number st)
numbers st = go (eqb (number_in st) 0) (eqb (number_in st) 1) (eqb (read_in st) 0) (eqb (opened_in st) 0)
  where
    go : (a b c d : Bool) → Number (cond a (cond c 13 (cond d 0 13)) (cond a 0 (cond b 1 13)))
    go true b true d = inr (inr refl)
    go true b false true = inl refl
    go true b false false = inr (inr refl)
    go false true c d = inr (inl refl)
    go false false c d = inr (inr refl)

-- all of them
pub laws : Laws
laws = record {
  ends = ends;
  small = omega arith;
  begin_long = begin_long;
  step_long = step_long;
  unlawful = unlawful;
  stays = stays;
  gone_wrong = gone_wrong;
  counts = counts;
  uncounted = uncounted;
  numbers = numbers;
}
