-- The pairs, one after the other.
use mathlib.Core.Path.{◌≡◌, refl, ap, ◌∙◌, sym}
use mathlib.Core.List.{List, [], ◌∷◌, ◌++◌, append_assoc, append-nil}
use mathlib.Core.Bool.{Bool, true, false}
use Prim.Native.Nat.{ℕ, suc, ◌+◌, ◌≤◌, ◌<◌}
use native.Mathlib.Nat.{add-zero}
use native.Mathlib.Numerals.{add-one}
use native.Mathlib.Omega.{arith}
use lib.Dec.{eqb, ltb}
use lib.ListN.{length, get_or, drop, length-append, drop_of_length-le}
use lib.Seq.{drop-cons}
use Rattle.signature.proofs.Tests.{eqb_no, eqb_eq, eqb_ne, ltb_yes, ltb_no}
use Rattle.pattern.specs.Limits.{unbound_place}
use Rattle.text.specs.Print.{spaced, pairs_text, decimal}
use Rattle.printing.specs.Pairs.{space, piece, pairs_bytes}
use Rattle.printing.specs.Put.{Put, in_decimal}
use Rattle.printing.proofs.PutLaws.{both, put_none}

-- pairs with a space before them where one stands before
abbrev joined : Bool → List (List ℕ) → List ℕ
joined false fs = spaced fs
joined true [] = []
joined true (f ∷ fs) = 32 ∷ spaced (f ∷ fs)

joined_more : (b : Bool) (f : List ℕ) (fs : List (List ℕ)) → joined b (f ∷ fs) ≡ (space b ++ f) ++ joined true fs
joined_more true f [] = ap (λ x. 32 ∷ x) (sym (append-nil f))
joined_more true f (g ∷ gs) = refl
joined_more false f [] = sym (append-nil f)
joined_more false f (g ∷ gs) = refl

-- one variable
pub piece_unbound : (b : Bool) (x p : ℕ) → p ≡ unbound_place → piece b x p ≡ []
unfolding piece
piece_unbound b x p e = rw (ap (λ i. eqb i unbound_place) e)

pub piece_bound : (b : Bool) (x p : ℕ) → (p ≡ unbound_place → ⊥) → piece b x p ≡ space b ++ (in_decimal x ++ (58 ∷ in_decimal p))
unfolding piece
piece_bound b x p e = rw (eqb_no p unbound_place e)

module _ (from at x p : ℕ) (ps : List ℕ) where
  now_joined : (p ≡ unbound_place → ⊥) → joined (ltb from at) (pairs_text x (p ∷ ps)) ≡ piece (ltb from at) x p ++ joined true (pairs_text (suc x) ps)
  unfolding in_decimal
  now_joined e = rw (eqb_no p unbound_place e) (joined_more (ltb from at) (decimal x ++ (58 ∷ decimal p)) (pairs_text (suc x) ps) ∙ ap (λ y. y ++ joined true (pairs_text (suc x) ps)) (sym (piece_bound (ltb from at) x p e)))

  on : (p ≡ unbound_place → ⊥) → from ≤ at → ltb from (at + length (piece (ltb from at) x p)) ≡ true
  on e l = ltb_yes from (at + length (piece (ltb from at) x p)) (omega (arith, ap length (piece_bound (ltb from at) x p e), length-append (space (ltb from at)) (in_decimal x ++ (58 ∷ in_decimal p)), length-append (in_decimal x) (58 ∷ in_decimal p)))

  pub one_pair : from ≤ at → joined (ltb from at) (pairs_text x (p ∷ ps)) ≡ piece (ltb from at) x p ++ joined (ltb from (at + length (piece (ltb from at) x p))) (pairs_text (suc x) ps)
  one_pair l = go (eqb p unbound_place) refl
    where
      go : (b : Bool) → eqb p unbound_place ≡ b → joined (ltb from at) (pairs_text x (p ∷ ps)) ≡ piece (ltb from at) x p ++ joined (ltb from (at + length (piece (ltb from at) x p))) (pairs_text (suc x) ps)
      go true q = rw (q, piece_unbound (ltb from at) x p (eqb_eq p unbound_place q), add-zero at)
      go false q = now_joined (eqb_ne p unbound_place q) ∙ ap (λ t. piece (ltb from at) x p ++ joined t (pairs_text (suc x) ps)) (sym (on (eqb_ne p unbound_place q) l))

-- the variables below x are done
pub record Paired (places o₀ o : List ℕ) (from at x : ℕ) : Type 0 where
  pub done : List ℕ
  pub stands : Put done from at o₀ o
  pub rest : pairs_bytes places ≡ done ++ joined (ltb from at) (pairs_text x (drop x places))

pub pairs_start : (places o : List ℕ) (from : ℕ) → Paired places o o from from 0
unfolding pairs_bytes
pairs_start places o from = record { done = []; stands = record { behind = omega arith; put = put_none from o }; rest = rw (ltb_no from from (omega arith)) }

module _ {places o₀ o : List ℕ} {from at x : ℕ} (h : Paired places o₀ o from at x) (room : from + length (pairs_bytes places) ≤ length o₀) where
  pub pairs_end : length places ≤ x → Put (pairs_bytes places) from at o₀ o
  pairs_end l = let e : pairs_bytes places ≡ h.done = h.rest ∙ ap (λ y. h.done ++ joined (ltb from at) (pairs_text x y)) (drop_of_length-le places l) ∙ ap (λ y. h.done ++ y) (none_joined (ltb from at)) ∙ append-nil h.done in rw e h.stands
    where
      none_joined : (b : Bool) → joined b [] ≡ []
      none_joined true = refl
      none_joined false = refl

  module _ (l : x < length places) where
    more : pairs_bytes places ≡ (h.done ++ piece (ltb from at) x (get_or places x 0)) ++ joined (ltb from (at + length (piece (ltb from at) x (get_or places x 0)))) (pairs_text (x + 1) (drop (x + 1) places))
    more =
        let low : from ≤ at = omega (arith, h.stands.behind) in
        h.rest
        ∙ ap (λ y. h.done ++ joined (ltb from at) (pairs_text x y)) (drop-cons places x 0 l)
        ∙ ap (λ y. h.done ++ y) (one_pair from at x (get_or places x 0) (drop (suc x) places) low)
        ∙ sym (append_assoc h.done (piece (ltb from at) x (get_or places x 0)) _)
        ∙ rw (add-one x)

    pub pair_room : at + length (piece (ltb from at) x (get_or places x 0)) ≤ length o₀
    pair_room = omega (arith, room, h.stands.behind, ap length more, length-append (h.done ++ piece (ltb from at) x (get_or places x 0)) (joined (ltb from (at + length (piece (ltb from at) x (get_or places x 0)))) (pairs_text (x + 1) (drop (x + 1) places))), length-append h.done (piece (ltb from at) x (get_or places x 0)))

    pub pairs_next : (next : ℕ) (o' : List ℕ) → Put (piece (ltb from at) x (get_or places x 0)) at next o o' → Paired places o₀ o' from next (x + 1)
    pairs_next next o' p = record {
      done = h.done ++ piece (ltb from at) x (get_or places x 0);
      stands = both h.stands p (omega (arith, pair_room, h.stands.behind, length-append h.done (piece (ltb from at) x (get_or places x 0))));
      rest = more ∙ rw (← p.behind);
    }

-- one pair: a space, the variable, a colon, the place
module _ (b : Bool) (x p at : ℕ) (o : List ℕ) (room : at + length (piece b x p) ≤ length o) (bound : p ≡ unbound_place → ⊥) where
  whole : piece b x p ≡ ((space b ++ in_decimal x) ++ (58 ∷ [])) ++ in_decimal p
  whole = piece_bound b x p bound ∙ sym (append_assoc (space b ++ in_decimal x) (58 ∷ []) (in_decimal p) ∙ append_assoc (space b) (in_decimal x) (58 ∷ in_decimal p))

  pub pair_size : length (piece b x p) ≡ length (space b) + length (in_decimal x) + 1 + length (in_decimal p)
  pair_size = ap length whole ∙ simp length-append

  pub pair_put : {m n k r : ℕ} {o₁ o₂ o₃ o₄ : List ℕ} → Put (space b) at m o o₁ → Put (in_decimal x) m n o₁ o₂ → Put (58 ∷ []) n k o₂ o₃ → Put (in_decimal p) k r o₃ o₄ → Put (piece b x p) at r o o₄
  pair_put s v c q =
      let sz = pair_size in
      let a₁ = length-append (space b) (in_decimal x) in
      let a₂ = length-append (space b ++ in_decimal x) (58 ∷ []) in
      rw whole (both (both (both s v (omega arith)) c (omega arith)) q (omega (arith, ap length whole)))

pub nothing_put : (at : ℕ) (o : List ℕ) → Put [] at at o o
nothing_put at o = record { behind = omega arith; put = put_none at o }

pub pair_none : (b : Bool) (x p at : ℕ) (o : List ℕ) → p ≡ unbound_place → Put (piece b x p) at at o o
pair_none b x p at o e = rw (piece_unbound b x p e) (nothing_put at o)

-- a space, or none
module _ (from at : ℕ) where
  pub space_room : (n : ℕ) → from < at → at + length (space (ltb from at)) ≤ n → at + 1 ≤ n
  space_room n l h = rw (ltb_yes from at l) at h

  pub space_put : {r : ℕ} {o x : List ℕ} → from < at → Put (32 ∷ []) at r o x → Put (space (ltb from at)) at r o x
  space_put l p = rw (ltb_yes from at l) p

  pub space_none : (o : List ℕ) → at ≤ from → Put (space (ltb from at)) at at o o
  space_none o l = rw (ltb_no from at l) (nothing_put at o)
