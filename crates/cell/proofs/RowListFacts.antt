-- One row with one, as a row of a list.
use mathlib.Core.Path.{◌≡◌, refl, ap, sym, ◌∙◌}
use mathlib.Core.List.{List, ◌∷◌, [], ◌++◌, append_assoc, append-nil}
use mathlib.Core.Option.{Option, none, some}
use Prim.Native.Nat.{ℕ, ◌-◌, ◌≤◌, ◌<◌, ◌+◌}
use native.Mathlib.Numerals.{one-add}
use native.Mathlib.Omega.{arith}
use lib.ListN.{take, length, drop, length-take, length-drop, length-append, set}
use lib.Seq.{take_at}
use Rattle.std.specs.Prelude.{Option as CodeOption, None, Some}
use Rattle.signature.specs.Lists.{somes}
use Rattle.signature.proofs.Tests.{some_inj}
use Rattle.cell.specs.Cell.{Kinds}
use Rattle.cell.specs.Coded.{row_code_of, row_code}
use Rattle.cell.specs.Lockstep.{GivenRows, Result}
use Rattle.row.specs.Row.{Row}
use Rattle.cell.specs.RowList.{GivenOne, WrittenFirst, entries}

unfoldable pub given_tail : {ar x y o : List ℕ} → GivenOne ar x y o → GivenRows ar x y (take (length o - 1) (drop 1 o))
given_tail {o = o} g = record {
  K = g.K;
  kind = g.kind;
  r = g.r;
  s = g.s;
  rest_a = g.rest_x;
  rest_b = g.rest_y;
  code_a = g.code_x;
  code_b = g.code_y;
  typed_r = g.typed_r;
  typed_s = g.typed_s;
  room = simp (length-take, length-drop) (omega (arith, g.room));
}

-- an answer is not both
pub not_both : {res : CodeOption ℕ} {n : ℕ} → res ≡ Some n → res ≡ None → ⊥
not_both {res} {n} p q = let z : ◌≡◌ {A = ℕ} 0 1 = cc in omega (arith, z)

-- dropped
pub entry_none : (K : Kinds) (k : ℕ) (m : Option Row) (res : CodeOption ℕ) (e ys o : List ℕ) → Result (row_code_of K k m) res e ys → res ≡ None → WrittenFirst (entries K k (somes (m ∷ []))) 0 o
entry_none K k none res e ys o h q = (refl, refl)
entry_none K k (some t) res e ys o h q = absurd (not_both h.0 q)

-- kept: how many words, and which
pub kept_is : (t : Option (List ℕ)) (res : CodeOption ℕ) (n : ℕ) (e ys : List ℕ) → Result t res e ys → res ≡ Some n → (w : List ℕ) × (t ≡ some w) × (n ≡ length w) × (ys ≡ w ++ drop n e)
kept_is none res n e ys h q = absurd (not_both q h)
kept_is (some w) res n e ys h q = let l : n ≡ length w = kept_same res n (length w) q h.0 in (w, refl, l, rw l h.1)
  where
    kept_same : (res : CodeOption ℕ) (n m : ℕ) → res ≡ Some n → res ≡ Some m → n ≡ m
    kept_same res n m p q = cc

pub kept_le : (t : Option (List ℕ)) (res : CodeOption ℕ) (n : ℕ) (e ys : List ℕ) → Result t res e ys → res ≡ Some n → n ≤ length ys
kept_le t res n e ys h q =
    let k = kept_is t res n e ys h q in
    omega (arith, k.2, simp length-append at (ap length k.3))

take_front : (n : ℕ) (w D rest : List ℕ) → n ≡ length w → take n ((w ++ D) ++ rest) ≡ w
take_front n w D rest l = rw append_assoc (take_at w (D ++ rest) n (sym l))

pub entry_some : (K : Kinds) (k : ℕ) (m : Option Row) (res : CodeOption ℕ) (n : ℕ) (e ys rest o : List ℕ) → Result (row_code_of K k m) res e ys → res ≡ Some n → 0 < length o
    → WrittenFirst (entries K k (somes (m ∷ []))) (1 + n) (set (take 1 o ++ (ys ++ rest)) 0 n)
entry_some K k m res n e ys rest [] h q l = absurd (omega arith)
entry_some K k none res n e ys rest (z ∷ o) h q l = absurd (not_both q h)
entry_some K k (some t) res n e ys rest (z ∷ o) h q l =
    let f = kept_is (some (row_code K t k)) res n e ys h q in
    let w : row_code K t k ≡ f.0 = some_inj (row_code K t k) f.0 f.1 in
    let c : n ≡ length (row_code K t k) = f.2 ∙ ap length (sym w) in
    let y : ys ≡ row_code K t k ++ drop n e = f.3 ∙ ap (λ (l : List ℕ). l ++ drop n e) (sym w) in (
      simp length-append (omega arith),
      rw (one-add n, y, take_front n (row_code K t k) (drop n e) rest c, append-nil (row_code K t k)) (ap (λ (i : ℕ). i ∷ row_code K t k) c),
    )
