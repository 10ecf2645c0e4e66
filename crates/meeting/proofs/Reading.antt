-- The matrix read: the rows that one meets, and whether two lists of rows meet.
use borrow.Author.Tests.{ltb-true, ltb-false}
use mathlib.Core.Path.{◌≡◌, refl, sym, ap, ◌∙◌}
use mathlib.Core.List.{List, [], ◌∷◌, ◌++◌}
use mathlib.Core.Bool.{Bool, true, false, not}
use mathlib.Core.Option.{some}
use Prim.Native.Nat.{ℕ, ◌+◌, ◌-◌, ◌*◌, ◌/◌, ◌%◌, ◌≤◌, ◌<◌}
use native.Mathlib.Nat.{suc-add}
use native.Mathlib.Omega.{arith}
use lib.Dec.{eqb, ltb}
use lib.ListN.{length, get_or, get_elem?, take, drop}
use lib.Seq.{get_or-take, get_or-drop}
use Rattle.signature.specs.Lists.{is_some, is_empty, somes, any}
use Rattle.signature.proofs.Heads.{any_at, any_there}
use Rattle.signature.proofs.KnownFacts.{at_some, at_below}
use Rattle.signature.proofs.ListFacts.{at_left}
use Rattle.sets.specs.Set.{bit}
use Rattle.row.specs.Row.{Row, combine, each}
use Rattle.row.proofs.Symmetric.{lists_flip}
use Rattle.rowset.specs.Limits.{row_limit}
use Rattle.rowset.specs.Member.{member, FirstIn}
use Rattle.rowset.proofs.MemberLaws.{member_is}
use Rattle.meeting.specs.Matrix.{meets}
use Rattle.meeting.specs.Rows.{Matrix, FirstMet, SomeMet}
use Rattle.meeting.proofs.Notes.{meets_is}

-- the words of row i
pub part_is : (m r : List ℕ) (i : ℕ) → r ≡ take (4 * i + 4 - 4 * i) (drop (4 * i) m) → (j : ℕ) → j < row_limit → member r j ≡ meets m i j
part_is m r i e j l = sym (member_is r j) ∙ ap (λ (w : ℕ). eqb (bit w (j % 64)) 1) (word (j / 64) (omega arith)) ∙ meets_is m i j
  where
    word : (v : ℕ) → v < 4 → get_or r v 0 ≡ get_or m (4 * i + v) 0
    word v k = ap (λ (x : List ℕ). get_or x v 0) e ∙ get_or-take (4 * i + 4 - 4 * i) (drop (4 * i) m) v 0 (omega (arith, k)) ∙ get_or-drop (4 * i) m v 0

pub first_of_row : (m r : List ℕ) (i q : ℕ) → ((j : ℕ) → j < row_limit → member r j ≡ meets m i j) → FirstIn r row_limit q → FirstMet m i q
first_of_row m r i q e f = record { most = f.most; before = λ j l. sym (e j (omega (arith, l, f.most))) ∙ f.before j l; there = λ l. sym (e q l) ∙ f.there l }

-- no row from `low` on, below i, meets one below `low`
abbrev pub NoneMet : List ℕ → ℕ → ℕ → Type 0
NoneMet m low i = (x j : ℕ) → low ≤ x → x < i → j < low → meets m x j ≡ false

pub none_more : (m : List ℕ) (low i r : ℕ) → NoneMet m low i → FirstMet m i r → low ≤ r → NoneMet m low (i + 1)
none_more m low i r h f l x j a b c = go (ltb x i) refl
  where
    go : (z : Bool) → ltb x i ≡ z → meets m x j ≡ false
    go true e = h x j a (ltb-true x i e) c
    go false e = let z : x ≡ i = omega (arith, b, ltb-false x i e) in ap (λ (n : ℕ). meets m n j) z ∙ f.before j (omega (arith, l, c))

-- an element behind a list
pub at_right : {A : Type 0} (xs ys : List A) (k : ℕ) → get_elem? (xs ++ ys) (length xs + k) ≡ get_elem? ys k
at_right [] ys k = ap (get_elem? ys) (omega arith)
at_right (x ∷ xs) ys k = ap (get_elem? (x ∷ (xs ++ ys))) (suc-add (length xs) k) ∙ at_right xs ys k

-- two lists of rows meet where some row of the second meets one of the first; other rows may stand behind them
pub lists_met : (xs ss ys : List Row) (m : List ℕ) (b : Bool) → Matrix (xs ++ (ss ++ ys)) m → SomeMet m (length xs) (length xs + length ss) b → b ≡ not (is_empty (somes (each combine xs ss)))
lists_met xs ss ys m b M S = go b refl ∙ sym (lists_flip xs ss)
  where
    pair : (k j : ℕ) (s r : Row) → get_elem? ss k ≡ some s → get_elem? xs j ≡ some r → meets m (length xs + k) j ≡ is_some (combine s r)
    pair k j s r e f = M.pairs (length xs + k) j s r (at_right xs (ss ++ ys) k ∙ at_left ss ys k s e) (at_left xs (ss ++ ys) j r f)

    go : (c : Bool) → b ≡ c → c ≡ any (λ s. any (λ r. is_some (combine s r)) xs) ss
    go true e =
        let (i, j, l, h, k, w) = S.yes e in
        let z : length xs + (i - length xs) ≡ i = omega (arith, l) in
        let (s, f) = at_some ss (i - length xs) (omega (arith, h, l)) in
        let (r, g) = at_some xs j k in
        let q : is_some (combine s r) ≡ true = sym (pair (i - length xs) j s r f g) ∙ ap (λ (n : ℕ). meets m n j) z ∙ w in
        sym (any_there (λ s. any (λ r. is_some (combine s r)) xs) ss (i - length xs) s f (any_there (λ r. is_some (combine s r)) xs j r g q))
    go false e = by (any (λ s. any (λ r. is_some (combine s r)) xs) ss) refl
      where
        by : (c : Bool) → any (λ s. any (λ r. is_some (combine s r)) xs) ss ≡ c → false ≡ c
        by false z = refl
        by true z =
            let (k, s, f, w) = any_at (λ s. any (λ r. is_some (combine s r)) xs) ss z in
            let (j, r, g, v) = any_at (λ r. is_some (combine s r)) xs w in
            sym (S.no e (length xs + k) j (omega arith) (omega (arith, at_below ss k s f)) (at_below xs j r g)) ∙ pair k j s r f g ∙ v
