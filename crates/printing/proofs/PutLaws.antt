-- Bytes behind bytes.
use mathlib.Core.Path.{◌≡◌, ap, ap₂, ◌∙◌, sym}
use mathlib.Core.List.{List, [], ◌∷◌, ◌++◌, append_assoc, append-nil}
use Prim.Native.Nat.{ℕ, suc, ◌+◌, ◌≤◌, ◌<◌}
use native.Mathlib.Nat.{add-zero}
use native.Mathlib.Numerals.{add-one}
use native.Mathlib.Omega.{arith}
use lib.ListN.{length, set, take, drop, length-append, length-drop, take-append-drop}
use lib.Seq.{take_at, drop-append-add, drop-drop, length-take-le, set_split, append_snoc}
use Rattle.printing.specs.Put.{put_at, Put}

module _ (at : ℕ) (s o : List ℕ) (room : at + length s ≤ length o) where
  front : length (take at o ++ s) ≡ at + length s
  front = length-append (take at o) s ∙ ap (λ n. n + length s) (length-take-le at o (omega arith))

  pub put_length : length (put_at at s o) ≡ length o
  put_length = length-append (take at o ++ s) (drop (at + length s) o) ∙ (let a = front in let b = length-drop (at + length s) o in omega arith)

  pub put_put : (t : List ℕ) → put_at (at + length s) t (put_at at s o) ≡ put_at at (s ++ t) o
  put_put t =
      let p : List ℕ = take at o ++ s in
      let d : List ℕ = drop (at + length s) o in
      let a : take (at + length s) (p ++ d) ≡ p = take_at p d (at + length s) front in
      let b : drop (at + length s + length t) (p ++ d) ≡ drop (length t) d = ap (λ n. drop (n + length t) (p ++ d)) (sym front) ∙ drop-append-add p d (length t) in
      let z : length (s ++ t) ≡ length s + length t = length-append s t in
      let w : at + length s + length t ≡ at + length (s ++ t) = omega arith in
      let e : drop (length t) d ≡ drop (at + length (s ++ t)) o = drop-drop (length t) (at + length s) o ∙ ap (λ n. drop n o) w in
      ap₂ (λ x y. (x ++ t) ++ y) a (b ∙ e) ∙ ap (λ x. x ++ drop (at + length (s ++ t)) o) (append_assoc (take at o) s t)

-- nothing, and one byte
pub put_none : (at : ℕ) (o : List ℕ) → o ≡ put_at at [] o
put_none at o = sym (take-append-drop at o) ∙ rw (append-nil, add-zero)

pub put_one : (at : ℕ) (o : List ℕ) (b : ℕ) → at < length o → set o at b ≡ put_at at (b ∷ []) o
put_one at o b l = set_split o at b l ∙ sym (append_snoc (take at o) b (drop (suc at) o)) ∙ rw (add-one at)

-- bytes, then bytes behind them
pub both : {s t : List ℕ} {at m r : ℕ} {o x y : List ℕ} → Put s at m o x → Put t m r x y → at + length (s ++ t) ≤ length o → Put (s ++ t) at r o y
both {s} {t} {at} {m} {r} {o} {x} {y} p q l =
    let n : length (s ++ t) ≡ length s + length t = length-append s t in
    record {
      behind = omega (arith, p.behind, q.behind);
      put = q.put ∙ ap₂ (λ i z. put_at i t z) p.behind p.put ∙ put_put at s o (omega arith) t;
    }

pub kept : {s : List ℕ} {at r : ℕ} {o x : List ℕ} → Put s at r o x → at + length s ≤ length o → length x ≡ length o
kept {s} {at} {r} {o} {x} p l = ap length p.put ∙ put_length at s o l
