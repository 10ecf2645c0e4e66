-- What a copy word by word keeps, as equations of lists.
use mathlib.Core.Path.{◌≡◌, sym, ap, ap₂, ◌∙◌}
use mathlib.Core.List.{List, [], ◌∷◌, ◌++◌, append_assoc, append-nil}
use Prim.Native.Nat.{ℕ, suc, ◌+◌, ◌≤◌, ◌<◌}
use native.Mathlib.Numerals.{add-one}
use native.Mathlib.Omega.{arith}
use lib.ListN.{length, get_or, drop, take, set}
use lib.Seq.{take_all, set_at, take-suc, drop-cons, length-take-le, drop-length}

pub copy_more : (t t₀ src : List ℕ) (i : ℕ) → length t₀ ≡ length src → i < length src → t ≡ take i src ++ drop i t₀ → set t i (get_or src i 0) ≡ take (i + 1) src ++ drop (i + 1) t₀
copy_more t t₀ src i l h e =
    rw (e, add-one, drop-cons t₀ i 0 (omega arith), take-suc src i 0 h, set_at (take i src) (get_or t₀ i 0) (drop (suc i) t₀) (get_or src i 0) i (length-take-le i src (omega arith)))
    (sym (append_assoc (take i src) (get_or src i 0 ∷ []) (drop (suc i) t₀)))

pub copy_all : (t t₀ src : List ℕ) (i : ℕ) → length t₀ ≡ length src → length src ≤ i → i ≤ length src → t ≡ take i src ++ drop i t₀ → t ≡ src
copy_all t t₀ src i l h g e =
    let m : i ≡ length src = omega arith in
    e ∙ ap₂ (λ (a b : List ℕ). a ++ b) (take_all i src h) (ap (λ (n : ℕ). drop n t₀) (m ∙ sym l) ∙ drop-length t₀) ∙ append-nil src
