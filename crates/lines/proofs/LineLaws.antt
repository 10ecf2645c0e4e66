-- A line, by the steps that read it.
use mathlib.Core.Path.{◌≡◌, refl, ap, ◌∙◌, sym}
use mathlib.Core.List.{List}
use mathlib.Core.Option.{Option, some, none}
use mathlib.Core.Bool.{true, false}
use Prim.Native.Nat.{ℕ, suc, ◌+◌, ◌-◌, ◌<◌}
use native.Mathlib.Omega.{arith}
use lib.Dec.{ltb}
use lib.ListN.{length, drop, take}
use lib.Seq.{length-take-le}
use Rattle.signature.specs.Lists.{◌>>=◌, require, is_some}
use Rattle.signature.proofs.Tests.{ltb_yes, ltb_no, bind_some, some_inj, true≢false, le_of, require_some}
use Rattle.text.specs.Format.{after_key, number, list}
use Rattle.numbers.specs.Bytes.{bytes_before}
use Rattle.lines.specs.Lines.{first_line, number_line, list_line}
use Rattle.numbers.proofs.Spans.{before_most, behind_key, to_end}

-- the first line, where its newline was found
module _ (bs : List ℕ) (e : ℕ) (before : e ≡ bytes_before 10 bs) where
  pub no_newline : e ≡ length bs → first_line bs ≡ none
  unfolding first_line
  no_newline q = rw (ltb_no (bytes_before 10 bs) (length bs) (omega arith))

  pub newline : (e ≡ length bs → ⊥) → first_line bs ≡ some (take e bs)
  unfolding first_line
  newline q = rw (ltb_yes (bytes_before 10 bs) (length bs) (omega (arith, before_most 10 bs)), before)

-- what stands in a first line
pub line_was : (bs l : List ℕ) → first_line bs ≡ some l → (bytes_before 10 bs ≡ length l) × (length l < length bs) × (l ≡ take (bytes_before 10 bs) bs)
unfolding first_line
line_was bs l e =
    let (u, e₁, e₂) = bind_some (require (ltb (bytes_before 10 bs) (length bs))) _ l e in
    let h : bytes_before 10 bs < length bs = le_of (suc (bytes_before 10 bs)) (length bs) (require_some (ltb (bytes_before 10 bs) (length bs)) u e₁) in
    let w : take (bytes_before 10 bs) bs ≡ l = some_inj (take (bytes_before 10 bs) bs) l e₂ in
    let n : bytes_before 10 bs ≡ length l = sym (length-take-le (bytes_before 10 bs) bs (omega arith)) ∙ ap length w in
    (n, omega arith, sym w)

pub missing : {A : Type 0} (o : Option A) → is_some o ≡ false → o ≡ none
missing none e = refl
missing (some a) e = true≢false e

-- the steps of a line
module _ (key bs l : List ℕ) (e : ℕ) (line : first_line bs ≡ some l) where
  pub other_number : is_some (after_key key l) ≡ false → number_line key bs ≡ none
  unfolding number_line
  other_number q = rw (line, missing (after_key key l) q)

  pub other_list : is_some (after_key key l) ≡ false → list_line key bs ≡ none
  unfolding list_line
  other_list q = rw (line, missing (after_key key l) q)

  module _ (starts : is_some (after_key key l) ≡ true) where
    pub rest : after_key key l ≡ some (take (length l - length key) (drop (length key) l))
    rest = (behind_key key l starts).1 ∙ ap some (sym (to_end l (length key)))

    pub the_number : number_line key bs ≡ (number (take (length l - length key) (drop (length key) l)) >>= λ n. some (n, length l + 1))
    unfolding number_line
    the_number = rw (line, rest)

    pub the_list : list_line key bs ≡ (list (take (length l - length key) (drop (length key) l)) >>= λ ns. some (ns, length l + 1))
    unfolding list_line
    the_list = rw (line, rest)

-- without a first line
pub no_number_line : (key bs : List ℕ) → first_line bs ≡ none → number_line key bs ≡ none
unfolding number_line
no_number_line key bs e = rw e

pub no_list_line : (key bs : List ℕ) → first_line bs ≡ none → list_line key bs ≡ none
unfolding list_line
no_list_line key bs e = rw e
