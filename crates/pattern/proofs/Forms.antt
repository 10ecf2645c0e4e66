-- The form of each word.
use mathlib.Core.Path.{◌≡◌}
use Prim.Native.Nat.{ℕ, ◌<◌, ◌≤◌, ◌-◌, ◌+◌}
use native.Mathlib.Omega.{arith}
use Rattle.signature.proofs.Tests.{ltb_yes, ltb_no, eqb_no, leb_yes, leb_no}
use Rattle.pattern.specs.Limits.{variable_count, last_variable, range_word}
use Rattle.pattern.specs.Read.{form, is_head, is_and, is_or, is_wild, is_absurd, is_not, is_var, is_range, is_other}

pub form_head : (w : ℕ) → w < 256 → form w ≡ is_head w
form_head w h = rw (ltb_yes w 256 h)

pub form_and : (w : ℕ) → w ≡ 256 → form w ≡ is_and
form_and w e = rw e

pub form_or : (w : ℕ) → w ≡ 257 → form w ≡ is_or
form_or w e = rw e

pub form_wild : (w : ℕ) → w ≡ 258 → form w ≡ is_wild
form_wild w e = rw e

pub form_absurd : (w : ℕ) → w ≡ 259 → form w ≡ is_absurd
form_absurd w e = rw e

pub form_not : (w : ℕ) → w ≡ 260 → form w ≡ is_not
form_not w e = rw e

pub form_var : (w : ℕ) → 261 ≤ w → w ≤ (261 + last_variable) → form w ≡ is_var (w - 261)
form_var w a b = rw (ltb_no w 256 (omega arith), eqb_no w 256 (omega arith), eqb_no w 257 (omega arith), eqb_no w 258 (omega arith), eqb_no w 259 (omega arith), eqb_no w 260 (omega arith), leb_yes w (261 + last_variable) b)

pub form_range : (w : ℕ) → w ≡ range_word → form w ≡ is_range
form_range w e = rw e

pub form_other : (w : ℕ) → 261 + variable_count ≤ w → (w ≡ range_word → ⊥) → form w ≡ is_other
form_other w a b = rw (ltb_no w 256 (omega arith), eqb_no w 256 (omega arith), eqb_no w 257 (omega arith), eqb_no w 258 (omega arith), eqb_no w 259 (omega arith), eqb_no w 260 (omega arith), leb_no w (261 + last_variable) (omega arith), eqb_no w range_word b)
