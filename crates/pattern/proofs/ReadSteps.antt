-- What each step over the words of a pattern uses: a word that is a constructor's, and the words from an index on.
use mathlib.Core.Path.{◌≡◌, sym, subst}
use mathlib.Core.List.{List}
use Prim.Native.Nat.{ℕ, ◌-◌}
use native.Mathlib.Omega.{arith}
use lib.ListN.{length, drop, take, length-drop}
use lib.Seq.{take_all}
use Rattle.pattern.specs.Read.{Form, form}
use Rattle.pattern.specs.Word.{head_small, var_small}
use Rattle.pattern.proofs.PatternBack.{Formed, formed, formed_head, formed_and, formed_or, formed_wild, formed_absurd, formed_not, formed_var, formed_range, formed_other}

small_of : (w : ℕ) (f : Form) → Formed w f → head_small f
small_of w f (formed_head l) = l
small_of w f (formed_and e) = tt
small_of w f (formed_or e) = tt
small_of w f (formed_wild e) = tt
small_of w f (formed_absurd e) = tt
small_of w f (formed_not e) = tt
small_of w f (formed_var x e l) = tt
small_of w f (formed_range e) = tt
small_of w f formed_other = tt

-- the form of a word names a constructor that a table has a row for
pub small : (w : ℕ) (f : Form) → f ≡ form w → head_small f
small w f e = subst head_small (sym e) (small_of w (form w) (formed w))

-- and of a variable, one of the 16
variable_of : (w : ℕ) (f : Form) → Formed w f → var_small f
variable_of w f (formed_head l) = tt
variable_of w f (formed_and e) = tt
variable_of w f (formed_or e) = tt
variable_of w f (formed_wild e) = tt
variable_of w f (formed_absurd e) = tt
variable_of w f (formed_not e) = tt
variable_of w f (formed_var x e l) = l
variable_of w f (formed_range e) = tt
variable_of w f formed_other = tt

pub variable_small : (w : ℕ) (f : Form) → f ≡ form w → var_small f
variable_small w f e = subst var_small (sym e) (variable_of w (form w) (formed w))

abbrev pub part : List ℕ → ℕ → List ℕ
part w n = take (length w - n) (drop n w)

pub to_end : (w : List ℕ) (i : ℕ) → part w i ≡ drop i w
to_end w i = take_all (length w - i) (drop i w) (simp length-drop (omega arith))
