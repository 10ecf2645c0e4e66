-- Joined parts and the gate of a set.
use borrow.Author.Tests.{ne_eqb}
use mathlib.Core.Path.{◌≡◌, refl, ap}
use mathlib.Core.List.{List, append_assoc}
use mathlib.Core.Option.{Option, some, none}
use Prim.Native.Nat.{ℕ, ◌<◌}
use native.Mathlib.Omega.{arith}
use Rattle.cell.specs.Cell.{cell_code}
use Rattle.cell.proofs.CellFacts.{then, gate}

pub then_assoc : (a b c : Option (List ℕ)) → then (then a b) c ≡ then a (then b c)
then_assoc none b c = refl
then_assoc (some t) none c = refl
then_assoc (some t) (some u) none = refl
then_assoc (some t) (some u) (some w) = ap {B = Option (List ℕ)} some (append_assoc t u w)

pub gate_some : (m : ℕ) (o : Option (List ℕ)) → ¬ (m ≡ 0) → gate m o ≡ o
gate_some m o h = rw (ne_eqb m 0 h)

pub same_cell : {a b c d e f : ℕ} → a ≡ d → b ≡ e → c ≡ f → cell_code a b c ≡ cell_code d e f
same_cell p q r = cc

pub pos_zero : (m : ℕ) → 0 < m → m ≡ 0 → ⊥
pos_zero m h e = omega arith
