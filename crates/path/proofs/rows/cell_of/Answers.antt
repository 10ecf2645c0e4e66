use mathlib.Core.Path.{◌∙◌, ap}
use Prim.Native.Nat.{ℕ, ◌+◌, ◌*◌}
use Rattle.cell.specs.Cursor.{cell_at}
use Rattle.path.proofs.rows.cell_of.Goals as goal

pub returns : goal.returns
returns c = c.cell_at.ensures ∙ ap (λ (x : ℕ). cell_at c.args.a.now (x + 3 * c.args.q)) c.start_of.ensures
