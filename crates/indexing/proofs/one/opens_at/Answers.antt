use mathlib.Core.Path.{ap, ◌∙◌}
use Rattle.cell.specs.Cursor.{opens_of}
use Rattle.indexing.proofs.one.opens_at.Goals as goal

pub returns : goal.returns
returns c = c.opens.ensures ∙ ap (λ x. opens_of c.args.t.now x.tag) c.cell_at-c.ensures
