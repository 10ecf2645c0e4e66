use native.Mathlib.Omega.{arith}
use Rattle.search.proofs.OpenFacts.{few_counted, opened}
use Rattle.search.proofs.cube.open_row.Goals as goal

pub full-allowed-requires : goal.full-allowed-requires
full-allowed-requires c = omega (arith, c.count_of.ensures, few_counted c.requires.0)

pub returns : goal.returns
returns c = λ g. rw c.put.ensures (opened g c.args.q.now _ _ c.requires.1 c.count_of.ensures c.full-allowed.ensures)
