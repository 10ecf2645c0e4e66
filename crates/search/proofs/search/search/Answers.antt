use mathlib.Core.Path.{refl}
use native.Mathlib.Omega.{arith}
use Rattle.search.proofs.NodeFacts.{to_root, root_found}
use Rattle.search.proofs.search.search.Goals as goal

pub node-requires : goal.node-requires
node-requires c = to_root c.requires.0 _ _ _ _ _ c.first_rows-s.ensures refl (omega arith) (omega arith) c.requires.1

pub returns : goal.returns
returns c = λ g. root_found (c.node.ensures (to_root g _ _ _ _ _ c.first_rows-s.ensures refl (omega arith) (omega arith) c.requires.1))
