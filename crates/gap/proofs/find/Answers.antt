use native.Mathlib.Omega.{arith}
use Rattle.compiling.proofs.Treed.{given_rules}
use Rattle.gap.proofs.Showing.{given_table, searched}
use Rattle.gap.proofs.find.Goals as goal

pub index_rules-n-requires : goal.index_rules-n-requires
index_rules-n-requires c = given_rules c.requires.0 _ c.requires.1

pub search-requires : goal.search-requires
search-requires c = (given_table c.requires.0 _ c.requires.1 _ _ c.index_rules-n.ensures (omega (arith, c.requires.1, c.index_rules-n.auto)), c.requires.2)

pub returns : goal.returns
returns c = λ g. searched g _ c.requires.1 _ _ c.index_rules-n.ensures (omega (arith, c.requires.1, c.index_rules-n.auto)) _ _ c.search.ensures
