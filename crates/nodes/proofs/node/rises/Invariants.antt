use Rattle.signature.specs.Limits.{last_level}
use Rattle.nodes.proofs.EndLaws.{Rest}
use Rattle.nodes.proofs.node.rises.Given as goal

abbrev pub invariant-loop-e : goal.invariant-loop-e
invariant-loop-e l = Rest last_level l.es l.e-index l.least
