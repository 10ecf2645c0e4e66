use native.Mathlib.Omega.{arith}
use borrow.Author.Rules.{rules}
use Rattle.nodes.proofs.LinkLaws.{no_link, link_low, link_far, link_on}
use Rattle.nodes.proofs.node.link.Goals as goal

pub returns-then-t-j : goal.returns-then-t-j
returns-then-t-j c = search (no_link, rules)

pub overflow_cast-to : goal.overflow_cast-to
overflow_cast-to c = omega (arith, c.shared_slice_known-1.given c.args.j)

pub returns-then-to-node : goal.returns-then-to-node
returns-then-to-node c = search (link_low, rules)

pub returns-then-t-d : goal.returns-then-t-d
returns-then-t-d c = search (link_far, rules)

pub returns : goal.returns
returns c = search (link_on, rules)
