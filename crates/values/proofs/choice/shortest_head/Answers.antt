use mathlib.Core.Path.{◌∙◌, sym}
use native.Mathlib.Omega.{arith}
use Rattle.signature.proofs.Tests.{eqb_eq}
use Rattle.overlap.proofs.PlaceFacts.{kind_small}
use Rattle.values.proofs.Choosing.{near, least_allowed}
use Rattle.values.proofs.choice.shortest_head.Goals as goal

pub least_head_of-h-requires : goal.least_head_of-h-requires
least_head_of-h-requires c = let g = c.requires in (g.known.decoded.long, kind_small g)

pub first_of-f-requires : goal.first_of-f-requires
first_of-f-requires c = let g = c.requires in (g.known.decoded.long, kind_small g)

pub overflow_sub-h : goal.overflow_sub-h
overflow_sub-h c = omega (arith, (near c.requires c.first_of-f.result c.first_of-f.ensures c.least_head_of-h.result c.least_head_of-h.ensures).0)

pub has-requires : goal.has-requires
has-requires c = omega (arith, (near c.requires c.first_of-f.result c.first_of-f.ensures c.least_head_of-h.result c.least_head_of-h.ensures).1)

pub returns-then-has : goal.returns-then-has
returns-then-has c = λ g. least_allowed g c.first_of-f.result c.first_of-f.ensures c.least_head_of-h.result c.least_head_of-h.ensures (eqb_eq _ 1 (sym c.has.ensures ∙ c.if-has.true))

pub least_allowed-requires : goal.least_allowed-requires
least_allowed-requires c = c.requires

pub returns : goal.returns
returns c = λ g. c.least_allowed.ensures g
