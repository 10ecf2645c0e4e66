use mathlib.Core.Path.{◌∙◌}
use native.Mathlib.Omega.{arith}
use Rattle.signature.proofs.KnownFacts.{long}
use Rattle.column.proofs.ColumnLaws.{seen_free, seen_named}
use Rattle.column.proofs.cell_kind.Goals as goal

pub kind_of-requires : goal.kind_of-requires
kind_of-requires c = (long c.requires.known, c.if-tag-lt-KIND_TAG.true)

pub returns-then-tag-lt-KIND_TAG : goal.returns-then-tag-lt-KIND_TAG
returns-then-tag-lt-KIND_TAG c = λ g. c.kind_of.ensures ∙ seen_named g c.if-tag-lt-KIND_TAG.true

pub returns : goal.returns
returns c = λ g. omega (arith, seen_free g c.if-tag-lt-KIND_TAG.false)
