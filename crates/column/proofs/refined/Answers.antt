use native.Mathlib.Omega.{arith}
use Rattle.signature.proofs.KnownFacts.{long}
use Rattle.column.proofs.ColumnLaws.{refined_named, refined_free, seen_free, kind_small}
use Rattle.column.proofs.refined.Goals as goal

pub returns-then-tag-lt-KIND_TAG : goal.returns-then-tag-lt-KIND_TAG
returns-then-tag-lt-KIND_TAG c = λ g. refined_named g _ c.if-tag-lt-KIND_TAG.true

pub count_of-requires : goal.count_of-requires
count_of-requires c = (long c.requires.known, omega (arith, seen_free c.requires (omega (arith, c.if-tag-lt-KIND_TAG.false)), kind_small c.requires))

pub returns : goal.returns
returns c = λ g. refined_free g _ _ _ (omega (arith, c.if-tag-lt-KIND_TAG.false)) c.size.ensures.0 c.count_of.ensures
