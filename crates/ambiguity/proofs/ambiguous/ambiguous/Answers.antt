use Rattle.ambiguity.proofs.Plain.{is_plain}
use Rattle.ambiguity.proofs.Whole.{whole_told}
use Rattle.builder.proofs.Whole.{whole_given}
use Rattle.ambiguity.proofs.ambiguous.ambiguous.Goals as goal

pub returns-then-not-may_double : goal.returns-then-not-may_double
returns-then-not-may_double c = λ g. is_plain g c.may_double.result c.may_double.ensures c.if-not-may_double.true-raw

pub ambiguous_at-requires : goal.ambiguous_at-requires
ambiguous_at-requires c = whole_given c.requires

pub returns : goal.returns
returns c = λ g. whole_told g c.ambiguous_at.result c.ambiguous_at.ensures c.is_none.result c.is_none.ensures
