use Rattle.signature.proofs.Booleans.{not_true, not_false}
use Rattle.admission.proofs.Steps.{malformed, patterned, readable, wrong_range, not_linear, too_heavy, whole_given, is_ambiguous, passes}
use Rattle.admission.proofs.admit.admit.Goals as goal

pub well_formed-requires : goal.well_formed-requires
well_formed-requires c = c.requires.known

pub returns-then-not-well_formed : goal.returns-then-not-well_formed
returns-then-not-well_formed c = λ g. malformed g _ c.well_formed-2.ensures (not_true _ c.if-not-well_formed.true-raw)

pub ranged-requires : goal.ranged-requires
ranged-requires c = readable c.requires _ c.well_formed-2.ensures (not_false _ c.if-not-well_formed.false-raw)

pub returns-then-not-ranged : goal.returns-then-not-ranged
returns-then-not-ranged c = λ g. wrong_range g _ c.well_formed-2.ensures (not_false _ c.if-not-well_formed.false-raw) _ c.ranged.ensures (not_true _ c.if-not-ranged.true-raw)

pub linear-requires : goal.linear-requires
linear-requires c = patterned c.requires _ c.well_formed-2.ensures (not_false _ c.if-not-well_formed.false-raw)

pub returns-then-not-linear : goal.returns-then-not-linear
returns-then-not-linear c = λ g. not_linear g _ c.well_formed-2.ensures (not_false _ c.if-not-well_formed.false-raw) _ c.ranged.ensures (not_false _ c.if-not-ranged.false-raw) _ c.linear.ensures (not_true _ c.if-not-linear.true-raw)

pub weigh-requires : goal.weigh-requires
weigh-requires c = patterned c.requires _ c.well_formed-2.ensures (not_false _ c.if-not-well_formed.false-raw)

pub returns-in_default : goal.returns-in_default
returns-in_default c = λ g. too_heavy g _ c.well_formed-2.ensures (not_false _ c.if-not-well_formed.false-raw) _ c.ranged.ensures (not_false _ c.if-not-ranged.false-raw) _ c.linear.ensures (not_false _ c.if-not-linear.false-raw) _ c.weigh.ensures c.in_default.is

pub ambiguous-requires : goal.ambiguous-requires
ambiguous-requires c = whole_given c.requires _ c.well_formed-2.ensures (not_false _ c.if-not-well_formed.false-raw) _ c.ranged.ensures (not_false _ c.if-not-ranged.false-raw) _ c.linear.ensures (not_false _ c.if-not-linear.false-raw) _ c.weigh.ensures c.in-Some.weight c.in-Some.is

pub returns-then-ambiguous : goal.returns-then-ambiguous
returns-then-ambiguous c = λ g. is_ambiguous g _ c.well_formed-2.ensures (not_false _ c.if-not-well_formed.false-raw) _ c.ranged.ensures (not_false _ c.if-not-ranged.false-raw) _ c.linear.ensures (not_false _ c.if-not-linear.false-raw) _ c.weigh.ensures c.in-Some.weight c.in-Some.is _ c.ambiguous.ensures c.if-ambiguous.true

pub returns : goal.returns
returns c = λ g. passes g _ c.well_formed-2.ensures (not_false _ c.if-not-well_formed.false-raw) _ c.ranged.ensures (not_false _ c.if-not-ranged.false-raw) _ c.linear.ensures (not_false _ c.if-not-linear.false-raw) _ c.weigh.ensures c.in-Some.weight c.in-Some.is _ c.ambiguous.ensures c.if-ambiguous.false
