use Rattle.withdrawing.proofs.Facts.{zero_4, over_4, not_held_6, take_given, taken_0}
use Rattle.withdrawing.proofs.withdraw_from.Goals as goal

pub returns-then-number-eq0 : goal.returns-then-number-eq0
returns-then-number-eq0 c = λ g. zero_4 g c.args.number c.if-number-eq0.true

pub returns-then-number-gt-LAST_NUMBER : goal.returns-then-number-gt-LAST_NUMBER
returns-then-number-gt-LAST_NUMBER c = λ g. over_4 g c.args.number c.if-number-gt-LAST_NUMBER.true

pub returns-in_default : goal.returns-in_default
returns-in_default c = λ g. not_held_6 g c.args.number c.if-number-eq0.false c.if-number-gt-LAST_NUMBER.false _ c.find.ensures c.in_default.not-Ok

pub take_out-requires : goal.take_out-requires
take_out-requires c = take_given c.requires c.args.number c.if-number-eq0.false c.if-number-gt-LAST_NUMBER.false _ c.find.ensures c.in-Ok.at c.in-Ok.is

pub returns : goal.returns
returns c = λ g. taken_0 g c.args.number c.if-number-eq0.false c.if-number-gt-LAST_NUMBER.false _ c.find.ensures c.in-Ok.at c.in-Ok.is c.take_out.new.table c.take_out.ensures
