use mathlib.Core.Path.{◌∙◌}
use Rattle.reading.proofs.Steps.{kind_zero, whole_told}
use Rattle.reading.proofs.read.well_formed.Goals as goal

pub read_one-requires : goal.read_one-requires
read_one-requires c = (c.requires, kind_zero c.args.t.now c.requires)

pub returns : goal.returns
returns c = λ g. c.eq.ensures ∙ whole_told c.args.t.now c.args.p.now g c.read_one.result c.if-p-gt-PATTERN_WORDS.false c.read_one.ensures
