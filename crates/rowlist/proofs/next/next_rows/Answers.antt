use Rattle.sets.specs.Heads.{number_of}
use lib.ListN.{length}
use Rattle.rowlist.proofs.OneMore.{at_plus, at_minus, made_plus, made_minus}
use Rattle.rowlist.proofs.next.next_rows.Goals as goal

pub next_plus-requires : goal.next_plus-requires
next_plus-requires c = at_plus c.args.lists.now c.args.at (length c.args.out.now) c.args.plus c.if-plus.true c.requires

pub returns-then-plus : goal.returns-then-plus
returns-then-plus c = made_plus c.args.lists.now c.args.at (length c.args.out.now) c.args.plus c.args.tag (number_of c.args.full) c.next_plus.result c.next_plus.new.out c.if-plus.true c.next_plus.ensures

pub next_minus-requires : goal.next_minus-requires
next_minus-requires c = at_minus c.args.lists.now c.args.at (length c.args.out.now) c.args.plus c.if-plus.false c.requires

pub returns : goal.returns
returns c = made_minus c.args.lists.now c.args.at (length c.args.out.now) c.args.plus c.args.tag (number_of c.args.full) c.next_minus.result c.next_minus.new.out c.if-plus.false c.next_minus.ensures
