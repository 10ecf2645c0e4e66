use Rattle.rowset.proofs.MemberLaws.{put_in, put_out}
use Rattle.rowset.proofs.set.put.Goals as goal

pub returns-then-b : goal.returns-then-b
returns-then-b c = λ q l. put_in c.args.s.now c.args.r q c.args.b c.with.result c.requires.1 c.requires.0 c.if-b.true c.with.ensures

pub returns : goal.returns
returns c = λ q l. put_out c.args.s.now c.args.r q c.args.b c.without.result c.requires.1 c.requires.0 c.if-b.false c.without.ensures
