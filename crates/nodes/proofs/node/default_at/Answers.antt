use Rattle.nodes.proofs.NodeLaws.{default_cut, default_whole}
use Rattle.nodes.proofs.node.default_at.Goals as goal

pub returns-then-t-lt-DEFAULT_WORDS : goal.returns-then-t-lt-DEFAULT_WORDS
returns-then-t-lt-DEFAULT_WORDS c = default_cut c.args.t.now c.if-t-lt-DEFAULT_WORDS.true

pub returns : goal.returns
returns c = default_whole c.args.t.now c.if-t-lt-DEFAULT_WORDS.false
