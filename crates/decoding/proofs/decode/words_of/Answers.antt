use Rattle.decoding.proofs.Sizes.{words_more}
use Rattle.decoding.proofs.decode.words_of.Goals as goal

pub loop-j-preserved : goal.loop-j-preserved
loop-j-preserved c = words_more _ _ _ _ _ _ _ _ c.loop-j-test.true c.requires.2 c.requires.3 c.argument_of.ensures c.wide-k.ensures c.loop-j.invariant
