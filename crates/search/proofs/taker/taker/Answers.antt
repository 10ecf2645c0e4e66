use Rattle.search.proofs.ChoiceFacts.{taker_at}
use Rattle.search.proofs.taker.taker.Goals as goal

pub returns-then-takes_it : goal.returns-then-takes_it
returns-then-takes_it c = λ g. taker_at g _ _ c.takes_it.result c.loop-r-test.true (c.takes_it.ensures g) c.if-takes_it.true
