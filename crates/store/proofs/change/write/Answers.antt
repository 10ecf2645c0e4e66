use mathlib.Core.Path.{refl}
use lib.ListN.{length}
use Rattle.store.proofs.ChangeFacts.{written}
use Rattle.store.proofs.change.write.Goals as goal

pub returns : goal.returns
returns c = written c.args.words.now c.args.pattern.now c.copy.new.dst c.args.number c.args.plan (length c.args.pattern.now) c.requires.0 refl c.copy.ensures
