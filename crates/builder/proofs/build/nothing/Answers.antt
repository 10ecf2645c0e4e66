use Rattle.rowlist.proofs.Products.{no_list}
use Rattle.builder.proofs.build.nothing.Goals as goal

pub returns : goal.returns
returns c = no_list c.args.out.now c.requires
