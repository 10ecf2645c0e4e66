use Rattle.builder.proofs.Whole.{whole_given, whole_made}
use Rattle.builder.proofs.build.build.Goals as goal

pub part_rows-requires : goal.part_rows-requires
part_rows-requires c = whole_given c.requires

pub returns : goal.returns
returns c = λ g. whole_made g c.part_rows.result.used c.part_rows.result.read c.part_rows.new.out c.part_rows.ensures
