use native.Mathlib.Omega.{arith}
use Rattle.sets.specs.Heads.{number_of}
use Rattle.builder.proofs.Whole.{part_known, part_given, part_made}
use Rattle.builder.proofs.build.part_rows.Goals as goal

pub full_of-full-requires : goal.full_of-full-requires
full_of-full-requires c = part_known c.requires

pub overflow_add-tag : goal.overflow_add-tag
overflow_add-tag c = omega (arith, (part_known c.requires).1)

pub rows-requires : goal.rows-requires
rows-requires c = part_given c.requires (number_of c.full_of-full.result) c.full_of-full.ensures

pub returns : goal.returns
returns c = λ g. part_made g (number_of c.full_of-full.result) c.full_of-full.ensures c.rows.result.used c.rows.result.read c.rows.new.out c.rows.ensures
