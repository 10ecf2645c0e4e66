use native.Mathlib.Omega.{arith}
use Rattle.std.specs.Prelude.{Some, None}
use Rattle.compiling.proofs.Treed.{given_rules, many, given_rows, written_small, unwritten, written_large}
use Rattle.compiling.proofs.rules.write_rules.Goals as goal

pub index_rules-n-requires : goal.index_rules-n-requires
index_rules-n-requires c = given_rules c.requires.0 _ c.requires.1

pub write_in-requires : goal.write_in-requires
write_in-requires c = (given_rows c.requires.0 _ c.requires.1 _ _ c.index_rules-n.ensures, omega (arith, c.requires.1, c.index_rules-n.auto.rows), omega (arith, many c.requires.0 _ c.requires.1 _ _ c.index_rules-n.ensures, c.requires.2), omega (arith, many c.requires.0 _ c.requires.1 _ _ c.index_rules-n.ensures, c.requires.3), omega arith)

pub returns-in-Some : goal.returns-in-Some
returns-in-Some c = λ g. written_small g _ c.requires.1 _ _ c.index_rules-n.ensures _ _ _ c.write_in.ensures.tree_written _ c.in-Some.is

pub write_in-requires-2 : goal.write_in-requires-2
write_in-requires-2 c = (given_rows c.requires.0 _ c.requires.1 _ _ c.index_rules-n.ensures, omega (arith, c.requires.1, c.index_rules-n.auto.rows), omega (arith, many c.requires.0 _ c.requires.1 _ _ c.index_rules-n.ensures, c.requires.2, c.write_in.ensures.cur_len_unchanged.0), omega (arith, many c.requires.0 _ c.requires.1 _ _ c.index_rules-n.ensures, c.requires.3, c.write_in.ensures.cur_len_unchanged.1), omega arith)

pub returns-in-Some-write_in : goal.returns-in-Some-write_in
returns-in-Some-write_in c = λ g. written_large g _ c.requires.1 _ _ c.index_rules-n.ensures _ _ _ _ (unwritten g _ c.requires.1 _ _ c.index_rules-n.ensures _ _ _ c.write_in.ensures.tree_written c.in_default.is) c.write_in-2.ensures.tree_written (Some _) c.in-Some-write_in.is

pub returns-in-None : goal.returns-in-None
returns-in-None c = λ g. written_large g _ c.requires.1 _ _ c.index_rules-n.ensures _ _ _ _ (unwritten g _ c.requires.1 _ _ c.index_rules-n.ensures _ _ _ c.write_in.ensures.tree_written c.in_default.is) c.write_in-2.ensures.tree_written None c.in-None.is
