use mathlib.Core.Path.{refl, ap, ◌∙◌}
use lib.ListN.{length-replicate}
use Rattle.std.specs.Prelude.{Err}
use Rattle.opening.proofs.Opens.{loaded_sound, loaded_unsound, loaded_none}
use Rattle.compiling.proofs.Calling.{unsound, in_table, answered}
use Rattle.compiling.proofs.compile.compile_in.Goals as goal

pub write_tree-requires : goal.write_tree-requires
write_tree-requires g c = in_table c.requires.0 c.args.space.now _ _ (loaded_sound _ c.requires.0.known.sig c.args.table.now c.load_in.result c.load_in.new.rows (c.load_in.ensures c.requires.0) _ c.in-Ok.is)

pub returns-in-Err-NoRoom : goal.returns-in-Err-NoRoom
returns-in-Err-NoRoom g c = λ k. (λ h. loaded_none _ k.known.sig c.args.table.now c.load_in.result c.load_in.new.rows (c.load_in.ensures k) (c.in-Err-NoRoom.is ∙ ap Err c.in-Err-NoRoom.field-0-is) (simp length-replicate h), refl)

pub returns-in-Err-Unsound : goal.returns-in-Err-Unsound
returns-in-Err-Unsound g c = λ k. unsound k c.args.space.now (loaded_unsound _ k.known.sig c.args.table.now c.load_in.result c.load_in.new.rows (c.load_in.ensures k) (c.in-Err-Unsound.is ∙ ap Err c.in-Err-Unsound.field-0-is))

pub returns-in-Ok : goal.returns-in-Ok
returns-in-Ok g c = λ k. answered k c.args.space.now _ _ (loaded_sound _ k.known.sig c.args.table.now c.load_in.result c.load_in.new.rows (c.load_in.ensures k) _ c.in-Ok.is) _ _ _ c.write_tree.ensures
