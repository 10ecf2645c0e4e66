use mathlib.Core.Path.{ap, ◌∙◌}
use lib.ListN.{length-replicate}
use Rattle.std.specs.Prelude.{Err}
use Rattle.opening.proofs.Opens.{told_sound, told_unsound, loaded_none}
use Rattle.opening.proofs.open.is_sound_in.Goals as goal

pub returns-in-Ok : goal.returns-in-Ok
returns-in-Ok g c = λ k. told_sound _ k.known.sig c.args.table.now c.load_in.result c.load_in.new.rows (c.load_in.ensures k) _ c.in-Ok.is

pub returns-in-Err-Unsound : goal.returns-in-Err-Unsound
returns-in-Err-Unsound g c = λ k. told_unsound _ k.known.sig c.args.table.now c.load_in.result c.load_in.new.rows (c.load_in.ensures k) (c.in-Err-Unsound.is ∙ ap Err c.in-Err-Unsound.field-0-is)

pub returns-in-Err-NoRoom : goal.returns-in-Err-NoRoom
returns-in-Err-NoRoom g c = λ k h. loaded_none _ k.known.sig c.args.table.now c.load_in.result c.load_in.new.rows (c.load_in.ensures k) (c.in-Err-NoRoom.is ∙ ap Err c.in-Err-NoRoom.field-0-is) (simp length-replicate h)
