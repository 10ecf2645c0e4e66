use mathlib.Core.Path.{refl, ap, ◌∙◌}
use lib.ListN.{length-replicate}
use Rattle.std.specs.Prelude.{Err}
use Rattle.opening.proofs.Opens.{loaded_sound, loaded_unsound, loaded_none}
use Rattle.gap.proofs.Calling.{unsound, in_table, told}
use Rattle.gap.proofs.gap_in.Goals as goal

pub load_in-requires : goal.load_in-requires
load_in-requires g c = (c.requires.0.load, c.requires.2)

pub show-requires : goal.show-requires
show-requires g c = (in_table c.requires.0 _ _ (loaded_sound _ c.requires.0.load.known.sig c.args.table.now c.load_in.result c.load_in.new.rows (c.load_in.ensures c.requires.0.load) _ c.in-Ok.is), c.requires.0.witness_long)

pub returns-in-Err-NoRoom : goal.returns-in-Err-NoRoom
returns-in-Err-NoRoom g c = λ k. (λ h. loaded_none _ k.load.known.sig c.args.table.now c.load_in.result c.load_in.new.rows (c.load_in.ensures k.load) (c.in-Err-NoRoom.is ∙ ap Err c.in-Err-NoRoom.field-0-is) (simp length-replicate h), refl)

pub returns-in-Err-Unsound : goal.returns-in-Err-Unsound
returns-in-Err-Unsound g c = λ k. (tt, unsound k (loaded_unsound _ k.load.known.sig c.args.table.now c.load_in.result c.load_in.new.rows (c.load_in.ensures k.load) (c.in-Err-Unsound.is ∙ ap Err c.in-Err-Unsound.field-0-is)))

pub returns-in-Ok : goal.returns-in-Ok
returns-in-Ok g c = λ k. (c.show.ensures.worded, told k _ _ (loaded_sound _ k.load.known.sig c.args.table.now c.load_in.result c.load_in.new.rows (c.load_in.ensures k.load) _ c.in-Ok.is) c.show.result c.show.new.witness c.show.ensures.shows)
