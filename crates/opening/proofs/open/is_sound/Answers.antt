use Rattle.opening.proofs.Opens.{sound_so, always}
use Rattle.opening.proofs.open.is_sound.Goals as goal

pub returns-in-Some : goal.returns-in-Some
returns-in-Some c = λ g. sound_so g.known.sig c.args.table.now _ _ _ (c.is_sound_in.ensures g) _ c.in-Some.is

pub unwrap-requires : goal.unwrap-requires
unwrap-requires c = always c.requires.known.sig c.args.table.now _ (c.is_sound_in-2.ensures c.requires)

pub returns : goal.returns
returns c = λ g. sound_so g.known.sig c.args.table.now _ _ _ (c.is_sound_in-2.ensures g) _ c.unwrap.ensures
