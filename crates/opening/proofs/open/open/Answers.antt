use Rattle.opening.proofs.Opens.{refused_early, load_given, refused_3, opened}
use mathlib.Core.Path.{refl}
use Rattle.opening.proofs.open.open.Goals as goal

pub returns-then-not-is_sound : goal.returns-then-not-is_sound
returns-then-not-is_sound c = refused_3 c.args.ss.now c.args.table.now _ _ c.in_ok-begin.ensures refl _ c.is_sound.ensures c.if-not-is_sound.true

pub returns : goal.returns
returns c = opened c.args.ss.now c.args.table.now _ _ c.in_ok-begin.ensures refl _ c.is_sound.ensures c.if-not-is_sound.false
